-- That a plan was carried out.
use Rattle.std.specs.Prelude.{◌≡◌, ℕ, Option, Some}
use Rattle.segments.specs.Queues.{Queues, queue_holding}
pub use Rattle.replacement.specs.declared.record.Effect.{Effect}
use Rattle.replacement.specs.Plan.{Queue, Item, Plan, hit_plan}
use Rattle.replacement.specs.PlanMoves.{Moves, Replaced, queues_after, sent_by, moves_of}

-- the plan led from the one to the other queues, and the effect is its record and outcome
pub record IsEffect (p : Plan) (before after : Queues) (e : Effect) : Type 0 where
  pub lists : after ≡ queues_after p before
  pub moves : e.moves ≡ moves_of p before
  pub outcome : e.outcome ≡ p.outcome

-- the same of a plan that moves nothing first, after a new item came to a queue, or none
pub record IsReplacement (came : Option Queue) (p : Plan) (before after : Queues) (e : Effect) : Type 0 where
  pub lists : after ≡ queues_after p before
  pub moves : e.moves ≡ Replaced came (sent_by p.last) p.leaves
  pub outcome : e.outcome ≡ p.outcome

-- the item was there, and went to a recent end
pub record IsHit (size : ℕ) (i : Item) (before after : Queues) (m : Moves) : Type 0 where
  pub queue : Queue
  pub place : queue_holding i before ≡ Some queue
  pub lists : after ≡ queues_after (hit_plan size i queue before) before
  pub moves : m ≡ moves_of (hit_plan size i queue before) before
