-- What the calls owe by which a key leaves, and by which another one joins.
use Rattle.std.specs.Prelude.{◌≡◌, ℕ, ◌≤◌, Option}
use Rattle.queue_table.specs.Queues.{Item, Queues}
use Rattle.queue_table.specs.Moves.{Leaving, after_leaving, Own}
use Rattle.queue_table.specs.declared.moves.KeyMove.{KeyMove}
use Rattle.queue_table.specs.declared.moves.Left.{Left}
use Rattle.queue_table.specs.Undoing.{outs, IsRun, IsLeft, IsOwn}
use Rattle.policy_pages.specs.declared.car.Replaced.{Replaced}
use Rattle.policy_pages.specs.CarPlan.{promotions, after_promotions, giver, giver_turns, after_giver_turns, leaver}

-- It took the queues from s to u, and these are the records of its parts.
pub record IsReplaced (c p : ℕ) (s u : Queues) (r : Replaced) : Type 0 where
  pub early : r.early ≡ promotions p s
  pub late : r.late ≡ giver_turns c (giver p (after_promotions p s)) (after_promotions p s)
  pub made_early : IsRun r.early s (after_promotions p s)
  pub made_late : IsRun r.late (after_promotions p s)
      (after_giver_turns c (giver p (after_promotions p s)) (after_promotions p s))
  pub left : IsLeft (leaver (giver p (after_promotions p s)))
      (after_giver_turns c (giver p (after_promotions p s)) (after_promotions p s)) u r.first
  pub stays : outs r.first.by ≡ 0

-- a key left, or none, and then the item moved
pub record IsJoined (l : Option Leaving) (o : Own) (i : Item) (s u : Queues) (gone : Left) (move : KeyMove)
    : Type 0 where
  pub left : IsLeft l s (after_leaving l s) gone
  pub few : outs gone.by ≤ 1
  pub own : IsOwn o i (after_leaving l s) u move
