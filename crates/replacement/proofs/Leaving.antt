-- Which item the record of an access moves out.
use Rattle.std.proofs.lemmas.Bool.Decides.{nat_tests}
use Rattle.std.proofs.Common.{arith, ◌≡◌, ℕ, Bool, true, false, nat_lt, Option, Some, None, option_map, length, refl, ap, sym, ◌∙◌}
use Rattle.std.proofs.lemmas.Bool.{cond_both}
use Rattle.engine_base.specs.declared.outcome.Outcome.TheVariants.{Hit}
use Rattle.engine_base.specs.Stats.{is_eviction, is_hit}
use Rattle.segments.specs.Items.{Item, oldest_of}
use Rattle.segments.specs.Queues.{Queues, queue_holding, IsDistinct}
use Rattle.replacement.specs.Table.{Rules, Placement, Queue, Response, kept_in, trial_of, eviction, miss_by, access_in, access}
use Rattle.replacement.specs.Plan.{Plan, miss_plan_by, plan_in, plan}
use Rattle.replacement.specs.PlanMoves.{moves_of, leaver_in, Moves}
use Rattle.replacement.proofs.Planned.{plan-at, access-at, accesses_planned}
use Rattle.replacement.specs.declared.rules.Placement.TheVariants.{Direct, Windowed}
use Rattle.replacement.specs.Effects.{IsEffect, IsHit}

-- ---- no miss is a hit, and an item leaves only by an eviction

abbrev Evicts : Response → Type 0
Evicts w = (w.left ≡ None → ⊥) → is_eviction w.outcome ≡ true

abbrev IsMissed : Response → Type 0
IsMissed w = (is_hit w.outcome ≡ false) × Evicts w

kept-missed : (s : Queues) → IsMissed (kept_in s)
kept-missed s = (refl, λ h. absurd (h refl))

trial-missed : (r : Rules) (a : ℕ → ℕ → Bool) (c : Option Item) (s : Queues) → IsMissed (trial_of r a c s)
trial-missed r a v s = grind (arith, nat_tests, kept-missed, cond_both)

eviction-missed : (r : Rules) (a : ℕ → ℕ → Bool) (s : Queues) → IsMissed (eviction r a s)
eviction-missed r a s = cond_both (nat_lt r.window (length s.window)) _ _ IsMissed (λ e. trial-missed r a (oldest_of s.window) s) (λ e. kept-missed s)

miss-missed : (p : Placement) (r : Rules) (a : ℕ → ℕ → Bool) (i : Item) (s : Queues) → IsMissed (miss_by p r a i s)
miss-missed v r a i s = grind (arith, nat_tests, cond_both, kept-missed, eviction-missed)

-- ---- a hit

pub hit-keeps : (r : Rules) (a : ℕ → ℕ → Bool) (i : Item) (s : Queues) (p : Option Queue) → queue_holding i s ≡ p
    → (access r a i s).outcome ≡ Hit → leaver_in (moves_of (plan r a i s) s) ≡ None
hit-keeps r a i s (Some q) h o = rw (plan-at r a i s (Some q) h) refl
hit-keeps r a i s None h o = grind (arith, nat_tests, access-at r a i s None h, miss-missed r.placement r a i s)

-- ---- any access

-- of a plan that moves nothing first
pub leaver-of : (p : Plan) (s : Queues) → p.first ≡ None → leaver_in (moves_of p s) ≡ p.leaves
leaver-of p s h = rw h refl

leaver-planned : (r : Rules) (a : ℕ → ℕ → Bool) (i : Item) (s : Queues) → leaver_in (moves_of (plan r a i s) s) ≡ (plan r a i s).leaves
leaver-planned r a i s = rw (plan-at r a i s (queue_holding i s) refl) (by (queue_holding i s))
  where
    missed : (p : Placement) → leaver_in (moves_of (miss_plan_by p r a i s) s) ≡ (miss_plan_by p r a i s).leaves
    missed (Direct q) = grind (arith, nat_tests)
    missed Windowed = refl

    by : (p : Option Queue) → leaver_in (moves_of (plan_in r a i p s) s) ≡ (plan_in r a i p s).leaves
    by None = missed r.placement
    by (Some q) = refl

-- the item that the record moves out is the one that left
pub leaver-shown : (r : Rules) (a : ℕ → ℕ → Bool) (i : Item) (s : Queues) → IsDistinct s
    → option_map (λ l. l.item) (leaver_in (moves_of (plan r a i s) s)) ≡ (access r a i s).left
leaver-shown r a i s u =
    ap (option_map (λ l. l.item)) (leaver-planned r a i s) ∙ ap (λ (w : Response). w.left) (sym (accesses_planned r a i s u))

pub access-evicts : (r : Rules) (a : ℕ → ℕ → Bool) (i : Item) (s : Queues) → Evicts (access r a i s)
unfolding access
access-evicts r a i s = by (queue_holding i s)
  where
    by : (p : Option Queue) → Evicts (access_in r a i p s)
    by (Some q) = λ h. absurd (h refl)
    by None = (miss-missed r.placement r a i s).1

-- a record that asks for memory is of an access by which an item left
pub asks-evicts : (r : Rules) (a : ℕ → ℕ → Bool) (i : Item) (s : Queues) → IsDistinct s → (leaver_in (moves_of (plan r a i s) s) ≡ None → ⊥)
    → is_eviction (access r a i s).outcome ≡ true
asks-evicts r a i s u asks = grind (arith, nat_tests, access-evicts, leaver-shown r a i s u)

-- ---- what a hit leaves is what the plan of an access says

pub hit-effect : (r : Rules) (a : ℕ → ℕ → Bool) (i : Item) (s t : Queues) (m : Moves) → IsHit r.protected i s t m
    → IsEffect (plan r a i s) s t record { outcome = Hit; moves = m }
hit-effect r a i s t m h = grind (arith, nat_tests, plan-at r a i s (Some h.queue) h.place)
