-- The climber: undone from its record, and its invariant.
use Rattle.std.proofs.Common.{◌≡◌, ℕ, ◌<◌, ◌≤◌, Bool, false, eqb, arith}
use Rattle.std.proofs.lemmas.Bool.Decides.{nat_tests}
use Rattle.std.proofs.Math.Nat.{mul-le-mul_left, max-le, min-le_left, le-min, le-max_left}
use Rattle.engine_base.specs.Stats.{one_if}
use Rattle.queue_cache.specs.Climber.{Climber, ClimbRules, AreClimbRules, next_step, moved_target, climber_after, period_record, climber_before, IsClimber}
use Rattle.queue_cache.specs.AdaptiveTheorems.{RulesFit}

pub climbed-back : (r : ClimbRules) (hit : Bool) (s : Climber) → climber_before (period_record r s) hit (climber_after r hit s) ≡ s
climbed-back r hit s = grind (arith, nat_tests)

-- ---- its invariant

target-moved : (most : ℕ) (grows : Bool) (move target : ℕ) → 1 ≤ most → 1 ≤ target → target ≤ most → (1 ≤ moved_target most grows move target) × (moved_target most grows move target ≤ most)
target-moved most v move target some low high = grind (arith, nat_tests, le-min, min-le_left, le-max_left, max-le)

one-most : (b : Bool) → one_if b ≤ 1
one-most v = grind (arith, nat_tests)

step-kept : (r : ClimbRules) (s : Climber) → s.step ≤ r.step → next_step r s ≤ r.step
step-kept r s h = grind (arith, nat_tests)

pub climber-kept : (r : ClimbRules) (hit : Bool) (s : Climber) → AreClimbRules r → IsClimber r s → IsClimber r (climber_after r hit s)
climber-kept r hit s are h =
    let some = are.some in
    let long = are.long in
    let fits = are.fits in
    let a = h.accesses in
    let b = h.hits in
    let one = one-most hit in
    grind (arith, nat_tests, step-kept, target-moved, before-end)
  where
    before-end : (n m : ℕ) → n ≤ m → eqb n m ≡ false → n < m
    before-end n m few apart =
        grind (arith, nat_tests)

pub rules_fit : RulesFit
rules_fit c main period some few = grind (arith, nat_tests, mul-le-mul_left c few)
