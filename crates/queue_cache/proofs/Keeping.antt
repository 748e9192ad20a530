-- What an access makes of the queues, and that it keeps the invariant.
use Rattle.std.proofs.Common.{◌≡◌, ℕ, ◌+◌, ◌-◌, ◌≤◌, Bool, List, [], ◌∷◌, length, arith}
use Rattle.std.proofs.lemmas.Bool.Decides.{nat_tests}
use Rattle.std.specs.Prelude.{count_by}
use Rattle.engine_base.specs.Stats.{is_hit, is_miss, is_eviction}
use Rattle.engine_base.proofs.Counting.{count-cons}
use Rattle.segments.specs.Items.{Item}
use Rattle.segments.specs.Queues.{total_items}
use Rattle.replacement.proofs.Balance.{IsBalanced, balanced}
use Rattle.queue_cache.specs.Climber.{Climber, ClimbRules, AreClimbRules, climber_after, IsClimber}
use Rattle.queue_cache.specs.Resizing.{size_towards}
use Rattle.queue_cache.specs.AdaptiveWindow.{Outcome, AdaptiveState, empty_adaptive, rules_at, queues_resized, response_of, adaptive_act, IsAdaptive}
use Rattle.queue_cache.specs.AdaptiveTheorems.{IsAdaptiveAccess, AdaptiveKeeps, Access, adaptive_state_after, adaptive_outcomes, AdaptiveCounts}
use Rattle.queue_cache.proofs.Protected.{stays}
use Rattle.queue_cache.proofs.Climbing.{climber-kept}
use Rattle.queue_cache.proofs.SizeChanges.{IsSettled, settled}

-- ---- an access

module _ (r : ClimbRules) (are : AreClimbRules r) (admits : ℕ → ℕ → Bool) (i : Item) (s : AdaptiveState) (h : IsAdaptive r s) where
  came-back : IsBalanced (rules_at r s.size) i s.queues (response_of r admits i s)
  came-back = balanced (rules_at r s.size) admits i s.queues h.distinct (h.window, h.main)

  abbrev next-climber : Climber
  next-climber = climber_after r (is_hit (response_of r admits i s).outcome) s.climber

  next-kept : IsClimber r next-climber
  next-kept = climber-kept r (is_hit (response_of r admits i s).outcome) s.climber are h.climber

  few-protected : length (response_of r admits i s).queues.protected ≤ r.largest - s.size
  few-protected = stays r s.size admits i s.queues h.protected h.distinct

  resettled : IsSettled r next-climber.target s.size (size_towards next-climber.target s.size) (response_of r admits i s).queues
      (queues_resized r next-climber.target s.size (response_of r admits i s).queues)
  resettled =
      settled r next-climber.target s.size (response_of r admits i s).queues are.fits next-kept.target h.least h.most
      record { window = came-back.sizes.0; main = came-back.sizes.1; protected = few-protected }

  pub kept-access : IsAdaptive r (adaptive_act r admits i s).1
  kept-access = record {
    distinct = λ j. (let a = resettled.queues.same j in let b = came-back.once j in omega (arith, a, b));
    window = resettled.queues.window;
    main = resettled.queues.main;
    protected = resettled.queues.protected;
    least = resettled.least;
    most = resettled.most;
    climber = next-kept;
    near = (grind (arith, nat_tests, resettled, next-kept));
  }

  pub access-is : IsAdaptiveAccess i s (adaptive_act r admits i s).0 (adaptive_act r admits i s).1
  access-is = record {
    hits = came-back.hit;
    counts = let a = resettled.queues.total in let b = came-back.counted in omega (arith, a, b);
    came = λ j. (let a = resettled.queues.same j in let b = came-back.came j in omega (arith, a, b));
    size = (resettled.nearer.within.1, resettled.nearer.within.0);
  }

pub starts : (r : ClimbRules) (size : ℕ) → AreClimbRules r → 1 ≤ size → size ≤ r.largest → IsAdaptive r (empty_adaptive r size)
starts r size are low high = grind (arith, nat_tests)

pub keeps : AdaptiveKeeps
keeps r size are low high = grind (arith, nat_tests, starts, starts r size are low high, kept-access, access-is)

counts-from : (r : ClimbRules) → AreClimbRules r → (accesses : List Access) (s : AdaptiveState) → IsAdaptive r s
    → total_items (adaptive_state_after r s accesses).queues + count_by is_eviction (adaptive_outcomes r s accesses) ≡ total_items s.queues + count_by is_miss (adaptive_outcomes r s accesses)
counts-from r are [] s h = omega arith
counts-from r are (a ∷ accesses) s h =
    let one = (access-is r are a.admits a.item s h).counts in
    let rest = counts-from r are accesses (adaptive_act r a.admits a.item s).1 (kept-access r are a.admits a.item s h) in
    let o : Outcome = (adaptive_act r a.admits a.item s).0 in
    let os : List Outcome = adaptive_outcomes r (adaptive_act r a.admits a.item s).1 accesses in
    let evictions = count-cons is_eviction o os in
    let misses = count-cons is_miss o os in
    omega (arith, one, rest, evictions, misses)

pub counts : AdaptiveCounts
counts r size accesses are low high = grind (arith, nat_tests, counts-from, starts)
