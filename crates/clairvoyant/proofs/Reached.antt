-- What the first accesses of a trace give, one access further.
use Rattle.std.proofs.lemmas.Bool.Decides.{nat_tests}
use Rattle.std.proofs.Common.{◌≡◌, ℕ, suc, zero, ◌+◌, ◌<◌, ◌≤◌, Some, List, length, get_or, ap, refl, arith, add-one}
use Rattle.engine_base.specs.declared.limits.TheConstants.{MAX_STEPS}
use Rattle.engine_base.specs.Stats.{stats_with, IsCounted, stats_of}
use Rattle.engine_base.proofs.Counting.{stats-snoc}
use Rattle.clairvoyant.specs.Belady.{Outcome, belady_residents, belady_outcome, belady_outcomes}
use Rattle.clairvoyant.specs.Clairvoyant.{Stats, IsBeladyReached, clairvoyant_act}
use Rattle.clairvoyant.specs.Representation.{shown}
use Rattle.clairvoyant.proofs.Belady.{accesses, access-counts, residents-ascending}

-- ---- residents are the misses minus the evictions

pub held-count : (c : ℕ) (t : List ℕ) (i : ℕ) → length (belady_residents c t i) + (stats_of (belady_outcomes c t i)).evictions ≡ (stats_of (belady_outcomes c t i)).misses
held-count c t zero = refl
held-count c t (suc i) =
    let one = access-counts (accesses c t i (get_or t i 0) (belady_residents c t i)) (residents-ascending c t i) in
    let counts = stats-snoc (belady_outcomes c t i) (belady_outcome c t i) in
    omega (arith, held-count c t i, one, ap (λ x. x.evictions) counts, ap (λ x. x.misses) counts)

pub reached-held : (c : ℕ) (t : List ℕ) (s : Stats) → IsBeladyReached (shown c t s) → length (belady_residents c t s.accesses) + s.evictions ≡ s.misses
reached-held c t s r = grind (arith, nat_tests, held-count c t s.accesses)

-- ---- steps

pub act-next : (c : ℕ) (t : List ℕ) (s : Stats) (k : ℕ) (o : Outcome) → s.accesses < length t → length t ≤ MAX_STEPS → k ≡ get_or t s.accesses 0 → o ≡ belady_outcome c t s.accesses → clairvoyant_act (shown c t s) k ≡ Some (o, shown c t (stats_with o s))
act-next c t s k o lt few e f = grind (arith, nat_tests, add-one s.accesses)

pub is-counted : (o : Outcome) (s : Stats) → IsCounted o (stats_with o s)
is-counted o s = record { accesses = omega arith; hits = omega arith; misses = omega arith; evictions = omega arith; rejections = omega arith }
