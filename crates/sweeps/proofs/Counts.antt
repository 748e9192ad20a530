-- What two counts say of the accesses between them.
use Rattle.std.proofs.Common.{◌≡◌, ◌+◌, ◌-◌, ◌<◌, Bool, cond, List, ◌++◌, length, count_by, refl, arith, length-append}
use Rattle.std.proofs.lemmas.List.Sums.{sum_by-append}
use Rattle.engine_base.specs.Stats.{is_hit, is_miss, is_eviction, is_rejection, stats_of}
use Rattle.sweeps.specs.Intervals.{Outcome, Job, between, interval_behind, IsLater}

counted : (p : Outcome → Bool) (xs ys : List Outcome) → count_by p (xs ++ ys) ≡ count_by p xs + count_by p ys
counted p xs ys = sum_by-append (λ o. cond (p o) 1 0) xs ys

less : (p : Outcome → Bool) (xs ys : List Outcome) → count_by p (xs ++ ys) - count_by p xs ≡ count_by p ys
less p xs ys = omega (arith, counted p xs ys)

shorter : (xs ys : List Outcome) → length (xs ++ ys) - length xs ≡ length ys
shorter xs ys = omega (arith, length-append xs ys)

-- between the count of a list and that of a longer one stands what is counted of the rest
pub between-counts : (j : Job) (xs ys : List Outcome) → between j (stats_of xs) (stats_of (xs ++ ys)) ≡ interval_behind j (length xs) ys
between-counts j xs ys =
    rw (shorter xs ys, less is_hit xs ys, less is_miss xs ys, less is_eviction xs ys, less is_rejection xs ys, length-append xs ys) refl

pub later-counts : (xs ys : List Outcome) → 0 < length ys → IsLater (stats_of xs) (stats_of (xs ++ ys))
later-counts xs ys some = record {
  accesses = omega (arith, some, length-append xs ys);
  hits = omega (arith, counted is_hit xs ys);
  misses = omega (arith, counted is_miss xs ys);
  evictions = omega (arith, counted is_eviction xs ys);
  rejections = omega (arith, counted is_rejection xs ys);
}
