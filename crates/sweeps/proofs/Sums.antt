-- The rows of a job sum up to its report.
use Rattle.std.proofs.Common.{◌≡◌, ◌∙◌, ◌+◌, ◌*◌, ◌≤◌, ℕ, zero, suc, Bool, cond, List, [], ◌++◌, length, take, drop, count_by, refl, ap, sym, arith, length-append}
use Rattle.std.specs.Int.{div_ceil}
use Rattle.std.proofs.lemmas.List.{take_all}
use Rattle.std.proofs.lemmas.List.Sums.{sum_by-append, sum_by_push}
use Rattle.engine_base.specs.Stats.{is_hit, is_miss, is_eviction, is_rejection, stats_of}
use Rattle.policies.specs.AnyPolicy.{Outcome, Job, outcomes_on, stats_on}
use Rattle.policies.specs.Reports.{report_of, report_on}
use Rattle.policies.specs.Theorems.{AnyCoversTrace}
use Rattle.sweeps.specs.Intervals.{first_intervals, interval_at, intervals_on}
use Rattle.sweeps.specs.Theorems.{Report, sum_over, IntervalsAddUp}
use Rattle.sweeps.proofs.Pieces.{piece-more, pieces-cover}

-- a number of a report that is counted of the outcomes, with what it counts of lists one behind the other
module _ (j : Job) (number : Report → ℕ) (count : List Outcome → ℕ) (is : (os : List Outcome) → number (report_of j (stats_of os)) ≡ count os)
    (none : count [] ≡ 0) (joins : (xs ys : List Outcome) → count (xs ++ ys) ≡ count xs + count ys) where
  sum-first : (every : ℕ) (os : List Outcome) (n : ℕ) → sum_over number (first_intervals j every os n) ≡ count (take (n * every) os)
  sum-first every os zero =
      let z : 0 * every ≡ 0 = omega arith in
      sym none ∙ ap (λ m. count (take m os)) (sym z)
  sum-first every os (suc n) =
      let piece = take every (drop (n * every) os) in
      let e : suc n ≡ n + 1 = omega arith in
      sum_by_push (λ row. number row.report) (first_intervals j every os n) (interval_at j every os n)
      ∙ ap (λ m. sum_over number (first_intervals j every os n) + m) (is piece)
      ∙ ap (λ m. m + count piece) (sum-first every os n)
      ∙ sym (joins (take (n * every) os) piece)
      ∙ ap count (sym (piece-more every n os))
      ∙ ap (λ m. count (take (m * every) os)) (sym e)

  pub sum-all : AnyCoversTrace → (every : ℕ) (trace : List ℕ) → 1 ≤ every → sum_over number (intervals_on j every trace) ≡ number (report_on j trace)
  unfolding intervals_on stats_on
  sum-all covers every trace some =
      let os = outcomes_on j trace in
      let long : length os ≡ length trace = covers j trace in
      let end = pieces-cover every (length trace) some in
      sum-first every os (div_ceil (length trace) every)
      ∙ ap count (take_all (div_ceil (length trace) every * every) os (omega (arith, end, long)))
      ∙ sym (is os)

counted : (p : Outcome → Bool) (xs ys : List Outcome) → count_by p (xs ++ ys) ≡ count_by p xs + count_by p ys
counted p xs ys = sum_by-append (λ o. cond (p o) 1 0) xs ys

pub add-up : AnyCoversTrace → IntervalsAddUp
add-up covers j every trace some = (
  sum-all j (λ r. r.accesses) length (λ os. refl) refl length-append covers every trace some,
  sum-all j (λ r. r.hits) (count_by is_hit) (λ os. refl) refl (counted is_hit) covers every trace some,
  sum-all j (λ r. r.misses) (count_by is_miss) (λ os. refl) refl (counted is_miss) covers every trace some,
  sum-all j (λ r. r.evictions) (count_by is_eviction) (λ os. refl) refl (counted is_eviction) covers every trace some,
  sum-all j (λ r. r.rejections) (count_by is_rejection) (λ os. refl) refl (counted is_rejection) covers every trace some,
)
