-- Hits cut into intervals, and what is counted of each.
use Rattle.std.proofs.Common.{◌≡◌, ◌∙◌, ◌+◌, ◌*◌, ◌≤◌, ℕ, zero, suc, Bool, cond, List, [], ◌∷◌, ◌++◌, length, take, drop, count_by, refl, ap, sym, arith, take-add, length-append, length-take-le}
use Rattle.std.specs.Int.{div_ceil}
use Rattle.std.specs.Prelude.{not, ◌&&◌}
use Rattle.std.proofs.lemmas.Grind.{div_ceil_times}
use Rattle.std.proofs.lemmas.List.{take_all}
use Rattle.std.proofs.lemmas.List.Sums.{sum_by-append, sum_by_push}
use Rattle.policies.specs.AnyPolicy.{Job, outcomes_on}
use Rattle.policy_comparison.specs.Comparison.{Comparison, compared_on, counts_of, hits_beside}
use Rattle.policy_comparison.specs.ComparedRows.{ComparedRows, HasCut, rows_in}
use Rattle.policy_comparison.proofs.Compared.{beside-long}
use Rattle.policy_comparison.specs.ComparedIntervals.{ComparedInterval, compared_at, compared_intervals_on, first_compared, sum_over, ComparedIntervalsAddUp}

abbrev pub Hit : Type 0
Hit = Bool × Bool

-- ---- pieces

piece-more : (every n : ℕ) (hits : List Hit) → take ((n + 1) * every) hits ≡ take (n * every) hits ++ take every (drop (n * every) hits)
piece-more every n hits =
    let e : (n + 1) * every ≡ n * every + every = omega arith in
    ap (λ m. take m hits) e ∙ take-add (n * every) every hits

-- ---- counts of a list and of a longer one

counted : (p : Hit → Bool) (xs ys : List Hit) → count_by p (xs ++ ys) ≡ count_by p xs + count_by p ys
counted p xs ys = sum_by-append (λ h. cond (p h) 1 0) xs ys

-- all accesses are those of the intervals that are over, and of the one that is not
pub all-are : (every : ℕ) (hits : List Hit) (n : ℕ) (c : ComparedRows) → HasCut every hits n c → c.counts.accesses ≡ rows_in c * every + c.interval.accesses
all-are every hits n c cut = ap (λ (x : Comparison). x.accesses) cut.counts ∙ length-take-le n hits cut.within ∙ cut.place

-- one row more
pub rows-more : (every : ℕ) (hits : List Hit) (rows new : List ComparedInterval) (row : ComparedInterval)
    → rows ≡ first_compared every hits (length rows) → new ≡ rows ++ row ∷ [] → row ≡ compared_at every hits (length rows)
    → new ≡ first_compared every hits (length rows + 1)
rows-more every hits rows new row so is one =
    let next : suc (length rows) ≡ length rows + 1 = omega arith in
    is ∙ ap (λ (l : List ComparedInterval). l ++ row ∷ []) so ∙ ap (λ (x : ComparedInterval). first_compared every hits (length rows) ++ x ∷ []) one
    ∙ ap (first_compared every hits) next

-- ---- sums

-- a count of a list of hits, with what it counts of lists one behind the other
module _ (number : Comparison → ℕ) (count : List Hit → ℕ) (is : (hits : List Hit) → number (counts_of hits) ≡ count hits)
    (none : count [] ≡ 0) (joins : (xs ys : List Hit) → count (xs ++ ys) ≡ count xs + count ys) where
  sum-first : (every : ℕ) (hits : List Hit) (n : ℕ) → sum_over number (first_compared every hits n) ≡ count (take (n * every) hits)
  sum-first every hits zero =
      let z : 0 * every ≡ 0 = omega arith in
      sym none ∙ ap (λ m. count (take m hits)) (sym z)
  sum-first every hits (suc n) =
      let piece = take every (drop (n * every) hits) in
      let e : suc n ≡ n + 1 = omega arith in
      sum_by_push (λ row. number row.counts) (first_compared every hits n) (compared_at every hits n)
      ∙ ap (λ m. sum_over number (first_compared every hits n) + m) (is piece)
      ∙ ap (λ m. m + count piece) (sum-first every hits n)
      ∙ sym (joins (take (n * every) hits) piece)
      ∙ ap count (sym (piece-more every n hits))
      ∙ ap (λ m. count (take (m * every) hits)) (sym e)

  sum-all : (every : ℕ) (first second : Job) (trace : List ℕ) → 1 ≤ every
      → sum_over number (compared_intervals_on every first second trace) ≡ number (compared_on first second trace)
  unfolding compared_intervals_on compared_on
  sum-all every first second trace some =
      let hits = hits_beside (outcomes_on first trace) (outcomes_on second trace) in
      let end = (div_ceil_times (length trace) every some).0 in
      sum-first every hits (div_ceil (length trace) every)
      ∙ ap count (take_all (div_ceil (length trace) every * every) hits (omega (arith, end, beside-long first second trace)))
      ∙ sym (is hits)

pub add-up : ComparedIntervalsAddUp
add-up every first second trace some = (
  sum-all (λ c. c.accesses) length (λ hits. refl) refl length-append every first second trace some,
  sum-all (λ c. c.both) (count_by (λ h. h.0 && h.1)) (λ hits. refl) refl (counted (λ h. h.0 && h.1)) every first second trace some,
  sum-all (λ c. c.first_only) (count_by (λ h. h.0 && not h.1)) (λ hits. refl) refl (counted (λ h. h.0 && not h.1)) every first second trace some,
  sum-all (λ c. c.second_only) (count_by (λ h. not h.0 && h.1)) (λ hits. refl) refl (counted (λ h. not h.0 && h.1)) every first second trace some,
  sum-all (λ c. c.neither) (count_by (λ h. not h.0 && not h.1)) (λ hits. refl) refl (counted (λ h. not h.0 && not h.1)) every first second trace some,
)
