-- What a cache has counted of the first accesses of a trace.
use Rattle.std.proofs.lemmas.Bool.Decides.{nat_tests}
use Rattle.std.proofs.Common.{◌≡◌, ◌∙◌, ◌≤◌, ℕ, zero, suc, List, inl, inr, length, take, ap, subst, sym, arith}
use Rattle.std.proofs.lemmas.Bool.{cases_lt}
use Rattle.std.proofs.lemmas.List.{take_all, take-append-le, length-take-le}
use Rattle.engine_base.specs.Stats.{stats_of}
use Rattle.clairvoyant.specs.Belady.{belady_outcomes}
use Rattle.clairvoyant.specs.Clairvoyant.{ClairvoyantState}
use Rattle.policies.specs.declared.any_policy.AnyPolicy.TheVariants.{Optimal}
use Rattle.policies.specs.AnyPolicy.{AnyPolicy, Job, Outcome, IsBeladyAt, HasAccessed, outcomes_on, stats_in, stats_on}
use Rattle.policies.specs.Theorems.{AnyReports}
use Rattle.policies.proofs.Machines.{run_of, run-first}
use Rattle.policies.proofs.StepLaws.{outcomes-length, any_covers_trace}

optimal_first : (c : ℕ) (t : List ℕ) (n m : ℕ) → n ≤ m → belady_outcomes c t n ≡ take n (belady_outcomes c t m)
optimal_first c t n zero le = grind (arith, nat_tests)
optimal_first c t n (suc m) le =
    let long = outcomes-length c t m in
    elim (cases_lt n (suc m)) [
      | inl below ↦ grind (arith, nat_tests, optimal_first c t n m (omega arith), take-append-le)
      | inr above ↦
          let same : n ≡ suc m = omega arith in
          ap (belady_outcomes c t) same ∙ sym (take_all n (belady_outcomes c t (suc m)) (omega (arith, same, outcomes-length c t (suc m))))
    ]

optimal-first-counts : (j : Job) (trace : List ℕ) (n : ℕ) (d : ClairvoyantState) → n ≤ length trace → IsBeladyAt j trace (take n trace) d
    → d.stats ≡ stats_of (take n (outcomes_on j trace))
optimal-first-counts j trace n d le s = grind (arith, nat_tests, length-take-le, optimal_first)

-- a cache that made the first accesses has counted their outcomes, of which there may be fewer
pub first-counts : (j : Job) (trace : List ℕ) (n : ℕ) (d : AnyPolicy) → HasAccessed j trace (take n trace) d
    → stats_in d ≡ stats_of (take n (outcomes_on j trace))
first-counts j trace n (Optimal d) s = elim (cases_lt (length trace) n) [
  | inl over ↦
      let size : ℕ = length trace in
      let os : List Outcome = outcomes_on j trace in
      let whole : take n trace ≡ take size trace = take_all n trace (omega (arith, over)) ∙ sym (take_all size trace (omega arith)) in
      let all : take size os ≡ take n os =
      take_all size os (omega (arith, any_covers_trace j trace)) ∙ sym (take_all n os (omega (arith, over, any_covers_trace j trace))) in
      optimal-first-counts j trace size d (omega arith) (subst (λ l. IsBeladyAt j trace l d) whole s) ∙ ap stats_of all
  | inr within ↦ optimal-first-counts j trace n d within s
]
first-counts j trace n v s = run-first j trace n (run_of j trace (take n trace) v tt s)

-- one that made all of them has the statistics of the job
pub any_reports : AnyReports
unfolding stats_on
any_reports j trace d s =
    first-counts j trace (length trace) d (subst (λ l. HasAccessed j trace l d) (sym (take_all (length trace) trace (omega arith))) s)
    ∙ ap stats_of (take_all (length trace) (outcomes_on j trace) (omega (arith, any_covers_trace j trace)))
