-- What the accesses of single traces come to, by computation.
use Rattle.std.proofs.Common.{◌≡◌, ◌⊎◌, ℕ, ◌≤◌, List, [], take, count_by, ap, ◌∙◌, arith, inl, inr, All, length, map}
use Rattle.engine_base.specs.PartSize.{part_size}
use Rattle.engine_base.specs.Stats.{is_miss}
use Rattle.step_record.specs.declared.job.Policy.TheVariants.{Fifo, Clock, Sieve, S3Fifo}
use Rattle.engine_base.specs.Machine.{outcomes_of_all}
use Rattle.policy_pages.specs.Fifo.{fifo_act}
use Rattle.policy_pages.specs.Clock.{clock_act}
use Rattle.demand_cache.specs.declared.demand_policy.DemandPolicy.TheVariants as sized
use Rattle.demand_cache.specs.DemandPolicy.{outcomes_of_page}
use Rattle.policies.specs.AnyPolicy.{Job, stats_on}
use Rattle.policies.specs.declared.design.Design.TheVariants as design
use Rattle.policies.proofs.Designs.{design-named}
use Rattle.conservative_laws.specs.Examples.{anomalous_trace, FifoAndClockHaveAnomaly, sieve_trace, SieveIsNotConservative, s3_fifo_trace, S3FifoIsNotConservative}
use Rattle.conservative_laws.proofs.Jobs.{page-misses}
use Rattle.std.proofs.lemmas.Bool.Decides.{nat_tests}
use Rattle.std.specs.Prelude.{slice_index_or}
use Rattle.std.proofs.lemmas.List.Elements.{All-map}
use Rattle.policies.specs.Residents.{StatsAddUp, MissesFit}
use Rattle.policy_laws.specs.Theorems.{NoPolicyBeatsBelady, LruHitsGrow, OptimalHitsGrow}
use Rattle.conservative_laws.specs.Theorems.{LruFifoClockCompeteWithAny}
use Rattle.policies.specs.Reports.{report_on}
use Rattle.conservative_laws.specs.ReportLaws.{Report, AddsUp, AreOrdered, ReportsObeyLaws}

misses-at : (j : Job) (c m : ℕ) → (j.policy ≡ Fifo) ⊎ (j.policy ≡ Clock) → j.config.capacity ≡ c → 1 ≤ c
    → count_by is_miss (outcomes_of_all (fifo_act c) [] anomalous_trace) ≡ m → count_by is_miss (outcomes_of_all (clock_act c) [] anomalous_trace) ≡ m
    → (stats_on j anomalous_trace).misses ≡ m
misses-at j c m (inl is) at room fifo clock = page-misses sized.Fifo j anomalous_trace (design-named j Fifo is) (omega (arith, at, room)) ∙ (ap (λ x. count_by is_miss (outcomes_of_all (fifo_act x) [] anomalous_trace)) at ∙ fifo)
misses-at j c m (inr is) at room fifo clock = page-misses sized.Clock j anomalous_trace (design-named j Clock is) (omega (arith, at, room)) ∙ (ap (λ x. count_by is_miss (outcomes_of_all (clock_act x) [] anomalous_trace)) at ∙ clock)

pub have_anomaly : FifoAndClockHaveAnomaly
have_anomaly small large is same at_small at_large = search (arith, misses-at)

pub sieve_is_not_conservative : SieveIsNotConservative
sieve_is_not_conservative j is at all =
    let misses : (keys : List ℕ) → (stats_on j keys).misses ≡ count_by is_miss (outcomes_of_page sized.Sieve 2 keys) =
    λ keys. page-misses sized.Sieve j keys (design-named j Sieve is) (omega (arith, at)) ∙ ap (λ c. count_by is_miss (outcomes_of_page sized.Sieve c keys)) at in
    let before : (stats_on j (take 2 sieve_trace)).misses ≡ 1 = misses (take 2 sieve_trace) in
    let after : (stats_on j (take 5 sieve_trace)).misses ≡ 4 = misses (take 5 sieve_trace) in
    let most = all 2 5 (omega arith) (omega arith) (omega arith) in
    absurd (omega (arith, most, before, after))

pub s3_fifo_is_not_conservative : S3FifoIsNotConservative
s3_fifo_is_not_conservative j is at few all =
    let one : part_size j.tuning.small j.config.capacity ≡ 1 = ap (part_size j.tuning.small) at ∙ (omega (arith, few)) in
    let misses : (keys : List ℕ) → (stats_on j keys).misses ≡ count_by is_miss (outcomes_of_page (sized.S3Fifo 1) 2 keys) =
    λ keys. page-misses (sized.S3Fifo 1) j keys (design-named j S3Fifo is ∙ ap (λ n. design.Demand (sized.S3Fifo n)) one) (omega (arith, at)) ∙ ap (λ c. count_by is_miss (outcomes_of_page (sized.S3Fifo 1) c keys)) at in
    let before : (stats_on j (take 3 s3_fifo_trace)).misses ≡ 1 = misses (take 3 s3_fifo_trace) in
    let after : (stats_on j (take 6 s3_fifo_trace)).misses ≡ 4 = misses (take 6 s3_fifo_trace) in
    let most = all 3 6 (omega arith) (omega arith) (omega arith) in
    absurd (omega (arith, most, before, after))

-- ---- the reports of jobs over one trace obey the laws

-- a fact of every job is one of all reports
of-all : (P : Report → Type 0) (jobs : List Job) (trace : List ℕ) → ((j : Job) → P (report_on j trace)) → All P (map (λ j. report_on j trace) jobs)
of-all P jobs trace h = All-map P (λ j. report_on j trace) jobs (λ k d l. h (slice_index_or jobs k d))

adds-up : StatsAddUp → MissesFit → (trace : List ℕ) (j : Job) → AddsUp (length trace) (report_on j trace)
adds-up sums fits trace j = grind (arith, nat_tests)

module _ (best : NoPolicyBeatsBelady) (lru : LruHitsGrow) (optimal : OptimalHitsGrow) (bound : LruFifoClockCompeteWithAny) where
  ordered : (trace : List ℕ) (j k : Job) → AreOrdered (report_on j trace) (report_on k trace)
  ordered trace j k = grind (arith, nat_tests)

  pub obey : StatsAddUp → MissesFit → ReportsObeyLaws
  obey sums fits jobs trace = record {
    each = of-all (AddsUp (length trace)) jobs trace (adds-up sums fits trace);
    pairs = of-all (λ r. All (AreOrdered r) (map (λ j. report_on j trace) jobs)) jobs trace
        (λ j. of-all (AreOrdered (report_on j trace)) jobs trace (ordered trace j));
  }
