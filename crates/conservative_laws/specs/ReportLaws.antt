-- What a reader of reports may rely on, in what the reports show.
use Rattle.std.specs.Prelude.{◌≡◌, ℕ, ◌+◌, ◌-◌, ◌*◌, ◌≤◌, All, List, length, map}
use Rattle.step_record.specs.declared.job.Policy.TheVariants.{Lru, Clairvoyant}
pub use Rattle.policies.specs.declared.report.Report.{Report}
use Rattle.policies.specs.Reports.{Job, report_on}
use Rattle.conservative_laws.specs.Theorems.{IsLruFifoOrClock}

-- each access is a hit or a miss, and the misses that were not evicted again fit the capacity
pub record AddsUp (count : ℕ) (r : Report) : Type 0 where
  pub accesses : r.accesses ≡ count
  pub hits : r.hits + r.misses ≡ r.accesses
  pub kept : r.misses ≤ r.evictions + r.capacity

-- what holds between two reports over the same trace
pub record AreOrdered (r s : Report) : Type 0 where
  -- none has more hits than Belady's optimal policy at its capacity
  pub best : s.policy ≡ Clairvoyant → r.capacity ≡ s.capacity → r.hits ≤ s.hits
  -- a larger capacity has no fewer hits
  pub lru_grows : r.policy ≡ Lru → s.policy ≡ Lru → r.capacity ≤ s.capacity → r.hits ≤ s.hits
  pub optimal_grows : r.policy ≡ Clairvoyant → s.policy ≡ Clairvoyant → r.capacity ≤ s.capacity → r.hits ≤ s.hits
  -- Lru, FIFO and CLOCK have at most (c + 1) / (c + 1 - h) times the misses of any policy of capacity h, where their
  -- own is c
  pub competes : IsLruFifoOrClock r.policy → (r.capacity + 1 - s.capacity) * r.misses ≤ (r.capacity + 1) * s.misses

-- the reports of jobs over a trace of so many accesses
pub record ObeyLaws (count : ℕ) (reports : List Report) : Type 0 where
  pub each : All (AddsUp count) reports
  pub pairs : All (λ r. All (AreOrdered r) reports) reports

-- The definitions of the policies have them, for every list of jobs and every trace.
abbrev pub ReportsObeyLaws : Type 0
ReportsObeyLaws = (jobs : List Job) (trace : List ℕ) → ObeyLaws (length trace) (map (λ j. report_on j trace) jobs)
