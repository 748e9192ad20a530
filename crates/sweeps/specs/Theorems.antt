-- What the rows of intervals promise beside their definition.
use Rattle.std.specs.Prelude.{◌≡◌, ℕ, ◌≤◌, List, sum_by}
pub use Rattle.policies.specs.declared.report.Report.{Report}
use Rattle.policies.specs.Reports.{Job, report_on}
use Rattle.sweeps.specs.Intervals.{Interval, intervals_on}

-- the sum of a number over rows
abbrev pub sum_over : (Report → ℕ) → List Interval → ℕ
sum_over number rows = sum_by (λ row. number row.report) rows

-- The rows sum up to the report: their accesses, hits, misses, evictions and rejections.
abbrev pub IntervalsAddUp : Type 0
IntervalsAddUp = (job : Job) (every : ℕ) (trace : List ℕ) → 1 ≤ every
    → (sum_over (λ r. r.accesses) (intervals_on job every trace) ≡ (report_on job trace).accesses)
    × (sum_over (λ r. r.hits) (intervals_on job every trace) ≡ (report_on job trace).hits)
    × (sum_over (λ r. r.misses) (intervals_on job every trace) ≡ (report_on job trace).misses)
    × (sum_over (λ r. r.evictions) (intervals_on job every trace) ≡ (report_on job trace).evictions)
    × (sum_over (λ r. r.rejections) (intervals_on job every trace) ≡ (report_on job trace).rejections)
