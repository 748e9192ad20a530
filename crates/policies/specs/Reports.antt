-- The report of a job over a trace: the numbers that the definition of its policy gives.
use Rattle.std.specs.Prelude.{ℕ, ◌*◌, ◌/◌, ◌==◌, List, if◌then◌else◌}
pub use Rattle.step_record.specs.declared.job.Job.{Job}
use Rattle.policies.specs.AnyPolicy.{Stats, stats_on}
use Rattle.policies.specs.declared.report.Report.{Report}

-- the report of a job, from what was counted
abbrev pub report_of : Job → Stats → Report
report_of job stats = record {
  policy = job.policy;
  sizes = job.sizes;
  capacity = job.config.capacity;
  accesses = stats.accesses;
  hits = stats.hits;
  misses = stats.misses;
  evictions = stats.evictions;
  rejections = stats.rejections;
}

abbrev pub report_on : Job → List ℕ → Report
report_on j trace = report_of j (stats_on j trace)

-- hundredths of a percent, rounded down
abbrev pub rate_of : Report → ℕ
rate_of r = if r.accesses == 0 then 0 else r.hits * 10000 / r.accesses
