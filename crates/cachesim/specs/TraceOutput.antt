-- What the subcommands write that read a trace and write a text: `run` and `sweep`, `intervals`, `part`,
-- `compare` and `footprint`.
use Rattle.std.specs.Prelude.{◌≡◌, ◌≤◌, ℕ, Bool, if◌then◌else◌, List, Option, None, Some, IfSome, flat_map, map, length}
pub use Rattle.step_record.specs.declared.job.Job.{Job}
use Rattle.command_line.specs.declared.arguments.Arguments.{Arguments}
use Rattle.command_line.specs.declared.arguments.Arguments.TheVariants as asked
pub use Rattle.command_line.specs.declared.arguments.JobArguments.{JobArguments}
pub use Rattle.command_line.specs.declared.arguments.PartArguments.{PartArguments}
use Rattle.sweeps.specs.Sweep.{jobs_over}
use Rattle.trace_read.specs.TraceText.{fault_within, keys_in}
use Rattle.trace_read.specs.declared.format.Format.{Format}
use Rattle.trace_read.specs.declared.limits.Limits.{Limits}
use Rattle.trace_read.specs.declared.limits.TheConstants.Limits.{DEFAULT}
use Rattle.policies.specs.AnyPolicy.{outcomes_on}
use Rattle.policies.specs.Reports.{report_on}
use Rattle.policies.specs.declared.job_checks.TheConstants.{MAX_ACTORS}
use Rattle.sweeps.specs.Intervals.{Interval, intervals_on}
use Rattle.trace_index.specs.Footprint.{footprint_of, footprint_text}
use Rattle.report.specs.IntervalText.{intervals_text}
use Rattle.policy_comparison.specs.QueueRows.{queues_text}
use Rattle.report.specs.Text.{Report, reports_text}
use Rattle.policy_comparison.specs.ComparedIntervals.{compared_intervals_on, compared_intervals_text}
use Rattle.policy_comparison.specs.Comparison.{compared_on, comparison_text}
use Rattle.policy_comparison.specs.Part.{part_line, IsPart}

-- the report of each job over the accesses: it counts the outcomes of its policy's definition
abbrev pub reports_on : List Job → List ℕ → List Report
reports_on jobs keys = map (λ job. report_on job keys) jobs

-- all rows of the first job over the accesses, then those of the second, and so on
abbrev pub rows_on : ℕ → List Job → List ℕ → List Interval
rows_on every jobs keys = flat_map (λ job. intervals_on job every keys) jobs

-- the header and the rows of each policy, for each interval of this length, or also for each of its queues
abbrev pub intervals_shown : Bool → ℕ → List Job → List ℕ → List ℕ
intervals_shown inside every jobs keys =
    if inside then queues_text every jobs keys else intervals_text (rows_on every jobs keys)

-- the header and the row of what is counted of both policies, or the rows of the intervals of this length
abbrev pub compared_text : PartArguments → Option ℕ → List ℕ → List ℕ
compared_text pair None keys = comparison_text pair.first pair.second (compared_on pair.first pair.second keys)
compared_text pair (Some every) keys =
    compared_intervals_text pair.first pair.second (compared_intervals_on every pair.first pair.second keys)

-- the bytes are a trace within these limits: they are no more, and have no fault
abbrev pub AreFaultless : Limits → Format → List ℕ → Type 0
AreFaultless limits format bytes =
    (length bytes ≤ limits.bytes) × (fault_within limits.accesses format bytes ≡ None)

-- the bytes read are one, and P holds of the accesses in them
abbrev pub IfFaultlessWithin : Limits → Format → Option (List ℕ) → (List ℕ → Type 0) → Type 0
IfFaultlessWithin limits format input P =
    IfSome input (λ bytes. AreFaultless limits format bytes × P (keys_in format bytes))

-- the same of a trace that is kept
abbrev pub IfFaultless : Format → Option (List ℕ) → (List ℕ → Type 0) → Type 0
IfFaultless = IfFaultlessWithin DEFAULT

-- The text that these arguments ask for, over the accesses: of `run` and `sweep` the report of each policy, at each
-- capacity; of `intervals` the rows of each policy, and with `--inside` of each of its queues; of `part` the line of the
-- access at which the two policies part; of `compare` the header and the row of what is counted of both, or a row for
-- each interval; of `footprint` how large the trace is.
abbrev pub IsText : Arguments → List ℕ → List ℕ → Type 0
IsText (asked.Run run) keys text =
    text ≡ reports_text (reports_on run.jobs.list keys)
IsText (asked.Sweep sweep) keys text =
    text ≡ reports_text (reports_on (jobs_over sweep.jobs.list sweep.capacities) keys)
IsText (asked.Intervals intervals) keys text =
    text ≡ intervals_shown intervals.inside intervals.every intervals.jobs.list keys
IsText (asked.Part part) keys text = (found : Option ℕ)
    × IsPart (outcomes_on part.first keys) (outcomes_on part.second keys) found × (text ≡ part_line found)
IsText (asked.Compare compare) keys text = text ≡ compared_text compare.policies compare.every keys
IsText (asked.Footprint footprint) keys text = text ≡ footprint_text (footprint_of keys)
IsText arguments keys text = ⊥

-- no more policies than are run at once
abbrev pub AreFew : List Job → Type 0
AreFew jobs = length jobs ≤ MAX_ACTORS

-- so it is of the bytes of a trace within its limits, and of few policies
abbrev pub IsTextOf : Arguments → Option (List ℕ) → List ℕ → Type 0
IsTextOf (asked.Run run) input text = AreFew run.jobs.list
    × IfFaultlessWithin run.jobs.limits run.jobs.format input (λ keys. IsText (asked.Run run) keys text)
IsTextOf (asked.Sweep sweep) input text = AreFew sweep.jobs.list
    × IfFaultlessWithin sweep.jobs.limits sweep.jobs.format input (λ keys. IsText (asked.Sweep sweep) keys text)
IsTextOf (asked.Intervals intervals) input text = AreFew intervals.jobs.list
    × IfFaultlessWithin intervals.jobs.limits intervals.jobs.format input
    (λ keys. IsText (asked.Intervals intervals) keys text)
IsTextOf (asked.Part part) input text =
    IfFaultlessWithin part.limits part.format input (λ keys. IsText (asked.Part part) keys text)
IsTextOf (asked.Compare compare) input text = IfFaultlessWithin compare.policies.limits compare.policies.format
    input (λ keys. IsText (asked.Compare compare) keys text)
IsTextOf (asked.Footprint footprint) input text =
    IfFaultlessWithin footprint.limits footprint.format input (λ keys. IsText (asked.Footprint footprint) keys text)
IsTextOf arguments input text = ⊥
