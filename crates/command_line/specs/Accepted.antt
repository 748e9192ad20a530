-- The ranges of what a parse gives.
use Rattle.std.specs.Prelude.{◌≡◌, ◌≤◌, ◌&&◌, ◌||◌, Bool, false, true, nat_lt, IfSome, Ok}
use Rattle.std.specs.Option.{option_map_or}
use Rattle.std.specs.List.{All, AllPass, list_any}
use Rattle.engine_base.specs.Config.{config_fault, is_from_one}
pub use Rattle.engine_base.specs.declared.config.Config.{Config}
use Rattle.engine_base.specs.declared.limits.TheConstants.{MAX_ACCESSES, MAX_BATCH, MAX_CAPACITY}
use Rattle.engine_base.specs.declared.limits.TheConstants.{MAX_GHOST_PERCENT, MAX_PART_PERCENT}
pub use Rattle.step_record.specs.declared.job.Tuning.{Tuning}
pub use Rattle.step_record.specs.declared.job.Policy.{Policy}
pub use Rattle.step_record.specs.declared.job.Job.{Job}
use Rattle.step_record.specs.declared.job.Policy.TheVariants.{Clairvoyant}
use Rattle.engine_base.specs.declared.worker.TheConstants.{MAX_WORKERS}
pub use Rattle.trace_read.specs.declared.limits.Limits.{Limits}
use Rattle.trace_read.specs.declared.limits.TheConstants.{MAX_LONG_ACCESSES, MAX_LONG_TRACE_BYTES}
use Rattle.command_line.specs.declared.arguments.Arguments.{Arguments}
use Rattle.command_line.specs.declared.arguments.Arguments.TheVariants.{Compare, Debug, Drive, Footprint, Intervals, Part}
use Rattle.command_line.specs.declared.arguments.Arguments.TheVariants.{Replay, Run, Sample, Sweep}
use Rattle.command_line.specs.declared.arguments.CompareArguments.{CompareArguments}
use Rattle.command_line.specs.declared.arguments.DriveArguments.{DriveArguments}
use Rattle.command_line.specs.declared.arguments.IntervalsArguments.{IntervalsArguments}
use Rattle.command_line.specs.declared.arguments.JobArguments.{JobArguments}
use Rattle.command_line.specs.declared.arguments.PartArguments.{PartArguments}
use Rattle.command_line.specs.declared.arguments.RunArguments.{RunArguments}
use Rattle.command_line.specs.declared.arguments.SweepArguments.{SweepArguments}

-- the configuration is accepted
abbrev pub IsConfig : Config → Type 0
IsConfig config = config_fault config ≡ Ok tt

-- each part has a size that is one of such a part
pub record IsTuning (tuning : Tuning) : Type 0 where
  pub small : (1 ≤ tuning.small) × (tuning.small ≤ MAX_PART_PERCENT)
  pub kin : (1 ≤ tuning.kin) × (tuning.kin ≤ MAX_PART_PERCENT)
  pub kout : (1 ≤ tuning.kout) × (tuning.kout ≤ MAX_GHOST_PERCENT)

-- no more than the limits of a long trace
pub record AreLimits (limits : Limits) : Type 0 where
  pub accesses : limits.accesses ≤ MAX_LONG_ACCESSES
  pub bytes : limits.bytes ≤ MAX_LONG_TRACE_BYTES

-- the numbers of a job are in their ranges
pub record IsAcceptedJob (job : Job) : Type 0 where
  pub config : config_fault job.config ≡ Ok tt
  pub tuning : IsTuning job.tuning

pub record AreAcceptedJobs (jobs : JobArguments) : Type 0 where
  pub list : All IsAcceptedJob jobs.list
  pub limits : AreLimits jobs.limits

pub record IsAcceptedRun (run : RunArguments) : Type 0 where
  pub jobs : AreAcceptedJobs run.jobs
  pub some : 1 ≤ run.batch
  pub few : run.batch ≤ MAX_BATCH

pub record IsAcceptedSweep (sweep : SweepArguments) : Type 0 where
  pub jobs : AreAcceptedJobs sweep.jobs
  pub capacities : AllPass (is_from_one MAX_CAPACITY) sweep.capacities

pub record AreAcceptedIntervals (intervals : IntervalsArguments) : Type 0 where
  pub jobs : AreAcceptedJobs intervals.jobs
  pub some : 1 ≤ intervals.every

pub record IsAcceptedPart (part : PartArguments) : Type 0 where
  pub first : IsAcceptedJob part.first
  pub second : IsAcceptedJob part.second
  pub limits : AreLimits part.limits

-- an interval has at least one access, where the accesses are cut into such
pub record IsAcceptedComparison (compare : CompareArguments) : Type 0 where
  pub policies : IsAcceptedPart compare.policies
  pub every : IfSome compare.every (λ every. 1 ≤ every)

pub record IsAcceptedDrive (drive : DriveArguments) : Type 0 where
  pub config : config_fault drive.config ≡ Ok tt
  pub some : 1 ≤ drive.workers
  pub few : drive.workers ≤ MAX_WORKERS

-- each configuration is accepted, and each other number is in its range
abbrev pub AreAccepted : Arguments → Type 0
AreAccepted (Run run) = IsAcceptedRun run
AreAccepted (Sweep sweep) = IsAcceptedSweep sweep
AreAccepted (Intervals intervals) = AreAcceptedIntervals intervals
AreAccepted (Part part) = IsAcceptedPart part
AreAccepted (Compare compare) = IsAcceptedComparison compare
AreAccepted (Footprint footprint) = AreLimits footprint.limits
AreAccepted (Sample sample) = 2 ≤ sample.inverse
AreAccepted (Drive drive) = IsAcceptedDrive drive
AreAccepted (Debug debug) = IsAcceptedPart debug.policies
AreAccepted (Replay replay) = config_fault replay.config ≡ Ok tt

-- whether this is Belady's policy, which has to know the whole trace
abbrev pub is_clairvoyant : Policy → Bool
is_clairvoyant Clairvoyant = true
is_clairvoyant policy = false

abbrev pub is_clairvoyant_job : Job → Bool
is_clairvoyant_job job = is_clairvoyant job.policy

-- a trace within these limits may be too long to be kept
abbrev pub is_long : Limits → Bool
is_long limits = nat_lt MAX_ACCESSES limits.accesses

-- one of the policies is Belady's, over a trace that may be too long to be kept
abbrev pub jobs_need_whole_trace : JobArguments → Bool
jobs_need_whole_trace jobs = is_long jobs.limits && list_any is_clairvoyant_job jobs.list

-- so is one of the two
abbrev pub pair_needs_whole_trace : PartArguments → Bool
pair_needs_whole_trace part =
    is_long part.limits && (is_clairvoyant part.first.policy || is_clairvoyant part.second.policy)

-- the arguments name a policy that has to know the whole trace, over a trace that may be too long to be kept
abbrev pub needs_whole_trace : Arguments → Bool
needs_whole_trace (Run run) = jobs_need_whole_trace run.jobs
needs_whole_trace (Sweep sweep) = jobs_need_whole_trace sweep.jobs
needs_whole_trace (Intervals intervals) = jobs_need_whole_trace intervals.jobs
needs_whole_trace (Part part) = pair_needs_whole_trace part
needs_whole_trace (Compare compare) = pair_needs_whole_trace compare.policies
needs_whole_trace arguments = false

-- an interval has more accesses than the trace may have
abbrev pub has_long_intervals : Arguments → Bool
has_long_intervals (Intervals intervals) = nat_lt intervals.jobs.limits.accesses intervals.every
has_long_intervals (Compare compare) = option_map_or (nat_lt compare.policies.limits.accesses) compare.every false
has_long_intervals arguments = false
