-- What the matches of a subcommand name: the value of each option, and the arguments made of them.
use Rattle.std.specs.Prelude.{◌≡◌, ⊤, ℕ, List, Option, Some, None, Result, Ok, Err, codes, ◌&&◌, nat_le}
use Rattle.std.specs.Prelude.{Bool, false, if◌then◌else◌, is_none, option_and_then, option_map}
use Rattle.std.specs.Int.{is_power_of_two}
use Rattle.std.specs.Option.{option_map_or}
use Rattle.std.specs.Result.{result_ok}
use Rattle.std.specs.Str.{bytes_eq}
use Rattle.clap.specs.Words.{Row, Text, all_of, first_of, one_of}
use Rattle.engine_base.specs.Config.{config_fault}
use Rattle.engine_base.specs.declared.limits.TheConstants.{MAX_STRIPES}
use Rattle.engine_base.specs.declared.config.Spread.{Spread}
use Rattle.trace_read.specs.declared.format.Format.{Format}
use Rattle.command_line.specs.Accepted.{Job, Limits, Tuning, Config, has_long_intervals, needs_whole_trace}
use Rattle.command_line.specs.Options.{OptionName, row_of}
pub use Rattle.command_line.specs.Numbers.{IsIn, in_range, value_named}
unfoldable pub use Rattle.command_line.specs.Numbers.{number_named}
use Rattle.command_line.specs.PolicyWords.{job_named}
use Rattle.command_line.specs.Choices.{all_named, format_named, is_given, limits_named, rate_named, spread_named}
use Rattle.command_line.specs.declared.arguments.Arguments.{Arguments}
use Rattle.command_line.specs.declared.arguments.Arguments.TheVariants as asked
use Rattle.command_line.specs.declared.arguments.JobArguments.{JobArguments}
use Rattle.command_line.specs.declared.arguments.PartArguments.{PartArguments}
use Rattle.command_line.specs.declared.fault.ParseFault.{ParseFault}
use Rattle.command_line.specs.declared.fault.ParseFault.TheVariants.{Incomplete, LongIntervals, Stripes, WholeTrace}
pub use Rattle.command_line.specs.declared.fault.ValueFault.{ValueFault}
use Rattle.command_line.specs.declared.fault.ValueFault.TheVariants as fault
use Rattle.command_line.specs.declared.options.OptionName.TheVariants as option

-- the value that is asked for, and P; an error says that there is none, or that the allocation failed
abbrev pub Answers : {A : Type 0} → Option A → (A → Type 0) → Result A ValueFault → Type 0
Answers asked P (Ok value) = (asked ≡ Some value) × P value
Answers asked P (Err fault.Incomplete) = asked ≡ None
Answers asked P (Err fault.OutOfMemory) = ⊤

abbrev pub AnswersWith : {A : Type 0} → Option A → Result A ValueFault → Type 0
AnswersWith asked result = Answers asked (λ x. ⊤) result

-- ---- the value of an option

-- the number of 64 bits that is given to an option, and the number in its range
abbrev pub wide_number_in : OptionName → List Row → Option ℕ
wide_number_in name rows = option_and_then number_named (one_of (row_of name).id rows)

abbrev pub number_in : OptionName → List Row → Option ℕ
number_in name rows = option_and_then (in_range (row_of name).value) (wide_number_in name rows)

abbrev pub spread_in : List Row → Spread
spread_in rows = spread_named (first_of (row_of option.Spread).id rows)

abbrev pub format_in : List Row → Format
format_in rows = format_named (first_of (row_of option.Format).id rows)

abbrev pub limits_in : List Row → Limits
limits_in rows = limits_named (first_of (row_of option.Long).id rows)

-- whether an option that has no value is given
abbrev pub is_given_in : OptionName → List Row → Bool
is_given_in name rows = is_given (first_of (row_of name).id rows)

-- of how many blocks a sample has one
abbrev pub rate_in : List Row → Option ℕ
rate_in rows = option_and_then rate_named (first_of (row_of option.Rate).id rows)

-- the job of the policy that is given to an option, on this configuration and with this tuning where its word has no size
-- of its own
abbrev pub job_in : OptionName → Config → Tuning → List Row → Option Job
job_in name config tuning rows = option_and_then (job_named config tuning) (first_of (row_of name).id rows)

-- the jobs of the policies that are given to an option, likewise
abbrev pub job_list_in : OptionName → Config → Tuning → List Row → Option (List Job)
job_list_in name config tuning rows =
    option_and_then (all_named (job_named config tuning)) (all_of (row_of name).id rows)

-- the capacities of a sweep
abbrev pub capacities_in : List Row → Option (List ℕ)
capacities_in rows =
    option_and_then (all_named (value_named option.Capacities)) (all_of (row_of option.Capacities).id rows)

-- the number of read buffers, where it is one of a cache: a power of two from 1 to 64
abbrev pub stripes_from : ℕ → Option ℕ
stripes_from n = if is_power_of_two n && nat_le n MAX_STRIPES then Some n else None

-- ---- configurations

-- the configuration, where all its numbers are in their ranges
abbrev pub checked : Config → Option Config
checked config = option_map (λ u. config) (result_ok (config_fault config))

-- the configuration of a cache of this capacity, with these numbers of read buffers and of steps of a journal
unfoldable pub config_at : ℕ → ℕ → ℕ → List Row → Option Config
config_at capacity stripes limit rows = option_and_then (λ main. checked (record {
  capacity = capacity;
  main_percent = main;
  spread = spread_in rows;
  stripes = stripes;
  journal_limit = limit;
})) (number_in option.Main rows)

-- The configuration of a policy: it has no read buffers and no journal, and so one of each.
abbrev pub config_in : List Row → Option Config
config_in rows = option_and_then (λ capacity. config_at capacity 1 1 rows) (number_in option.Capacity rows)

-- the configuration of a concurrent cache
abbrev pub concurrent_in : List Row → Option Config
concurrent_in rows = option_and_then (λ stripes. option_and_then (λ capacity. option_and_then (λ limit.
    config_at capacity stripes limit rows)
    (number_in option.Limit rows)) (number_in option.Capacity rows))
    (option_and_then stripes_from (wide_number_in option.Stripes rows))

-- the tuning of policies
unfoldable pub tuning_in : List Row → Option Tuning
tuning_in rows = option_and_then (λ small. option_and_then (λ kin. option_map (λ kout.
    record { small = small; kin = kin; kout = kout; period = number_in option.Period rows })
    (number_in option.Out rows)) (number_in option.In rows)) (number_in option.Small rows)

-- ---- what a subcommand is asked for; none where its matches are incomplete

-- the jobs of the policies that are given to an option, on this configuration where a policy has no size of its own, and
-- their trace
unfoldable pub jobs_in : OptionName → Config → List Row → Option JobArguments
jobs_in name config rows = option_and_then (λ tuning. option_map (λ list. record {
  list = list;
  format = format_in rows;
  limits = limits_in rows;
}) (job_list_in name config tuning rows)) (tuning_in rows)

unfoldable pub run_in : List Row → Option Arguments
run_in rows = option_and_then (λ config. option_and_then (λ batch. option_map (λ jobs.
    asked.Run (record { jobs = jobs; batch = batch }))
    (jobs_in option.Policies config rows)) (number_in option.Batch rows)) (config_in rows)

-- each capacity replaces the configuration's
unfoldable pub sweep_in : List Row → Option Arguments
sweep_in rows = option_and_then (λ config. option_and_then (λ jobs. option_map (λ capacities.
    asked.Sweep (record { jobs = jobs; capacities = capacities }))
    (capacities_in rows)) (jobs_in option.SweptPolicies config rows)) (config_at 1 1 1 rows)

unfoldable pub intervals_in : List Row → Option Arguments
intervals_in rows = option_and_then (λ config. option_and_then (λ every. option_map (λ jobs.
    asked.Intervals (record { jobs = jobs; every = every; inside = is_given_in option.Inside rows }))
    (jobs_in option.Policies config rows)) (number_in option.Every rows)) (config_in rows)

-- two policies on one configuration with one tuning, where they have no sizes of their own
unfoldable pub part_in : List Row → Option PartArguments
part_in rows = option_and_then (λ config. option_and_then (λ tuning. option_and_then (λ first. option_map (λ second. record {
  first = first;
  second = second;
  format = format_in rows;
  limits = limits_in rows;
}) (job_in option.Second config tuning rows)) (job_in option.First config tuning rows)) (tuning_in rows)) (config_in rows)

-- how long an interval is, where it is given
unfoldable pub compare_in : List Row → Option Arguments
compare_in rows = option_map (λ policies.
    asked.Compare (record { policies = policies; every = number_in option.ComparedEvery rows })) (part_in rows)

unfoldable pub footprint_in : List Row → Arguments
footprint_in rows = asked.Footprint (record { format = format_in rows; limits = limits_in rows })

unfoldable pub sample_in : List Row → Option Arguments
sample_in rows = option_and_then (λ inverse. option_map (λ seed.
    asked.Sample (record { inverse = inverse; seed = seed; format = format_in rows }))
    (wide_number_in option.Seed rows)) (rate_in rows)

unfoldable pub drive_in : List Row → Option Arguments
drive_in rows = option_and_then (λ config. option_map (λ workers.
    asked.Drive (record { config = config; workers = workers; format = format_in rows }))
    (number_in option.Workers rows)) (concurrent_in rows)

unfoldable pub debug_in : List Row → Option Arguments
debug_in rows = option_and_then (λ policies. option_map (λ trace.
    asked.Debug (record { policies = policies; trace = trace }))
    (first_of (row_of option.Trace).id rows)) (part_in rows)

unfoldable pub replay_in : List Row → Option Arguments
replay_in rows = option_and_then (λ config. option_map (λ journal.
    asked.Replay (record { config = config; journal = journal }))
    (first_of (row_of option.Journal).id rows)) (concurrent_in rows)

-- ---- the subcommand that was called

-- what the matches of the subcommand of this name ask for
abbrev pub asked_of : Text → List Row → Option Arguments
asked_of name rows = if bytes_eq name (codes "run") then run_in rows
    else (if bytes_eq name (codes "sweep") then sweep_in rows
    else (if bytes_eq name (codes "intervals") then intervals_in rows
    else (if bytes_eq name (codes "part") then option_map asked.Part (part_in rows)
    else (if bytes_eq name (codes "compare") then compare_in rows
    else (if bytes_eq name (codes "footprint") then Some (footprint_in rows)
    else (if bytes_eq name (codes "sample") then sample_in rows
    else (if bytes_eq name (codes "drive") then drive_in rows
    else (if bytes_eq name (codes "debug") then debug_in rows
    else (if bytes_eq name (codes "replay") then replay_in rows
    else None)))))))))

-- a number of read buffers was given that no cache has
abbrev pub has_wrong_stripes : List Row → Bool
has_wrong_stripes rows = option_map_or (λ n. is_none (stripes_from n)) (wide_number_in option.Stripes rows) false

-- the arguments, where all are there, no policy is named that they give too little to, and no interval is too long
abbrev pub complete : Option Arguments → Result Arguments ParseFault
complete None = Err Incomplete
complete (Some arguments) = if needs_whole_trace arguments then Err WholeTrace
    else (if has_long_intervals arguments then Err LongIntervals else Ok arguments)

-- what is asked for by the subcommand that was called
abbrev pub asked_in : Option (Text × List Row) → Result Arguments ParseFault
asked_in None = Err Incomplete
asked_in (Some (name, rows)) = if has_wrong_stripes rows then Err Stripes else complete (asked_of name rows)
