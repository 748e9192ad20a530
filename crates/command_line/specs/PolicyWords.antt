-- A policy's word with sizes of its own: `2q:in=50:out=100`.
use Rattle.std.specs.Prelude.{◌≤◌, ◌==◌, ℕ, List, [], ◌∷◌, Option, Some, None, IfSome, find}
use Rattle.std.specs.Prelude.{if◌then◌else◌, is_none, option_and_then, option_map}
use Rattle.std.specs.List.{after_first, before_first, slice_split}
use Rattle.std.specs.Str.{bytes_eq}
use Rattle.clap.specs.Words.{Text}
use Rattle.engine_base.specs.declared.limits.TheConstants.{MAX_GHOST_PERCENT, MAX_MAIN_PERCENT, MAX_PART_PERCENT}
use Rattle.step_record.specs.Job.{job_with}
use Rattle.step_record.specs.Sizes.{no_sizes}
pub use Rattle.step_record.specs.declared.sizes.Sizes.{Sizes}
use Rattle.step_record.specs.declared.job.Policy.TheVariants.{WindowTinyLfu, S3Fifo, TwoQ, Caffeine}
use Rattle.command_line.specs.Accepted.{Config, Job, Policy, Tuning}
use Rattle.command_line.specs.Choices.{policy_named}
use Rattle.command_line.specs.Numbers.{value_named}
use Rattle.command_line.specs.Options.{OptionName, row_of}
use Rattle.command_line.specs.declared.options.OptionName.TheVariants.{Main, Period, In, Out, Small}

-- the parts of a text between colons (58)
abbrev pub part_list : Text → List Text
part_list = slice_split (λ b. b == 58)

-- the sizes that a policy has, each by the option whose value it is otherwise
abbrev pub size_list : Policy → List OptionName
size_list WindowTinyLfu = Main ∷ []
size_list Caffeine = Main ∷ Period ∷ []
size_list TwoQ = In ∷ Out ∷ []
size_list S3Fifo = Small ∷ []
size_list policy = []

-- the size of this name among these
abbrev pub size_named : List OptionName → Text → Option OptionName
size_named sizes name = find (λ size. bytes_eq (row_of size).id name) sizes

-- the sizes with one more, which was not given before
abbrev pub with_size : OptionName → ℕ → Sizes → Option Sizes
with_size Main n sizes = if is_none sizes.main then Some (record sizes { main = Some n }) else None
with_size Period n sizes = if is_none sizes.period then Some (record sizes { period = Some n }) else None
with_size In n sizes = if is_none sizes.kin then Some (record sizes { kin = Some n }) else None
with_size Out n sizes = if is_none sizes.kout then Some (record sizes { kout = Some n }) else None
with_size Small n sizes = if is_none sizes.small then Some (record sizes { small = Some n }) else None
with_size other n sizes = None

-- the sizes with the one that a text gives the policy, as `in=50`: the name before the first `=` (61), a value of the
-- option of that name behind it
unfoldable pub sized : Policy → Text → Sizes → Option Sizes
sized policy text sizes = option_and_then (λ size. option_and_then (λ n. with_size size n sizes)
    (value_named size (after_first (λ b. b == 61) text)))
    (size_named (size_list policy) (before_first (λ b. b == 61) text))

-- the same of one text after another
abbrev pub all_sized : Policy → List Text → Sizes → Option Sizes
all_sized policy [] sizes = Some sizes
all_sized policy (text ∷ texts) sizes = option_and_then (all_sized policy texts) (sized policy text sizes)

-- the job of the policy that the first part names, with the sizes that the others give it, on this configuration and with
-- this tuning where they give none
abbrev pub job_of_parts : Config → Tuning → List Text → Option Job
job_of_parts config tuning [] = None
job_of_parts config tuning (word ∷ texts) = option_and_then (λ policy.
    option_map (λ sizes. job_with policy sizes config tuning) (all_sized policy texts no_sizes)) (policy_named word)

-- the job that a word asks for
abbrev pub job_named : Config → Tuning → Text → Option Job
job_named config tuning word = job_of_parts config tuning (part_list word)

-- each size that is given is in the range of its option
pub record AreInRange (sizes : Sizes) : Type 0 where
  pub main : IfSome sizes.main (λ n. n ≤ MAX_MAIN_PERCENT)
  pub period : IfSome sizes.period (λ n. 1 ≤ n)
  pub kin : IfSome sizes.kin (λ n. (1 ≤ n) × (n ≤ MAX_PART_PERCENT))
  pub kout : IfSome sizes.kout (λ n. (1 ≤ n) × (n ≤ MAX_GHOST_PERCENT))
  pub small : IfSome sizes.small (λ n. (1 ≤ n) × (n ≤ MAX_PART_PERCENT))
