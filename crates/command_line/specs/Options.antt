-- The rows of options and subcommands.
use Rattle.std.specs.Prelude.{List, [], ◌∷◌, Option, Some, None, codes, option_map}
use Rattle.clap.specs.Words.{Text}
use Rattle.engine_base.specs.declared.limits.TheConstants.{MAX_BATCH, MAX_CAPACITY, MAX_JOURNAL_LIMIT}
use Rattle.engine_base.specs.declared.limits.TheConstants.{MAX_GHOST_PERCENT, MAX_MAIN_PERCENT, MAX_PART_PERCENT}
use Rattle.engine_base.specs.declared.worker.TheConstants.{MAX_WORKERS}
pub use Rattle.command_line.specs.declared.options.OptionName.{OptionName}
use Rattle.command_line.specs.declared.options.OptionName.TheVariants.{Batch, Capacities, Capacity, ComparedEvery}
use Rattle.command_line.specs.declared.options.OptionName.TheVariants.{Every, First, In, Inside, Out, Period, Small}
use Rattle.command_line.specs.declared.options.OptionName.TheVariants.{Format, Journal, Limit, Long, Main, Policies, Second}
use Rattle.command_line.specs.declared.options.OptionName.TheVariants.{Rate, Seed, Spread, Stripes, SweptPolicies, Trace}
use Rattle.command_line.specs.declared.options.OptionName.TheVariants.{Workers}
use Rattle.command_line.specs.declared.options.OptionRow.{OptionRow}
pub use Rattle.command_line.specs.declared.options.Place.{Place}
use Rattle.command_line.specs.declared.options.Place.TheVariants.{Named, NamedOften, Optional, Positional, Switch}
use Rattle.command_line.specs.declared.options.Subcommand.{Subcommand}
pub use Rattle.command_line.specs.declared.options.ValueKind.{ValueKind}
use Rattle.command_line.specs.declared.options.ValueKind.TheVariants as kind

-- An option: its name, what its values are, how they are given, and its default. With no default it is required,
-- unless it may be given once or not at all.
pub record OptionDefinition : Type 0 where
  pub id : Text
  pub value : ValueKind
  pub place : Place
  pub default : Option Text

abbrev pub row : Text → ValueKind → Place → Option Text → OptionDefinition
row id value place default = record { id = id; value = value; place = place; default = default }

-- what a row of the program says
abbrev pub defined : OptionRow → OptionDefinition
defined given = row given.id.now given.value given.place (option_map (λ s. s.now) given.default)

-- the definition of each option
abbrev pub row_of : OptionName → OptionDefinition
row_of Capacity = row (codes "capacity") (kind.Number 1 MAX_CAPACITY) Named None
row_of Capacities = row (codes "capacities") (kind.Number 1 MAX_CAPACITY) Positional None
row_of Main = row (codes "main") (kind.Number 0 MAX_MAIN_PERCENT) Named (Some (codes "99"))
row_of Small = row (codes "small") (kind.Number 1 MAX_PART_PERCENT) Named (Some (codes "10"))
row_of In = row (codes "in") (kind.Number 1 MAX_PART_PERCENT) Named (Some (codes "25"))
row_of Out = row (codes "out") (kind.Number 1 MAX_GHOST_PERCENT) Named (Some (codes "50"))
row_of Period = row (codes "period") (kind.Number 1 4294967295) Optional None
row_of Spread = row (codes "spread") kind.Spread Named (Some (codes "mixed"))
row_of Format = row (codes "format") kind.Format Named (Some (codes "lirs"))
row_of Long = row (codes "long") kind.Flag Switch None
row_of Batch = row (codes "batch") (kind.Number 1 MAX_BATCH) Named (Some (codes "1024"))
row_of Every = row (codes "every") (kind.Number 1 4294967295) Named None
row_of ComparedEvery = row (codes "every") (kind.Number 1 4294967295) Optional None
row_of Inside = row (codes "inside") kind.Flag Switch None
row_of Policies = row (codes "policy") kind.Policy Positional None
row_of SweptPolicies = row (codes "policy") kind.Policy NamedOften None
row_of First = row (codes "first") kind.Policy Named None
row_of Second = row (codes "second") kind.Policy Named None
row_of Workers = row (codes "workers") (kind.Number 1 MAX_WORKERS) Named (Some (codes "2"))
row_of Stripes = row (codes "stripes") kind.AnyNumber Named (Some (codes "4"))
row_of Limit = row (codes "limit") (kind.Number 1 MAX_JOURNAL_LIMIT) Named (Some (codes "1048576"))
row_of Trace = row (codes "trace") kind.File Named None
row_of Journal = row (codes "journal") kind.File Named None
row_of Rate = row (codes "rate") kind.Rate Named None
row_of Seed = row (codes "seed") kind.AnyNumber Named (Some (codes "1"))

-- a subcommand: its name, and its options in the order in which help lists them
pub record SubcommandDefinition : Type 0 where
  pub name : Text
  pub options : List OptionName

abbrev pub named : Text → List OptionName → SubcommandDefinition
named name options = record { name = name; options = options }

abbrev pub defined_subcommand : Subcommand → SubcommandDefinition
defined_subcommand given = named given.name.now given.options.now

abbrev pub subcommands : List SubcommandDefinition
subcommands =
    named (codes "run") (Capacity ∷ Main ∷ Small ∷ In ∷ Out ∷ Period ∷ Spread ∷ Format ∷ Long ∷ Batch ∷ Policies ∷ [])
    ∷ named (codes "sweep") (Main ∷ Small ∷ In ∷ Out ∷ Period ∷ Spread ∷ Format ∷ Long ∷ SweptPolicies ∷ Capacities ∷ [])
    ∷ named (codes "intervals")
    (Capacity ∷ Every ∷ Inside ∷ Main ∷ Small ∷ In ∷ Out ∷ Period ∷ Spread ∷ Format ∷ Long ∷ Policies ∷ [])
    ∷ named (codes "part") (Capacity ∷ Main ∷ Small ∷ In ∷ Out ∷ Period ∷ Spread ∷ Format ∷ Long ∷ First ∷ Second ∷ [])
    ∷ named (codes "compare")
    (Capacity ∷ ComparedEvery ∷ Main ∷ Small ∷ In ∷ Out ∷ Period ∷ Spread ∷ Format ∷ Long ∷ First ∷ Second ∷ [])
    ∷ named (codes "footprint") (Format ∷ Long ∷ [])
    ∷ named (codes "sample") (Rate ∷ Seed ∷ Format ∷ [])
    ∷ named (codes "drive") (Capacity ∷ Main ∷ Small ∷ In ∷ Out ∷ Period ∷ Spread ∷ Format ∷ Workers ∷ Stripes ∷ Limit ∷ [])
    ∷ named (codes "debug") (Capacity ∷ Main ∷ Small ∷ In ∷ Out ∷ Period ∷ Spread ∷ Format ∷ First ∷ Second ∷ Trace ∷ [])
    ∷ named (codes "replay") (Capacity ∷ Main ∷ Small ∷ In ∷ Out ∷ Period ∷ Spread ∷ Journal ∷ Stripes ∷ Limit ∷ [])
    ∷ []
