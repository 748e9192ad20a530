-- The program's commands, as clap reads them, made of the rows of options and subcommands.
use Rattle.std.specs.Prelude.{◌≡◌, pos, Bool, true, false, [], ◌∷◌, Option, Some, None, codes}
use Rattle.std.specs.List.{fold}
use Rattle.clap.specs.Lexer.{usize_max}
use Rattle.clap.specs.Words.{App, Rule, Text, app_of, new_app, new_rule, with_rule, with_subcommand}
use Rattle.clap.specs.declared.builder.ArgAction.TheVariants.{Append, SetTrue}
use Rattle.clap.specs.declared.builder.ValueParser.{ValueParser}
use Rattle.clap.specs.declared.builder.ValueParser.TheVariants as parser
use Rattle.clap.specs.declared.builder.command.Command.{Command}
use Rattle.clap.specs.declared.builder.command.Command.TheViews.{out-Command}
use Rattle.command_line.specs.Options.{Place, OptionName, OptionDefinition, SubcommandDefinition, row_of, subcommands}
use Rattle.command_line.specs.declared.choices.WordLists.{WordLists}
use Rattle.command_line.specs.declared.options.Place.TheVariants.{Named, NamedOften, Optional, Positional, Switch}
use Rattle.command_line.specs.declared.options.ValueKind.{ValueKind}
use Rattle.command_line.specs.declared.options.ValueKind.TheVariants.{AnyNumber, File, Flag, Format, Number, Policy}
use Rattle.command_line.specs.declared.options.ValueKind.TheVariants.{Rate, Spread}

-- what clap takes as a value
abbrev pub parser_of : WordLists → ValueKind → ValueParser
parser_of lists (Number least most) = parser.Signed (pos least) (pos most)
parser_of lists AnyNumber = parser.Unsigned 0 18446744073709551615
parser_of lists Policy = parser.String
parser_of lists Format = parser.Names lists.formats
parser_of lists Spread = parser.Names lists.spreads
parser_of lists Rate = parser.Names lists.rates
parser_of lists File = parser.String
parser_of lists Flag = parser.Bool

-- how values are given to the option of this name
abbrev pub with_place : Place → Text → Rule → Rule
with_place Named id rule = record rule { long = Some id }
with_place Optional id rule = record rule { long = Some id }
with_place NamedOften id rule = record rule { long = Some id; action = Some Append }
with_place Switch id rule = record rule { long = Some id; action = Some SetTrue }
with_place Positional id rule = record rule {
  range = Some (record { start_inclusive = 1; end_inclusive = usize_max });
  action = Some Append;
}

abbrev pub is_required : Place → Bool
is_required Optional = false
is_required Switch = false
is_required _ = true

-- an option with no default is required, unless its place says otherwise
abbrev pub with_default : Place → Option Text → Rule → Rule
with_default place None rule = record rule { required = is_required place }
with_default place (Some word) rule = record rule { defaults = word ∷ [] }

-- the option as clap reads it
abbrev pub rule_of_row : WordLists → OptionDefinition → Rule
rule_of_row lists row = with_default row.place row.default (record (with_place row.place row.id (new_rule row.id)) {
  parser = Some (parser_of lists row.value);
  value_names = 1;
})

abbrev pub with_option : WordLists → App → OptionName → App
with_option lists app name = with_rule app (rule_of_row lists (row_of name))

abbrev pub app_of_subcommand : WordLists → SubcommandDefinition → App
app_of_subcommand lists subcommand = fold (with_option lists) (new_app subcommand.name) subcommand.options

abbrev pub with_row : WordLists → App → SubcommandDefinition → App
with_row lists app subcommand = with_subcommand app (app_of_subcommand lists subcommand).top

-- `cachesim`, which has a version, wants a subcommand, and is handed the words after its name
abbrev pub empty_app : App
empty_app = record (new_app (codes "cachesim")) {
  top = record (new_app (codes "cachesim")).top {
    no_binary_name = true;
    has_version = true;
    subcommand_required = true;
  };
}

abbrev pub program_app : WordLists → App
program_app lists = fold (with_row lists) empty_app subcommands

-- the command is this one, and none of its arguments is one for its subcommands too
abbrev pub IsCommandOf : App → Command → Type 0
IsCommandOf app c = (app_of c ≡ app) × ((out-Command c).has_globals ≡ false)
