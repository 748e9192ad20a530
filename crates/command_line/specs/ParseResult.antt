-- What a parse of the words after the program's name gives.
use Rattle.std.specs.Prelude.{◌≡◌, ◌≢◌, ⊤, List, [], Result, Err}
use Rattle.clap.specs.Words.{HasKind, Kinds, Text, fault_of, subcommand_of}
use Rattle.command_line.specs.Choices.{WordLists, AreLists}
use Rattle.command_line.specs.Program.{program_app}
use Rattle.command_line.specs.Values.{asked_in}
pub use Rattle.command_line.specs.declared.arguments.Arguments.{Arguments}
pub use Rattle.command_line.specs.declared.fault.ParseFault.{ParseFault}
use Rattle.command_line.specs.declared.fault.ParseFault.TheVariants as fault

-- clap takes the words, and their matches ask for this
pub record AsksFor (words : List Text) (asked : Result Arguments ParseFault) : Type 0 where
  pub lists : WordLists
  pub are : AreLists lists
  pub taken : fault_of (program_app lists) words ≡ []
  pub asks : asked_in (subcommand_of (program_app lists) words) ≡ asked

-- clap's answer to the words is an error with P
pub record IsRefused (words : List Text) (P : Kinds → Type 0) : Type 0 where
  pub lists : WordLists
  pub are : AreLists lists
  pub refused : P (fault_of (program_app lists) words)

-- The arguments are what clap's rules and the rows of options make of the words; a fault comes only where it is due.
abbrev pub ParsedBy : List Text → Result Arguments ParseFault → Type 0
ParsedBy words (Err fault.OutOfMemory) = ⊤
ParsedBy words (Err (fault.Refused error)) = IsRefused words (λ kinds. HasKind kinds error)
ParsedBy words parsed = AsksFor words parsed

-- the matches ask for this, unless memory did not suffice to say so
abbrev pub IsAskedFor : Result Arguments ParseFault → Result Arguments ParseFault → Type 0
IsAskedFor asked (Err fault.OutOfMemory) = asked ≢ Err fault.Stripes
IsAskedFor asked (Err (fault.Refused error)) = ⊥
IsAskedFor asked parsed = parsed ≡ asked
