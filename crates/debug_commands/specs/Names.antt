-- The words of a command that are no numbers.
use Rattle.std.specs.Prelude.{ℕ, List, [], ◌∷◌, Option, codes}
pub use Rattle.debug_commands.specs.declared.grammar.Name.{Name}
use Rattle.debug_commands.specs.declared.grammar.Name.TheVariants.{Step, Back, Goto, Run, Break, Clear, Show}
use Rattle.debug_commands.specs.declared.grammar.Name.TheVariants.{Window, Queues, Last, Estimate, Part, Save}
use Rattle.debug_commands.specs.declared.grammar.Name.TheVariants.{Quit, Hit, Evict, Halve, Drop}
use Rattle.debug_commands.specs.declared.grammar.TheConstants.{NAMES}
use Rattle.streams.specs.Reads.{first_named}

abbrev pub command_spelling : Name → List ℕ
command_spelling Step = codes "step"
command_spelling Back = codes "back"
command_spelling Goto = codes "goto"
command_spelling Run = codes "run"
command_spelling Break = codes "break"
command_spelling Clear = codes "clear"
command_spelling Show = codes "show"
command_spelling Window = codes "window"
command_spelling Queues = codes "queues"
command_spelling Last = codes "last"
command_spelling Estimate = codes "estimate"
command_spelling Part = codes "part"
command_spelling Save = codes "save"
command_spelling Quit = codes "quit"
command_spelling Hit = codes "hit"
command_spelling Evict = codes "evict"
command_spelling Halve = codes "halve"
command_spelling Drop = codes "drop"

-- all of them: the code's list is this one
abbrev pub command_names : List Name
command_names =
    Step ∷ Back ∷ Goto ∷ Run ∷ Break ∷ Clear ∷ Show ∷ Window ∷ Queues ∷ Last ∷ Estimate ∷ Part ∷ Save ∷ Quit ∷ Hit ∷ Evict
    ∷ Halve ∷ Drop ∷ []

-- the name that is spelled so
unfoldable pub name_of : List ℕ → Option Name
name_of word = first_named command_spelling NAMES word
