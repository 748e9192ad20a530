-- Breakpoints: what each asks of a step. (Defined by this project.)
use Rattle.std.specs.Prelude.{ℕ, Bool, false, ◌==◌, ◌||◌, Option, Some, None, List, [], ◌∷◌, if◌then◌else◌}
use Rattle.debug_commands.specs.Names.{command_spelling}
use Rattle.debug_commands.specs.declared.breakpoint.Breakpoint.{Breakpoint}
use Rattle.debug_commands.specs.declared.breakpoint.Breakpoint.TheVariants.{Hit, Evict, Halve, Part, Drop}
use Rattle.debug_commands.specs.declared.breakpoint.StepFacts.{StepFacts}
use Rattle.debug_commands.specs.declared.grammar.Name.TheVariants as name

abbrev pub is_key : Option ℕ → ℕ → Bool
is_key None key = false
is_key (Some other) key = other == key

-- whether a breakpoint holds after a step
abbrev pub holds_after : StepFacts → Breakpoint → Bool
holds_after f (Hit key) = is_key f.hit key
holds_after f (Evict key) = is_key f.evicted key || is_key f.evicted_too key
holds_after f Halve = f.halved
holds_after f Part = f.parted
holds_after f Drop = f.dropped

-- of several that hold, the one that was set first
abbrev pub first_holding : StepFacts → List Breakpoint → Option Breakpoint
first_holding f [] = None
first_holding f (b ∷ bs) = if holds_after f b then Some b else first_holding f bs

-- the word that names it in a command
abbrev pub breakpoint_word : Breakpoint → List ℕ
breakpoint_word (Hit key) = command_spelling name.Hit
breakpoint_word (Evict key) = command_spelling name.Evict
breakpoint_word Halve = command_spelling name.Halve
breakpoint_word Part = command_spelling name.Part
breakpoint_word Drop = command_spelling name.Drop
