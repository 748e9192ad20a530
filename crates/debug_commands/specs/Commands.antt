-- What a line of commands says. (Grammar of this project: the words of a command, and nothing after them.)
use Rattle.std.specs.Prelude.{ℕ, Option, Some, None, List, [], ◌∷◌}
use Rattle.streams.specs.Blanks.{trimmed_text}
use Rattle.streams.specs.Reads.{◌>>=◌, with_rest, Reads, at_end}
use Rattle.streams.specs.Words.{number_at, words_in}
use Rattle.debug_commands.specs.Names.{Name, name_of}
use Rattle.debug_commands.specs.declared.breakpoint.Breakpoint.{Breakpoint}
use Rattle.debug_commands.specs.declared.breakpoint.Breakpoint.TheVariants as point
use Rattle.debug_commands.specs.declared.command.Command.{Command}
use Rattle.debug_commands.specs.declared.command.Command.TheVariants as command
use Rattle.debug_commands.specs.declared.command.View.{View}
use Rattle.debug_commands.specs.declared.command.View.TheVariants as view
pub use Rattle.debug_commands.specs.declared.command.Dialect.{Dialect}
use Rattle.debug_commands.specs.declared.command.Dialect.TheVariants.{Policies, Journal}
use Rattle.debug_commands.specs.declared.command.InputLine.{InputLine}
use Rattle.debug_commands.specs.declared.command.InputLine.TheVariants.{Empty, Unknown, Known}
use Rattle.debug_commands.specs.declared.grammar.Name.TheVariants as name

unfoldable pub command_name_at : Reads Name
command_name_at [] = None
command_name_at (w ∷ ws) = with_rest ws (name_of w)

-- a breakpoint; `part` is of the policies' debugger, `drop` of the journal's
abbrev pub point_named : Dialect → Name → Reads Breakpoint
point_named d name.Hit ws = number_at ws >>= λ k. Some (point.Hit k.0, k.1)
point_named d name.Evict ws = number_at ws >>= λ k. Some (point.Evict k.0, k.1)
point_named d name.Halve ws = Some (point.Halve, ws)
point_named Policies name.Part ws = Some (point.Part, ws)
point_named Journal name.Drop ws = Some (point.Drop, ws)
point_named d _ ws = None

unfoldable pub point_at : Dialect → Reads Breakpoint
point_at d ws = command_name_at ws >>= λ n. point_named d n.0 n.1

-- a view
abbrev pub view_named : Name → Reads View
view_named name.Window ws = Some (view.Window, ws)
view_named name.Queues ws = Some (view.Queues, ws)
view_named name.Last ws = Some (view.Last, ws)
view_named name.Estimate ws = number_at ws >>= λ k. Some (view.Estimate k.0, k.1)
view_named _ ws = None

-- a command; the views and `part` are of the policies' debugger, `save` of the journal's
abbrev pub command_named : Dialect → Name → Reads Command
command_named d name.Step ws = number_at ws >>= λ n. Some (command.Step n.0, n.1)
command_named d name.Back ws = number_at ws >>= λ n. Some (command.Back n.0, n.1)
command_named d name.Goto ws = number_at ws >>= λ n. Some (command.Goto n.0, n.1)
command_named d name.Run ws = Some (command.Run, ws)
command_named d name.Break ws = point_at d ws >>= λ b. Some (command.Break b.0, b.1)
command_named d name.Clear ws = Some (command.Clear, ws)
command_named d name.Show ws = Some (command.Show, ws)
command_named Policies name.Part ws = Some (command.Own, ws)
command_named Journal name.Save ws = Some (command.Own, ws)
command_named d name.Quit ws = Some (command.Quit, ws)
command_named Policies n ws = view_named n ws >>= λ v. Some (command.View v.0, v.1)
command_named Journal n ws = None

unfoldable pub command_at : Dialect → Reads Command
command_at d ws = command_name_at ws >>= λ n. command_named d n.0 n.1

unfoldable pub command_in : Dialect → List (List ℕ) → Option Command
command_in d ws = command_at d ws >>= at_end

abbrev pub known_or : Option Command → InputLine
known_or None = Unknown
known_or (Some c) = Known c

unfoldable pub line_in : Dialect → List (List ℕ) → InputLine
line_in d [] = Empty
line_in d (w ∷ ws) = known_or (command_in d (w ∷ ws))

-- what a line says, without its line feed
abbrev pub command_line_of : Dialect → List ℕ → InputLine
command_line_of d text = line_in d (words_in (trimmed_text text))
