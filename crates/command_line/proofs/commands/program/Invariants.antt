use Rattle.std.proofs.Common.{take}
use Rattle.std.specs.List.{fold}
use Rattle.command_line.specs.Options.{defined_subcommand}
use Rattle.command_line.specs.Program.{IsCommandOf, empty_app, with_row}
use Rattle.command_line.proofs.commands.program.Given as goal

abbrev pub invariant-loop-row : goal.invariant-loop-row
invariant-loop-row l = IsCommandOf (fold (λ app row. with_row l.lists app (defined_subcommand row)) empty_app (take l.row-index l.row-items)) l.command
