use Rattle.std.proofs.Common.{take}
use Rattle.std.specs.List.{fold}
use Rattle.clap.specs.Words.{new_app}
use Rattle.command_line.specs.Program.{IsCommandOf, with_option}
use Rattle.command_line.proofs.commands.subcommand.Given as goal

abbrev pub invariant-loop-option : goal.invariant-loop-option
invariant-loop-option l = IsCommandOf (fold (with_option l.lists) (new_app l.row.name.now) (take l.option-index l.row.options.now)) l.command
