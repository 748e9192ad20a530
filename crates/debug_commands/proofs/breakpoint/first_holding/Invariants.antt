use Rattle.std.proofs.Common.{◌≡◌, drop}
use Rattle.debug_commands.specs.Breakpoints.{first_holding}
use Rattle.debug_commands.proofs.breakpoint.first_holding.Given as goal

abbrev pub invariant-loop-point : goal.invariant-loop-point
invariant-loop-point l = first_holding l.facts (drop l.point-index l.breaks) ≡ first_holding l.facts l.breaks
