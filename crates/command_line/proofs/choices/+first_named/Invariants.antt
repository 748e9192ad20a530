use Rattle.std.proofs.Common.{length}
use Rattle.command_line.proofs.choices.+first_named.Given as goal

abbrev pub decreases-first_named : goal.decreases-first_named
decreases-first_named l = length l.policies.now
