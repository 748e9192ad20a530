use Rattle.std.proofs.Common.{length}
use Rattle.command_line.proofs.choices.+first_rate.Given as goal

abbrev pub decreases-first_rate : goal.decreases-first_rate
decreases-first_rate l = length l.rates.now
