use Rattle.std.proofs.Common.{length}
use Rattle.command_line.proofs.policy_words.+size_named.Given as goal

abbrev pub decreases-size_named : goal.decreases-size_named
decreases-size_named l = length l.sizes.now
