use Rattle.std.proofs.Common.{length}
use Rattle.command_line.proofs.policy_words.+all_sized.Given as goal

abbrev pub decreases-all_sized : goal.decreases-all_sized
decreases-all_sized l = length l.text.now
