use Rattle.trace_read.proofs.Eights.{eight_is}
use Rattle.trace_read.proofs.digits.value_of_eight.Goals as goal

pub returns : goal.returns
returns c ds long fits is = eight_is ds c.args.word long fits is
