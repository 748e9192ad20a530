use Rattle.engine_base.proofs.OneBit.{bit_cleared}
use Rattle.engine_base.proofs.bits.clear.Goals as goal

pub returns-then-was : goal.returns-then-was
returns-then-was c = λ i. rw c.if-was.true (bit_cleared c.args.words.now c.args.at c.requires i)
