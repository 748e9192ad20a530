use Rattle.engine_base.proofs.OneBit.{bit_set}
use Rattle.engine_base.proofs.bits.set.Goals as goal

pub returns : goal.returns
returns c = bit_set c.args.words.now c.args.at c.requires
