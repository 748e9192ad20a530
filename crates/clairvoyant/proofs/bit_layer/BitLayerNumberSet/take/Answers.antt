use Rattle.std.proofs.lemmas.Bool.Decides.{nat_tests}
use Rattle.std.proofs.Common.{arith}
use Rattle.std.proofs.lemmas.List.{get_or_read}
use Rattle.engine_base.proofs.OneBit.{bit_taken}
use Rattle.clairvoyant.proofs.bit_layer.BitLayerNumberSet.take.Goals as goal

pub returns-then-left-eq0-clause-takes : goal.returns-then-left-eq0-clause-takes
returns-then-left-eq0-clause-takes g c = grind (arith, nat_tests, bit_taken, get_or_read)

pub returns-else-left-eq0-clause-takes : goal.returns-else-left-eq0-clause-takes
returns-else-left-eq0-clause-takes g c = grind (arith, nat_tests, bit_taken, get_or_read)
