use Rattle.std.proofs.lemmas.Bool.Decides.{nat_tests}
use Rattle.std.proofs.lemmas.Grind.{common_steps}
use Rattle.std.proofs.Common.{arith}
use Rattle.std.proofs.Math.ListN.{length-set}
use Rattle.std.proofs.lemmas.Bool.{ne_eqb}
use Rattle.std.proofs.lemmas.List.{get_or_read}
use Rattle.clairvoyant.proofs.Words.{set-some}
use Rattle.engine_base.proofs.OneBit.{bit_put}
use Rattle.clairvoyant.proofs.bit_layer.BitLayerNumberSet.put.Goals as goal

pub invariant_of-self-else-old-eq0 : goal.invariant_of-self-else-old-eq0
invariant_of-self-else-old-eq0 g c = grind (arith, common_steps, get_or_read, ne_eqb, set-some, length-set)

pub returns-then-old-eq0-clause-puts : goal.returns-then-old-eq0-clause-puts
returns-then-old-eq0-clause-puts g c = grind (arith, nat_tests, bit_put, get_or_read)

pub returns-else-old-eq0-clause-puts : goal.returns-else-old-eq0-clause-puts
returns-else-old-eq0-clause-puts g c = grind (arith, nat_tests, bit_put, get_or_read)
