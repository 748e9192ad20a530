use Rattle.std.proofs.lemmas.Bool.Decides.{nat_tests}
use Rattle.std.proofs.Common.{arith}
use Rattle.engine_base.proofs.Places.{length-by_place}
use Rattle.engine_base.proofs.bit_list.BitList.words.Goals as goal

pub returns-clause-words : goal.returns-clause-words
returns-clause-words c = grind (arith, nat_tests, length-by_place)
