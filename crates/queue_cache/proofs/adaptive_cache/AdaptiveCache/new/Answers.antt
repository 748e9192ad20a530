use Rattle.std.proofs.lemmas.Bool.Decides.{nat_tests}
use Rattle.std.proofs.Common.{refl, arith}
use Rattle.queue_cache.proofs.adaptive_cache.AdaptiveCache.new.Goals as goal

pub open_frequency_without_doorkeeper-requires-clause-power :
    goal.open_frequency_without_doorkeeper-requires-clause-power
open_frequency_without_doorkeeper-requires-clause-power c = (2, refl)

pub invariant_of-result : goal.invariant_of-result
invariant_of-result c = grind (arith, nat_tests)
