use Rattle.std.proofs.lemmas.Bool.Decides.{nat_tests}
use Rattle.std.proofs.Common.{arith}
use Rattle.queue_cache.proofs.Reached.{counting-weighs}
use Rattle.queue_cache.proofs.queue_cache.QueueCacheEngine.apply.Goals as goal

pub returns-clause-words : goal.returns-clause-words
returns-clause-words g c = counting-weighs c.in-Ok.counting c.record_in.new.frequency c.in-Ok.ensures.fits

pub returns-clause-record_is : goal.returns-clause-record_is
returns-clause-record_is g c = grind (arith, nat_tests)
