use Rattle.std.proofs.lemmas.Bool.Decides.{nat_tests}
use Rattle.std.proofs.Common.{arith}
use Rattle.std.proofs.lemmas.Simd.{map-map}
use Rattle.queue_table.proofs.key_queues.KeyQueues.add_keys.Goals as goal

pub returns : goal.returns
returns g c = grind (arith, nat_tests, map-map)
