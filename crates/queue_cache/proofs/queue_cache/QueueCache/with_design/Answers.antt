use Rattle.std.proofs.lemmas.Bool.Decides.{nat_tests}
use Rattle.std.proofs.Common.{arith, rules}
use Rattle.queue_cache.proofs.Reached.{first-stands, first-running}
use Rattle.queue_cache.proofs.queue_cache.QueueCache.with_design.Goals as goal

pub returns-clause-stands : goal.returns-clause-stands
returns-clause-stands g c = grind (arith, nat_tests, first-stands)

pub invariant_of-result : goal.invariant_of-result
invariant_of-result g c = record { rules = search rules; running = first-running record { design = c.args.design; config = c.args.config.now } _ c.requires c.in_ok-frequency.ensures }
