use Rattle.std.proofs.lemmas.Bool.Decides.{nat_tests}
use Rattle.std.proofs.Common.{arith}
use Rattle.queue_cache.proofs.Histories.{may-count}
use Rattle.queue_cache.proofs.histogram.Histogram.begin_access.Goals as goal

pub count_noted-requires : goal.count_noted-requires
count_noted-requires c = may-count c.args.keys.now c.args.place c.args.self.now c.requires.few c.requires.counted

pub returns-then-place-eq0 : goal.returns-then-place-eq0
returns-then-place-eq0 c = grind (arith, nat_tests)
