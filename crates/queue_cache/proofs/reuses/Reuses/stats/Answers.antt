use Rattle.std.proofs.lemmas.Bool.Decides.{nat_tests}
use Rattle.std.proofs.Common.{arith}
use Rattle.queue_cache.proofs.Windows.{window-room, window-stats}
use Rattle.queue_cache.proofs.reuses.Reuses.stats.Goals as goal

pub stats_by-requires : goal.stats_by-requires
stats_by-requires c = grind (arith, nat_tests, window-room)

pub returns : goal.returns
returns c = grind (arith, nat_tests, window-stats)
