use Rattle.std.proofs.lemmas.Bool.Decides.{nat_tests}
use Rattle.std.proofs.Common.{arith}
use Rattle.segments.proofs.QueueLists.{taken-first}
use Rattle.replacement.proofs.Planned.{left-joined}
use Rattle.replacement.proofs.queue_moves.renew_oldest.Goals as goal

pub returns-clause-lists : goal.returns-clause-lists
returns-clause-lists c = grind (arith, nat_tests, taken-first, left-joined)
