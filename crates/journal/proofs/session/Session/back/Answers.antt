use Rattle.std.proofs.Common.{arith}
use Rattle.std.proofs.lemmas.Grind.{common_steps}
use Rattle.journal.proofs.session.Session.back.Goals as goal

pub loop-undone-init : goal.loop-undone-init
loop-undone-init g c = grind (arith, common_steps)

pub loop-undone-preserved : goal.loop-undone-preserved
loop-undone-preserved g c = grind (arith, common_steps)
