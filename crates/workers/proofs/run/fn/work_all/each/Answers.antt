use Rattle.std.proofs.Common.{arith}
use Rattle.std.proofs.lemmas.Grind.{elements}
use Rattle.shell_model.proofs.Engines.{answers_law}
use Rattle.workers.proofs.run.fn.work_all.each.Goals as goal

pub work_in_turns-pass-requires-clause-answers : goal.work_in_turns-pass-requires-clause-answers
work_in_turns-pass-requires-clause-answers g c κs within = answers_law

pub returns : goal.returns
returns g c = grind (arith, elements)
