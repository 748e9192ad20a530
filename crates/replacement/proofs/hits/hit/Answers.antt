use Rattle.std.proofs.lemmas.Bool.Decides.{nat_tests}
use Rattle.std.proofs.Common.{arith}
use Rattle.replacement.proofs.Carrying.{hit-undone}
use Rattle.replacement.proofs.hits.hit.Goals as goal

pub returns-clause-record : goal.returns-clause-record
returns-clause-record c = grind (arith, nat_tests)

pub returns-clause-undoes : goal.returns-clause-undoes
returns-clause-undoes c = hit-undone c.args.size c.args.item c.args.segments.now.lists _ _ c.refresh.ensures.distinct (returns-clause-record c)
