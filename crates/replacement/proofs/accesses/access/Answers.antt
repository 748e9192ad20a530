use Rattle.std.proofs.lemmas.Bool.Decides.{nat_tests}
use Rattle.std.proofs.Common.{arith, option_map}
use Rattle.replacement.specs.Admission.{admits_in}
use Rattle.replacement.proofs.Carrying.{access-undone}
use Rattle.replacement.proofs.Planned.{accesses_planned}
use Rattle.replacement.proofs.accesses.access.Goals as goal

pub returns-clause-outcome : goal.returns-clause-outcome
returns-clause-outcome g c = grind (arith, nat_tests, accesses_planned)

pub returns-clause-lists : goal.returns-clause-lists
returns-clause-lists g c = grind (arith, nat_tests, accesses_planned)

pub returns-clause-undoes : goal.returns-clause-undoes
returns-clause-undoes g c =
    let e = c.access_planned.ensures.effect in
    rw (e.lists, e.moves) (access-undone c.args.rules.now (admits_in (option_map (λ f. f.now) c.args.frequency)) c.args.item c.args.segments.now.lists c.access_planned.ensures.distinct)
