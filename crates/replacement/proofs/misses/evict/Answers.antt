use Rattle.std.proofs.lemmas.Bool.Decides.{nat_tests}
use Rattle.std.proofs.Common.{arith, option_map}
use Rattle.replacement.specs.Admission.{admits_in}
use Rattle.replacement.proofs.Carrying.{eviction-undone}
use Rattle.replacement.proofs.Planned.{evicts-first, evictions_planned}
use Rattle.replacement.proofs.misses.evict.Goals as goal

pub returns-clause-outcome : goal.returns-clause-outcome
returns-clause-outcome c = grind (arith, nat_tests, evictions_planned)

pub returns-clause-lists : goal.returns-clause-lists
returns-clause-lists c = grind (arith, nat_tests, evictions_planned)

pub returns-clause-record : goal.returns-clause-record
returns-clause-record c = grind (arith, nat_tests, evicts-first)

pub returns-clause-undoes : goal.returns-clause-undoes
returns-clause-undoes c =
    let admits = admits_in (option_map (λ f. f.now) c.args.frequency) in
    let e = c.evict_planned.ensures.effect in
    rw (e.lists, returns-clause-record c) (eviction-undone c.args.rules.now admits c.args.segments.now.lists c.requires.distinct)
