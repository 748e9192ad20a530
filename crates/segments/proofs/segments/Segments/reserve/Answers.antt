use Rattle.std.proofs.Common.{◌∙◌, ap, sym, subst}
use Rattle.segments.specs.Queues.{Shown}
use Rattle.segments.specs.Names.{named, IsNamed}
use Rattle.segments.proofs.segments.Segments.reserve.Goals as goal

pub invariant_of-self : goal.invariant_of-self
invariant_of-self c = subst IsNamed (sym c.reserve.ensures.queues) c.self.invariant

pub returns-clause-lists : goal.returns-clause-lists
returns-clause-lists c = ap named c.reserve.ensures.queues ∙ ap (λ (x : Shown). x.lists) c.self.view_is
