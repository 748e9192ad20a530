use Rattle.segments.proofs.NamedQueues.{distinct-shown}
use Rattle.segments.proofs.segments.Segments.distinct.Goals as goal

pub returns : goal.returns
returns c = distinct-shown _ _ _ c.self.view_is c.self.invariant c.distinct.ensures
