use Rattle.segments.proofs.NamedQueues.{newest-shown}
use Rattle.segments.proofs.segments.Segments.newest.Goals as goal

pub returns : goal.returns
returns c = newest-shown _ _ _ c.self.view_is c.self.invariant c.args.queue _ _ c.number.ensures.number c.in_ok-newest.ensures.last
