use Rattle.sketch.proofs.Halves.{table_is}
use Rattle.sketch.proofs.Undoing.{least_small}
use Rattle.sketch.proofs.sketch.Sketch.least.Goals as goal

pub returns-in-Some-clause-small : goal.returns-in-Some-clause-small
returns-in-Some-clause-small c =
    let kept = rw c.in-Some.is at c.self.invariant.5 in
    rw kept (least_small _ (table_is c.self.inside.width c.self.inside.spread c.self.inside.words.items c.self.invariant.0 c.self.invariant.3) c.self.inside.last)
