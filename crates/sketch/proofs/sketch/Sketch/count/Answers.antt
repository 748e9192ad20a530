use Rattle.std.proofs.Common.{sym, ◌+◌, ◌*◌, ◌<◌}
use Rattle.sketch.specs.Counters.{counter_at}
use Rattle.engine_base.proofs.Places.{get_or-by_place}
use Rattle.sketch.proofs.Tables.{cell_within}
use Rattle.sketch.proofs.sketch.Sketch.count.Goals as goal

pub returns-clause-value : goal.returns-clause-value
returns-clause-value c =
    let lt : c.args.row * c.self.inside.width + c.args.col < 4 * c.self.inside.width = cell_within c.self.inside.width c.args.row c.args.col c.requires.row (let q = c.requires.col in rw (← c.self.view_is) at q) in
    rw (c.get.ensures.value, ← c.self.view_is) (rw c.deref.ensures.value (sym (get_or-by_place (4 * c.self.inside.width) (counter_at c.self.inside.words.items) (c.args.row * c.self.inside.width + c.args.col) 0 lt)))
