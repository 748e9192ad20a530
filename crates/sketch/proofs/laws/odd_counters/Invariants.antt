use Rattle.std.proofs.Common.{◌≡◌, ◌*◌, count_by}
use Rattle.engine_base.specs.Places.{by_place}
use Rattle.sketch.specs.Counters.{counter_at}
use Rattle.sketch.specs.Sketch.{is_odd}
use Rattle.sketch.proofs.laws.odd_counters.Given as goal

abbrev pub invariant-loop-i : goal.invariant-loop-i
invariant-loop-i l = l.odd ≡ count_by is_odd (by_place (16 * l.i) (counter_at l.words))
