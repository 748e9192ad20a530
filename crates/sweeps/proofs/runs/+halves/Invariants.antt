use Rattle.std.proofs.Common.{◌+◌, ◌-◌, ◌*◌, length}
use Rattle.sweeps.proofs.runs.+halves.Given as goal

abbrev pub decreases-make_each : goal.decreases-make_each
decreases-make_each g l = 4 * length l.runs.now

abbrev pub decreases-make_halves : goal.decreases-make_halves
decreases-make_halves g l = 4 * (length l.front.now + length l.back.now) - 1

abbrev pub decreases-make_halves-one : goal.decreases-make_halves-one
decreases-make_halves-one g l = 4 * length l.front.now + 1

abbrev pub decreases-make_halves-other : goal.decreases-make_halves-other
decreases-make_halves-other g l = 4 * length l.back.now + 1
