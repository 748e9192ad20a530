use Rattle.std.proofs.Common.{◌≡◌, ℕ, ◌-◌, ◌/◌, ◌&&◌, cond, nat_lt}
use Rattle.sketch.specs.Counters.{counter_at}
use Rattle.sketch.specs.Sketch.{is_of}
use Rattle.sketch.specs.TouchRecord.{rose}
use Rattle.sketch.proofs.rows.lower_rows.Given as goal

abbrev pub invariant-loop-row : goal.invariant-loop-row
invariant-loop-row l =
    (i : ℕ) → counter_at l.words i ≡ cond (nat_lt (i / l.width) l.row && is_of l.spread l.width l.done.key i) (cond (rose l.done (i / l.width)) (counter_at l.fn.words i - 1) (counter_at l.fn.words i)) (counter_at l.fn.words i)
