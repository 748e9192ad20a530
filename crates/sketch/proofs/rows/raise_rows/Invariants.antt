use Rattle.std.proofs.Common.{◌≡◌, ℕ, ◌+◌, ◌*◌, ◌/◌, ◌%◌, ◌<◌, ◌&&◌, eqb, cond, nat_lt, min, length, get_or}
use Rattle.sketch.specs.Counters.{counter_at}
use Rattle.sketch.proofs.rows.raise_rows.Given as goal

abbrev pub invariant-loop-row : goal.invariant-loop-row
invariant-loop-row l =
    ((i : ℕ) → counter_at l.words i ≡ cond (nat_lt (i / l.width) l.row && eqb (get_or l.columns (i / l.width) 0) (i % l.width)) (min 15 (counter_at l.fn.words i + 1)) (counter_at l.fn.words i))
    × ((row : ℕ) → row < l.row → get_or l.were row 0 ≡ counter_at l.fn.words (row * l.width + get_or l.columns row 0))
    × (length l.were ≡ 4)
