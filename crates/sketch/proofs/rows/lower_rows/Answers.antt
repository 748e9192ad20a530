use Rattle.std.proofs.lemmas.Bool.Decides.{nat_tests}
use Rattle.std.proofs.lemmas.Grind.{common_steps, elements}
use Rattle.std.proofs.Common.{ℕ, ◌-◌, ◌<◌, cond, arith}
use Rattle.sketch.specs.Counters.{counter_at}
use Rattle.sketch.specs.TouchRecord.{rose}
use Rattle.sketch.specs.Columns.{column, column_below}
use Rattle.sketch.proofs.RowLists.{row_more, row_same}
use Rattle.sketch.proofs.rows.lower_rows.Goals as goal

pub lower-requires-clause-some : goal.lower-requires-clause-some
lower-requires-clause-some c = grind (arith, nat_tests, row_same)

pub loop-row-preserved : goal.loop-row-preserved
loop-row-preserved c =
    let cols : ℕ → ℕ = λ row. column c.args.spread c.args.done.now.key row c.args.width in
    let down : ℕ → ℕ → ℕ = λ row x. cond (rose c.args.done.now row) (x - 1) x in
    let below : cols c.loop-row.row < c.args.width = column_below c.args.spread c.args.done.now.key c.loop-row.row c.args.width c.requires.low in
    let same = rw c.column.ensures.value at c.lower.ensures.same in
    let here = rw (c.column.ensures.value, c.rose_in-rose.ensures) at c.lower.ensures.here in
    row_more c.args.width cols down (counter_at c.args.words.now) (counter_at c.loop-row.words) (counter_at c.lower.new.words) c.loop-row.row below c.loop-row.invariant same here

pub lower-requires-clause-within : goal.lower-requires-clause-within
lower-requires-clause-within c = grind (arith, common_steps)

pub overflow_add-at : goal.overflow_add-at
overflow_add-at c = grind (arith, common_steps)

pub overflow_mul-at : goal.overflow_mul-at
overflow_mul-at c = grind (arith, common_steps)

pub returns : goal.returns
returns c = grind (arith, elements)
