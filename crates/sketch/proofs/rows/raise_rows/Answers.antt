use Rattle.std.proofs.lemmas.Grind.{elements}
use Rattle.std.proofs.Common.{ℕ, ◌+◌, ◌*◌, ◌<◌, min, get_or, length, arith, ◌∙◌, below_more, get_or-set_same, get_or-set_other, ◌≢◌, length-set}
use Rattle.std.proofs.lemmas.List.FromFn.{fill_by_all}
use Rattle.sketch.specs.Counters.{counter_at}
use Rattle.sketch.proofs.RowLists.{row_more, row_same}
use Rattle.sketch.proofs.rows.raise_rows.Goals as goal

pub loop-row-preserved : goal.loop-row-preserved
loop-row-preserved c =
    let cols : ℕ → ℕ = λ row. get_or c.args.columns row 0 in
    let up : ℕ → ℕ → ℕ = λ row x. min 15 (x + 1) in
    let below : cols c.loop-row.row < c.args.width = c.requires.below c.loop-row.row c.loop-row-test.true in
    let same = c.raise.ensures.same in
    let here = c.raise.ensures.here in
    let was = c.raise.ensures.was in
    let old = row_same c.args.width cols up (counter_at c.args.words.now) (counter_at c.loop-row.words) (counter_at c.raise.new.words) c.loop-row.row below c.loop-row.invariant.0 in (
      row_more c.args.width cols up (counter_at c.args.words.now) (counter_at c.loop-row.words) (counter_at c.raise.new.words) c.loop-row.row below c.loop-row.invariant.0 same here,
      below_more _ _
          (λ row h. let ne : row ≢ c.loop-row.row = omega arith in rw get_or-set_other (c.loop-row.invariant.1 row h))
          (let lt : c.loop-row.row < length c.loop-row.were = omega (arith, c.loop-row.invariant.2) in rw get_or-set_same (was ∙ old)),
      length-set c.loop-row.were c.loop-row.row c.raise.result ∙ c.loop-row.invariant.2,
    )

pub returns-clause-were : goal.returns-clause-were
returns-clause-were c =
    fill_by_all (λ row. counter_at c.args.words.now (row * c.args.width + get_or c.args.columns row 0)) c.loop-row.were 4 0 c.loop-row.invariant.2
    (λ row h. c.loop-row.invariant.1 row (omega (arith, c.loop-row-test.false)))

pub returns-clause-counters : goal.returns-clause-counters
returns-clause-counters c = grind (arith, elements)
