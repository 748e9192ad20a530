use Rattle.std.proofs.Common.{◌∙◌, sym, arith}
use Rattle.demand_cache.specs.QueueRow.{named_row}
use Rattle.demand_cache.proofs.KeyRows.{row-found, row-passed, row-missed}
use Rattle.demand_cache.proofs.demand_cache.first_row.Goals as goal

pub returns-then-has_key : goal.returns-then-has_key
returns-then-has_key c = λ s h.
    sym (row-found c.args.key c.loop-i.i (named_row c.args.own_number s) c.args.rows.now _ (omega (arith, c.loop-i-test.true))
    (sym (c.has_key.ensures s h) ∙ c.if-has_key.true))
    ∙ c.loop-i.invariant s h

pub loop-i-preserved : goal.loop-i-preserved
loop-i-preserved c = λ s h.
    sym (row-passed c.args.key c.loop-i.i (named_row c.args.own_number s) c.args.rows.now _ (omega (arith, c.loop-i-test.true))
    (sym (c.has_key.ensures s h) ∙ c.if-has_key.false))
    ∙ c.loop-i.invariant s h

pub returns : goal.returns
returns c = λ s h.
    sym (row-missed c.args.key c.loop-i.i (named_row c.args.own_number s) c.args.rows.now (omega (arith, c.loop-i-test.false)))
    ∙ c.loop-i.invariant s h
