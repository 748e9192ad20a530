use Rattle.std.proofs.Common.{arith, sym, ◌∙◌}
use Rattle.streams.proofs.Trims.{back_none, back_step, back_stop}
use Rattle.streams.proofs.blanks.trimmed_back.Goals as goal
use Rattle.streams.proofs.blanks.trimmed_back.Goals.{else-back-test, then-back-test+then-not-is_blank_byte}

pub back-preserved : goal.back-preserved
back-preserved c = (omega arith, back_step c.args.text.now c.back.end (omega arith) (omega arith) (sym c.is_blank_byte.ensures ∙ c.if-not-is_blank_byte.false) c.back.invariant.1)

pub returns : goal.returns
returns c = elim c.back-test.branch [
  | else-back-test w ↦ back_none c.args.text.now c.back.end w.back-test.false c.back.invariant.1
  | then-back-test+then-not-is_blank_byte w ↦ back_stop c.args.text.now c.back.end (omega arith) (omega arith) (sym w.is_blank_byte.ensures ∙ w.if-not-is_blank_byte.true) c.back.invariant.1
]
