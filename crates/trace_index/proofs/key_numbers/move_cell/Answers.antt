use Rattle.std.proofs.Common.{◌∙◌, arith}
use Rattle.trace_index.proofs.key_numbers.move_cell.Goals as goal

pub returns : goal.returns
returns c k = c.in_ok-_before.ensures.updates k ∙ (grind (arith, c.if-number-eq0.false))
