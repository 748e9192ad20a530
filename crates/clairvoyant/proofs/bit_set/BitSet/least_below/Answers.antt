use Rattle.std.proofs.Common.{◌∙◌, arith}
use Rattle.clairvoyant.proofs.Shown.{shown_below}
use Rattle.clairvoyant.proofs.bit_set.BitSet.least_below.Goals as goal

pub returns-then-least-bound : goal.returns-then-least-bound
returns-then-least-bound c = (
  c.if-least-bound.true,
  shown_below _ _ _ _ c.self.view_is (omega arith) ∙ c.in-Some.ensures.1,
  λ q lt. shown_below _ _ _ _ c.self.view_is (omega arith) ∙ c.in-Some.ensures.2 q lt,
)

pub returns-else-least-bound : goal.returns-else-least-bound
returns-else-least-bound c = λ q lt. shown_below _ _ _ _ c.self.view_is (omega arith) ∙ c.in-Some.ensures.2 q (omega arith)
