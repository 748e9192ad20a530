use Rattle.std.proofs.lemmas.Bool.Decides.{nat_tests}
use Rattle.std.proofs.Common.{refl, arith}
use Rattle.queue_cache.proofs.Bits.{found, none-found}
use Rattle.queue_cache.proofs.window.first_clear.Goals as goal
use Rattle.std.proofs.lemmas.List.{get_or_past}
use Rattle.std.proofs.lemmas.Nat.Bits.{bit_at-zero}

pub returns-then-clear-ne0 : goal.returns-then-clear-ne0
returns-then-clear-ne0 c =
    let ws = c.args.words.now in
    found ws c.args.from c.words.at _ refl (omega arith) c.words.invariant.0 c.words.invariant.1 (omega (arith, c.if-clear-ne0.true))

pub words-preserved : goal.words-preserved
words-preserved c = (
  omega (arith, c.words.invariant.0),
  none-found c.args.words.now c.args.from c.words.at _ refl (omega arith) c.words.invariant.0 c.words.invariant.1 (omega (arith, c.if-clear-ne0.false)),
)

pub returns : goal.returns
returns c = grind (arith, nat_tests, get_or_past, bit_at-zero)
