use Rattle.std.proofs.Common.{ℕ}
use Rattle.sweeps.specs.Taking.{Task}
use Rattle.sweeps.specs.declared.taker.TheConstants.{AT_A_TIME}
use Rattle.sweeps.proofs.Cut.{IsCut}
use Rattle.sweeps.proofs.taker.take_trace.Given as goal

pub record Taking (Cut : ℕ → Type 0) (Taken : ℕ → Type 0) : Type 0 where
  pub done : ℕ
  pub cut : Cut done
  pub taken : Taken done

abbrev pub invariant-loop-number : goal.invariant-loop-number
invariant-loop-number g l = Taking
    (IsCut AT_A_TIME l.trace l.number l.rest)
    (λ done. (task : Task) → g.K.Taker.has_taken task l.trace 0 l.fn.taker → g.K.Taker.has_taken task l.trace done l.taker)
