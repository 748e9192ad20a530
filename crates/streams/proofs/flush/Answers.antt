use Rattle.streams.proofs.Tallies.{refused}
use Rattle.streams.proofs.flush.Goals as goal

pub returns-then-not-allows-clause-exhausted : goal.returns-then-not-allows-clause-exhausted
returns-then-not-allows-clause-exhausted g c =
    refused _ _ _ _ _ _ c.flushes.invariant.spent c.in-Err.ensures.counted (c.allows.ensures.refused c.if-not-allows.true)
