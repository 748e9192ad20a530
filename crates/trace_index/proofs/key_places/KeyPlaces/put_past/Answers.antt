use Rattle.std.proofs.Common.{arith}
use Rattle.std.proofs.lemmas.Grind.{common_steps}
use Rattle.trace_index.proofs.key_places.KeyPlaces.put_past.Goals as goal

pub returns-clause-old : goal.returns-clause-old
returns-clause-old c = grind (arith, common_steps)

pub returns-then-key-min-clause-old : goal.returns-then-key-min-clause-old
returns-then-key-min-clause-old c = grind (arith, common_steps)

pub returns-then-key-min-clause-updates : goal.returns-then-key-min-clause-updates
returns-then-key-min-clause-updates c = grind (arith, common_steps)
