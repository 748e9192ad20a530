use Rattle.std.proofs.Common.{arith}
use Rattle.std.proofs.lemmas.Grind.{common_steps}
use Rattle.trace_index.proofs.packed_keys.short_with.Goals as goal

pub returns : goal.returns
returns c = grind (arith, common_steps)

pub returns-then-fitting-more : goal.returns-then-fitting-more
returns-then-fitting-more c = grind (arith, common_steps)
