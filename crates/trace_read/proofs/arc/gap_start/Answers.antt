use Rattle.std.proofs.Common.{arith}
use Rattle.std.proofs.lemmas.Grind.{common_steps}
use Rattle.trace_read.proofs.arc.gap_start.Goals as goal

pub gaps-preserved : goal.gaps-preserved
gaps-preserved c = grind (arith, common_steps)

pub returns-then-is_gap_byte-clause-place : goal.returns-then-is_gap_byte-clause-place
returns-then-is_gap_byte-clause-place c = grind (arith, common_steps)
