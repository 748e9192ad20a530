use Rattle.std.proofs.Common.{refl, sym, ◌∙◌}
use Rattle.trace_read.proofs.Sampling.{keeps-none}
use Rattle.trace_read.proofs.sampled_accesses.SampledAccesses.take.Goals as goal

pub returns-else-keeps-clause-kept : goal.returns-else-keeps-clause-kept
returns-else-keeps-clause-kept c = rw (sym c.keeps.ensures ∙ c.if-keeps.false) (keeps-none _ _ refl refl refl)
