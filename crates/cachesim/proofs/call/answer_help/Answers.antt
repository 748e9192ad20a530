use Rattle.std.proofs.Common.{inr, refl, rules}
use Rattle.cachesim.proofs.call.answer_help.Goals as goal

pub returns-clause-faulted : goal.returns-clause-faulted
returns-clause-faulted g c one = inr (c.report_fault-in-Err.ensures.reported, search rules, c.in-Err.ensures.tally.failing refl)
