use Rattle.std.proofs.Common.{suc, arith}
use Rattle.trace_index.proofs.Uses.{next-within}
use Rattle.clairvoyant.proofs.clairvoyant.OptimalCore.rank.Goals as goal

pub rank_by-requires-clause-next : goal.rank_by-requires-clause-next
rank_by-requires-clause-next c = rw c.len.ensures.len (next-within c.args.self.now.uses (suc c.args.place) _ c.next-next.result (omega (arith, c.requires)) c.next-next.ensures)
