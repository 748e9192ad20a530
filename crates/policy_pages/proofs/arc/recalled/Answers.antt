use Rattle.std.proofs.Common.{arith}
use Rattle.queue_table.specs.Entries.{entry}
use Rattle.queue_table.specs.QueueTable.{queues}
use Rattle.queue_table.specs.Moves.{item_of, goes}
use Rattle.policy_pages.specs.Leavers.{one_leaver}
use Rattle.policy_pages.specs.ArcPlan.{T2, replaced}
use Rattle.policy_pages.proofs.arc.recalled.Goals as goal

pub send-own-requires-clause-at : goal.send-own-requires-clause-at
send-own-requires-clause-at g c =
    c.replace-first.ensures.others c.args.found.at (entry (item_of (g.K.KeyName.key c.args.key)) c.args.found.count) c.requires.at c.requires.t1 c.requires.t2

pub returns : goal.returns
returns g c =
    let l = replaced c.args.in_b2 c.args.target (queues c.args.table.now) in
    c.miss_without_runs.ensures (one_leaver l) (goes T2 0) (item_of (g.K.KeyName.key c.args.key)) _ _ _ (c.one.ensures l _ _ c.replace-first.ensures.left (omega arith)) c.send-own.ensures.own
