use Rattle.std.proofs.Common.{None, false, length, arith}
use Rattle.std.proofs.lemmas.Bool.{lt-ltb, le-ltb}
use Rattle.queue_table.specs.QueueTable.{queues}
use Rattle.queue_table.specs.Moves.{item_of, leaving, goes}
use Rattle.policy_pages.specs.ArcPlan.{T1, B1, replaced}
use Rattle.policy_pages.proofs.ArcPlan.{leaver-low}
use Rattle.policy_pages.proofs.Leavers.{absent-left}
use Rattle.policy_pages.proofs.arc.join_full_l1.Goals as goal

pub renew_oldest-requires-clause-absent : goal.renew_oldest-requires-clause-absent
renew_oldest-requires-clause-absent g c = search (arith, absent-left, leaver-low)

pub returns-then-len-capacity : goal.returns-then-len-capacity
returns-then-len-capacity g c =
    rw (lt-ltb (length (queues c.args.table.now T1)) c.args.capacity (omega (arith, c.len.ensures, c.if-len-capacity.true)))
    (c.miss_without_runs.ensures record { first = replaced false c.args.target (queues c.args.table.now); second = leaving B1 None } (goes T1 0) (item_of (g.K.KeyName.key c.args.key)) _ _ _
    record {
      between = queues c.replace-first.new.table;
      first = c.replace-first.ensures.left;
      second = c.renew_oldest.ensures.left;
      few = omega arith;
    }
    c.renew_oldest.ensures.own)

pub returns : goal.returns
returns g c =
    let out = c.renew_oldest-2.ensures.out in
    rw (le-ltb (length (queues c.args.table.now T1)) c.args.capacity (omega (arith, c.len.ensures, c.if-len-capacity.false)))
    (c.miss_without_runs-2.ensures record { first = leaving T1 None; second = None } (goes T1 0) (item_of (g.K.KeyName.key c.args.key)) _ _ _
    (c.one.ensures (leaving T1 None) _ _ c.renew_oldest-2.ensures.left out) c.renew_oldest-2.ensures.own)
