use Rattle.std.proofs.Common.{◌*◌, None, false, ◌∙◌, arith}
use Rattle.std.proofs.lemmas.Bool.{lt-ltb, le-ltb, eq-eqb, ne_eqb}
use Rattle.queue_table.specs.Queues.{Queues}
use Rattle.queue_table.specs.QueueTable.{queues}
use Rattle.queue_table.specs.Moves.{item_of, leaving, goes}
use Rattle.queue_table.proofs.Laws.{nothing-left}
use Rattle.policy_pages.specs.Leavers.{no_leavers}
use Rattle.policy_pages.specs.ArcPlan.{T1, B2, total, replaced}
use Rattle.policy_pages.proofs.ArcPlan.{leaver-low}
use Rattle.policy_pages.proofs.Leavers.{absent-left}
use Rattle.policy_pages.proofs.arc.join_open_l1.Goals as goal

pub renew_oldest-requires-clause-absent : goal.renew_oldest-requires-clause-absent
renew_oldest-requires-clause-absent g c = search (arith, absent-left, leaver-low)

pub join-own-requires-clause-absent : goal.join-own-requires-clause-absent
join-own-requires-clause-absent g c = search (arith, absent-left, leaver-low)

pub returns-then-all-room : goal.returns-then-all-room
returns-then-all-room g c =
    let s : Queues = queues c.args.table.now in
    rw (lt-ltb (total s) c.args.capacity (omega (arith, c.requires.all, c.if-all-room.true)))
    (c.miss_without_runs.ensures no_leavers (goes T1 0) (item_of (g.K.KeyName.key c.args.key)) s s _ (record { between = s; first = nothing-left s; second = nothing-left s; few = omega arith }) c.join_apart-own.ensures.own)

pub returns-then-all-room-2 : goal.returns-then-all-room-2
returns-then-all-room-2 g c =
    let s : Queues = queues c.args.table.now in
    rw (le-ltb (total s) c.args.capacity (omega (arith, c.requires.all, c.if-all-room.false)), eq-eqb (total s) (2 * c.args.capacity) (omega (arith, c.requires.all, c.if-all-room-2.true)))
    (c.miss_without_runs-then-all-room-2.ensures record { first = replaced false c.args.target s; second = leaving B2 None } (goes T1 0) (item_of (g.K.KeyName.key c.args.key)) _ _ _
    record {
      between = queues c.replace-first.new.table;
      first = c.replace-first.ensures.left;
      second = c.renew_oldest.ensures.left;
      few = omega arith;
    }
    c.renew_oldest.ensures.own)

pub returns : goal.returns
returns g c =
    let s : Queues = queues c.args.table.now in
    let stays = c.replace-first.ensures.stays in
    rw (le-ltb (total s) c.args.capacity (omega (arith, c.requires.all, c.if-all-room.false)), ne_eqb (total s) (2 * c.args.capacity) (λ e. c.if-all-room-2.false (c.requires.all ∙ e)))
    (c.miss_without_runs-2.ensures record { first = replaced false c.args.target s; second = None } (goes T1 0) (item_of (g.K.KeyName.key c.args.key)) _ _ _
    (c.one.ensures (replaced false c.args.target s) _ _ c.replace-first.ensures.left (omega (arith, stays))) c.join-own.ensures.own)
