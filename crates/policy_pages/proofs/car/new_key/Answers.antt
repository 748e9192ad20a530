use Rattle.std.proofs.Common.{◌+◌, length, arith, subst}
use Rattle.std.proofs.lemmas.Bool.{lt-ltb, le-ltb}
use Rattle.queue_table.specs.Queues.{Queues}
use Rattle.queue_table.specs.QueueTable.{queues}
use Rattle.queue_table.specs.Moves.{item_of, goes}
use Rattle.queue_table.specs.Undoing.{IsAccessed}
use Rattle.policy_pages.specs.CarPlan.{T1, T2, promotions, after_promotions, giver, giver_turns, after_giver_turns, leaver, forgotten, full_plan}
use Rattle.policy_pages.proofs.CarPlan.{replaced-none}
use Rattle.policy_pages.proofs.car.new_key.Goals as goal

pub join-requires-clause-absent : goal.join-requires-clause-absent
join-requires-clause-absent g c = replaced-none c.args.capacity c.args.target (item_of (g.K.KeyName.key c.args.key)) _ _ _ c.replace-left.ensures.made c.requires.absent

pub returns-then-len-capacity : goal.returns-then-len-capacity
returns-then-len-capacity g c =
    let s : Queues = queues c.args.table.now in
    rw (lt-ltb (length (s T1) + length (s T2)) c.args.capacity (omega (arith, c.len.ensures, c.len-2.ensures, c.if-len-capacity.true)))
    (c.kept.ensures (goes T1 0) (item_of (g.K.KeyName.key c.args.key)) s _ c.join_apart-own.ensures.own)

pub returns : goal.returns
returns g c =
    let s : Queues = queues c.args.table.now in
    let p = c.args.target in
    let a : Queues = after_promotions p s in
    let q = giver p a in
    let w : Queues = queues c.replace-left.new.table in
    let made = c.replace-left.ensures.made in
    let joined = c.join.ensures in
    rw (le-ltb (length (s T1) + length (s T2)) c.args.capacity (omega (arith, c.len.ensures, c.len-2.ensures, c.if-len-capacity.false)))
    (subst (λ (x : Queues). IsAccessed (full_plan c.args.capacity p (forgotten c.args.capacity x) (goes T1 0) p s) (item_of (g.K.KeyName.key c.args.key)) p s (queues c.join.new.table) c.miss_after_runs.result) made.left.after
    (c.miss_after_runs.ensures (promotions p s) (giver_turns c.args.capacity q a) record { first = leaver q; second = forgotten c.args.capacity w } (goes T1 0) (item_of (g.K.KeyName.key c.args.key)) s a (after_giver_turns c.args.capacity q a) _ _
    made.early made.late made.made_early made.made_late record { between = w; first = made.left; second = joined.left; few = omega (arith, made.stays, joined.few) } joined.own))
