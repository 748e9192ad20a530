use Rattle.std.proofs.Common.{arith, ap, subst, ◌∙◌, None}
use Rattle.queue_table.specs.Queues.{Queues}
use Rattle.queue_table.specs.Entries.{entry}
use Rattle.queue_table.specs.QueueTable.{queues}
use Rattle.queue_table.specs.Moves.{item_of, goes}
use Rattle.queue_table.specs.Undoing.{IsAccessed}
use Rattle.policy_pages.specs.Leavers.{one_leaver}
use Rattle.policy_pages.specs.CarPlan.{T2, promotions, after_promotions, giver, giver_turns, after_giver_turns, leaver, target_after, full_plan}
use Rattle.policy_pages.proofs.car.recalled.Goals as goal

pub send-own-requires-clause-at : goal.send-own-requires-clause-at
send-own-requires-clause-at g c =
    c.replace-left.ensures.others c.args.found.at (entry (item_of (g.K.KeyName.key c.args.key)) c.args.found.count) c.requires.at c.requires.t1 c.requires.t2

pub returns : goal.returns
returns g c =
    let s : Queues = queues c.args.table.now in
    let p = c.args.target in
    let a : Queues = after_promotions p s in
    let q = giver p a in
    let made = c.replace-left.ensures.made in
    subst (λ x. IsAccessed (full_plan c.args.capacity p None (goes T2 0) x s) (item_of (g.K.KeyName.key c.args.key)) p s (queues c.send-own.new.self) c.miss_after_runs.result) (c.moved_target-after.ensures ∙ ap (target_after c.args.capacity p c.args.in_b1) made.left.after)
    (c.miss_after_runs.ensures (promotions p s) (giver_turns c.args.capacity q a) (one_leaver (leaver q)) (goes T2 0) (item_of (g.K.KeyName.key c.args.key)) s a (after_giver_turns c.args.capacity q a) _ _
    made.early made.late made.made_early made.made_late (c.one.ensures (leaver q) _ _ made.left (omega (arith, made.stays))) c.send-own.ensures.own)
