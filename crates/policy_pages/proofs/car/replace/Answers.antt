use Rattle.std.proofs.Common.{ap, rules, ◌≡◌}
use Rattle.queue_table.specs.Queues.{Queues}
use Rattle.queue_table.specs.QueueTable.{queues}
use Rattle.queue_table.specs.Entries.{occurrences}
use Rattle.policy_pages.specs.CarPlan.{Run, promotions, giver_turns}
use Rattle.policy_pages.proofs.Leavers.{off-run}
use Rattle.policy_pages.proofs.CarPlan.{is-replaced, off-both}
use Rattle.policy_pages.proofs.car.replace.Goals as goal

pub returns-clause-made : goal.returns-clause-made
returns-clause-made g c =
    let s : Queues = queues c.args.table.now in
    let a : Queues = queues c.run-early.new.self in
    let b : Queues = queues c.run-late.new.self in
    let early : c.run-early.result ≡ promotions c.args.target s = search rules in
    let late : c.run-late.result ≡ giver_turns c.args.capacity c.giver-queue.result a = c.run-late.ensures.run in
    is-replaced c.args.capacity c.args.target c.giver-queue.result s a b (queues c.send_oldest-first.new.self) c.run-early.result c.run-late.result c.send_oldest-first.result
    early c.run-early.ensures.made c.giver-queue.ensures.queue late c.run-late.ensures.made c.send_oldest-first.ensures.left c.send_oldest-first.ensures.stays

pub returns-clause-others : goal.returns-clause-others
returns-clause-others g c = λ j e held off1 off2.
    let q = c.giver-queue.result in
    let s : Queues = queues c.args.table.now in
    let a : Queues = queues c.run-early.new.self in
    let b : Queues = queues c.run-late.new.self in
    let early = c.run-early.ensures in
    let late = c.run-late.ensures in
    let off_a : occurrences e.item (a q) ≡ 0 = off-both e.item c.run-early.result s a (ap (λ (r : Run). r.from) early.run) early.made.after off1 off2 q c.giver-queue.ensures.low in
    let off_b : occurrences e.item (b q) ≡ 0 = off-run e.item c.run-late.result q q a b (ap (λ (r : Run). r.from) late.run) late.made.after off_a off_a in
    c.send_oldest-first.ensures.others j e (late.others j e (early.others j e held off1) off_a) off_b
