use Rattle.std.proofs.Common.{arith, rules, ◌≡◌, None, ap, ◌∙◌, sym, refl}
use Rattle.queue_table.specs.Queues.{Queues}
use Rattle.queue_table.specs.QueueTable.{queues}
use Rattle.queue_table.specs.Moves.{item_of, no_run, leaving, goes}
use Rattle.queue_table.proofs.Carried.{no-run}
use Rattle.policy_pages.specs.Plans.{Run}
use Rattle.policy_pages.specs.Leavers.{one_leaver, leavers_for_ghost}
use Rattle.policy_pages.specs.S3FifoPlan.{SMALL, MAIN, GHOST, main_turns}
use Rattle.policy_pages.proofs.MissedKey.{enters-after-run}
use Rattle.policy_pages.proofs.Leavers.{off-run}
use Rattle.policy_pages.proofs.s3_fifo.evict.Goals as goal

pub enter_for_oldest-requires-clause-enters : goal.enter_for_oldest-requires-clause-enters
enter_for_oldest-requires-clause-enters g c = search (arith, enters-after-run)

pub enter_for_oldest-requires-clause-off : goal.enter_for_oldest-requires-clause-off
enter_for_oldest-requires-clause-off g c =
    off-run (item_of (g.K.KeyName.key c.args.key)) c.run-late.result MAIN MAIN (queues c.args.table.now) (queues c.run-late.new.self) (ap (λ (r : Run). r.from) c.run-late.ensures.run) c.run-late.ensures.made.after c.requires.outside.off_other c.requires.outside.off_other

pub returns-then-main_gives : goal.returns-then-main_gives
returns-then-main_gives g c = λ s ran.
    let t : Queues = queues c.args.table.now in
    let u : Queues = queues c.run-late.new.self in
    let enter = c.enter_for_oldest.ensures in
    let late : c.run-late.result ≡ main_turns t = search rules in
    rw (sym c.main_gives.ensures ∙ c.if-main_gives.true, sym c.queue_of-queue.ensures)
    (c.miss_after_runs.ensures c.args.early (main_turns t) (one_leaver (leaving MAIN None)) (goes c.queue_of-queue.result 0) (item_of (g.K.KeyName.key c.args.key)) s t u _ _ refl late ran
    c.run-late.ensures.made (c.one.ensures (leaving MAIN None) u _ enter.left enter.out) enter.own)

pub returns : goal.returns
returns g c = λ s ran.
    let t : Queues = queues c.args.table.now in
    let enter = c.enter_for_remembered.ensures in
    rw (sym c.main_gives.ensures ∙ c.if-main_gives.false, sym c.queue_of-queue.ensures)
    (c.miss_after_runs-2.ensures c.args.early no_run (leavers_for_ghost SMALL GHOST c.args.main c.args.remembered t) (goes c.queue_of-queue.result 0) (item_of (g.K.KeyName.key c.args.key)) s t t _ _ refl refl ran (no-run t) enter.left enter.own)
