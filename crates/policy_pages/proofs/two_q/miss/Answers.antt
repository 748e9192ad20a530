use Rattle.std.proofs.Common.{◌≡◌, ◌+◌, ◌||◌, ◌==◌, nat_lt, true, false, None, length, ◌∙◌, sym, arith}
use Rattle.std.proofs.lemmas.Bool.{lt-ltb, le-ltb}
use Rattle.queue_table.specs.Queues.{Queues}
use Rattle.queue_table.specs.QueueTable.{queues}
use Rattle.queue_table.specs.Moves.{item_of, leaving, goes}
use Rattle.policy_pages.specs.Leavers.{one_leaver, leavers_for_ghost}
use Rattle.policy_pages.specs.TwoQPlan.{A1IN, A1OUT, AM}
use Rattle.policy_pages.proofs.two_q.miss.Goals as goal

pub returns-then-a1in-saturating_sub : goal.returns-then-a1in-saturating_sub
returns-then-a1in-saturating_sub g c =
    let s : Queues = queues c.args.table.now in
    rw (lt-ltb (length (s A1IN) + length (s AM)) c.args.capacity (omega (arith, c.len-a1in.ensures, c.len-am.ensures, c.saturating_sub.ensures, c.if-a1in-saturating_sub.true)), sym c.queue_of-queue.ensures)
    (c.kept.ensures (goes c.queue_of-queue.result 0) (item_of (g.K.KeyName.key c.args.key)) s _ c.enter_apart-own.ensures)

pub returns-then-not-a1in_gives : goal.returns-then-not-a1in_gives
returns-then-not-a1in_gives g c =
    let s : Queues = queues c.args.table.now in
    let full : nat_lt (length (s A1IN) + length (s AM)) c.args.capacity ≡ false = le-ltb _ c.args.capacity (omega (arith, c.len-a1in.ensures, c.len-am.ensures, c.saturating_sub.ensures, c.if-a1in-saturating_sub.false)) in
    let gives : (nat_lt c.args.sizes.kin (length (s A1IN)) || length (s AM) == 0) ≡ false = rw (sym c.len-a1in.ensures, sym c.len-am.ensures) (sym c.a1in_gives.ensures ∙ c.if-not-a1in_gives.true) in
    let enter = c.enter_for_oldest.ensures in
    rw (full, gives, sym c.queue_of-queue.ensures)
    (c.miss_without_runs.ensures (one_leaver (leaving AM None)) (goes c.queue_of-queue.result 0) (item_of (g.K.KeyName.key c.args.key)) s _ _ (c.one.ensures (leaving AM None) s _ enter.left enter.out) enter.own)

pub returns : goal.returns
returns g c =
    let s : Queues = queues c.args.table.now in
    let full : nat_lt (length (s A1IN) + length (s AM)) c.args.capacity ≡ false = le-ltb _ c.args.capacity (omega (arith, c.len-a1in.ensures, c.len-am.ensures, c.saturating_sub.ensures, c.if-a1in-saturating_sub.false)) in
    let gives : (nat_lt c.args.sizes.kin (length (s A1IN)) || length (s AM) == 0) ≡ true = rw (sym c.len-a1in.ensures, sym c.len-am.ensures) (sym c.a1in_gives.ensures ∙ c.if-not-a1in_gives.false) in
    let enter = c.enter_for_remembered.ensures in
    rw (full, gives, sym c.queue_of-queue.ensures)
    (c.miss_without_runs-2.ensures (leavers_for_ghost A1IN A1OUT c.args.sizes.kout c.args.remembered s) (goes c.queue_of-queue.result 0) (item_of (g.K.KeyName.key c.args.key)) s _ _ enter.left enter.own)
