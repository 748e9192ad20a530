use Rattle.std.proofs.Common.{arith, None, refl, subst}
use Rattle.queue_table.specs.QueueTable.{queues}
use Rattle.queue_table.specs.Moves.{item_of, leaving, after_leaving, goes}
use Rattle.queue_table.specs.Undoing.{IsAccessed}
use Rattle.policy_pages.specs.SievePlan.{pass_run, sieve_eviction_plan}
use Rattle.policy_pages.proofs.SievePlan.{eviction}
use Rattle.policy_pages.proofs.Leavers.{absent-run}
use Rattle.policy_pages.proofs.sieve.evict_late.Goals as goal

pub renew_oldest-requires-clause-absent : goal.renew_oldest-requires-clause-absent
renew_oldest-requires-clause-absent g c = search (arith, absent-run)

pub returns : goal.returns
returns g c = λ s is_early ran.
    let ran_to = queues c.args.table.now in
    let full = queues c.pass-late.new.table in
    let end = queues c.renew_oldest.new.self in
    let mid = c.wrap-mid.result in
    let new = c.wrap_after-new.result in
    let is = eviction c.args.capacity c.args.ahead s ran_to full (after_leaving (leaving mid None) full) c.args.early c.pass-late.result mid new c.from-2.result
    ran.after is_early c.wrap-mid.ensures.is c.pass-late.ensures.made.after c.pass-late.ensures.run refl c.wrap_after-new.ensures.is c.from-2.ensures in
    let accessed = c.evicted.ensures (pass_run c.args.capacity c.args.ahead s) (pass_run c.args.capacity mid ran_to) (leaving mid None) (goes new 0) (item_of (g.K.KeyName.key c.args.key)) s _ _ _ end is_early c.pass-late.ensures.run
    ran c.pass-late.ensures.made c.renew_oldest.ensures.left c.renew_oldest.ensures.out c.renew_oldest.ensures.own in
    subst (λ x. IsAccessed (sieve_eviction_plan c.args.capacity c.args.ahead s) (item_of (g.K.KeyName.key c.args.key)) x s end c.evicted.result) c.from.ensures
    (subst (λ p. IsAccessed p (item_of (g.K.KeyName.key c.args.key)) c.from.result s end c.evicted.result) is accessed)
