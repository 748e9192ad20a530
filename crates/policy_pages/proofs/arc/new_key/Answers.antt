use Rattle.std.proofs.Common.{◌≤◌, ◌*◌, sym, subst}
use Rattle.queue_table.specs.QueueTable.{queues}
use Rattle.queue_table.specs.Moves.{item_of}
use Rattle.queue_table.specs.Undoing.{IsAccessed}
use Rattle.policy_pages.specs.ArcPlan.{total, new_key_plan}
use Rattle.policy_pages.proofs.Plans.{still-none}
use Rattle.policy_pages.proofs.arc.new_key.Goals as goal

pub join-requires-clause-all_fit : goal.join-requires-clause-all_fit
join-requires-clause-all_fit g c = subst (λ s. total s ≤ 2 * c.args.capacity) (sym c.in_ok-reserve.ensures.queues) c.requires.all_fit

pub join-requires-clause-absent : goal.join-requires-clause-absent
join-requires-clause-absent g c = still-none _ _ _ c.in_ok-reserve.ensures.queues c.requires.absent

pub returns-clause-accessed : goal.returns-clause-accessed
returns-clause-accessed g c =
    subst (λ s. IsAccessed (new_key_plan c.args.capacity c.args.target s) (item_of (g.K.KeyName.key c.args.key)) c.args.target s (queues c.join.new.table) c.join.result)
    c.in_ok-reserve.ensures.queues c.join.ensures
