use Rattle.std.proofs.Common.{sym, subst}
use Rattle.queue_table.specs.QueueTable.{HoldsAt}
use Rattle.queue_table.specs.Tabled.{HasKeys}
use Rattle.queue_table.proofs.Laws.{tabled-in, left-out, oldest-other}
use Rattle.queue_table.proofs.Tabled.{tabled-removal}
use Rattle.queue_table.proofs.key_queues.KeyQueues.drop_oldest.Goals as goal

pub invariant_of-self : goal.invariant_of-self
invariant_of-self g c = subst HasKeys (sym c.remove.ensures.queues) (tabled-removal _ (tabled-in c.self.inside.table c.self.invariant c.distinct.ensures) _).keys

pub returns-clause-left : goal.returns-clause-left
returns-clause-left g c =
    rw (sym c.self.view_is)
    (left-out _ _ c.args.from _ (tabled-in c.self.inside.table c.self.invariant c.distinct.ensures) c.requires.from c.in-Some.ensures.first c.in-Some.ensures.entry _ c.remove.ensures.queues)

pub returns-clause-others : goal.returns-clause-others
returns-clause-others g c j e h z =
    c.remove.ensures.others j e (subst (HoldsAt j e) (sym c.self.view_is) h) (oldest-other e _ _ c.args.from _ _ c.self.view_is c.in-Some.ensures.entry c.in-Some.ensures.first z)
