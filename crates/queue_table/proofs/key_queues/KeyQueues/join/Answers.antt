use Rattle.std.proofs.Common.{refl, sym, subst}
use Rattle.queue_table.specs.Tabled.{HasKeys}
use Rattle.queue_table.proofs.Laws.{tabled-in, absent-inside, own-joined}
use Rattle.queue_table.proofs.QueueLists.{absent}
use Rattle.queue_table.proofs.Tabled.{tabled-push}
use Rattle.queue_table.proofs.key_queues.KeyQueues.join.Goals as goal

pub invariant_of-self : goal.invariant_of-self
invariant_of-self g c =
    let none = absent _ _ (absent-inside _ _ _ c.self.view_is c.requires.absent) in
    subst HasKeys (sym (rw (g.met.K.KeyName.item_is c.args.key) at c.push.ensures.queues)) (tabled-push _ (tabled-in c.self.inside.table c.self.invariant c.push.ensures.distinct) c.args.queue _ c.requires.queue refl none).keys

pub returns-clause-own : goal.returns-clause-own
returns-clause-own g c =
    rw (c.key.ensures, sym c.self.view_is)
    (own-joined (g.K.KeyName.key c.args.key) _ (tabled-in c.self.inside.table c.self.invariant c.push.ensures.distinct) (absent-inside _ _ _ c.self.view_is c.requires.absent) c.args.queue c.args.count c.requires.queue _ (rw (g.met.K.KeyName.item_is c.args.key) at c.push.ensures.queues))
