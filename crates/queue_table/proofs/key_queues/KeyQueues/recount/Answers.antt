use Rattle.std.proofs.Common.{sym, subst}
use Rattle.queue_table.specs.Tabled.{HasKeys}
use Rattle.queue_table.proofs.Laws.{tabled-in, own-counted, held-stands}
use Rattle.queue_table.proofs.Tabled.{tabled-count}
use Rattle.queue_table.proofs.key_queues.KeyQueues.recount.Goals as goal

pub invariant_of-self : goal.invariant_of-self
invariant_of-self g c =
    subst HasKeys (sym c.set_count.ensures.queues) (tabled-count _ (tabled-in c.self.inside.table c.self.invariant c.distinct.ensures) _ c.args.count).keys

pub returns-clause-own : goal.returns-clause-own
returns-clause-own g c =
    let h = rw (sym c.self.view_is) at c.requires.at in
    rw (c.key.ensures, sym c.self.view_is)
    (own-counted (g.K.KeyName.key c.args.key) c.args.found.count _ (tabled-in c.self.inside.table c.self.invariant c.distinct.ensures) (held-stands _ _ _ h) _ h.entry c.args.count _ c.set_count.ensures.queues)
