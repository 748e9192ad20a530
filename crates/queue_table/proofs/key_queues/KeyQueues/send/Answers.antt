use Rattle.std.proofs.Common.{ap, sym, subst}
use Rattle.queue_table.specs.Moves.{Entry}
use Rattle.queue_table.specs.Tabled.{HasKeys}
use Rattle.queue_table.proofs.Laws.{tabled-in, own-moved, held-stands}
use Rattle.queue_table.proofs.Tabled.{tabled-send}
use Rattle.queue_table.proofs.key_queues.KeyQueues.send.Goals as goal

pub invariant_of-self : goal.invariant_of-self
invariant_of-self g c =
    let h = rw (sym c.self.view_is) at c.requires.at in
    subst HasKeys (sym c.send-place.ensures.queues)
    (tabled-send _ (tabled-in c.self.inside.table c.self.invariant c.distinct.ensures) _ c.args.queue c.requires.queue (ap (λ (e : Entry). e.item.node) h.entry)).keys

pub returns-clause-own : goal.returns-clause-own
returns-clause-own g c =
    let h = rw (sym c.self.view_is) at c.requires.at in
    rw (c.key.ensures, c.key_in.ensures, sym c.self.view_is)
    (own-moved (g.K.KeyName.key c.args.key) c.args.found.count _ (tabled-in c.self.inside.table c.self.invariant c.distinct.ensures) (held-stands _ _ _ h) _ h.entry c.args.queue c.args.count c.requires.queue
    c.send-place.result c.send-place.ensures.place _ c.send-place.ensures.queues)
