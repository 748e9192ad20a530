use Rattle.std.proofs.Common.{◌∙◌, ap, sym, subst}
use Rattle.queue_table.specs.QueueTable.{HoldsAt}
use Rattle.queue_table.specs.Moves.{Entry}
use Rattle.queue_table.specs.Tabled.{HasKeys}
use Rattle.queue_table.proofs.Laws.{tabled-in, left-sent, oldest-other}
use Rattle.queue_table.proofs.Tabled.{oldest-node, tabled-send}
use Rattle.queue_table.proofs.key_queues.KeyQueues.send_oldest.Goals as goal

pub invariant_of-self : goal.invariant_of-self
invariant_of-self g c =
    let node = ap (λ (e : Entry). e.item.node) c.in-Some.ensures.entry ∙ oldest-node c.in-Some.oldest _ (c.self.invariant c.args.from) c.in-Some.ensures.first in
    subst HasKeys (sym c.send.ensures.queues) (tabled-send _ (tabled-in c.self.inside.table c.self.invariant c.distinct.ensures) _ c.args.queue c.requires.queue node).keys

pub returns-clause-left : goal.returns-clause-left
returns-clause-left g c =
    rw (sym c.self.view_is)
    (left-sent _ _ c.args.from _ (tabled-in c.self.inside.table c.self.invariant c.distinct.ensures) c.requires.from c.in-Some.ensures.first c.in-Some.ensures.entry c.args.queue c.args.count c.requires.queue _ c.send.ensures.queues)

pub returns-clause-others : goal.returns-clause-others
returns-clause-others g c j e h z =
    c.send.ensures.others j e (subst (HoldsAt j e) (sym c.self.view_is) h) (oldest-other e _ _ c.args.from _ _ c.self.view_is c.in-Some.ensures.entry c.in-Some.ensures.first z)
