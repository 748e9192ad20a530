use Rattle.std.proofs.Common.{◌∙◌, Fits, w8, List, ap, sym, subst, arith, rules}
use Rattle.queue_table.specs.Entries.{occurrences}
use Rattle.queue_table.specs.Queues.{Queues}
use Rattle.queue_table.specs.QueueTable.{queues, HoldsAt}
use Rattle.queue_table.specs.Tabled.{Slot, Entry, HasKeys}
use Rattle.queue_table.proofs.Laws.{tabled-in, oldest-other, off-after-send}
use Rattle.queue_table.proofs.Runs.{turn-made}
use Rattle.queue_table.proofs.Tabled.{oldest-node, tabled-send}
use Rattle.queue_table.proofs.key_queues.KeyQueues.turn.Goals as goal

pub invariant_of-self : goal.invariant_of-self
invariant_of-self g c =
    let node = ap (λ (e : Entry). e.item.node) c.in-Some.ensures.entry ∙ oldest-node c.in-Some.oldest _ (c.self.invariant c.args.from) c.in-Some.ensures.first in
    subst HasKeys (sym c.send.ensures.queues) (tabled-send _ (tabled-in c.self.inside.table c.self.invariant c.distinct.ensures) _ c.args.to c.requires.to node).keys

pub returns-clause-turned : goal.returns-clause-turned
returns-clause-turned g c some =
    rw (sym c.self.view_is)
    (turn-made _ _ c.args.from c.args.to c.args.less _ _ (tabled-in c.self.inside.table c.self.invariant c.distinct.ensures) c.requires.from c.in-Some.ensures.first
    (omega (arith, c.if-oldest-least.false, c.requires.less)) (let fit : Fits w8 c.in-Some.oldest.count = search rules in fit.fits) c.in-Some.ensures.entry _ c.send.ensures.queues)

pub returns-clause-others : goal.returns-clause-others
returns-clause-others g c j e h z =
    let off = oldest-other e _ _ c.args.from _ _ c.self.view_is c.in-Some.ensures.entry c.in-Some.ensures.first z in (
      c.send.ensures.others j e (subst (HoldsAt j e) (sym c.self.view_is) h) off,
      ap (λ (s : Queues). occurrences e.item (s c.args.from)) c.send.ensures.queues
          ∙ off-after-send e.item _ c.args.to c.args.from (queues c.self.inside.table) off (ap (λ (x : List Slot). occurrences e.item (queues x c.args.from)) c.self.view_is ∙ z),
    )
