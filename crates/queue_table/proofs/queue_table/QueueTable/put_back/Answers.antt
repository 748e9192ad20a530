use Rattle.std.proofs.Common.{◌≡◌, ◌∙◌, None, sym, ap, subst}
use Rattle.queue_table.specs.Entries.{Entry, Item, entry, is_same_item, IsGap}
use Rattle.queue_table.specs.Queues.{Queues, queue_holding, after_removal, after_return}
use Rattle.queue_table.specs.QueueTable.{queues}
use Rattle.queue_table.proofs.QueueLists.{out-none}
use Rattle.queue_table.proofs.queue_table.QueueTable.put_back.Goals as goal

pub insert-requires-clause-gap : goal.insert-requires-clause-gap
insert-requires-clause-gap g c =
    subst (λ (s : Queues). IsGap c.args.place.older (s c.args.place.queue))
    (out-none (g.K.TableItem.item c.args.item) c.args.self.now (subst (λ (i : Item). queue_holding i (queues c.args.self.now) ≡ None) c.item.ensures c.in-None.ensures.missing)) c.requires.gap

pub returns-in-Some-clause-queues : goal.returns-in-Some-clause-queues
returns-in-Some-clause-queues g c =
    c.send_to.ensures.queues
    ∙ ap (λ (i : Item). after_return c.args.place.queue c.args.place.older (entry i c.args.count) (after_removal i (queues c.args.self.now)))
    (ap (λ (x : Entry). x.item) c.in-Some.ensures.entry ∙ c.item.ensures)

pub returns-in-None-clause-queues : goal.returns-in-None-clause-queues
returns-in-None-clause-queues g c =
    c.insert.ensures.queues
    ∙ ap (after_return c.args.place.queue c.args.place.older (entry (g.K.TableItem.item c.args.item) c.args.count))
    (sym (out-none (g.K.TableItem.item c.args.item) c.args.self.now (subst (λ (i : Item). queue_holding i (queues c.args.self.now) ≡ None) c.item.ensures c.in-None.ensures.missing)))

pub returns-in-Some-clause-others : goal.returns-in-Some-clause-others
returns-in-Some-clause-others g c at e h d =
    c.send_to.ensures.others at e h (ap (λ (i : Item). is_same_item e.item i) (ap (λ (x : Entry). x.item) c.in-Some.ensures.entry ∙ c.item.ensures) ∙ d)

pub returns-in-None-clause-others : goal.returns-in-None-clause-others
returns-in-None-clause-others g c at e h d = c.insert.ensures.others at e h
