use Rattle.std.proofs.Common.{ℕ, ◌∙◌, List, Option, None, ap, refl, sym, subst}
use Rattle.queue_table.specs.Entries.{oldest_of}
use Rattle.queue_table.specs.Queues.{Queues}
use Rattle.queue_table.specs.QueueTable.{queues}
use Rattle.queue_table.proofs.QueueLists.{absent, still-absent}
use Rattle.queue_table.specs.declared.moves.Departure.TheVariants as departure
use Rattle.queue_table.specs.declared.moves.Change.TheVariants as change
use Rattle.queue_table.specs.Moves.{Entry, item_of, leaving, goes, departed}
use Rattle.queue_table.specs.Undoing.{IsLeft, IsOwn}
use Rattle.queue_table.specs.Tabled.{Slot, HasKeys}
use Rattle.queue_table.proofs.Laws.{tabled-in, absent-inside, left-out, own-renewed}
use Rattle.queue_table.proofs.Tabled.{tabled-removal, tabled-push}
use Rattle.queue_table.proofs.key_queues.KeyQueues.renew_oldest.Goals as goal

pub invariant_of-self : goal.invariant_of-self
invariant_of-self g c =
    let s = queues c.self.inside.table in
    let t = tabled-in c.self.inside.table c.self.invariant c.distinct.ensures in
    let none = absent (item_of (g.K.KeyName.key c.args.key)) s (absent-inside _ _ _ c.self.view_is c.requires.absent) in
    subst HasKeys (sym (rw (g.met.K.KeyName.item_is c.args.key) at c.renew.ensures.queues)) (tabled-push _ (tabled-removal s t _) c.args.queue _ c.requires.queue refl (still-absent _ _ s none)).keys

pub returns-in_default-clause-own : goal.returns-in_default-clause-own
returns-in_default-clause-own g c =
    subst (λ (o : Option Entry). IsOwn (goes c.args.queue c.args.count) (item_of (g.K.KeyName.key c.args.key)) (departed None o (queues c.args.self.now)) (queues c.join_apart.new.self) c.join_apart.result)
    (sym (ap oldest_of (ap (λ (x : List Slot). queues x c.args.from) (sym c.self.view_is) ∙ c.in_default.ensures.missing)))
    c.join_apart.ensures.own

pub returns-clause-left : goal.returns-clause-left
returns-clause-left g c =
    let s = queues c.self.inside.table in
    subst (λ (x : List Slot). IsLeft (leaving c.args.from None) (queues x) (departed None (oldest_of (queues x c.args.from)) (queues x)) (record { key = c.in-Some.oldest.item.key; count = c.in-Some.oldest.count; queue = c.args.from; by = departure.Out })) c.self.view_is
    (left-out _ _ c.args.from s (tabled-in c.self.inside.table c.self.invariant c.distinct.ensures) c.requires.from c.in-Some.ensures.first refl _
    (ap (λ (o : Option Entry). departed None o s) c.in-Some.ensures.first))

pub returns-clause-own : goal.returns-clause-own
returns-clause-own g c =
    let k : ℕ = g.K.KeyName.key c.args.key in
    let own : Queues → Type 0 = λ m. IsOwn (goes c.args.queue c.args.count) (item_of k) m (queues c.renew.new.self) (record { key = k; older = None; count = 0; queue = 0; by = change.Joined }) in
    rw c.key.ensures (subst (λ (x : List Slot). own (departed None (oldest_of (queues x c.args.from)) (queues x))) c.self.view_is
    (subst (λ (o : Option Entry). own (departed None o (queues c.self.inside.table))) (sym c.in-Some.ensures.first)
    (own-renewed k _ (tabled-in c.self.inside.table c.self.invariant c.distinct.ensures) (absent-inside _ _ _ c.self.view_is c.requires.absent) _ _ c.in-Some.ensures.entry
    c.args.queue c.args.count c.requires.queue _ (rw (g.met.K.KeyName.item_is c.args.key) at c.renew.ensures.queues))))
