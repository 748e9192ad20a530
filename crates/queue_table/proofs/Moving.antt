-- A slot that goes to a queue, or to the free ones: what the table is then.
use Rattle.std.proofs.Common.{◌≡◌, ℕ, suc, ◌+◌, ◌<◌, ◌≤◌, Option, List, length, set, map, ap, ◌∙◌, sym, subst, arith, inl, inr, length-set, get_or-set_same, get_or-set_other}
use Rattle.std.proofs.lemmas.List.{length-map, set-set}
use Rattle.std.proofs.lemmas.Bool.Decides.{nat_tests}
use Rattle.queue_table.specs.Entries.{Entry, Item, entry, last_item}
use Rattle.queue_table.specs.Queues.{QUEUES, Queues, after_push, after_removal, after_return, IsDistinct}
use Rattle.queue_table.specs.Ring.{Slot, entries, newers, olders, tags, IsRing, ring, tag_at, slot_entry, slot_item, count, ring_of, FIRST, Order, used, order_in, order_of, order_without, sent, lists, lists_of, IsPlace, IsQueued, CanGo, IsSent, IsFreed, ChangesOnlyEntry}
use Rattle.queue_table.specs.Index.{SlotIndex, capacity, IsAdded}
use Rattle.queue_table.specs.QueueTable.{Lengths, entry_at, IsUsed, IsBehind, IsCounted, IsIndexOf, IsInSlots, IsKept, CanLeave, KeepsSlots, KeepsOthers}
use Rattle.queue_table.proofs.QueueLists.{IsAbsent, distinct-taken}
use Rattle.queue_table.proofs.Splices.{count-append}
use Rattle.queue_table.proofs.Turning.{count-without}
use Rattle.queue_table.proofs.Orders.{IsOnce, order-short, section-in, closing-none, short-without, section-few, used-same, used-few, used-gone, used-other, used-sent, used-freed, used-kept}
use Rattle.queue_table.proofs.Contents.{map-same, lists-kept, lists-freed, lists-recent, lists-back, distinct-sent, taken-order}
use Rattle.queue_table.proofs.Holding.{sent-in}
use Rattle.queue_table.proofs.Indexing.{same-map}
use Rattle.queue_table.proofs.Tables.{free-real, free-unused, free-within, section-kept}
use Rattle.queue_table.proofs.Calls.{count-length, spare-sent, spare-freed, free-lists, used-not-free}
use Rattle.queue_table.proofs.Kept.{some-slots, some-used, used-slot, kept-on, section-few as lengths-few}
use Rattle.queue_table.proofs.Growing.{written-entry, other-entry, same-items, keeps-slots, keeps-others}

-- a slot that may go elsewhere: s are the queues without it
pub record IsLoose (slots : List Slot) (index : SlotIndex) (lengths : Lengths) (k : ℕ) (s : Queues) : Type 0 where
  pub kept : IsKept slots index lengths
  pub held : IsInSlots slots index (order_of slots)
  pub real : FIRST ≤ k
  pub within : k < length slots
  pub rest : lists_of (order_without k (order_of slots)) (entries slots) ≡ s
  pub distinct : IsDistinct s

-- a slot that went to a queue, with another item then
pub with-item : (k q b : ℕ) (i : Item) (e : Entry) (old mid new : List Slot) → k < length old → IsSent k q b e old mid → ChangesOnlyEntry k (entry i (slot_entry (entries mid) k).count) mid new → IsSent k q b (entry i e.count) old new
with-item k q b i e old mid new within x w =
    let in-entries : k < length (entries old) = rw (length-map old (λ (s : Slot). entry s.item s.count)) within in
    record {
      low = x.low;
      linked = subst (λ ns. IsRing ns (olders new) (ring (order_in (ring_of ns)))) (sym w.newers) (subst (λ os. IsRing (newers mid) os (ring (order_of mid))) (sym w.olders) x.linked);
      order = ap (λ l. order_in (ring_of l)) w.newers ∙ x.order;
      entries = w.entries ∙ (ap (λ l. set l k (entry i (slot_entry l k).count)) x.entries ∙ (set-set (entries old) k e _ ∙ ap (λ (y : Entry). set (entries old) k (entry i y.count)) (get_or-set_same (entries old) k e _ in-entries)));
      tags = w.tags ∙ x.tags;
    }

module _ (slots : List Slot) (index : SlotIndex) (lengths : Lengths) (x : IsKept slots index lengths) (k : ℕ) where
  pub free-loose : 1 ≤ count k (order_of slots 0) → IsLoose slots index lengths k (lists slots)
  free-loose n =
      let h = x.held (some-slots slots 0 (let l = count-length k (order_of slots 0) in omega (arith, n, l))) in
      record {
        kept = x;
        held = h;
        real = free-real slots (order_of slots) h.queued k n;
        within = free-within slots (order_of slots) h.queued k n;
        rest = free-lists slots (order_of slots) h.queued k n;
        distinct = h.queued.distinct;
      }

  pub used-loose : IsUsed k slots → IsLoose slots index lengths k (after_removal (slot_item (entries slots) k) (lists slots))
  used-loose u =
      let h = x.held (some-used slots k u) in
      let r = used-slot slots k h.queued u in
      record {
        kept = x;
        held = h;
        real = r.0;
        within = r.1;
        rest = sym (taken-order (order_of slots) (entries slots) k h.queued.short h.queued.distinct u);
        distinct = distinct-taken (slot_item (entries slots) k) (lists slots) h.queued.distinct;
      }

  -- a free slot is not in the index
  pub free-index : 1 ≤ count k (order_of slots 0) → IsIndexOf index (entries slots) (used (order_without k (order_of slots)))
  free-index n =
      let h = (free-loose n).held in
      subst (IsIndexOf index (entries slots)) (sym (used-same QUEUES (order_without k (order_of slots)) (order_of slots) (section-kept slots (order_of slots) h.queued k n))) h.indexed

  pub can-leave : IsUsed k slots → CanLeave k slots lengths
  can-leave u = record { queued = (x.held (some-used slots k u)).queued; used = u; counted = x.counted; few = lengths-few slots index lengths x }

module _ (slots : List Slot) (index : SlotIndex) (lengths : Lengths) (k : ℕ) (s : Queues) (l : IsLoose slots index lengths k s) where
  pub can-go : (p b : ℕ) → IsPlace b p (order_without k (order_of slots)) → CanGo k p b slots
  can-go p b h = record { linked = l.held.queued.linked; real = l.real; within = l.within; place = h }

  pub in-index : (1 ≤ k) × (k < capacity index.bits)
  in-index = let r = l.real in let w = l.within in let m = l.held.room in (omega (arith, r), omega (arith, w, m))

closing-without : (q k : ℕ) (o : Order) → q < QUEUES → IsOnce o → count (suc (suc q)) (order_without k o (suc q)) ≡ 0
closing-without q k o w u = let c = closing-none (suc q) (suc q) o (omega (arith, w)) (omega (arith, w)) u in let d = count-without k (suc (suc q)) (o (suc q)) in omega (arith, c, d)

-- to a queue, with an entry
module _ (slots slots2 : List Slot) (index : SlotIndex) (lengths : Lengths) (k q b : ℕ) (e : Entry) (s : Queues) (l : IsLoose slots index lengths k s) (m : IsSent k q b e slots slots2) where
  here : slot_entry (entries slots2) k ≡ e
  here = written-entry slots slots2 k e l.within m.entries

  other : (j : ℕ) → (j ≡ k → ⊥) → slot_entry (entries slots2) j ≡ slot_entry (entries slots) j
  other = other-entry slots slots2 k e l.within m.entries

  left : lists_of (order_without k (order_of slots)) (entries slots2) ≡ s
  left = ap (lists_of (order_without k (order_of slots))) m.entries ∙ (lists-kept (order_without k (order_of slots)) (entries slots) k e (short-without k (order_of slots) l.held.queued.short) (used-gone k (order_of slots)) ∙ l.rest)

  queued-after : IsAbsent e.item s → IsQueued slots2 (order_of slots2)
  queued-after a =
      let n = length-map slots (λ (x : Slot). x.queue) in
      record {
        linked = m.linked;
        short = order-short (ring_of (newers slots2));
        tagged = λ p j c. elim (sent-in k b (suc q) (suc p) j (order_of slots) (subst (λ (o : Order). 1 ≤ count j (o (suc p))) m.order c)) [
          | inl z ↦ rw m.tags (ap (λ y. tag_at (set (tags slots) k q) y) z.0 ∙ (get_or-set_same (tags slots) k q 0 (omega (arith, l.within, n)) ∙ (let t = z.1 in omega (arith, t))))
          | inr z ↦ rw m.tags (get_or-set_other (tags slots) k j q 0 z.0 ∙ l.held.queued.tagged p j z.1)
        ];
        distinct = subst (λ (o : Order). IsDistinct (lists_of o (entries slots2))) (sym m.order) (distinct-sent q k b (order_of slots) (entries slots2) m.low (subst IsDistinct (sym left) l.distinct)
            (subst (IsAbsent (slot_item (entries slots2) k)) (sym left) (subst (λ (x : Entry). IsAbsent x.item s) (sym here) a)));
      }

  pub recent-after : b ≡ suc (suc q) → lists slots2 ≡ after_push q e s
  recent-after z =
      let o : Order = order_of slots in
      let none : count b (order_without k o (suc q)) ≡ 0 = subst (λ c. count c (order_without k o (suc q)) ≡ 0) (sym z) (closing-without q k o m.low l.held.queued.linked.once) in
      grind (arith, nat_tests, lists-recent q k b o (entries slots2) none, here, left)

  behind-kept : (older : Option Item) → IsBehind b q older (entries slots) (order_without k (order_of slots) (suc q)) → IsBehind b q older (entries slots2) (order_without k (order_of slots) (suc q))
  behind-kept older c = record { front = c.front; back = c.back; whole = c.whole; older_last = ap last_item same ∙ c.older_last; next = c.next }
    where
      apart : (j : ℕ) → 1 ≤ count j c.front → j ≡ k → ⊥
      apart j n z =
          let a = ap (count j) c.whole in
          let u = used-gone k (order_of slots) in
          let y = ap (λ y. count y (used (order_without k (order_of slots)))) z in
          omega (arith, a, count-append, section-in q j (order_without k (order_of slots)) m.low, u, y, n)

      same : map (λ j. slot_entry (entries slots2) j) c.front ≡ map (λ j. slot_entry (entries slots) j) c.front
      same = map-same _ _ c.front (λ j n. other j (apart j n))

  pub back-after : (older : Option Item) → IsBehind b q older (entries slots) (order_without k (order_of slots) (suc q)) → lists slots2 ≡ after_return q older e s
  back-after older c =
      let o : Order = order_of slots in
      ap (λ (p : Order). lists_of p (entries slots2)) m.order
      ∙ (lists-back q k b o (entries slots2) older m.low (subst IsDistinct (sym left) l.distinct) (closing-without q k o m.low l.held.queued.linked.once) (behind-kept older c)
      ∙ (ap (λ (x : Entry). after_return q older x (lists_of (order_without k o) (entries slots2))) here ∙ ap (after_return q older e) left))

  spare-after : length (order_of slots2 0) + count k (order_of slots 0) ≡ length (order_of slots 0)
  spare-after = ap (λ (o : Order). length (o 0) + count k (order_of slots 0)) m.order ∙ spare-sent k q b (order_of slots)

  pub spare-taken : 1 ≤ count k (order_of slots 0) → length (order_of slots2 0) + 1 ≡ length (order_of slots 0)
  spare-taken n = let a = spare-after in let c = section-few 0 (order_of slots) k (omega arith) l.held.queued.linked.once in omega (arith, a, c, n)

  pub spare-same : IsUsed k slots → length (order_of slots2 0) ≡ length (order_of slots 0)
  spare-same u = let a = spare-after in let n = used-not-free k (order_of slots) l.held.queued.linked.once u in omega (arith, a, n)

  elsewhere : (j : ℕ) → (j ≡ k → ⊥) → count j (used (order_of slots2)) ≡ count j (used (order_of slots))
  elsewhere j d =
      let a = ap (λ (o : Order). count j (used o)) m.order in
      grind (arith, nat_tests, used-sent j k b q (order_of slots) m.low, used-other j k (order_of slots))

  pub slots-stay : 1 ≤ count k (order_of slots 0) → KeepsSlots slots slots2
  slots-stay n = keeps-slots slots slots2 k other elsewhere (free-unused slots (order_of slots) l.held.queued k n)

  pub others-stay : KeepsOthers (entry_at k slots).item slots slots2
  others-stay = keeps-others slots slots2 k other elsewhere

  -- the index gets the slot again, or has it still
  pub joins : IsAdded k e.item (slot_item (entries slots)) (slot_item (entries slots2)) (λ j. count j (used (order_without k (order_of slots)))) (λ j. count j (used (order_of slots2)))
  joins = record {
    absent = used-gone k (order_of slots);
    its = ap (λ (x : Entry). x.item) here;
    others = λ j d. ap (λ (x : Entry). x.item) (other j d);
    counted = λ j. ap (λ (o : Order). count j (used o)) m.order ∙ used-sent j k b q (order_of slots) m.low;
  }

  pub stays : IsUsed k slots → e.item ≡ slot_item (entries slots) k → IsIndexOf index (entries slots2) (used (order_of slots2))
  stays u i =
      let few = used-few (order_of slots) k l.held.queued.linked.once in
      same-map _ _ _ _ _ _ _ (same-items slots slots2 k e l.within m.entries i) (λ j. ap (λ (o : Order). count j (used o)) m.order ∙ used-kept j k b q (order_of slots) m.low (omega (arith, u, few))) l.held.indexed

  pub kept-after : (index2 : SlotIndex) (lengths2 : Lengths) → IsAbsent e.item s → IsIndexOf index2 (entries slots2) (used (order_of slots2)) → IsCounted lengths2 (sent k (suc q) b (order_of slots)) → index2.bits ≡ index.bits → IsKept slots2 index2 lengths2
  kept-after index2 lengths2 a x c bits =
      kept-on slots slots2 index index2 lengths lengths2 l.kept l.held (queued-after a) x (subst (IsCounted lengths2) (sym m.order) c) (ap length m.entries ∙ length-set (entries slots) k e) bits

-- to the free ones
module _ (slots slots2 : List Slot) (index : SlotIndex) (lengths : Lengths) (k : ℕ) (s : Queues) (l : IsLoose slots index lengths k s) (m : IsFreed k slots slots2) where
  pub lists-left : lists slots2 ≡ s
  lists-left = ap (λ (o : Order). lists_of o (entries slots2)) m.order ∙ (ap (lists_of (sent k 0 1 (order_of slots))) m.only.entries ∙ (lists-freed k 1 (order_of slots) (entries slots) ∙ l.rest))

  pub used-left : used (order_of slots2) ≡ used (order_without k (order_of slots))
  used-left = ap used m.order ∙ used-freed k 1 (order_of slots)

  pub spare-left : IsUsed k slots → length (order_of slots2 0) ≡ length (order_of slots 0) + 1
  spare-left u = ap (λ (o : Order). length (o 0)) m.order ∙ spare-freed k 1 (order_of slots) (used-not-free k (order_of slots) l.held.queued.linked.once u)

  pub others-left : KeepsOthers (entry_at k slots).item slots slots2
  others-left = keeps-others slots slots2 k (λ j d. ap (λ (x : List Entry). slot_entry x j) m.only.entries) (λ j d. ap (count j) used-left ∙ used-other j k (order_of slots) d)

  pub kept-left : (index2 : SlotIndex) (lengths2 : Lengths) → IsIndexOf index2 (entries slots) (used (order_of slots2)) → IsCounted lengths2 (sent k 0 1 (order_of slots)) → index2.bits ≡ index.bits → IsKept slots2 index2 lengths2
  kept-left index2 lengths2 x c bits =
      let queued : IsQueued slots2 (order_of slots2) = record {
        linked = m.linked;
        short = order-short (ring_of (newers slots2));
        tagged = λ p j n. elim (sent-in k 1 0 (suc p) j (order_of slots) (subst (λ (o : Order). 1 ≤ count j (o (suc p))) m.order n)) [
          | inl z ↦ absurd (let t = z.1 in omega (arith, t))
          | inr z ↦ rw m.only.tags (l.held.queued.tagged p j z.1)
        ];
        distinct = subst IsDistinct (sym lists-left) l.distinct;
      } in
      kept-on slots slots2 index index2 lengths lengths2 l.kept l.held queued (subst (λ (x : List Entry). IsIndexOf index2 x (used (order_of slots2))) (sym m.only.entries) x) (subst (IsCounted lengths2) (sym m.order) c) (ap length m.only.entries) bits
