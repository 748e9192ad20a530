-- Slots and index hold together, whatever moves.
use Rattle.std.proofs.Common.{◌≡◌, ℕ, suc, zero, ◌+◌, ◌<◌, ◌≤◌, false, cond, eqb, Some, List, ◌∷◌, ◌++◌, length, get_or, map, ap, ◌∙◌, sym, refl, subst, arith, ◌⊎◌, inl, inr, ◌-◌, None}
use Rattle.std.proofs.lemmas.Bool.{cases_eq, ne_eqb, eq-eqb, cases_Bool}
use Rattle.std.proofs.lemmas.Bool.Decides.{nat_tests}
use Rattle.queue_table.specs.Entries.{Entry, Item, is_same_item, last_item, before}
use Rattle.queue_table.specs.Queues.{QUEUES, queue_holding, place_in}
use Rattle.queue_table.specs.Ring.{Slot, entries, olders, newers, tags, slot_entry, slot_item, count, IsLinked, SECTIONS, FIRST, Order, ring, ring_from, used, used_below, order_of, sent, lists_of, tag_at, item_or, IsQueued, lists}
use Rattle.queue_table.proofs.Trees.{some_or_none}
use Rattle.queue_table.proofs.Splices.{count-append, linked-split, older-end, end_of}
use Rattle.queue_table.proofs.Turning.{IsSplit, split_at, turned, gone, count-without}
use Rattle.queue_table.proofs.Orders.{IsOnce, section-few, used-real, count-parts-ring, section-used, order-is, count-put}
use Rattle.queue_table.proofs.Contents.{alone, before-map, item-end, placed-at, unplaced-at}
use Rattle.std.proofs.lemmas.List.{length-map}
use Rattle.queue_table.specs.Index.{IsFound}
use Rattle.queue_table.proofs.QueueLists.{same-true}
use Rattle.queue_table.specs.QueueTable.{from_first, IsSlotOf}

linked-from : (n k s : ℕ) (ns os : List ℕ) (o : Order) (b : ℕ) → IsLinked ns os k (ring_from n k o) b → k ≤ s → s < k + n → IsLinked ns os s (o s) (suc s)
linked-from zero k s ns os o b h u w = absurd (omega (arith, u, w))
linked-from (suc n) k s ns os o b h u w =
    let a = linked-split ns os k (o k) (suc k) (ring_from n (suc k) o) b h in
    elim (cases_eq k s) [
      | inl e ↦ subst (λ x. IsLinked ns os x (o x) (suc x)) e a.0
      | inr d ↦ linked-from n (suc k) s ns os o b a.1 (omega (arith, u, d)) (omega (arith, w))
    ]

pub linked-section : (s : ℕ) (ns os : List ℕ) (o : Order) → s < SECTIONS → IsLinked ns os 0 (ring o) 0 → IsLinked ns os s (o s) (suc s)
linked-section s ns os o w h = linked-from SECTIONS 0 s ns os o 0 h (omega arith) (omega (arith, w))

module _ (slots : List Slot) (o : Order) (h : IsQueued slots o) where
  pub queued-order : order_of slots ≡ o
  queued-order = order-is (newers slots) (olders slots) o h.short h.linked

  pub used-within : (k : ℕ) → 1 ≤ count k (used o) → k < length (newers slots)
  used-within k n = h.linked.within k (let a = count-parts-ring k o in omega (arith, a, n))

  -- the place of a slot in use, from its links
  place-links : (q k : ℕ) → q < QUEUES → 1 ≤ count k (o (suc q)) →
      Some record { queue = q; older = item_or (entries slots) (get_or (olders slots) k 0) } ≡ place_in (slot_item (entries slots) k) (lists_of o (entries slots))
  place-links q k w n =
      let once : IsOnce o = h.linked.once in
      let its : List Entry = entries slots in
      let f : ℕ → Entry = λ j. slot_entry its j in
      let i : Item = slot_item its k in
      let p : queue_holding i (lists_of o its) ≡ Some q = placed-at q k o its w h.distinct n in
      let s : IsSplit k (o (suc q)) = split_at k (o (suc q)) (section-few (suc q) o k (omega (arith, w)) once) n in
      let links : IsLinked (newers slots) (olders slots) (suc q) (s.front ++ k ∷ s.back) (suc (suc q)) = subst (λ (l : List ℕ). IsLinked (newers slots) (olders slots) (suc q) l (suc (suc q))) s.whole (linked-section (suc q) (newers slots) (olders slots) o (omega (arith, w)) h.linked.linked) in
      let parts = linked-split (newers slots) (olders slots) (suc q) s.front k s.back (suc (suc q)) links in
      let oe : get_or (olders slots) k 0 ≡ end_of (suc q) s.front = older-end (newers slots) (olders slots) (suc q) s.front k parts.0 in
      let split_count : (j : ℕ) → count j (o (suc q)) ≡ count j s.front + (cond (eqb j k) 1 0 + count j s.back) = λ j. ap (count j) s.whole ∙ count-append j s.front (k ∷ s.back) in
      let in_front : (j : ℕ) → 1 ≤ count j s.front → 1 ≤ count j (used o) = λ j m. section-used q j o w (let c = split_count j in omega (arith, c, m)) in
      let other : (j : ℕ) → 1 ≤ count j s.front → is_same_item i (f j).item ≡ false = λ j m. (
      let a = alone o its k j h.distinct (section-used q k o w n) (in_front j m) in
      let d : k ≡ j → ⊥ = λ e. (let c = split_count k in let c2 = rw (eq-eqb k k refl) at c in let x = section-few (suc q) o k (omega (arith, w)) once in let y = ap (λ z. count z s.front) e in omega (arith, c2, x, y, m)) in
      a ∙ ne_eqb k j d) in
      let qe : lists_of o its q ≡ map f (s.front ++ k ∷ s.back) = ap (map f) s.whole in
      let older : item_or its (get_or (olders slots) k 0) ≡ last_item (before i (lists_of o its q)) =
      ap (item_or its) oe ∙ (item-end its (suc q) s.front (omega (arith, w)) (λ j m. used-real o j once (in_front j m)) ∙ sym (ap (λ (l : List Entry). last_item (before i l)) qe ∙ ap last_item (before-map f k s.front s.back other))) in
      rw (p, older) refl

-- where a slot is in use
pub data StandsIn (k n : ℕ) (o : Order) : Type 0 where
  stands : (q : ℕ) → q < n → 1 ≤ count k (o (suc q)) → StandsIn k n o

stands-below : (n k : ℕ) (o : Order) → 1 ≤ count k (used_below n o) → StandsIn k n o
stands-below zero k o h = absurd (omega (arith, h))
stands-below (suc n) k o h =
    elim (some_or_none (count k (o (suc n)))) [
      | inl a ↦ stands n (omega arith) a
      | inr a ↦ more (stands-below n k o (omega (arith, count-append, a, h)))
    ]
  where
    more : StandsIn k n o → StandsIn k (suc n) o
    more (stands q w m) = stands q (omega (arith, w)) m

pub stands_in : (k : ℕ) (o : Order) → 1 ≤ count k (used o) → StandsIn k QUEUES o
stands_in k o h = stands-below QUEUES k o h

-- what the fields of a slot in use say of its place
module _ (slots : List Slot) (o : Order) (h : IsQueued slots o) (k : ℕ) (n : 1 ≤ count k (used o)) where
  pub tag-low : tag_at (tags slots) k < QUEUES
  tag-low = grind (arith, nat_tests, stands_in k o n)

  pub tag-stands : 1 ≤ count k (o (suc (tag_at (tags slots) k)))
  tag-stands = grind (arith, nat_tests, stands_in k o n)

  pub older-within : get_or (olders slots) k 0 < length (newers slots)
  older-within =
      let r : FIRST ≤ k = used-real o k h.linked.once n in
      let w = used-within slots o h k n in
      let t = turned (newers slots) (olders slots) (ring o) k 0 h.linked (omega (arith, r)) w (omega (arith, w)) (λ e. omega (arith, r, e)) in
      t.older_in

  pub place-read : Some record { queue = tag_at (tags slots) k; older = item_or (entries slots) (get_or (olders slots) k 0) } ≡ place_in (slot_item (entries slots) k) (lists_of o (entries slots))
  place-read = place-links slots o h (tag_at (tags slots) k) k tag-low tag-stands

-- which slots stand in a section once one was sent

pub sent-in : (k b s r j : ℕ) (o : Order) → 1 ≤ count j (sent k s b o r) → ((j ≡ k) × (r ≡ s)) ⊎ ((j ≡ k → ⊥) × (1 ≤ count j (o r)))
sent-in k b s r j o n = grind (arith, nat_tests, count-put, gone, count-without, cases_eq)

-- ---- what a search of the index says of the slots

pub slots-length : (slots : List Slot) → length (newers slots) ≡ length slots
slots-length slots = length-map slots (λ (s : Slot). s.newer)

module _ (slots : List Slot) (i : Item) (r : ℕ) (f : IsFound i (slot_item (entries slots)) (λ k. count k (used (order_of slots))) r) where
  pub slot-found : IsQueued slots (order_of slots) → 1 ≤ r → IsSlotOf r i slots
  slot-found q n = let t = f.there n in record { queued = q; used = t.0; item = t.1 }

  pub slot-missing : r ≡ 0 → queue_holding i (lists slots) ≡ None
  slot-missing z = unplaced-at i (order_of slots) (entries slots) (λ k n. elim (cases_Bool (is_same_item i (slot_item (entries slots) k))) [
    | inl y ↦ absurd (f.missing z k n (sym (same-true i (slot_item (entries slots) k) y)))
    | inr y ↦ y
  ])

-- the slots from the first on that holds an item

pub count-from_first : (n k : ℕ) → n + FIRST ≤ k → count k (from_first n) ≡ 0
count-from_first zero k h = refl
count-from_first (suc n) k h = let r = count-from_first n k (omega arith) in grind (arith, nat_tests)

pub from_first-next : (at n m : ℕ) → FIRST ≤ at → n ≡ at - FIRST → m ≡ at + 1 - FIRST → (j : ℕ) → count j (from_first m) ≡ cond (eqb j at) 1 0 + count j (from_first n)
from_first-next at n m r e f j = grind (arith, nat_tests)
