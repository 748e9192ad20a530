-- Another count beside an item.
use Rattle.std.proofs.Common.{◌≡◌, ℕ, suc, zero, ◌≤◌, eqb, List, [], ◌∷◌, length, map, ap, ◌∙◌, sym, refl, subst, arith, inl, inr, length-set, ◌<◌, Some}
use Rattle.std.proofs.Math.Path.{fun_ext}
use Rattle.std.proofs.lemmas.Bool.{cases_eq, cases_lt}
use Rattle.std.proofs.lemmas.Bool.Decides.{nat_tests}
use Rattle.queue_table.specs.Entries.{Entry, Item, is_same_item, entry, occurrences, entries_counted}
use Rattle.queue_table.specs.Queues.{QUEUES, Queues, times_below, after_count, IsDistinct, queue_holding}
use Rattle.queue_table.specs.Ring.{Slot, entries, newers, olders, slot_entry, slot_item, count, Order, used, IsRing, ring, ring_of, order_in, order_of, lists, lists_of, IsQueued, ChangesOnlyEntry, tags, tag_at}
use Rattle.queue_table.specs.QueueTable.{Lengths, SlotIndex, entry_at, IsUsed, IsCounted, IsKept, KeepsOthers, IsSlotOf}
use Rattle.queue_table.proofs.Splices.{count-here}
use Rattle.queue_table.proofs.Orders.{section-used, order-short}
use Rattle.queue_table.proofs.Contents.{alone, placed-at, has-entry}
use Rattle.queue_table.proofs.Indexing.{same-map}
use Rattle.queue_table.proofs.Growing.{written-entry, other-entry, same-items, keeps-others}
use Rattle.queue_table.proofs.Kept.{kept-on}
use Rattle.queue_table.proofs.Moving.{IsLoose}
use Rattle.std.specs.List.{Contains}
use Rattle.queue_table.proofs.Holding.{tag-stands, tag-low}

map-counted : (f g : ℕ → Entry) (n k : ℕ) (l : List ℕ) → ((j : ℕ) → 1 ≤ count j l → is_same_item (f k).item (f j).item ≡ eqb k j) → ((j : ℕ) → (j ≡ k → ⊥) → g j ≡ f j) → g k ≡ entry (f k).item n →
    map g l ≡ entries_counted (f k).item n (map f l)
map-counted f g n k [] h a b = refl
map-counted f g n k (x ∷ l) h a b =
    let here : is_same_item (f k).item (f x).item ≡ eqb k x = h x (let c = count-here x l in omega (arith, c)) in
    let rest : map g l ≡ entries_counted (f k).item n (map f l) = map-counted f g n k l (λ j m. h j (omega arith)) a b in
    grind (arith, nat_tests, a x, cases_eq k x)

times-counted : (i j : Item) (n : ℕ) (l : List Entry) → occurrences j (entries_counted i n l) ≡ occurrences j l
times-counted i j n [] = refl
times-counted i j n (x ∷ l) = let r = times-counted i j n l in grind (arith, nat_tests)

pub distinct-counted : (i : Item) (n : ℕ) (s : Queues) → IsDistinct s → IsDistinct (after_count i n s)
distinct-counted i n s u j = let a = same QUEUES in let b = u j in omega (arith, a, b)
  where
    same : (m : ℕ) → times_below m j (after_count i n s) ≡ times_below m j s
    same zero = refl
    same (suc m) = let a = times-counted i j n (s m) in let r = same m in omega (arith, a, r)

module _ (slots slots2 : List Slot) (index : SlotIndex) (lengths : Lengths) (k n : ℕ) (s : Queues) (l : IsLoose slots index lengths k s) (u : IsUsed k slots) (m : ChangesOnlyEntry k (entry (slot_item (entries slots) k) n) slots slots2) where
  pub order-counted : order_of slots2 ≡ order_of slots
  order-counted = ap (λ (x : List ℕ). order_in (ring_of x)) m.newers

  pub lists-counted : lists slots2 ≡ after_count (slot_item (entries slots) k) n (lists slots)
  lists-counted =
      let o : Order = order_of slots in
      let h = l.held.queued in
      ap (λ (p : Order). lists_of p (entries slots2)) order-counted ∙ fun_ext (λ q. elim (cases_lt q QUEUES) [
        | inl a ↦ map-counted (λ j. slot_entry (entries slots) j) (λ j. slot_entry (entries slots2) j) n k (o (suc q))
            (λ j c. alone o (entries slots) k j h.distinct u (section-used q j o a c))
            (other-entry slots slots2 k _ l.within m.entries) (written-entry slots slots2 k _ l.within m.entries)
        | inr a ↦ ap (map (λ j. slot_entry (entries slots2) j)) (h.short (suc q) (omega (arith, a))) ∙ sym (ap (λ t. entries_counted (slot_item (entries slots) k) n (map (λ j. slot_entry (entries slots) j) t)) (h.short (suc q) (omega (arith, a))))
      ])

  pub others-counted : KeepsOthers (entry_at k slots).item slots slots2
  others-counted = keeps-others slots slots2 k (other-entry slots slots2 k _ l.within m.entries) (λ j d. ap (λ (o : Order). count j (used o)) order-counted)

  pub kept-counted : IsKept slots2 index lengths
  kept-counted =
      let queued : IsQueued slots2 (order_of slots2) = record {
        linked = subst (λ (o : Order). IsRing (newers slots2) (olders slots2) (ring o)) (sym order-counted) (rw (m.newers, m.olders) l.held.queued.linked);
        short = order-short (ring_of (newers slots2));
        tagged = λ q j c. rw m.tags (l.held.queued.tagged q j (subst (λ (o : Order). 1 ≤ count j (o (suc q))) order-counted c));
        distinct = subst IsDistinct (sym lists-counted) (distinct-counted (slot_item (entries slots) k) n (lists slots) l.held.queued.distinct);
      } in
      kept-on slots slots2 index index lengths lengths l.kept l.held queued
      (same-map _ _ _ _ _ _ _ (same-items slots slots2 k _ l.within m.entries refl) (λ j. ap (λ (o : Order). count j (used o)) order-counted) l.held.indexed)
      (subst (IsCounted lengths) (sym order-counted) l.kept.counted) (ap length m.entries ∙ length-set (entries slots) k _) refl

-- ---- what the fields of a slot in use say of its item

-- the slot of an item, by its fields as they are read
module _ (slots : List Slot) (k : ℕ) (i : Item) (r : Entry) (n : ℕ) (t : IsSlotOf k i slots) (own : slot_entry (entries slots) k ≡ r) (tag : tag_at (tags slots) k ≡ n) where
  pub found-entry : slot_entry (entries slots) k ≡ entry i r.count
  found-entry = own ∙ ap (λ (j : Item). entry j r.count) (sym (ap (λ (e : Entry). e.item) own) ∙ t.item)

  pub found-low : n < QUEUES
  found-low = let w = tag-low slots (order_of slots) t.queued k t.used in omega (arith, w, tag)

  pub found-queue : queue_holding i (lists slots) ≡ Some n
  found-queue =
      let w = tag-low slots (order_of slots) t.queued k t.used in
      let p = placed-at (tag_at (tags slots) k) k (order_of slots) (entries slots) w t.queued.distinct (tag-stands slots (order_of slots) t.queued k t.used) in
      ap (λ (x : Item). queue_holding x (lists slots)) (sym t.item) ∙ (p ∙ ap Some tag)

  pub found-stands : Contains (lists slots n) (entry i r.count)
  found-stands =
      let h = has-entry (λ j. slot_entry (entries slots) j) k (order_of slots (suc (tag_at (tags slots) k))) (tag-stands slots (order_of slots) t.queued k t.used) in
      subst (λ (m : ℕ). Contains (lists slots m) (entry i r.count)) tag (subst (Contains (lists slots (tag_at (tags slots) k))) found-entry h)
