-- What holds of a table while one of its calls works on the slots.
use Rattle.std.proofs.lemmas.Bool.Decides.{nat_tests}
use Rattle.std.proofs.lemmas.Grind.{common_steps}
use Rattle.std.proofs.Common.{◌≡◌, ℕ, suc, ◌<◌, ◌≤◌, ◌+◌, ◌^◌, List, [], ◌∷◌, ◌++◌, get_or, take, length, length-append, map, ap, ◌∙◌, sym, subst, arith, refl}
use Rattle.std.proofs.lemmas.List.{length-map, take_at}
use Rattle.std.proofs.lemmas.Simd.{map-map}
use Rattle.queue_table.specs.Entries.{Entry, Item, items_of}
use Rattle.queue_table.specs.Queues.{QUEUES, items_below, IsDistinct}
use Rattle.queue_table.specs.Ring.{Slot, entries, newers, olders, slot_entry, slot_item, count, walk, used, SECTIONS, FIRST, Order, ring, order_of, lists_of, lists, IsQueued, HasItems}
use Rattle.queue_table.specs.Index.{SlotIndex, HasSlot}
use Rattle.queue_table.specs.QueueTable.{Lengths, IsCounted, IsIndexOf, IsInSlots, IsKept}
use Rattle.queue_table.proofs.Splices.{walked}
use Rattle.queue_table.proofs.Orders.{used-real, ring-at, cut_at_section}
use Rattle.queue_table.proofs.Growing.{no-order, entries-length}
use Rattle.queue_table.proofs.Holding.{slots-length, linked-section}
use Rattle.queue_table.proofs.Calls.{slot-within}

pub some-slots : (slots : List Slot) (s : ℕ) → 1 ≤ length (order_of slots s) → 0 < length slots
some-slots [] s n = absurd (let e = ap (λ (o : Order). length (o s)) no-order in omega (arith, n, e))
some-slots (x ∷ slots) s n = omega arith

pub some-used : (slots : List Slot) (k : ℕ) → 1 ≤ count k (used (order_of slots)) → 0 < length slots
some-used [] k n = absurd (let e = ap (λ (o : Order). count k (used o)) no-order in omega (arith, n, e))
some-used (x ∷ slots) k n = omega arith

pub kept-on : (slots slots2 : List Slot) (index index2 : SlotIndex) (n n2 : Lengths) → IsKept slots index n → IsInSlots slots index (order_of slots) → IsQueued slots2 (order_of slots2) → IsIndexOf index2 (entries slots2) (used (order_of slots2)) → IsCounted n2 (order_of slots2) →
    length (entries slots2) ≡ length (entries slots) → index2.bits ≡ index.bits → IsKept slots2 index2 n2
kept-on slots slots2 index index2 n n2 k h q x c e b = search (arith, entries-length slots, entries-length slots2)

-- a queue that is not of length 0
pub has-items : (slots : List Slot) (index : SlotIndex) (n : Lengths) → IsKept slots index n → (q m : ℕ) → q < QUEUES → m ≡ get_or n.at (suc q) 0 → (m ≡ 0 → ⊥) → HasItems q slots
has-items slots index n k q m low e z = grind (arith, nat_tests, some-slots)

pub none-distinct : IsDistinct (lists [])
none-distinct = subst (λ (o : Order). IsDistinct (lists_of o [])) (sym no-order) (λ (i : Item). omega arith)

pub distinct-in : (slots : List Slot) (index : SlotIndex) (n : Lengths) → IsKept slots index n → IsDistinct (lists slots)
distinct-in [] index n k = none-distinct
distinct-in (x ∷ slots) index n k = (k.held (omega arith)).queued.distinct

ring-length : (o : Order) → length (ring o) ≡ length (o 0) + (length (o 1) + (length (o 2) + (length (o 3) + (length (o 4) + 5))))
ring-length o = simp length-append (omega arith)

-- the slot that stands before a queue is there
pub before-within : (slots : List Slot) → IsQueued slots (order_of slots) → (q : ℕ) → q < QUEUES → suc q < length slots
before-within slots h q w = omega (arith, h.linked.long, slots-length slots, ring-length (order_of slots), w)

-- all slots in the ring are fewer than the slots
ring-few : (slots : List Slot) (index : SlotIndex) (n : Lengths) → IsKept slots index n → length (ring (order_of slots)) < 2 ^ 32
ring-few v index n k = grind (arith, nat_tests, no-order, slots-length)

pub items-few : (slots : List Slot) (index : SlotIndex) (n : Lengths) → IsKept slots index n → get_or n.at 1 0 + get_or n.at 2 0 + get_or n.at 3 0 + get_or n.at 4 0 < 2 ^ 64
items-few slots index n k = grind (arith, nat_tests, ring-few slots index n k, ring-length (order_of slots))

pub section-few : (slots : List Slot) (index : SlotIndex) (n : Lengths) → IsKept slots index n → (s : ℕ) → s < SECTIONS → get_or n.at s 0 + 1 < 2 ^ 64
section-few slots index n k s w =
    grind (arith, nat_tests, ring-at, cut_at_section, ring-few slots index n k, length-append {A = ℕ})

pub length-queue : (slots : List Slot) (index : SlotIndex) (n : Lengths) (q : ℕ) → IsKept slots index n → q < QUEUES → get_or n.at (suc q) 0 ≡ length (lists slots q)
length-queue slots index n q k w = k.counted (suc q) (omega (arith, w)) ∙ sym (length-map ((order_of slots) (suc q)) (λ j. slot_entry (entries slots) j))

pub all-items : (slots : List Slot) (index : SlotIndex) (n : Lengths) → IsKept slots index n → get_or n.at 1 0 + get_or n.at 2 0 + get_or n.at 3 0 + get_or n.at 4 0 ≡ items_below QUEUES (lists slots)
all-items slots index n k = grind (arith, common_steps, length-queue)

-- a slot in use is behind those between the sections, and within the slots
pub used-slot : (slots : List Slot) (k : ℕ) → IsQueued slots (order_of slots) → 1 ≤ count k (used (order_of slots)) → (FIRST ≤ k) × (k < length slots)
used-slot slots k h u = (used-real (order_of slots) k h.linked.once u, slot-within slots (order_of slots) h k u)

-- and the index knows it, with its item
pub known : (slots : List Slot) (index : SlotIndex) (k : ℕ) (i : Item) → slot_item (entries slots) k ≡ i → IsInSlots slots index (order_of slots) → 1 ≤ count k (used (order_of slots)) → HasSlot k i index
known slots index k i e h u = record { item_of = slot_item (entries slots); used = λ j. count j (used (order_of slots)); indexed = h.indexed; there = u; its = e }

-- the items of a queue, slot by slot

pub listed : (slots : List Slot) (index : SlotIndex) (lengths : Lengths) (q : ℕ) → q < QUEUES → IsKept slots index lengths → map (λ k. slot_item (entries slots) k) (walk (newers slots) (suc q) (get_or lengths.at (suc q) 0)) ≡ items_of (lists slots q)
listed slots index lengths q w k =
    let n : get_or lengths.at (suc q) 0 ≡ length (order_of slots (suc q)) = k.counted (suc q) (omega (arith, w)) in
    ap (λ m. map (λ j. slot_item (entries slots) j) (walk (newers slots) (suc q) m)) n ∙ (ap (map (λ j. slot_item (entries slots) j)) (there slots k.held) ∙ sym (map-map (λ (e : Entry). e.item) (λ k. slot_entry (entries slots) k) (order_of slots (suc q))))
  where
    there : (s : List Slot) → (0 < length s → IsInSlots s index (order_of s)) → walk (newers s) (suc q) (length (order_of s (suc q))) ≡ order_of s (suc q)
    there [] h = let e = ap (λ (o : Order). o (suc q)) no-order in rw e refl
    there (x ∷ s) h =
        let i = h (omega arith) in
        walked (newers (x ∷ s)) (olders (x ∷ s)) (suc q) (order_of (x ∷ s) (suc q)) (suc (suc q)) (linked-section (suc q) (newers (x ∷ s)) (olders (x ∷ s)) (order_of (x ∷ s)) (omega (arith, w)) i.queued.linked.linked)

-- a fact of the slots as a call borrows and leaves them is one of the table before and after
pub on_view : {X : Type 0} (shown : X → Slot) (F : List Slot → List Slot → Type 0) (n : ℕ) (left rest lent : List X) (old : List Slot) → n ≡ length left → map shown lent ≡ old → F (map shown lent) (map shown left)
    → F old (map shown (take n (left ++ rest)))
on_view {X} shown F n left rest lent old a b x = subst (λ (s : List X). F old (map shown s)) (sym (take_at left rest n (sym a))) (subst (λ (s : List Slot). F s (map shown left)) b x)
