-- What growth leaves.
use Rattle.std.proofs.Common.{◌≡◌, ℕ, ◌+◌, ◌*◌, ◌^◌, ◌≤◌, suc, cond, eqb, Result, Ok, Err, List, [], ◌∷◌, ◌++◌, length, ap, ◌∙◌, sym, subst, arith, length-append, ◌<◌, set, get_or-set_same, get_or-set_other}
use Rattle.std.specs.Result.{OnOk, OnErr}
use Rattle.std.specs.declared.alloc.AllocError.{AllocError}
use Rattle.std.proofs.Math.Path.{fun_ext}
use Rattle.std.proofs.lemmas.Bool.{cases_eq}
use Rattle.queue_table.specs.Entries.{Item, entry, Entry}
use Rattle.queue_table.specs.Ring.{Slot, entries, olders, newers, tags, FIRST, until, past, IsRing, Order, ring, order_of, more_free, no_slots, lists, IsQueued, slot_entry, slot_item, count, used, order_without}
use Rattle.queue_table.specs.Index.{SlotIndex, capacity, IsRemoved, LacksSlot}
use Rattle.queue_table.specs.QueueTable.{IsIndexOf, IsLoaded, IsInSlots, IsSound, IsSame, HoldsAt, entry_at, KeepsSlots, KeepsOthers}
use Rattle.std.proofs.lemmas.Nat.{pow-add}
use Rattle.std.proofs.lemmas.Bool.Decides.{nat_tests}
use Rattle.std.proofs.Math.Nat.{pow-le-pow_right}
use Rattle.queue_table.proofs.Holding.{queued-order}
use Rattle.queue_table.proofs.Tables.{held-grown, lists-grown}
use Rattle.std.proofs.lemmas.List.{length-map}
use Rattle.queue_table.proofs.Orders.{used-gone, used-without}
use Rattle.queue_table.proofs.QueueLists.{same-refl}

pub record IsSettled (before slots : List Slot) (index : SlotIndex) : Type 0 where
  pub held : IsInSlots slots index (order_of slots)
  pub same : IsSame before slots

pub record IsGrown (r : Result (Unit {0}) AllocError) (before slots : List Slot) (index : SlotIndex) : Type 0 where
  pub sound : IsSound slots index
  pub lists : lists slots ≡ lists before
  pub ok : OnOk r ((s : ℕ) → length (order_of slots s) ≡ length (order_of before s) + cond (eqb s 0) 1 0)
  pub err : OnErr r ((s : ℕ) → length (order_of slots s) ≡ length (order_of before s))

more : (n s : ℕ) (p : Order) → length (more_free n p s) ≡ length (p s) + cond (eqb s 0) 1 0
more n s p = let l = length-append (p 0) (n ∷ []) in let e = cases_eq s 0 in grind (arith, nat_tests)

pub grown : (r : Result (Unit {0}) AllocError) (s0 s3 s4 : List Slot) (index : SlotIndex) → IsSettled s0 s3 index → length s3 + 1 ≤ capacity index.bits →
    OnOk r (IsRing (newers s4) (olders s4) (ring (more_free (length s3) (order_of s3)))) → OnOk r (entries s4 ≡ entries s3 ++ entry record { key = 0; node = 0 } 0 ∷ []) → OnOk r (tags s4 ≡ tags s3 ++ 0 ∷ []) →
    OnErr r (s4 ≡ s3) → IsGrown r s0 s4 index
grown (Ok u) s0 s3 s4 index s room x it tg e =
    let h : IsInSlots s4 index (more_free (length s3) (order_of s3)) = held-grown s3 s4 index (length s3) (order_of s3) s.held x it tg room in
    let o : order_of s4 ≡ more_free (length s3) (order_of s3) = queued-order s4 (more_free (length s3) (order_of s3)) h.queued in
    record {
      sound = λ _. subst (IsInSlots s4 index) (sym o) h;
      lists = lists-grown s3 s4 (length s3) o it ∙ s.same.lists;
      ok = λ t. (let a = ap (λ (p : Order). length (p t)) o in let b = more (length s3) t (order_of s3) in let c = s.same.lengths t in omega (arith, a, b, c));
      err = tt;
    }
grown (Err f) s0 s3 s4 index s room x it tg e = grind (arith, nat_tests)

pub held-first : (slots : List Slot) (index : SlotIndex) → IsQueued slots no_slots → IsIndexOf index (entries slots) [] → length slots ≤ capacity index.bits → IsInSlots slots index (order_of slots)
held-first slots index q x room = grind (arith, nat_tests, queued-order slots no_slots q)

-- no slots have no sections

empty : (s : ℕ) → until (suc s) (past s (0 ∷ [])) ≡ []
empty s = grind (arith, nat_tests)

none : (s : ℕ) → order_of [] s ≡ []
none s = let e = empty s in grind (arith, nat_tests)

pub no-order : order_of [] ≡ no_slots
no-order = fun_ext none

-- the first slots hold nothing, as no slots do
pub same-first : (slots : List Slot) → IsQueued slots no_slots → IsSame [] slots
same-first slots q = grind (arith, nat_tests, queued-order slots no_slots q, no-order)

pub sixteen : (bits : ℕ) → 4 ≤ bits → 16 ≤ 2 ^ bits
sixteen bits h = let p : 2 ^ 4 ≤ 2 ^ bits = pow-le-pow_right (omega arith) h in p

-- the first index
pub first_loaded : (n bits : ℕ) → n ≡ FIRST → 4 ≤ bits → IsLoaded n bits
first_loaded n bits e h some few = let p = sixteen bits h in omega (arith, e, p)

-- and where it has room for one slot more
pub room_for : (n bits : ℕ) → 2 * n ≤ 2 ^ bits → n + 1 ≤ capacity bits
room_for n bits r = omega (arith, r)

-- an index of twice as many buckets has room for as many
pub wider_room : (n bits more : ℕ) → more ≡ bits + 1 → n ≤ capacity bits → n ≤ capacity more
wider_room n bits more e h = grind (arith, nat_tests, more, pow-add 2 1 bits)

-- ---- what the index owes when a slot gets an entry, and when it loses one

pub entries-length : (slots : List Slot) → length (entries slots) ≡ length slots
entries-length slots = length-map slots (λ (s : Slot). entry s.item s.count)

-- the slot goes out of the index, with the item that is read of it
pub leaves : (slots : List Slot) (o : Order) (k : ℕ) (i : Item) (left : List ℕ) → slot_item (entries slots) k ≡ i → left ≡ used (order_without k o) → 1 ≤ count k (used o) → IsRemoved k i (slot_item (entries slots)) (λ j. count j (used o)) (λ j. count j left)
leaves slots o k i left e w n = record { there = n; its = e; counted = λ j. ap (count j) w ∙ used-without j k o }

-- and is then not in it
pub lacks : (slots : List Slot) (index : SlotIndex) (o : Order) (k : ℕ) → IsIndexOf index (entries slots) (used (order_without k o)) → LacksSlot k index
lacks slots index o k x = record { item_of = slot_item (entries slots); used = λ j. count j (used (order_without k o)); indexed = x; absent = used-gone k o }

-- one entry in place of another one
module _ (slots slots2 : List Slot) (k : ℕ) (e : Entry) (within : k < length slots) (es : entries slots2 ≡ set (entries slots) k e) where
  pub written-entry : slot_entry (entries slots2) k ≡ e
  written-entry = let l = entries-length slots in ap (λ (s : List Entry). slot_entry s k) es ∙ get_or-set_same (entries slots) k e _ (omega (arith, within, l))

  pub other-entry : (j : ℕ) → (j ≡ k → ⊥) → slot_entry (entries slots2) j ≡ slot_entry (entries slots) j
  other-entry j d = ap (λ (s : List Entry). slot_entry s j) es ∙ get_or-set_other (entries slots) k j e _ d

  -- of the same item
  pub same-items : e.item ≡ slot_item (entries slots) k → (j : ℕ) → slot_item (entries slots2) j ≡ slot_item (entries slots) j
  same-items i j = grind (arith, nat_tests, cases_eq j k, written-entry, other-entry)

-- all slots but one keep their entries, and whether they are in use
module _ (old new : List Slot) (k : ℕ) (others : (j : ℕ) → (j ≡ k → ⊥) → entry_at j new ≡ entry_at j old) (uses : (j : ℕ) → (j ≡ k → ⊥) → count j (used (order_of new)) ≡ count j (used (order_of old))) where
  holds : (j : ℕ) (e : Entry) → (j ≡ k → ⊥) → HoldsAt j e old → HoldsAt j e new
  holds j e d h = record { used = (let a = h.used in let u = uses j d in omega (arith, a, u)); entry = others j d ∙ h.entry }

  pub keeps-slots : count k (used (order_of old)) ≡ 0 → KeepsSlots old new
  keeps-slots z j e h = holds j e (λ y. let a = h.used in let m = ap (λ i. count i (used (order_of old))) y in omega (arith, m, a, z)) h

  pub keeps-others : KeepsOthers (entry_at k old).item old new
  keeps-others j e h n = grind (arith, nat_tests, holds, same-refl (entry_at k old).item)
