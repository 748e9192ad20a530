-- Queues of distinct items, by number.
use Rattle.std.proofs.Common.{◌≡◌, ◌+◌, ◌≤◌, Option, Some, None, List, [], ◌∷◌, ◌++◌, refl, arith, ℕ, suc, zero, ◌<◌, map, ap, ◌∙◌, sym, append-nil}
use Rattle.std.proofs.lemmas.List.{map-append}
use Rattle.std.proofs.lemmas.Bool.Decides.{nat_tests}
use Rattle.std.proofs.lemmas.Bool.{cases_eq, cases_lt}
use Rattle.queue_table.specs.Items.{items_without}
use Rattle.queue_table.specs.Entries.{items_of, occurrences, entries_without, last_item, put_behind, Entry, Item, entry, IsGap}
use Rattle.queue_table.specs.Queues.{QUEUES, Queues, with_queue, queue_below, queue_holding, times_below, IsDistinct, after_removal, after_push, after_send, after_return}
use Rattle.queue_table.specs.Ring.{Slot, newers, ring_of, entries, slot_entry, lists}
use Rattle.queue_table.proofs.Items
pub use Rattle.queue_table.proofs.Items.{same-true, same-refl}
use Rattle.queue_table.proofs.Orders.{order-short}

-- ---- lists of entries

pub items-without : (i : Item) (l : List Entry) → items_of (entries_without i l) ≡ items_without i (items_of l)
items-without i [] = refl
items-without i (x ∷ l) = let r = items-without i l in grind (arith, nat_tests)

pub times-append : (i : Item) (xs ys : List Entry) → occurrences i (xs ++ ys) ≡ occurrences i xs + occurrences i ys
times-append i xs ys = rw map-append (Items.times-append i (items_of xs) (items_of ys))

pub times-without : (i j : Item) (l : List Entry) → occurrences j (entries_without i l) ≤ occurrences j l
times-without i j l = rw items-without (Items.times-without i j (items_of l))

pub times-gone : (i : Item) (l : List Entry) → occurrences i (entries_without i l) ≡ 0
times-gone i l = rw items-without (Items.times-gone i (items_of l))

-- the item stands in none of the queues
abbrev pub IsAbsent : Item → Queues → Type 0
IsAbsent i s = (q : ℕ) → q < QUEUES → occurrences i (s q) ≡ 0

absent-below : (n : ℕ) (i : Item) (s : Queues) → queue_below n i s ≡ None → (q : ℕ) → q < n → occurrences i (s q) ≡ 0
absent-below zero i s h q w = absurd (omega (arith, w))
absent-below (suc n) i s h q w = let r = absent-below n i s in let e = cases_eq q n in grind (arith, nat_tests)

pub absent : (i : Item) (s : Queues) → queue_holding i s ≡ None → IsAbsent i s
absent i s h = absent-below QUEUES i s h

is-absent-below : (n : ℕ) (i : Item) (s : Queues) → ((q : ℕ) → q < n → occurrences i (s q) ≡ 0) → queue_below n i s ≡ None
is-absent-below zero i s h = refl
is-absent-below (suc n) i s h =
    let r = is-absent-below n i s (λ q w. h q (omega (arith, w))) in
    grind (arith, nat_tests)

pub is_absent : (i : Item) (s : Queues) → IsAbsent i s → queue_holding i s ≡ None
is_absent i s h = is-absent-below QUEUES i s h

pub times-none : (n : ℕ) (i : Item) (s : Queues) → ((q : ℕ) → q < n → occurrences i (s q) ≡ 0) → times_below n i s ≡ 0
times-none zero i s h = refl
times-none (suc n) i s h = let a = h n (omega arith) in let r = times-none n i s (λ q w. h q (omega (arith, w))) in omega (arith, a, r)

times-in : (n q : ℕ) (i : Item) (s : Queues) → q < n → occurrences i (s q) ≤ times_below n i s
times-in zero q i s h = absurd (omega (arith, h))
times-in (suc n) q i s h = let r = times-in n q i s in let e = cases_eq q n in grind (arith, nat_tests)

placed-below : (n q : ℕ) (i : Item) (s : Queues) → times_below n i s ≤ 1 → q < n → 1 ≤ occurrences i (s q) → queue_below n i s ≡ Some q
placed-below zero q i s u w h = absurd (omega (arith, w))
placed-below (suc n) q i s u w h = grind (arith, nat_tests, times-in n q i s, placed-below n q i s, cases_eq q n)

pub placed : (q : ℕ) (i : Item) (s : Queues) → q < QUEUES → IsDistinct s → 1 ≤ occurrences i (s q) → queue_holding i s ≡ Some q
placed q i s w u h = placed-below QUEUES q i s (u i) w h

pub queue-few : (q : ℕ) (s : Queues) → q < QUEUES → IsDistinct s → (i : Item) → occurrences i (s q) ≤ 1
queue-few q s w u i = let n = u i in let t = times-in QUEUES q i s w in omega (arith, n, t)

-- taking out

pub absent-taken : (i : Item) (s : Queues) → IsAbsent i (after_removal i s)
absent-taken i s q w = times-gone i (s q)

pub distinct-taken : (i : Item) (s : Queues) → IsDistinct s → IsDistinct (after_removal i s)
distinct-taken i s u j = grind (arith, nat_tests, times-without)

-- an item that stands nowhere still stands nowhere once another is out
pub still-absent : (i v : Item) (s : Queues) → IsAbsent i s → IsAbsent i (after_removal v s)
still-absent i v s h q w = let a = h q w in let l = times-without v i (s q) in omega (arith, a, l)

-- one queue replaced

pub with-queue-same : (q : ℕ) (l : List Entry) (s : Queues) → with_queue q l s q ≡ l
with-queue-same q l s = grind (arith, nat_tests)

pub with-queue-other : (q j : ℕ) (l : List Entry) (s : Queues) → (j ≡ q → ⊥) → with_queue q l s j ≡ s j
with-queue-other q j l s d = grind (arith, nat_tests)

times-past : (n q : ℕ) (i : Item) (l : List Entry) (s : Queues) → n ≤ q → times_below n i (with_queue q l s) ≡ times_below n i s
times-past zero q i l s h = refl
times-past (suc n) q i l s h = let r = times-past n q i l s (omega arith) in grind (arith, nat_tests)

pub times-with : (n q : ℕ) (i : Item) (l : List Entry) (s : Queues) → q < n → times_below n i (with_queue q l s) + occurrences i (s q) ≡ times_below n i s + occurrences i l
times-with zero q i l s h = absurd (omega (arith, h))
times-with (suc n) q i l s h = grind (arith, nat_tests, times-with n q i l s, times-past n q i l s, cases_eq q n)

-- ---- the way back of one entry, from where it stood: whatever queue and count it was sent with, or out

pub without-none : (i : Item) (l : List Entry) → occurrences i l ≡ 0 → entries_without i l ≡ l
without-none i [] h = refl
without-none i (x ∷ l) h = let r = without-none i l in grind (arith, nat_tests)

without-append : (i : Item) (xs ys : List Entry) → entries_without i (xs ++ ys) ≡ entries_without i xs ++ entries_without i ys
without-append i [] ys = refl
without-append i (x ∷ xs) ys = let r = without-append i xs ys in grind (arith, nat_tests)

-- where an entry stands: queue p is cut around it
pub record StandsIn (p : ℕ) (e : Entry) (s : Queues) : Type 0 where
  pub low : p < QUEUES
  pub front : List Entry
  pub back : List Entry
  pub whole : s p ≡ front ++ e ∷ back

module _ (p : ℕ) (e : Entry) (s : Queues) (d : IsDistinct s) (at : StandsIn p e s) where
  sum : occurrences e.item (s p) ≡ occurrences e.item at.front + (1 + occurrences e.item at.back)
  sum = grind (arith, nat_tests, same-refl e.item, times-append e.item at.front (e ∷ at.back))

  pub front-none : occurrences e.item at.front ≡ 0
  front-none = let a = queue-few p s at.low d e.item in let b = sum in omega (arith, a, b)

  pub back-none : occurrences e.item at.back ≡ 0
  back-none = let a = queue-few p s at.low d e.item in let b = sum in omega (arith, a, b)

  pub rest : entries_without e.item (s p) ≡ at.front ++ at.back
  rest = grind (arith, nat_tests, without-append, without-none, front-none, back-none)

  front-few : (j : Item) → occurrences j at.front ≤ 1
  front-few j = grind (arith, nat_tests, queue-few p s at.low d j, times-append j at.front (e ∷ at.back))

  -- the gap that it leaves
  pub gap : IsGap (last_item at.front) (after_removal e.item s p)
  gap = record {
    before = items_of at.front;
    behind = items_of at.back;
    whole = ap items_of rest ∙ map-append (λ (x : Entry). x.item) at.front at.back;
    older_last = refl;
  }

  back-here : put_behind (last_item at.front) e (after_removal e.item s p) ≡ s p
  back-here = ap (put_behind (last_item at.front) e) rest ∙ Items.put_behind-at (λ (x : Entry). x.item) (last_item at.front) e at.front at.back front-few refl ∙ sym at.whole

-- what is out of a queue that gets it back
pub restored : (p : ℕ) (e : Entry) (s : Queues) (d : IsDistinct s) (at : StandsIn p e s) (none : (j : ℕ) → (j ≡ p → ⊥) → occurrences e.item (s j) ≡ 0)
    → (j : ℕ) → after_return p (last_item at.front) e (after_removal e.item s) j ≡ s j
restored p e s d at none j = grind (arith, nat_tests, back-here p e s d at, without-none e.item (s j), cases_eq j p)

pub twice : (i : Item) (l : List Entry) → entries_without i (entries_without i l) ≡ entries_without i l
twice i l = without-none i (entries_without i l) (times-gone i l)

-- a move with another count is taken out as the entry itself is
pub taken-sent : (e : Entry) (n q : ℕ) (s : Queues) (j : ℕ) → after_removal e.item (after_send (entry e.item n) q s) j ≡ after_removal e.item s j
taken-sent e n q s j = grind (arith, nat_tests, same-refl, without-append, append-nil, twice, cases_eq)

-- queues that are the same one by one
abbrev pub AreSame : Queues → Queues → Type 0
AreSame s t = (j : ℕ) → s j ≡ t j

pub return-same : (p : ℕ) (older : Option Item) (e : Entry) (s t : Queues) → AreSame s t → AreSame (after_return p older e s) (after_return p older e t)
return-same p older e s t h j = let a = h p in let b = h j in grind (arith, nat_tests)

-- whatever queue and count the entry was sent with, its queue and its older neighbour lead back
pub move-back : (p q n : ℕ) (e : Entry) (s : Queues) (d : IsDistinct s) (at : StandsIn p e s) (none : (j : ℕ) → (j ≡ p → ⊥) → occurrences e.item (s j) ≡ 0)
    → AreSame (after_return p (last_item at.front) e (after_removal e.item (after_send (entry e.item n) q s))) s
move-back p q n e s d at none j = grind (arith, nat_tests, return-same, taken-sent e n q s, restored p e s d at none j)

-- what joined is out again
pub pushed-back : (q : ℕ) (e : Entry) (s : Queues) → ((j : ℕ) → occurrences e.item (s j) ≡ 0) → AreSame (after_removal e.item (after_push q e s)) s
pushed-back q e s h j = grind (arith, nat_tests, same-refl, without-append, append-nil, without-none, cases_eq)

pub out-back : (p : ℕ) (e : Entry) (s : Queues) (d : IsDistinct s) (at : StandsIn p e s) (h : (j : ℕ) → (j ≡ p → ⊥) → occurrences e.item (s j) ≡ 0)
    → AreSame (after_return p (last_item at.front) e (after_removal e.item (after_removal e.item s))) s
out-back p e s d at h j = return-same p (last_item at.front) e _ _ (λ x. twice e.item (s x)) j ∙ restored p e s d at h j

-- a table has no queue from QUEUES on
pub high-empty : (slots : List Slot) (j : ℕ) → QUEUES ≤ j → lists slots j ≡ []
high-empty slots j w = ap (map (λ k. slot_entry (entries slots) k)) (order-short (ring_of (newers slots)) (suc j) (omega (arith, w)))

-- what stands nowhere is not taken out
pub out-none : (i : Item) (slots : List Slot) → queue_holding i (lists slots) ≡ None → after_removal i (lists slots) ≡ lists slots
out-none i slots h = grind (arith, nat_tests, cases_lt, without-none, absent, high-empty)
