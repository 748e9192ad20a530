-- How long the sections are once a slot moved, and the lists without it.
use Rattle.std.proofs.Common.{◌≡◌, ℕ, suc, ◌+◌, ◌<◌, ◌≤◌, cond, eqb, get_or, List, [], ◌∷◌, length, refl, arith}
use Rattle.std.proofs.lemmas.Bool.{cases_eq}
use Rattle.std.proofs.lemmas.Bool.Decides.{nat_tests}
use Rattle.queue_table.specs.Ring.{Slot, entries, count, put_before, SECTIONS, Order, used, order_without, sent, lists_of, IsQueued}
use Rattle.queue_table.specs.QueueTable.{Lengths, IsCounted}
use Rattle.queue_table.proofs.Turning.{length-without}
use Rattle.queue_table.proofs.Orders.{IsOnce, section-few, section-alone, count-parts-ring, with-other}
use Rattle.queue_table.proofs.Contents.{lists-unused}
use Rattle.queue_table.proofs.Holding.{used-within, slots-length}
use Rattle.queue_table.proofs.Tables.{free-unused}

-- lengths

length-put : (k b : ℕ) (l : List ℕ) → length (put_before k b l) ≡ length l + 1
length-put k b [] = refl
length-put k b (x ∷ l) = let r = length-put k b l in grind (arith, nat_tests)

-- one slot fewer where it stood, one more where it goes
pub lengths-sent : (k s b from t : ℕ) (o : Order) → from < SECTIONS → t < SECTIONS → IsOnce o → 1 ≤ count k (o from) → length (sent k s b o t) + cond (eqb t from) 1 0 ≡ length (o t) + cond (eqb t s) 1 0
lengths-sent k s b from t o w v u n = search (arith, length-put, cases_eq, length-without, section-few, section-alone)

pub counted-sent : (lengths lengths2 : Lengths) (k s b from here to : ℕ) (o : Order) → IsCounted lengths o → from < SECTIONS → IsOnce o → 1 ≤ count k (o from) → here ≡ from → to ≡ s →
    ((t : ℕ) → t < SECTIONS → get_or lengths2.at t 0 + cond (eqb t here) 1 0 ≡ get_or lengths.at t 0 + cond (eqb t to) 1 0) → IsCounted lengths2 (sent k s b o)
counted-sent lengths lengths2 k s b from here to o c w u n eh et h t v = grind (arith, nat_tests, lengths-sent)

pub count-length : (k : ℕ) (l : List ℕ) → count k l ≤ length l
count-length k l = let a = length-without k l in omega (arith, a)

-- a section that has a slot is not empty
pub some-counted : (lengths : Lengths) (o : Order) (s k : ℕ) → IsCounted lengths o → s < SECTIONS → 1 ≤ count k (o s) → 1 ≤ get_or lengths.at s 0
some-counted lengths o s k c w n = let a = c s w in let b = count-length k (o s) in omega (arith, a, b, n)

pub spare-sent : (k q b : ℕ) (o : Order) → length (sent k (suc q) b o 0) + count k (o 0) ≡ length (o 0)
spare-sent k q b o = grind (arith, nat_tests, with-other, length-without)

pub spare-freed : (k b : ℕ) (o : Order) → count k (o 0) ≡ 0 → length (sent k 0 b o 0) ≡ length (o 0) + 1
spare-freed k b o n = grind (arith, nat_tests, length-put, length-without)

pub used-not-free : (k : ℕ) (o : Order) → IsOnce o → 1 ≤ count k (used o) → count k (o 0) ≡ 0
used-not-free k o u n = let a = count-parts-ring k o in let b = u k in omega (arith, a, b, n)

-- the lists without a free slot, and without one in use

pub free-lists : (slots : List Slot) (o : Order) (h : IsQueued slots o) (k : ℕ) → 1 ≤ count k (o 0) → lists_of (order_without k o) (entries slots) ≡ lists_of o (entries slots)
free-lists slots o h k n = lists-unused o (entries slots) k h.short (free-unused slots o h k n)

pub slot-within : (slots : List Slot) (o : Order) → IsQueued slots o → (k : ℕ) → 1 ≤ count k (used o) → k < length slots
slot-within slots o h k n = let w = used-within slots o h k n in let l = slots-length slots in omega (arith, w, l)
