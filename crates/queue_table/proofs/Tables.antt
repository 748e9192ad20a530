-- A free slot that comes into use, and one more free slot.
use Rattle.std.proofs.Common.{◌≡◌, ℕ, suc, zero, ◌+◌, ◌-◌, ◌<◌, ◌≤◌, cond, eqb, List, [], ◌∷◌, ◌++◌, length, get_or, set, map, ap, ◌∙◌, sym, refl, subst, arith, length-set, length-append, append_assoc}
use Rattle.std.proofs.Math.Path.{fun_ext}
use Rattle.std.proofs.lemmas.Bool.{cases_eq}
use Rattle.std.proofs.lemmas.List.{length-map, map-append}
use Rattle.std.proofs.lemmas.Bool.Decides.{nat_tests}
use Rattle.queue_table.specs.Entries.{Entry, entry}
use Rattle.queue_table.specs.Queues.{QUEUES, IsDistinct}
use Rattle.queue_table.specs.Ring.{Slot, entries, olders, newers, tags, slot_entry, count, IsLinked, IsRing, FIRST, Order, ring, ring_from, used, order_of, order_without, more_free, lists_of, lists, IsPlace, IsQueued}
use Rattle.queue_table.specs.Index.{SlotIndex, capacity}
use Rattle.queue_table.proofs.Indexing.{same-map}
use Rattle.queue_table.specs.QueueTable.{from_first, IsIndexOf, IsInSlots}
use Rattle.queue_table.proofs.Splices.{count-append, count-here, older-end, end_of, end-stands, linked}
use Rattle.queue_table.proofs.Turning.{without-none}
use Rattle.queue_table.proofs.Orders.{count-ring, count-parts-ring, section-in, real, used-real, used-few, used-free, with-other, short-with}
use Rattle.queue_table.proofs.Contents.{map-same}
use Rattle.queue_table.proofs.Holding.{linked-section, used-within, slots-length, count-from_first}
use Rattle.queue_table.proofs.SlotWrites.{no_slot}

module _ (slots : List Slot) (o : Order) (h : IsQueued slots o) (k : ℕ) (n : 1 ≤ count k (o 0)) where
  pub free-real : FIRST ≤ k
  free-real = real k o h.linked.once (omega (arith, n))

  pub free-unused : count k (used o) ≡ 0
  free-unused = let p = count-parts-ring k o in let u = h.linked.once k in omega (arith, p, u, n)

  pub free-within : k < length slots
  free-within = let w = h.linked.within k (let c = count-parts-ring k o in omega (arith, c, n)) in let l = slots-length slots in omega (arith, w, l)

  pub section-kept : (q : ℕ) → q < QUEUES → order_without k o (suc q) ≡ o (suc q)
  section-kept q w = without-none k (o (suc q)) (let c = section-in q k o w in let u = free-unused in omega (arith, c, u))

  pub place-free : (b q : ℕ) → q < QUEUES → IsPlace b (suc q) o → IsPlace b (suc q) (order_without k o)
  place-free b q w v = grind (arith, nat_tests, section-kept)

-- all slots from the first on are in use

few-from_first : (n k : ℕ) → k < FIRST → count k (from_first n) ≡ 0
few-from_first zero k h = refl
few-from_first (suc n) k h = let r = few-from_first n k h in grind (arith, nat_tests)

some-from_first : (n k : ℕ) → FIRST ≤ k → k < n + FIRST → count k (from_first n) ≡ 1
some-from_first zero k a b = absurd (omega (arith, a, b))
some-from_first (suc n) k a b = grind (arith, nat_tests, some-from_first n k a, count-from_first n k)

all-used : (slots : List Slot) (o : Order) → IsQueued slots o → o 0 ≡ [] → (j : ℕ) → count j (used o) ≡ count j (from_first (length slots - FIRST))
all-used slots o h f j =
    let l = slots-length slots in
    let real = used-real o j h.linked.once in
    let low = few-from_first (length slots - FIRST) j in
    let ring = count-ring j o in
    let one = used-few o j h.linked.once in
    let some = some-from_first (length slots - FIRST) j in
    let within = used-within slots o h j in
    let high = count-from_first (length slots - FIRST) j in
    grind (arith, nat_tests)

pub held-spread : (slots : List Slot) (index : SlotIndex) (o : Order) → IsQueued slots o → o 0 ≡ [] → IsIndexOf index (entries slots) (from_first (length slots - FIRST)) → length slots ≤ capacity index.bits → IsInSlots slots index o
held-spread slots index o h f x room = record { queued = h; indexed = same-map _ _ _ _ _ _ _ (λ j. refl) (all-used slots o h f) x; room = room }

-- one more free slot

get-more : {X : Type 0} (d : X) (xs : List X) (k : ℕ) → get_or (xs ++ d ∷ []) k d ≡ get_or xs k d
get-more d [] zero = refl
get-more d [] (suc k) = refl
get-more d (x ∷ xs) zero = refl
get-more d (x ∷ xs) (suc k) = get-more d xs k

linked-more : (ns os : List ℕ) (a : ℕ) (l : List ℕ) (b : ℕ) → IsLinked ns os a l b → IsLinked (ns ++ 0 ∷ []) (os ++ 0 ∷ []) a l b
linked-more ns os a [] b k = (get-more 0 ns a ∙ k.0, get-more 0 os b ∙ k.1)
linked-more ns os a (i ∷ l) b k = (get-more 0 ns a ∙ k.0, get-more 0 os i ∙ k.1, linked-more ns os i l b k.2)

-- the ring behind the free slots
abbrev queues-ring : Order → List ℕ
queues-ring o = 1 ∷ ring_from 4 1 o

last-older : (ns os : List ℕ) (o : Order) → IsRing ns os (ring o) → get_or (os ++ 0 ∷ []) 1 0 ≡ end_of 0 (o 0)
last-older ns os o x = get-more 0 os 1 ∙ older-end ns os 0 (o 0) 1 (linked-section 0 ns os o (omega arith) x.linked)

end-within : (ns os : List ℕ) (o : Order) → IsRing ns os (ring o) → end_of 0 (o 0) < length ns
end-within ns os o x = x.within (end_of 0 (o 0)) (let s = end-stands 0 (o 0) in let c = count-append (end_of 0 (o 0)) (o 0) (queues-ring o) in omega (arith, s, c))

ring-grown : (ns os : List ℕ) (o : Order) (n : ℕ) → IsRing ns os (ring o) → n ≡ length ns →
    (let e = get_or (os ++ 0 ∷ []) 1 0 in IsRing (set (set (ns ++ 0 ∷ []) e n) n 1) (set (set (os ++ 0 ∷ []) n e) 1 n) (ring (more_free n o)))
ring-grown ns os o n x is =
    let e : ℕ = get_or (os ++ 0 ∷ []) 1 0 in
    let ee : e ≡ end_of 0 (o 0) = last-older ns os o x in
    let one : (k : ℕ) → count k (0 ∷ ring o) + cond (eqb k n) 1 0 ≤ 1 = λ k. (let u = x.once k in let e = cases_eq k n in grind (arith, nat_tests)) in
    let parts : (k : ℕ) → count k (ring o) ≡ count k (o 0) + count k (queues-ring o) = λ k. count-append k (o 0) (queues-ring o) in
    let n1 = length-append ns (0 ∷ []) in
    let o1 = length-append os (0 ∷ []) in
    let same = x.same in
    let first = x.within 1 (let p = parts 1 in let c = count-here 1 (ring_from 4 1 o) in omega (arith, p, c)) in
    let eb : end_of 0 (o 0) < length ns = end-within ns os o x in
    let old : IsLinked (ns ++ 0 ∷ []) (os ++ 0 ∷ []) 0 (o 0 ++ queues-ring o) 0 = linked-more ns os 0 (ring o) 0 x.linked in
    let l0 : IsLinked (set (set (ns ++ 0 ∷ []) (end_of 0 (o 0)) n) n 1) (set (set (os ++ 0 ∷ []) n (end_of 0 (o 0))) 1 n) 0 (o 0 ++ n ∷ queues-ring o) 0 =
    linked (ns ++ 0 ∷ []) (os ++ 0 ∷ []) 0 (o 0) n 0 (queues-ring o) (λ k. let u = one k in let p = parts k in omega (arith, u, p)) (λ k. let u = one k in let p = parts k in let c = count-append k (queues-ring o) (0 ∷ []) in omega (arith, u, p, c)) (omega (arith, eb, n1)) (omega (arith, n1, is)) (omega (arith, o1, is, same)) (omega (arith, o1, same, first)) old in
    let l1 : IsLinked (set (set (ns ++ 0 ∷ []) e n) n 1) (set (set (os ++ 0 ∷ []) n e) 1 n) 0 (ring (more_free n o)) 0 =
    subst (λ (l : List ℕ). IsLinked (set (set (ns ++ 0 ∷ []) e n) n 1) (set (set (os ++ 0 ∷ []) n e) 1 n) 0 l 0) (sym (append_assoc (o 0) (n ∷ []) (queues-ring o))) (subst (λ y. IsLinked (set (set (ns ++ 0 ∷ []) y n) n 1) (set (set (os ++ 0 ∷ []) n y) 1 n) 0 (o 0 ++ n ∷ queues-ring o) 0) (sym ee) l0) in
    let cr : (k : ℕ) → count k (ring (more_free n o)) ≡ count k (ring o) + cond (eqb k n) 1 0 = λ k. (
    let a = ap (count k) (sym (sym (append_assoc (o 0) (n ∷ []) (queues-ring o)))) in
    let b = count-append k (o 0) (n ∷ queues-ring o) in
    let p = parts k in
    omega (arith, a, b, p)) in
    let lr : length (ring (more_free n o)) ≡ length (ring o) + 1 = (
    let a = ap length (sym (sym (append_assoc (o 0) (n ∷ []) (queues-ring o)))) in
    let b = length-append (o 0) (n ∷ queues-ring o) in
    let p = length-append (o 0) (queues-ring o) in
    omega (arith, a, b, p)) in
    let long = x.long in
    grind (arith, nat_tests, linked, cases_eq, length-set {A = ℕ})

pub older-first : (ns os : List ℕ) (o : Order) → IsRing ns os (ring o) → get_or (os ++ 0 ∷ []) 1 0 < length ns
older-first ns os o x = omega (arith, last-older ns os o x, end-within ns os o x)

pub olders-more : (slots slots2 : List Slot) → slots2 ≡ slots ++ no_slot ∷ [] → olders slots2 ≡ olders slots ++ 0 ∷ []
olders-more slots slots2 e = ap olders e ∙ map-append (λ (s : Slot). s.older) slots (no_slot ∷ [])

pub ring-linked : (slots mid slots2 : List Slot) (at : ℕ) → mid ≡ slots ++ no_slot ∷ [] → IsRing (newers slots) (olders slots) (ring (order_of slots)) → at ≡ length slots →
    newers slots2 ≡ set (set (newers mid) (get_or (olders mid) 1 0) at) at 1 → olders slots2 ≡ set (set (olders mid) at (get_or (olders mid) 1 0)) 1 at →
    IsRing (newers slots2) (olders slots2) (ring (more_free (length slots) (order_of slots)))
ring-linked slots mid slots2 at e x is n2 o2 =
    let n = (ap newers e ∙ map-append (λ (s : Slot). s.newer) slots (no_slot ∷ [])) in
    let o = olders-more slots mid e in
    rw (n2, o2, n, o, is) (ring-grown (newers slots) (olders slots) (order_of slots) (length slots) x (sym (slots-length slots)))

-- a slot more changes nothing of what is held

abbrev nothing : Entry
nothing = entry record { key = 0; node = 0 } 0

free-section : (q n : ℕ) (o : Order) → more_free n o (suc q) ≡ o (suc q)
free-section q n o = with-other 0 (suc q) (o 0 ++ n ∷ []) o (λ e. omega (arith, e))

lists-more : (n : ℕ) (o : Order) (es : List Entry) → lists_of (more_free n o) (es ++ nothing ∷ []) ≡ lists_of o es
lists-more n o es = fun_ext (λ q. ap (map (λ j. slot_entry (es ++ nothing ∷ []) j)) (free-section q n o) ∙ map-same (λ j. slot_entry (es ++ nothing ∷ []) j) (λ j. slot_entry es j) (o (suc q)) (λ j m. get-more nothing es j))

pub held-grown : (slots slots2 : List Slot) (index : SlotIndex) (n : ℕ) (o : Order) → IsInSlots slots index o → IsRing (newers slots2) (olders slots2) (ring (more_free n o)) →
    entries slots2 ≡ entries slots ++ nothing ∷ [] → tags slots2 ≡ tags slots ++ 0 ∷ [] → length slots + 1 ≤ capacity index.bits → IsInSlots slots2 index (more_free n o)
held-grown slots slots2 index n o h r it tg room = record {
  queued = record {
    linked = r;
    short = short-with 0 (o 0 ++ n ∷ []) o (omega arith) h.queued.short;
    tagged = λ q k m. rw (tg, get-more 0 (tags slots) k) (h.queued.tagged q k (let e = ap (count k) (free-section q n o) in omega (arith, e, m)));
    distinct = subst IsDistinct (sym (ap (lists_of (more_free n o)) it ∙ lists-more n o (entries slots))) h.queued.distinct;
  };
  indexed = rw it (same-map _ _ _ _ _ _ _ (λ k. ap (λ (e : Entry). e.item) (get-more nothing (entries slots) k)) (λ k. ap (count k) (used-free k (o 0 ++ n ∷ []) o)) h.indexed);
  room = (let a = length-map slots2 (λ (s : Slot). entry s.item s.count) in let b = length-map slots (λ (s : Slot). entry s.item s.count) in let c = ap length it in let d = length-append (entries slots) (nothing ∷ []) in omega (arith, a, b, c, d, room));
}

pub lists-grown : (slots slots2 : List Slot) (n : ℕ) → order_of slots2 ≡ more_free n (order_of slots) → entries slots2 ≡ entries slots ++ nothing ∷ [] → lists slots2 ≡ lists slots
lists-grown slots slots2 n e it = ap (λ (o : Order). lists_of o (entries slots2)) e ∙ (ap (lists_of (more_free n (order_of slots))) it ∙ lists-more n (order_of slots) (entries slots))
