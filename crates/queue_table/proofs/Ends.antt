-- The ends of the sections, and the slots between them.
use Rattle.std.proofs.Common.{◌≡◌, ℕ, suc, zero, ◌<◌, ◌≤◌, Some, List, [], ◌∷◌, ◌++◌, length, get_or, map, ap, ◌∙◌, sym, refl, subst, arith, append_assoc, false, eqb, Option, None, option_map}
use Rattle.queue_table.specs.Entries.{Entry, Item, oldest_of, newest_from, newest_of, IsGap}
use Rattle.queue_table.proofs.Items.{newest-append, newest-map}
use Rattle.queue_table.specs.Ring.{Slot, newers, olders, slot_entry, slot_item, count, walk, IsRing, SECTIONS, Order, ring, IsQueued, entries, next_but, IsLinked, used, order_without, lists_of, IsPlace}
use Rattle.queue_table.proofs.Splices.{older-end, newer-start, end_of, start_of, start-stands, count-append, count-here, linked-split}
use Rattle.queue_table.proofs.Turning.{turned, IsSplit, split_at, gone, count-without, without-append, without-none}
use Rattle.queue_table.proofs.Holding.{linked-section, slots-length}
use Rattle.std.proofs.lemmas.Grind.{common_steps}
use Rattle.std.proofs.lemmas.Bool.{cases_eq, ne_eqb}
use Rattle.std.proofs.lemmas.List.{map-append}
use Rattle.std.proofs.lemmas.Simd.{map-map}
use Rattle.std.proofs.lemmas.Bool.Decides.{nat_tests}
use Rattle.queue_table.specs.Queues.{QUEUES, queue_holding}
use Rattle.engine_base.specs.Keys.{keys_without}
use Rattle.queue_table.specs.QueueTable.{IsBehind}
use Rattle.queue_table.proofs.Orders.{section-few, section-used, used-real}
use Rattle.queue_table.proofs.Contents.{IsCutAt, cut_at, alone, placed-at}

-- the first slot of a section, and the last one

pub first-slot : (slots : List Slot) (s : ℕ) (o : Order) → s < SECTIONS → IsQueued slots o → 1 ≤ length (o s) → oldest_of (o s) ≡ Some (get_or (newers slots) s 0)
first-slot slots s o w h n = some (o s) n ∙ ap Some (sym (newer-start (newers slots) (olders slots) s (o s) (suc s) (linked-section s (newers slots) (olders slots) o w h.linked.linked)))
  where
    some : (l : List ℕ) → 1 ≤ length l → oldest_of l ≡ Some (start_of l (suc s))
    some [] m = absurd (omega (arith, m))
    some (x ∷ l) m = refl

last-after-end : (a : ℕ) (l : List ℕ) → newest_from (Some a) l ≡ Some (end_of a l)
last-after-end a [] = refl
last-after-end a (x ∷ l) = last-after-end x l

pub last-slot : (slots : List Slot) (s : ℕ) (o : Order) → s < SECTIONS → IsQueued slots o → 1 ≤ length (o s) → newest_of (o s) ≡ Some (get_or (olders slots) (suc s) 0)
last-slot slots s o w h n = some (o s) n ∙ ap Some (sym (older-end (newers slots) (olders slots) s (o s) (suc s) (linked-section s (newers slots) (olders slots) o w h.linked.linked)))
  where
    some : (l : List ℕ) → 1 ≤ length l → newest_of l ≡ Some (end_of s l)
    some [] m = absurd (omega (arith, m))
    some (x ∷ l) m = last-after-end x l

pub first-stands : (k : ℕ) (l : List ℕ) → oldest_of l ≡ Some k → 1 ≤ count k l
first-stands k [] e = absurd (cc (e))
first-stands k (x ∷ l) e = let s : x ≡ k = cc (e) in subst (λ y. 1 ≤ count y (x ∷ l)) s (let c = count-here x l in omega (arith, c))

last-after-stands : (k a : ℕ) (l : List ℕ) → newest_from (Some a) l ≡ Some k → 1 ≤ count k (a ∷ l)
last-after-stands k a [] e = let s : a ≡ k = cc (e) in subst (λ y. 1 ≤ count y (a ∷ [])) s (let c = count-here a [] in omega (arith, c))
last-after-stands k a (x ∷ l) e = let r = last-after-stands k x l e in omega (arith, r)

pub last-stands : (k : ℕ) (l : List ℕ) → newest_of l ≡ Some k → 1 ≤ count k l
last-stands k [] e = absurd (cc (e))
last-stands k (x ∷ l) e = last-after-stands k x l e

pub last-entry : (es : List Entry) (k : ℕ) (l : List ℕ) → newest_of l ≡ Some k → newest_of (map (λ j. slot_entry es j) l) ≡ Some (slot_entry es k)
last-entry es k l e = newest-map (λ j. slot_entry es j) None l ∙ ap (option_map (λ j. slot_entry es j)) e

pub last-free : (slots : List Slot) (o : Order) → IsQueued slots o → 1 ≤ length (o 0) → 1 ≤ count (get_or (olders slots) 1 0) (o 0)
last-free slots o h n = last-stands (get_or (olders slots) 1 0) (o 0) (last-slot slots 0 o (omega arith) h n)

-- the items of a queue, slot by slot

pub newer-in : (slots : List Slot) (o : Order) → IsRing (newers slots) (olders slots) (ring o) → (k : ℕ) → k < length slots → get_or (newers slots) k 0 < length slots
newer-in slots o x zero w =
    let e = newer-start (newers slots) (olders slots) 0 (ring o) 0 x.linked in
    let s = start-stands (ring o) 0 in
    let n = x.within (start_of (ring o) 0) (omega (arith, s, count-append)) in
    let l = slots-length slots in
    omega (arith, e, n, l)
newer-in slots o x (suc k) w =
    let l = slots-length slots in
    let t = turned (newers slots) (olders slots) (ring o) (suc k) 0 x (omega arith) (omega (arith, w, l)) (omega (arith, w, l)) (λ e. omega (arith, e)) in
    omega (arith, t.newer_in, l)

pub walk-on : (ns : List ℕ) (es : List Entry) (at n m : ℕ) (xs ys : List Item) → n ≡ suc m → ys ≡ xs ++ slot_item es (get_or ns at 0) ∷ [] →
    ys ++ map (λ k. slot_item es k) (walk ns (get_or ns at 0) m) ≡ xs ++ map (λ k. slot_item es k) (walk ns at n)
walk-on ns es at n m xs ys e p = rw (p, e) (append_assoc xs (slot_item es (get_or ns at 0) ∷ []) (map (λ k. slot_item es k) (walk ns (get_or ns at 0) m)))

-- ---- the slot after a place of a queue, from the links

-- one link further than a slot that is left out
next-linked : (ns os : List ℕ) (j but c : ℕ) (ws : List ℕ) → IsLinked ns os j ws c → (but ≡ c → ⊥) → count but ws ≤ 1 → get_or (keys_without but ws) 0 c ≡ next_but ns j but
next-linked ns os j but c v k d few = grind (arith, nat_tests, without-none, newer-start, cases_eq)

-- the slot of the last item
record HasLast (f : ℕ → Item) (l : List ℕ) (n : Item) : Type 0 where
  at : ℕ
  stands : 1 ≤ count at l
  holds : f at ≡ n

has-last-from : (f : ℕ → Item) (a : ℕ) (l : List ℕ) (n : Item) → newest_from (Some (f a)) (map f l) ≡ Some n → HasLast f (a ∷ l) n
has-last-from f a [] n e = record { at = a; stands = (let c = count-here a [] in omega (arith, c)); holds = cc (e) }
has-last-from f a (x ∷ l) n e = grind (arith, nat_tests, has-last-from f x l n e)

has-last : (f : ℕ → Item) (l : List ℕ) (n : Item) → newest_of (map f l) ≡ Some n → HasLast f l n
has-last f [] n e = absurd (cc (e))
has-last f (x ∷ l) n e = has-last-from f x l n e

module _ (slots : List Slot) (o : Order) (h : IsQueued slots o) (q but j : ℕ) (w : q < QUEUES) (d : but ≡ suc (suc q) → ⊥) where
  links : IsLinked (newers slots) (olders slots) (suc q) (o (suc q)) (suc (suc q))
  links = linked-section (suc q) (newers slots) (olders slots) o (omega (arith, w)) h.linked.linked

  few : (k : ℕ) → count k (o (suc q)) ≤ 1
  few k = section-few (suc q) o k (omega (arith, w)) h.linked.once

  -- the cut right after a slot that stands there
  cut-after : 1 ≤ count j (order_without but o (suc q)) → IsBehind (next_but (newers slots) j but) q (Some (slot_item (entries slots) j)) (entries slots) (order_without but o (suc q))
  cut-after n =
      let s : IsSplit j (o (suc q)) = split_at j (o (suc q)) (few j) (omega (arith, count-without, n)) in
      let split_links : IsLinked (newers slots) (olders slots) (suc q) (s.front ++ j ∷ s.back) (suc (suc q)) = subst (λ (l : List ℕ). IsLinked (newers slots) (olders slots) (suc q) l (suc (suc q))) s.whole links in
      let parts = linked-split (newers slots) (olders slots) (suc q) s.front j s.back (suc (suc q)) split_links in
      let apart : eqb but j ≡ false = ne_eqb but j (λ z. (let g = gone but (o (suc q)) in let m = ap (λ y. count y (keys_without but (o (suc q)))) z in omega (arith, g, m, n))) in
      let back_few : count but s.back ≤ 1 = (let a = ap (count but) s.whole in let p = count-append but s.front (j ∷ s.back) in let u = few but in omega (arith, a, p, u)) in
      let cut : keys_without but (s.front ++ j ∷ s.back) ≡ (keys_without but s.front ++ j ∷ []) ++ keys_without but s.back =
      without-append but s.front (j ∷ s.back) ∙ rw apart (sym (append_assoc (keys_without but s.front) (j ∷ []) (keys_without but s.back))) in
      grind (arith, nat_tests, map-append, newest-append, next-linked)

  pub cut-behind : (older : Option Item) → (older ≡ None → j ≡ suc q) →
      ((n : Item) → older ≡ Some n → (queue_holding n (lists_of o (entries slots)) ≡ None → ⊥) → (1 ≤ count j (used o)) × (slot_item (entries slots) j ≡ n)) →
      IsGap older (lists_of (order_without but o) (entries slots) q) → IsBehind (next_but (newers slots) j but) q older (entries slots) (order_without but o (suc q))
  cut-behind None a c g = grind (arith, nat_tests, next-linked, links, few)
  cut-behind (Some n) a c g =
      let f : ℕ → Item = λ k. slot_item (entries slots) k in
      let l : List ℕ = order_without but o (suc q) in
      let t : IsCutAt f l g.before g.behind =
      cut_at f l g.before g.behind (sym (map-map (λ (e : Entry). e.item) (λ k. slot_entry (entries slots) k) l) ∙ g.whole) in
      let v : HasLast f t.front n = has-last f t.front n (ap newest_of t.fronts ∙ g.older_last) in
      let there : 1 ≤ count v.at l = (let e = ap (count v.at) t.whole in let p = count-append v.at t.front t.back in let s = v.stands in omega (arith, p, s)) in
      let stands : 1 ≤ count v.at (o (suc q)) = (let p = count-without but v.at (o (suc q)) in omega (arith, p, there)) in
      let in_use : 1 ≤ count v.at (used o) = section-used q v.at o w stands in
      let holding : queue_holding n (lists_of o (entries slots)) ≡ Some q = subst (λ (x : Item). queue_holding x (lists_of o (entries slots)) ≡ Some q) v.holds (placed-at q v.at o (entries slots) w h.distinct stands) in
      let s = c n refl (λ z. cc (z, holding)) in
      let apart = alone o (entries slots) j v.at h.distinct s.0 in_use in
      let same : j ≡ v.at = grind (arith, nat_tests) in
      subst (λ (x : Option Item). IsBehind (next_but (newers slots) j but) q x (entries slots) l) (ap Some s.1) (cut-after (subst (λ x. 1 ≤ count x l) (sym same) there))

-- the slot after a cut is a place
pub behind-place : (b q : ℕ) (older : Option Item) (es : List Entry) (o : Order) → IsBehind b q older es (o (suc q)) → IsPlace b (suc q) o
behind-place b q older es o c = grind (arith, common_steps, count-append, count-here)

-- slot 0 stands in no queue
pub none-out : (slots : List Slot) (o : Order) → IsQueued slots o → (q : ℕ) → q < QUEUES → order_without 0 o (suc q) ≡ o (suc q)
none-out slots o h q w = grind (arith, nat_tests, used-real, section-used, without-none)
