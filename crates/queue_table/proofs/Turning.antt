-- A slot of a ring moved to another place of it.
use Rattle.std.proofs.Common.{◌≡◌, ℕ, ◌+◌, ◌≤◌, Bool, cond, eqb, List, [], ◌∷◌, ◌++◌, length, ◌∙◌, refl, arith, map, ◌-◌, ◌<◌, false, get_or, set, ap, sym, subst, ◌⊎◌, inl, inr, length-set, length-append, append-nil}
use Rattle.std.proofs.lemmas.Bool.Decides.{nat_tests}
use Rattle.queue_table.specs.Ring.{count, put_before, IsLinked, IsRing, walk, ring_of, moved_before}
use Rattle.engine_base.specs.Keys.{keys_without}
use Rattle.std.proofs.lemmas.Bool.{eqb-true, ne_eqb, cases_Bool, cases_eq, cond-true, cond-false}
use Rattle.queue_table.proofs.Splices.{count-append, end_of, start_of, end-stands, start-stands, older-end, newer-start, linked-split, unlinked, linked, walked}

-- ---- lists of slots, with one taken out or put in

pub without-append : (k : ℕ) (xs ys : List ℕ) → keys_without k (xs ++ ys) ≡ keys_without k xs ++ keys_without k ys
without-append k [] ys = refl
without-append k (x ∷ xs) ys = let r = without-append k xs ys in grind (arith, nat_tests)

-- before a sentinel: at the recent end of the queue that ends there
pub put-sentinel : (k b : ℕ) (xs ys : List ℕ) → count b xs ≡ 0 → put_before k b (xs ++ b ∷ ys) ≡ (xs ++ k ∷ []) ++ b ∷ ys
put-sentinel k b [] ys h = grind (arith, nat_tests)
put-sentinel k b (x ∷ xs) ys h = let r = put-sentinel k b xs ys in grind (arith, nat_tests)

pub gone : (k : ℕ) (l : List ℕ) → count k (keys_without k l) ≡ 0
gone k [] = refl
gone k (x ∷ l) = let r = gone k l in grind (arith, nat_tests)

pub count-left : (k j : ℕ) (l : List ℕ) → (j ≡ k → ⊥) → count j (keys_without k l) ≡ count j l
count-left k j [] d = refl
count-left k j (y ∷ l) d = let r = count-left k j l d in grind (arith, nat_tests)

pub count-without : (n k : ℕ) (l : List ℕ) → count k (keys_without n l) ≤ count k l
count-without n k [] = omega arith
count-without n k (x ∷ l) = let r = count-without n k l in grind (arith, nat_tests)

pub length-without : (k : ℕ) (l : List ℕ) → length (keys_without k l) + count k l ≡ length l
length-without k [] = refl
length-without k (x ∷ l) = let r = length-without k l in grind (arith, nat_tests)

-- put in place

pub put-past : (k b : ℕ) (xs ys : List ℕ) → count b xs ≡ 0 → put_before k b (xs ++ ys) ≡ xs ++ put_before k b ys
put-past k b [] ys h = refl
put-past k b (x ∷ xs) ys h = let r = put-past k b xs ys in grind (arith, nat_tests)

pub put-there : (k b : ℕ) (xs ys : List ℕ) → 1 ≤ count b xs → put_before k b (xs ++ ys) ≡ put_before k b xs ++ ys
put-there k b [] ys h = absurd (omega arith)
put-there k b (x ∷ xs) ys h = let r = put-there k b xs ys in grind (arith, nat_tests)

-- numbers and items

pub map-without : {X : Type 0} (f : ℕ → X) (same : X → Bool) (k : ℕ) (l : List ℕ) (drop : List X → List X) →
    drop [] ≡ [] → ((x : X) (xs : List X) → drop (x ∷ xs) ≡ cond (same x) (drop xs) (x ∷ drop xs)) →
    ((j : ℕ) → 1 ≤ count j l → same (f j) ≡ eqb k j) → drop (map f l) ≡ map f (keys_without k l)
map-without f same k [] drop a b h = a
map-without f same k (x ∷ l) drop a b h =
    let here : same (f x) ≡ eqb k x = h x (grind (arith, nat_tests)) in
    b (f x) (map f l) ∙ rw (here, map-without f same k l drop a b (λ j n. h j (omega arith))) (grind (arith, nat_tests))

pub without-none : (k : ℕ) (l : List ℕ) → count k l ≡ 0 → keys_without k l ≡ l
without-none k [] h = refl
without-none k (x ∷ l) h = let r = without-none k l in grind (arith, nat_tests)

-- where a slot stands
pub record IsSplit (k : ℕ) (l : List ℕ) : Type 0 where
  pub front : List ℕ
  pub back : List ℕ
  pub whole : l ≡ front ++ k ∷ back
  pub rest : keys_without k l ≡ front ++ back

pub split_at : (k : ℕ) (l : List ℕ) → count k l ≤ 1 → 1 ≤ count k l → IsSplit k l
split_at k [] u h = absurd (omega arith)
split_at k (x ∷ l) u h =
    elim (cases_Bool (eqb k x)) [
      | inl e ↦ grind (arith, nat_tests, eqb-true, cond-true, without-none)
      | inr e ↦
          let u2 : 0 + count k l ≤ 1 = rw e at u in
          let h2 : 1 ≤ 0 + count k l = rw e at h in
          let s = split_at k l (omega arith) (omega arith) in
          record { front = x ∷ s.front; back = s.back; whole = ap (λ t. x ∷ t) s.whole; rest = cond-false (eqb k x) (keys_without k l) (x ∷ keys_without k l) e ∙ ap (λ t. x ∷ t) s.rest }
    ]

-- where it goes
pub record IsSpot (k b : ℕ) (m : List ℕ) : Type 0 where
  pub front : List ℕ
  pub back : List ℕ
  pub whole : m ≡ front ++ back
  pub start : start_of back 0 ≡ b
  pub put : put_before k b m ≡ front ++ k ∷ back

pub spot : (k b : ℕ) (m : List ℕ) → (1 ≤ count b m) ⊎ (b ≡ 0) → IsSpot k b m
spot k b [] (inl h) = absurd (omega arith)
spot k b [] (inr h) = record { front = []; back = []; whole = refl; start = sym h; put = refl }
spot k b (x ∷ m) h =
    elim (cases_Bool (eqb b x)) [
      | inl e ↦ record { front = []; back = x ∷ m; whole = refl; start = sym (eqb-true b x e); put = cond-true (eqb b x) (k ∷ x ∷ m) (x ∷ put_before k b m) e }
      | inr e ↦
          let g : (1 ≤ count b m) ⊎ (b ≡ 0) = elim h as (λ _. (1 ≤ count b m) ⊎ (b ≡ 0)) [ inl n ↦ inl (let n2 : 1 ≤ 0 + count b m = rw e at n in omega arith) | inr z ↦ inr z ] in
          let s = spot k b m g in
          record { front = x ∷ s.front; back = s.back; whole = ap (λ t. x ∷ t) s.whole; start = s.start; put = cond-false (eqb b x) (k ∷ x ∷ m) (x ∷ put_before k b m) e ∙ ap (λ t. x ∷ t) s.put }
    ]

older-start : (ns os : List ℕ) (a : ℕ) (us vs : List ℕ) (b : ℕ) → IsLinked ns os a (us ++ vs) b → get_or os (start_of vs b) 0 ≡ end_of a us
older-start ns os a us v b k = grind (arith, nat_tests, older-end, append-nil, linked-split)

-- how the ring stands once the slot is out, and once it is back
pub record IsTurned (ns os l : List ℕ) (k b : ℕ) : Type 0 where
  pub older_in : get_or os k 0 < length ns
  pub newer_in : get_or ns k 0 < length ns
  pub next_in : get_or (set os (get_or ns k 0) (get_or os k 0)) b 0 < length ns
  pub ring : (let e = get_or (set os (get_or ns k 0) (get_or os k 0)) b 0 in
      IsRing (set (set (set ns (get_or os k 0) (get_or ns k 0)) e k) k b) (set (set (set os (get_or ns k 0) (get_or os k 0)) k e) b k) (moved_before k b l))

-- a ring of the same slots in another order
same-slots : (ns os ns2 os2 l l2 : List ℕ) → IsRing ns os l → IsLinked ns2 os2 0 l2 0 → ((j : ℕ) → count j (0 ∷ l2) ≡ count j (0 ∷ l)) → length ns2 ≡ length ns → length os2 ≡ length os → length l2 ≡ length l → IsRing ns2 os2 l2
same-slots ns os ns2 os2 l l2 r linked2 c n o m =
    let same = r.same in
    let long = r.long in
    record {
      linked = linked2;
      once = λ j. (let a = r.once j in let e = c j in omega (arith, a, e));
      within = λ j h. (let a = r.within j (let e = c j in omega (arith, e, h)) in omega (arith, a, n));
      all = λ j h. (let a = r.all j (omega (arith, h, n)) in let e = c j in omega (arith, a, e));
      same = omega (arith, same, n, o);
      long = omega (arith, long, n, m);
    }

-- the same facts, in the words of the code
turned_to : (ns os l : List ℕ) (k b : ℕ) (r : IsRing ns os l) (xs ys us vs : List ℕ) → l ≡ xs ++ k ∷ ys → ((j : ℕ) → count j us + count j vs ≡ count j xs + count j ys) →
    keys_without k l ≡ xs ++ ys → put_before k b (xs ++ ys) ≡ us ++ k ∷ vs → xs ++ ys ≡ us ++ vs →
    get_or os k 0 ≡ end_of 0 xs → get_or ns k 0 ≡ start_of ys 0 → get_or (set os (start_of ys 0) (end_of 0 xs)) b 0 ≡ end_of 0 us → start_of vs 0 ≡ b →
    get_or os k 0 < length ns → get_or ns k 0 < length ns → end_of 0 us < length ns →
    IsLinked (set (set (set ns (end_of 0 xs) (start_of ys 0)) (end_of 0 us) k) k (start_of vs 0)) (set (set (set os (start_of ys 0) (end_of 0 xs)) k (end_of 0 us)) (start_of vs 0) k) 0 (us ++ k ∷ vs) 0 →
    IsTurned ns os l k b
turned_to ns os l k b r xs ys us vs wh sc wo pu mi oe ne ob st oi ni ui fin =
    let ct : (j : ℕ) → count j (0 ∷ us ++ k ∷ vs) ≡ count j (0 ∷ l) = λ j. (let a = (count-append j us (k ∷ vs)) in let c = (count-append j xs (k ∷ ys)) in let d = ap (count j) wh in let f = sc j in omega (arith, a, c, d, f)) in
    let lo : length (us ++ k ∷ vs) ≡ length l = (let a = ap length wh in let d = ap length mi in let f1 = length-append us (k ∷ vs) in let f2 = length-append xs (k ∷ ys) in let f3 = length-append us vs in let f4 = length-append xs ys in omega (arith, a, d, f1, f2, f3, f4)) in
    record {
      older_in = oi;
      newer_in = ni;
      next_in = rw (ne, oe, ob) ui;
      ring = rw (ne, oe, ob, wo, pu) (same-slots ns os _ _ l (us ++ k ∷ vs) r (rw st at fin) ct (simp (length-set)) (simp (length-set)) lo);
    }

module _ (ns os l : List ℕ) (k b : ℕ) (r : IsRing ns os l) (some : 1 ≤ k) (within : k < length ns) (there : b < length ns) (apart : b ≡ k → ⊥) where
  -- the slot between what stands before it and after it
  module _ (xs ys : List ℕ) (whole : l ≡ xs ++ k ∷ ys) where
    stands_in : (j : ℕ) → count j (0 ∷ l) ≡ cond (eqb j 0) 1 0 + (count j xs + (cond (eqb j k) 1 0 + count j ys))
    stands_in j = ap (λ t. count j (0 ∷ t)) whole ∙ ap (λ n. cond (eqb j 0) 1 0 + n) (count-append j xs (k ∷ ys))

    old : IsLinked ns os 0 (xs ++ k ∷ ys) 0
    old = subst (λ (t : List ℕ). IsLinked ns os 0 t 0) whole r.linked

    older-is : get_or os k 0 ≡ end_of 0 xs
    older-is = older-end ns os 0 xs k (linked-split ns os 0 xs k ys 0 old).0

    newer-is : get_or ns k 0 ≡ start_of ys 0
    newer-is = newer-start ns os k ys 0 (linked-split ns os 0 xs k ys 0 old).1

    few-front : (j : ℕ) → count j (0 ∷ xs) + (cond (eqb j k) 1 0 + count j ys) ≤ 1
    few-front j = let c = stands_in j in let o = r.once j in omega (arith, c, o)

    few-back : (j : ℕ) → count j xs + (cond (eqb j k) 1 0 + count j (ys ++ 0 ∷ [])) ≤ 1
    few-back j = let c = stands_in j in let o = r.once j in let a = count-append j ys (0 ∷ []) in omega (arith, c, o, a)

    older-in : end_of 0 xs < length ns
    older-in = r.within (end_of 0 xs) (let c = stands_in (end_of 0 xs) in let a = end-stands 0 xs in omega (arith, c, a))

    newer-in : start_of ys 0 < length ns
    newer-in = r.within (start_of ys 0) (let c = stands_in (start_of ys 0) in let a = start-stands ys 0 in let d = count-append (start_of ys 0) ys (0 ∷ []) in omega (arith, c, a, d))

    -- and out
    out : IsLinked (set ns (end_of 0 xs) (start_of ys 0)) (set os (start_of ys 0) (end_of 0 xs)) 0 (xs ++ ys) 0
    out = unlinked ns os 0 xs k 0 ys few-front few-back older-in (let a = newer-in in let same = r.same in omega (arith, a, same)) old

    reached : 1 ≤ cond (eqb b 0) 1 0 + (count b xs + (0 + count b ys))
    reached =
        let other : eqb b k ≡ false = ne_eqb b k apart in
        let c = stands_in b in
        let a = r.all b there in
        let d = rw other at c in
        omega (arith, d, a)

    spot-there : (1 ≤ count b (xs ++ ys)) ⊎ (b ≡ 0)
    spot-there = elim (cases_eq b 0) [
      | inl z ↦ inr z
      | inr z ↦ inl (
          let inner : eqb b 0 ≡ false = ne_eqb b 0 z in
          let c = reached in
          let d = rw inner at c in
          let a = count-append b xs ys in
          omega (arith, d, a))
    ]

    -- back between two others
    module _ (us vs : List ℕ) (mid : xs ++ ys ≡ us ++ vs) (start : start_of vs 0 ≡ b) where
      same-count : (j : ℕ) → count j us + count j vs ≡ count j xs + count j ys
      same-count j = sym (count-append j us vs) ∙ (ap (count j) (sym mid) ∙ count-append j xs ys)

      parted : IsLinked (set ns (end_of 0 xs) (start_of ys 0)) (set os (start_of ys 0) (end_of 0 xs)) 0 (us ++ vs) 0
      parted = subst (λ (q : List ℕ). IsLinked (set ns (end_of 0 xs) (start_of ys 0)) (set os (start_of ys 0) (end_of 0 xs)) 0 q 0) mid out

      next-is : get_or (set os (start_of ys 0) (end_of 0 xs)) b 0 ≡ end_of 0 us
      next-is = ap (λ q. get_or (set os (start_of ys 0) (end_of 0 xs)) q 0) (sym start) ∙ older-start _ _ 0 us vs 0 parted

      next-in : end_of 0 us < length ns
      next-in = r.within (end_of 0 us) (let c = stands_in (end_of 0 us) in let a = end-stands 0 us in let d = same-count (end_of 0 us) in omega (arith, c, a, d))

      back : IsLinked (set (set (set ns (end_of 0 xs) (start_of ys 0)) (end_of 0 us) k) k (start_of vs 0)) (set (set (set os (start_of ys 0) (end_of 0 xs)) k (end_of 0 us)) (start_of vs 0) k) 0 (us ++ k ∷ vs) 0
      back =
          let ln = length-set ns (end_of 0 xs) (start_of ys 0) in
          let lo = length-set os (start_of ys 0) (end_of 0 xs) in
          let same = r.same in
          let n = next-in in
          linked _ _ 0 us k 0 vs
          (λ j. (let a = few-front j in let c = same-count j in omega (arith, a, c)))
          (λ j. (let a = few-back j in let c = same-count j in let f = count-append j vs (0 ∷ []) in let g = count-append j ys (0 ∷ []) in omega (arith, a, c, f, g)))
          (omega (arith, n, ln)) (omega (arith, within, ln)) (omega (arith, within, lo, same)) (rw start (omega (arith, there, lo, same))) parted

      pub turned-at : keys_without k l ≡ xs ++ ys → put_before k b (xs ++ ys) ≡ us ++ k ∷ vs → IsTurned ns os l k b
      turned-at rest put =
          let a = older-in in
          let c = newer-in in
          turned_to ns os l k b r xs ys us vs whole same-count rest put mid older-is newer-is next-is start (omega (arith, a, older-is)) (omega (arith, c, newer-is)) next-in back

  pub turned : IsTurned ns os l k b
  turned =
      let k0 : eqb k 0 ≡ false = ne_eqb k 0 (λ z. omega (arith, z, some)) in
      let stands : 1 ≤ 0 + count k l = rw k0 at (r.all k within) in
      let few : 0 + count k l ≤ 1 = rw k0 at (r.once k) in
      let s = split_at k l (omega (arith, few)) (omega (arith, stands)) in
      let t = spot k b (s.front ++ s.back) (spot-there s.front s.back s.whole) in
      turned-at s.front s.back s.whole t.front t.back t.whole t.start s.rest t.put

pub ring-is : (ns os l : List ℕ) → IsRing ns os l → ring_of ns ≡ l
ring-is ns os l r = ap (walk ns 0) (let n = r.long in let e : length ns - 1 ≡ length l = omega (arith, n) in e) ∙ walked ns os 0 l 0 r.linked

-- what the code leaves
pub record IsMoved (ns os ns2 os2 : List ℕ) (k b : ℕ) : Type 0 where
  pub order : ring_of ns2 ≡ moved_before k b (ring_of ns)
  pub ring : IsRing ns2 os2 (ring_of ns2)

pub moved : (ns os ns1 os1 ns2 os2 : List ℕ) (k b : ℕ) → IsTurned ns os (ring_of ns) k b →
    ns1 ≡ set ns (get_or os k 0) (get_or ns k 0) → os1 ≡ set os (get_or ns k 0) (get_or os k 0) →
    ns2 ≡ set (set ns1 (get_or os1 b 0) k) k b → os2 ≡ set (set os1 k (get_or os1 b 0)) b k →
    IsMoved ns os ns2 os2 k b
moved ns os ns1 os1 ns2 os2 k b t n1 o1 n2 o2 =
    let ring : IsRing ns2 os2 (moved_before k b (ring_of ns)) = rw (n2, o2, n1, o1) t.ring in
    let order : ring_of ns2 ≡ moved_before k b (ring_of ns) = ring-is ns2 os2 (moved_before k b (ring_of ns)) ring in
    record { order = order; ring = subst (IsRing ns2 os2) (sym order) ring }
