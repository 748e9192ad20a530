-- Splices of one slot out of linked slots and into them.
use Rattle.std.proofs.Common.{◌≡◌, ℕ, ◌+◌, ◌<◌, ◌≤◌, cond, eqb, List, [], ◌∷◌, ◌++◌, length, get_or, set, ap, ◌∙◌, sym, refl, arith, get_or-set_same, get_or-set_other, length-set, append-nil}
use Rattle.std.proofs.lemmas.Bool.Decides.{nat_tests}
use Rattle.queue_table.specs.Ring.{count, IsLinked, walk}

pub count-append : (k : ℕ) (xs ys : List ℕ) → count k (xs ++ ys) ≡ count k xs + count k ys
count-append k [] ys = omega arith
count-append k (x ∷ xs) ys = let h : count k (xs ++ ys) ≡ count k xs + count k ys = count-append k xs ys in omega (arith, h)

pub count-here : (k : ℕ) (l : List ℕ) → count k (k ∷ l) ≡ 1 + count k l
count-here k l = grind (arith, nat_tests)

pub apart : (k x : ℕ) (l : List ℕ) → count k (x ∷ l) ≡ 0 → k ≡ x → ⊥
apart k x l h e = grind (arith, nat_tests)

-- a link of a slot that does not stand there
pub linked-newer : (ns os : List ℕ) (a : ℕ) (l : List ℕ) (b u v : ℕ) → count u (a ∷ l) ≡ 0 → IsLinked ns os a l b → IsLinked (set ns u v) os a l b
linked-newer ns os a [] b u v h k = (get_or-set_other ns u a v 0 (λ e. apart u a [] h (sym e)) ∙ k.0, k.1)
linked-newer ns os a (i ∷ l) b u v h k =
    let rest : count u (i ∷ l) ≡ 0 = omega arith in
    (get_or-set_other ns u a v 0 (λ e. apart u a (i ∷ l) h (sym e)) ∙ k.0, k.1, linked-newer ns os i l b u v rest k.2)

pub linked-older : (ns os : List ℕ) (a : ℕ) (l : List ℕ) (b u v : ℕ) → count u (l ++ b ∷ []) ≡ 0 → IsLinked ns os a l b → IsLinked ns (set os u v) a l b
linked-older ns os a [] b u v h k = (k.0, get_or-set_other os u b v 0 (λ e. apart u b [] h (sym e)) ∙ k.1)
linked-older ns os a (i ∷ l) b u v h k =
    let rest : count u (l ++ b ∷ []) ≡ 0 = omega arith in
    (k.0, get_or-set_other os u i v 0 (λ e. apart u i (l ++ b ∷ []) h (sym e)) ∙ k.1, linked-older ns os i l b u v rest k.2)

-- two stretches
pub linked-split : (ns os : List ℕ) (a : ℕ) (xs : List ℕ) (i : ℕ) (ys : List ℕ) (b : ℕ) → IsLinked ns os a (xs ++ i ∷ ys) b → IsLinked ns os a xs i × IsLinked ns os i ys b
linked-split ns os a [] i ys b k = ((k.0, k.1), k.2)
linked-split ns os a (x ∷ xs) i ys b k = let r = linked-split ns os x xs i ys b k.2 in ((k.0, k.1, r.0), r.1)

pub linked-join : (ns os : List ℕ) (a : ℕ) (xs : List ℕ) (i : ℕ) (ys : List ℕ) (b : ℕ) → IsLinked ns os a xs i → IsLinked ns os i ys b → IsLinked ns os a (xs ++ i ∷ ys) b
linked-join ns os a [] i ys b k r = (k.0, k.1, r)
linked-join ns os a (x ∷ xs) i ys b k r = (k.0, k.1, linked-join ns os x xs i ys b k.2 r)

-- the two ends of a stretch

abbrev pub end_of : ℕ → List ℕ → ℕ
end_of a [] = a
end_of a (x ∷ xs) = end_of x xs

abbrev pub start_of : List ℕ → ℕ → ℕ
start_of [] b = b
start_of (x ∷ xs) b = x

pub end-stands : (a : ℕ) (xs : List ℕ) → 1 ≤ count (end_of a xs) (a ∷ xs)
end-stands a [] = let n = count-here a [] in omega (arith, n)
end-stands a (x ∷ xs) = let n = end-stands x xs in omega (arith, n)

pub start-stands : (ys : List ℕ) (b : ℕ) → 1 ≤ count (start_of ys b) (ys ++ b ∷ [])
start-stands v b = grind (arith, nat_tests, count-here)

pub older-end : (ns os : List ℕ) (a : ℕ) (xs : List ℕ) (i : ℕ) → IsLinked ns os a xs i → get_or os i 0 ≡ end_of a xs
older-end ns os a [] i k = k.1
older-end ns os a (x ∷ xs) i k = older-end ns os x xs i k.2

pub newer-start : (ns os : List ℕ) (i : ℕ) (ys : List ℕ) (b : ℕ) → IsLinked ns os i ys b → get_or ns i 0 ≡ start_of ys b
newer-start ns os i v b k = grind (arith, nat_tests)

-- the last link of a stretch led elsewhere
pub linked-to : (ns os : List ℕ) (a : ℕ) (xs : List ℕ) (i b : ℕ) → end_of a xs < length ns → b < length os → (count (end_of a xs) (a ∷ xs) ≤ 1) → count b xs ≡ 0 → IsLinked ns os a xs i → IsLinked (set ns (end_of a xs) b) (set os b (end_of a xs)) a xs b
linked-to ns os a [] i b u v few none k = (get_or-set_same ns a b 0 u, get_or-set_same os b a 0 v)
linked-to ns os a (x ∷ xs) i b u v few none k =
    let stands = end-stands x xs in
    let e : end_of x xs ≡ end_of x xs = refl in
    let away : count (end_of x xs) (a ∷ []) ≡ 0 = omega arith in
    let rest : count b xs ≡ 0 = omega arith in (
      get_or-set_other ns (end_of x xs) a b 0 (λ h. apart (end_of x xs) a [] away (sym h)) ∙ k.0,
      get_or-set_other os b x (end_of x xs) 0 (λ h. apart b x xs none (sym h)) ∙ k.1,
      linked-to ns os x xs i b u v (omega arith) rest k.2,
    )

count-self : (k : ℕ) → ◌≡◌ {A = ℕ} (cond (eqb k k) 1 0) 1
count-self k = grind (arith, nat_tests)

-- a slot leaves
module _ (ns os : List ℕ) (a : ℕ) (xs : List ℕ) (i b : ℕ) where
  pub unlinked : (ys : List ℕ) →
      ((k : ℕ) → count k (a ∷ xs) + (cond (eqb k i) 1 0 + count k ys) ≤ 1) →
      ((k : ℕ) → count k xs + (cond (eqb k i) 1 0 + count k (ys ++ b ∷ [])) ≤ 1) →
      end_of a xs < length ns → start_of ys b < length os →
      IsLinked ns os a (xs ++ i ∷ ys) b →
      IsLinked (set ns (end_of a xs) (start_of ys b)) (set os (start_of ys b) (end_of a xs)) a (xs ++ ys) b
  unlinked [] d e u v k = grind (arith, nat_tests, linked-split, end-stands, count-here, append-nil, linked-to)
  unlinked (j ∷ ys) d e u v k =
      grind (arith, nat_tests, linked-split, end-stands, count-here, linked-to, linked-newer, linked-older, linked-join)

  -- a slot comes
  pub linked : (ys : List ℕ) →
      ((k : ℕ) → count k (a ∷ xs) + (cond (eqb k i) 1 0 + count k ys) ≤ 1) →
      ((k : ℕ) → count k xs + (cond (eqb k i) 1 0 + count k (ys ++ b ∷ [])) ≤ 1) →
      end_of a xs < length ns → i < length ns → i < length os → start_of ys b < length os →
      IsLinked ns os a (xs ++ ys) b →
      IsLinked (set (set ns (end_of a xs) i) i (start_of ys b)) (set (set os i (end_of a xs)) (start_of ys b) i) a (xs ++ i ∷ ys) b
  linked [] d e u w x v k =
      let f = d (end_of a xs) in
      let di = d i in
      let ei = e i in
      let g = e b in
      let h = count-here b [] in
      let hi = count-here i [] in
      let one = count-self i in
      let old = rw (append-nil xs) at k in
      let gone : count b (xs ++ i ∷ []) ≡ 0 = (let p = count-append b xs (i ∷ []) in omega arith) in
      let front = linked-to ns os a xs b i u x (omega arith) (omega arith) old in
      let front2 = linked-newer (set ns (end_of a xs) i) (set os i (end_of a xs)) a xs i i b (omega arith) front in
      let front3 = linked-older (set (set ns (end_of a xs) i) i b) (set os i (end_of a xs)) a xs i b i gone front2 in
      grind (arith, nat_tests, linked-join, get_or-set_same, length-set)
  linked (j ∷ ys) d e u w x v k =
      let s = linked-split ns os a xs j ys b k in
      let stands = end-stands a xs in
      let di = d i in
      let ei = e i in
      let g = e j in
      let dj = d j in
      let h = count-here j (ys ++ b ∷ []) in
      let one = count-self i in
      let onej = count-self j in
      let gone : count j (xs ++ i ∷ []) ≡ 0 = (let p = count-append j xs (i ∷ []) in omega arith) in
      let front = linked-to ns os a xs j i u x (omega arith) (omega arith) s.0 in
      let front2 = linked-newer (set ns (end_of a xs) i) (set os i (end_of a xs)) a xs i i j (omega arith) front in
      let front3 = linked-older (set (set ns (end_of a xs) i) i j) (set os i (end_of a xs)) a xs i j i gone front2 in
      let back = linked-newer ns os j ys b (end_of a xs) i (omega arith) s.1 in
      let back2 = linked-newer (set ns (end_of a xs) i) os j ys b i j (omega arith) back in
      let back3 = linked-older (set (set ns (end_of a xs) i) i j) os j ys b i (end_of a xs) (omega arith) back2 in
      let back4 = linked-older (set (set ns (end_of a xs) i) i j) (set os i (end_of a xs)) j ys b j i (omega arith) back3 in
      grind (arith, nat_tests, linked-join, get_or-set_same, length-set)

-- what is walked

pub walked : (ns os : List ℕ) (a : ℕ) (l : List ℕ) (b : ℕ) → IsLinked ns os a l b → walk ns a (length l) ≡ l
walked ns os a [] b k = refl
walked ns os a (i ∷ l) b k = rw k.0 (ap (λ t. i ∷ t) (walked ns os i l b k.2))
