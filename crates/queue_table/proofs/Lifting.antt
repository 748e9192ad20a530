-- The first slot of a tree taken out: the lowest one comes in its place.
use Rattle.std.proofs.Common.{◌≡◌, ℕ, ◌+◌, ◌<◌, ◌≤◌, Bool, true, false, cond, eqb, List, length, get_or, set, ap, ◌∙◌, sym, refl, subst, arith, get_or-set_same, get_or-set_other, length-set}
use Rattle.std.proofs.lemmas.Bool.Decides.{nat_tests}
use Rattle.queue_table.specs.Trees.{Tree, leaf, fork, tally, branch, lowest, plucked, lifted}
use Rattle.queue_table.specs.Places.{IsWhole, IsBare, Replaces}
use Rattle.queue_table.proofs.Trees.{members, same-slot, same-tree, plucked-tally, lifted-tally}

-- the lowest slot has branches
pub lowest-real : (links : List ℕ) (roots place at last : ℕ) (t : Tree) → IsWhole links roots place t → get_or links place 0 ≡ at → 1 ≤ at → last ≡ lowest 0 t → (1 ≤ last) × (branch roots last true < length links)
lowest-real links roots place at last leaf w e s z = absurd (let x = w.tree in omega (arith, x, e, s))
lowest-real links roots place at last (fork i l r) w e s z = grind (arith, nat_tests, plucked-tally last i l r, members)

-- a tree of one slot
pub lift-one : (roots : ℕ) (links links2 : List ℕ) (place at last : ℕ) (t : Tree) → IsWhole links roots place t → get_or links place 0 ≡ at → 1 ≤ at → last ≡ at → last ≡ lowest 0 t →
    Replaces roots links links2 place t (plucked t) → Replaces roots links links2 place t (lifted t)
lift-one roots links links2 place at last leaf w e s n z p = p
lift-one roots links links2 place at last (fork i leaf leaf) w e s n z p = p
lift-one roots links links2 place at last (fork i (fork j a b) r) w e s n z p = search (arith, plucked-tally)
lift-one roots links links2 place at last (fork i leaf (fork j a b)) w e s n z p = search (arith, plucked-tally)

-- the links after the slot `last` took the place of another one
abbrev pub links_moved : ℕ → List ℕ → ℕ → ℕ → ℕ → List ℕ
links_moved place links to from last =
    let first : List ℕ = set links to (get_or links from 0) in
    set (set first (to + 1) (get_or first (from + 1) 0)) place last

pub moved : (place : ℕ) (links : List ℕ) (to from last x y to2 from2 : ℕ) → to ≡ to2 → from ≡ from2 → x ≡ get_or links from 0 → y ≡ get_or (set links to x) (from + 1) 0 →
    set (set (set links to x) (to + 1) y) place last ≡ links_moved place links to2 from2 last
moved place links to from last x y to2 from2 a b c d = rw (d, c, a, b) refl

module _ (roots : ℕ) (links links1 : List ℕ) (place i last : ℕ) (l r a b : Tree) (w : IsWhole links roots place (fork i l r)) (p : Replaces roots links links1 place (fork i l r) (fork i a b))
    (counted : (k : ℕ) → tally k (fork i l r) ≡ cond (eqb k last) 1 0 + tally k (fork i a b)) (other : last ≡ i → ⊥) where
  abbrev links2 : List ℕ
  links2 = links_moved place links1 (branch roots last false) (branch roots i false) last

  here : 1 ≤ tally last (fork i l r)
  here = let c = counted last in grind (arith, nat_tests)

  gone : tally last (fork i a b) ≡ 0
  gone = let c = counted last in let o = w.once last in grind (arith, nat_tests)

  room : branch roots last true < length links1
  room = let m = (members links roots place (fork i l r) last w.tree here).1 in let s = p.size in omega (arith, m, s)

  abbrev first : List ℕ
  first = set links1 (branch roots last false) (get_or links1 (branch roots i false) 0)

  abbrev second : List ℕ
  second = set first (branch roots last false + 1) (get_or first (branch roots i false + 1) 0)

  apart : (side : Bool) → branch roots last side ≡ place → ⊥
  apart side e = w.outside last side here (sym e)

  long1 : length first ≡ length links1
  long1 = length-set links1 (branch roots last false) _

  long2 : length second ≡ length links1
  long2 = length-set first (branch roots last false + 1) _ ∙ long1

  long3 : length links2 ≡ length links1
  long3 = length-set second place last ∙ long2

  left : get_or links2 (branch roots last false) 0 ≡ get_or links1 (branch roots i false) 0
  left = grind (arith, nat_tests, get_or-set_other, apart, get_or-set_same, room)

  right : get_or links2 (branch roots last true) 0 ≡ get_or links1 (branch roots i true) 0
  right =
      let up : (k : ℕ) → branch roots k true ≡ branch roots k false + 1 = λ k. omega arith in
      get_or-set_other second place (branch roots last true) last 0 (apart true)
      ∙ (ap (λ q. get_or second q 0) (up last)
      ∙ (get_or-set_same first (branch roots last false + 1) _ 0 (let m = room in let s = long1 in omega (arith, m, s))
      ∙ (ap (λ q. get_or first q 0) (sym (up i))
      ∙ get_or-set_other links1 (branch roots last false) (branch roots i true) _ 0 (λ e. other (sym (same-slot roots i last true false e))))))

  stays : (q : ℕ) → (q ≡ place → ⊥) → ((side : Bool) → q ≡ branch roots last side → ⊥) → get_or links2 q 0 ≡ get_or links1 q 0
  stays q d f =
      get_or-set_other second place q last 0 d
      ∙ (get_or-set_other first (branch roots last false + 1) q _ 0 (λ e. f true (omega (arith, e)))
      ∙ get_or-set_other links1 (branch roots last false) q _ 0 (f false))

  below : (k : ℕ) (side : Bool) → 1 ≤ tally k a + tally k b → get_or links2 (branch roots k side) 0 ≡ get_or links1 (branch roots k side) 0
  below k side m =
      stays (branch roots k side) (λ e. w.outside k side (omega (arith, m)) (sym e))
      (λ side2 e. let s = same-slot roots k last side side2 e in let q = ap (λ j. tally j (fork i a b)) s in let z = gone in omega (arith, q, z, m))

  pub lift-put : Replaces roots links links2 place (fork i l r) (fork last a b)
  lift-put =
      let real = (members links roots place (fork i l r) last w.tree here).0 in
      let size = p.size in
      let s2 = long2 in
      let s3 = long3 in
      let m = room in
      record {
        tree = (
          get_or-set_same second place last 0 (omega (arith, w.within, size, s2)),
          real,
          omega (arith, m, s3),
          same-tree links1 links2 roots (branch roots i false) (branch roots last false) a long3 left (λ k side n. below k side (omega (arith, n))) p.tree.3,
          same-tree links1 links2 roots (branch roots i true) (branch roots last true) b long3 right (λ k side n. below k side (omega (arith, n))) p.tree.4,
        );
        others = λ q d o. stays q d (λ side e. o last side here e) ∙ p.others q d o;
        size = long3 ∙ p.size;
      }

-- a first slot without branches is the whole tree
pub lift-bare : (roots : ℕ) (links : List ℕ) (place at : ℕ) (t : Tree) → IsWhole links roots place t → get_or links place 0 ≡ at → 1 ≤ at → IsBare links roots at → Replaces roots links (set links place 0) place t (lifted t)
lift-bare roots links place at leaf w e s bare = absurd (let x = w.tree in omega (arith, x, e, s))
lift-bare roots links place at (fork i leaf leaf) w e s bare =
    grind (arith, nat_tests, get_or-set_same links place 0 0 w.within, get_or-set_other, length-set links place 0)
lift-bare roots links place at (fork i (fork j a b) r) w e s bare = absurd (
    let z = subst (λ k. get_or links (branch roots k false) 0 ≡ 0) (sym e ∙ w.tree.0) (bare false) in let c = w.tree.3.0 in let d = w.tree.3.1 in omega (arith, z, c, d))
lift-bare roots links place at (fork i leaf (fork j a b)) w e s bare = absurd (
    let z = subst (λ k. get_or links (branch roots k true) 0 ≡ 0) (sym e ∙ w.tree.0) (bare true) in let c = w.tree.4.0 in let d = w.tree.4.1 in omega (arith, z, c, d))

-- a tree of several slots
pub lift-more : (roots : ℕ) (links links1 : List ℕ) (place at last : ℕ) (t : Tree) → IsWhole links roots place t → get_or links place 0 ≡ at → 1 ≤ at → (last ≡ at → ⊥) → last ≡ lowest 0 t →
    Replaces roots links links1 place t (plucked t) → Replaces roots links (links_moved place links1 (branch roots last false) (branch roots at false) last) place t (lifted t)
lift-more roots links links1 place at last leaf w e s n z p = absurd (let x = w.tree in omega (arith, x, e, s))
lift-more roots links links1 place at last (fork i leaf leaf) w e s n z p = absurd (n (z ∙ (sym w.tree.0 ∙ e)))
lift-more roots links links1 place at last (fork i (fork j a b) r) w e s n z p =
    let is : at ≡ i = sym e ∙ w.tree.0 in
    rw (z, is) (lift-put roots links links1 place i (lowest 0 (fork i (fork j a b) r)) (fork j a b) r (plucked (fork j a b)) r w p (λ k. plucked-tally k i (fork j a b) r) (λ q. n (z ∙ (q ∙ sym is))))
lift-more roots links links1 place at last (fork i leaf (fork j a b)) w e s n z p =
    let is : at ≡ i = sym e ∙ w.tree.0 in
    rw (z, is) (lift-put roots links links1 place i (lowest 0 (fork i leaf (fork j a b))) leaf (fork j a b) leaf (plucked (fork j a b)) w p (λ k. plucked-tally k i leaf (fork j a b)) (λ q. n (z ∙ (q ∙ sym is))))

-- the branches of a slot that went out cleared
module _ (roots : ℕ) (links : List ℕ) (at left : ℕ) (e : left ≡ branch roots at false) where
  abbrev pub links_cleared : List ℕ
  links_cleared = set (set links left 0) (left + 1) 0

  kept : (q : ℕ) → ((side : Bool) → q ≡ branch roots at side → ⊥) → get_or links_cleared q 0 ≡ get_or links q 0
  kept q f =
      get_or-set_other (set links left 0) (left + 1) q 0 0 (λ d. f true (omega (arith, d, e)))
      ∙ get_or-set_other links left q 0 0 (λ d. f false (d ∙ e))

  pub cleared-replaces : (links0 : List ℕ) (place : ℕ) (t t2 : Tree) → IsWhole links0 roots place t → 1 ≤ tally at t → tally at t2 ≡ 0 → Replaces roots links0 links place t t2 → Replaces roots links0 links_cleared place t t2
  cleared-replaces links0 place t t2 w there gone p = record {
    tree = same-tree links links_cleared roots place place t2 (length-set (set links left 0) (left + 1) 0 ∙ length-set links left 0) (kept place (λ side d. w.outside at side there d))
        (λ k side m. kept (branch roots k side) (λ other d. let s = same-slot roots k at side other d in let a = ap (λ j. tally j t2) s in omega (arith, a, m, gone))) p.tree;
    others = λ q d o. kept q (λ side f. o at side there f) ∙ p.others q d o;
    size = (length-set (set links left 0) (left + 1) 0 ∙ length-set links left 0) ∙ p.size;
  }

-- the first slot of a tree stands in it, and not in what is left without it
pub first-gone : (links : List ℕ) (roots place at : ℕ) (t : Tree) → IsWhole links roots place t → get_or links place 0 ≡ at → 1 ≤ at → (1 ≤ tally at t) × (tally at (lifted t) ≡ 0)
first-gone links roots place at leaf w e s = absurd (let x = w.tree in omega (arith, x, e, s))
first-gone links roots place at (fork i l r) w e s = grind (arith, nat_tests, lifted-tally i i l r)
