-- One step down a tree, and the way back.
use Rattle.std.proofs.Common.{◌≡◌, ℕ, ◌+◌, ◌<◌, ◌≤◌, Bool, true, false, cond, eqb, List, length, get_or, set, ap, ◌∙◌, sym, subst, arith, get_or-set_same, get_or-set_other, length-set}
use Rattle.std.proofs.lemmas.Bool.{eq-eqb, ne_eqb, cond_both}
use Rattle.std.proofs.lemmas.List.{get_or_default}
use Rattle.std.proofs.lemmas.Bool.Decides.{nat_tests}
use Rattle.queue_table.specs.Trees.{Item, Tree, leaf, fork, tally, branch, turn, IsTree, grafted, lowest, plucked, lifted, detached}
use Rattle.queue_table.specs.Places.{IsOutside, IsWhole, IsFree, IsThere, Replaces}
use Rattle.queue_table.proofs.Trees.{tally-here, on_side, side-tally, same-slot, same-tree, side-sorted, its-side}

module _ (roots : ℕ) (links : List ℕ) (place i : ℕ) (l r : Tree) (w : IsWhole links roots place (fork i l r)) where
  lone : tally i l + tally i r ≡ 0
  lone = let c = tally-here i l r in let o = w.once i in omega (arith, c, o)

  -- a slot of one branch is not the one above
  not-here : (k : ℕ) → 1 ≤ tally k l + tally k r → i ≡ k → ⊥
  not-here k m e = let a = ap (λ j. tally j l + tally j r) e in let z = lone in omega (arith, a, z, m)

  pub branch-whole : (right : Bool) → IsWhole links roots (branch roots i right) (on_side right l r)
  branch-whole right = grind (arith, nat_tests, cond_both, side-tally, not-here, same-slot)

  -- another tree on a side leaves the links outside, and the tree on the other side
  module _ (links2 : List ℕ) (right : Bool) (u : Tree) (p : Replaces roots links links2 (branch roots i right) (on_side right l r) u) where
    past : (q : ℕ) → IsOutside roots q (fork i l r) → get_or links2 q 0 ≡ get_or links q 0
    past q o = p.others q (o i right (let h = tally-here i l r in omega (arith, h))) (λ k side m. o k side (let a = side-tally right k l r in omega (arith, m, a)))

    kept : (left : Bool) → (branch roots i left ≡ branch roots i right → ⊥) → ((k : ℕ) → tally k (on_side left l r) + tally k (on_side right l r) ≤ tally k l + tally k r) → IsTree links2 roots (branch roots i left) (on_side left l r)
    kept left apart both =
        same-tree links links2 roots (branch roots i left) (branch roots i left) (on_side left l r) p.size
        (p.others (branch roots i left) apart (λ k side m e. not-here k (let a = side-tally right k l r in omega (arith, m, a)) (same-slot roots i k left side e)))
        (λ k side m. p.others (branch roots k side) (λ e. not-here k (let a = side-tally left k l r in omega (arith, m, a)) (sym (same-slot roots k i side right e)))
        (λ j other n e. let s = same-slot roots k j side other e in let a = ap (λ x. tally x (on_side right l r)) s in let b = both k in let o = w.once k in omega (arith, a, b, o, m, n)))
        (branch-whole left).tree

    replaced : (l2 r2 : Tree) → IsTree links2 roots (branch roots i false) l2 → IsTree links2 roots (branch roots i true) r2 → Replaces roots links links2 place (fork i l r) (fork i l2 r2)
    replaced l2 r2 x y = grind (arith, nat_tests, past place w.outside, past)

  module _ (links2 : List ℕ) where
    -- the branch on a side replaced, where the link to it is
    pub replaced-below : (next below : ℕ) (right : Bool) (f : Tree → Tree) → next ≡ i → below ≡ branch roots next right →
        (IsWhole links roots below (on_side right l r) → Replaces roots links links2 below (on_side right l r) (f (on_side right l r))) → Replaces roots links links2 place (fork i l r) (cond right (fork i l (f r)) (fork i (f l) r))
    replaced-below next below right f is b h =
        let p : below ≡ branch roots i right = b ∙ ap (λ k. branch roots k right) is in
        on right (subst (λ q. Replaces roots links links2 q (on_side right l r) (f (on_side right l r))) p (h (subst (λ q. IsWhole links roots q (on_side right l r)) (sym p) (branch-whole right))))
      where
        on : (side : Bool) → Replaces roots links links2 (branch roots i side) (on_side side l r) (f (on_side side l r)) → Replaces roots links links2 place (fork i l r) (cond side (fork i l (f r)) (fork i (f l) r))
        on true p = replaced links2 true (f r) p l (f r) (kept links2 true (f r) p false (λ e. omega (arith, e)) (λ k. omega arith)) p.tree
        on false p = replaced links2 false (f l) p (f l) r p.tree (kept links2 false (f l) p true (λ e. omega (arith, e)) (λ k. omega arith))

-- a slot put where there is none
pub graft-end : (roots : ℕ) (links : List ℕ) (place at depth : ℕ) (item : Item) (t : Tree) → 1 ≤ at → branch roots at true < length links → IsWhole links roots place t → IsFree links roots place at t →
    get_or links place 0 ≡ 0 → Replaces roots links (set links place at) place t (grafted depth item at t)
graft-end roots links place at depth item leaf real room w f z = record {
  tree = (get_or-set_same links place at 0 w.within, real, (let s = length-set links place at in omega (arith, s, room)), bare false, bare true);
  others = λ q d o. get_or-set_other links place q at 0 d;
  size = length-set links place at;
}
  where
    bare : (side : Bool) → get_or (set links place at) (branch roots at side) 0 ≡ 0
    bare side = get_or-set_other links place (branch roots at side) at 0 (λ e. f.apart side (sym e)) ∙ f.bare side
graft-end roots links place at depth item (fork i l r) real room w f z = absurd (let a = w.tree.0 in let b = w.tree.1 in omega (arith, a, b, z))

-- a slot put further down
pub graft-on : (roots : ℕ) (links links2 : List ℕ) (place at depth next below : ℕ) (item : Item) (t : Tree) → IsWhole links roots place t → IsFree links roots place at t →
    next ≡ get_or links place 0 → (next ≡ 0 → ⊥) → below ≡ branch roots next (turn depth item) →
    ((u : Tree) → IsWhole links roots below u → IsFree links roots below at u → Replaces roots links links2 below u (grafted (depth + 1) item at u)) →
    Replaces roots links links2 place t (grafted depth item at t)
graft-on roots links links2 place at depth next below item leaf w f n some b ih = absurd (some (n ∙ w.tree))
graft-on roots links links2 place at depth next below item (fork i l r) w f n some b ih =
    let is : next ≡ i = n ∙ w.tree.0 in
    let right = turn depth item in
    let fresh = f.fresh in
    replaced-below roots links place i l r w links2 next below right (grafted (depth + 1) item at) is b (λ v. ih (on_side right l r) v record {
      fresh = (let m = side-tally right at l r in omega (arith, fresh, m));
      bare = f.bare;
      apart = λ other e. (
          let s = same-slot roots i at right other (sym (b ∙ ap (λ k. branch roots k right) is) ∙ e) in
          let a = ap (λ k. tally k (fork i l r)) s in
          omega (arith, a, tally-here i l r, fresh));
    })

-- the slot at the place taken out
pub detach-end : (roots : ℕ) (links links2 : List ℕ) (place at depth : ℕ) (item : Item) (t : Tree) → IsWhole links roots place t → 1 ≤ tally at t → get_or links place 0 ≡ at →
    Replaces roots links links2 place t (lifted t) → Replaces roots links links2 place t (detached depth item at t)
detach-end roots links links2 place at depth item leaf w m e p = absurd (omega (arith, m))
detach-end roots links links2 place at depth item (fork i l r) w m e p = let g : eqb i at ≡ true = eq-eqb i at (sym w.tree.0 ∙ e) in rw g p

-- a slot further down taken out
pub detach-on : (roots : ℕ) (links links2 : List ℕ) (place at depth next below : ℕ) (item : Item) (item_of : ℕ → Item) (t : Tree) → IsWhole links roots place t → IsThere item_of at item depth t →
    next ≡ get_or links place 0 → (next ≡ at → ⊥) → below ≡ branch roots next (turn depth item) →
    ((u : Tree) → IsWhole links roots below u → IsThere item_of at item (depth + 1) u → Replaces roots links links2 below u (detached (depth + 1) item at u)) →
    Replaces roots links links2 place t (detached depth item at t)
detach-on roots links links2 place at depth next below item item_of leaf w h n other b ih = absurd (let m = h.stands in omega (arith, m))
detach-on roots links links2 place at depth next below item item_of (fork i l r) w h n other b ih =
    let is : next ≡ i = n ∙ w.tree.0 in
    let apart : at ≡ i → ⊥ = λ e. other (is ∙ sym e) in
    let g : eqb i at ≡ false = ne_eqb i at (λ e. apart (sym e)) in
    rw g (replaced-below roots links place i l r w links2 next below (turn depth item) (detached (depth + 1) item at) is b (λ v. ih (on_side (turn depth item) l r) v record {
      stands = its-side item_of depth item at i l r h.sorted h.its apart h.stands;
      its = h.its;
      sorted = side-sorted item_of depth (turn depth item) i l r h.sorted;
    }))

-- a lowest slot taken out

some_read : (links : List ℕ) (q p x : ℕ) → x ≡ get_or links q x → (x ≡ 0 → ⊥) → q ≡ p → p < length links → get_or links p 0 ≡ 0 → ⊥
some_read links q p x s z e w f = z (s ∙ (get_or_default links q x 0 (omega (arith, e, w)) ∙ (ap (λ (n : ℕ). get_or links n 0) e ∙ f)))

module _ (roots : ℕ) (links : List ℕ) (place at left : ℕ) (e : at ≡ get_or links place 0) (s : 1 ≤ at) (b : left ≡ branch roots at false) where
  pub pluck-end : (x y : ℕ) (t : Tree) → IsWhole links roots place t → x ≡ get_or links left x → x ≡ 0 → y ≡ get_or links (left + 1) y → y ≡ 0 →
      Replaces roots links (set links place 0) place t (plucked t) × (at ≡ lowest 0 t)
  pluck-end x y leaf w fx zx fy zy = absurd (let z = w.tree in omega (arith, z, e, s))
  pluck-end x y (fork i leaf leaf) w fx zx fy zy = search (arith, get_or-set_same, get_or-set_other, length-set)
  pluck-end x y (fork i leaf (fork j u v)) w fx zx fy zy = grind (arith, nat_tests)
  pluck-end x y (fork i (fork j u v) r) w fx zx fy zy = grind (arith, nat_tests)

  module _ (links2 : List ℕ) (last : ℕ) where
    pub pluck-left : (x : ℕ) (t : Tree) → IsWhole links roots place t → x ≡ get_or links left x → (x ≡ 0 → ⊥) →
        ((u : Tree) → IsWhole links roots left u → Replaces roots links links2 left u (plucked u)) → ((u : Tree) → IsWhole links roots left u → last ≡ lowest 0 u) →
        Replaces roots links links2 place t (plucked t) × (last ≡ lowest 0 t)
    pluck-left x leaf w fx zx f g = absurd (let z = w.tree in omega (arith, z, e, s))
    pluck-left x (fork i leaf r) w fx zx f g = grind (arith, nat_tests, some_read)
    pluck-left x (fork i (fork j c d) r) w fx zx f g =
        let is : at ≡ i = e ∙ w.tree.0 in
        let p : left ≡ branch roots i false = omega (arith, b, is) in
        let u : IsWhole links roots left (fork j c d) = subst (λ q. IsWhole links roots q (fork j c d)) (sym p) (branch-whole roots links place i (fork j c d) r w false) in
        (replaced-below roots links place i (fork j c d) r w links2 at left false plucked is b (f (fork j c d)), g (fork j c d) u)

    pub pluck-right : (x y : ℕ) (t : Tree) → IsWhole links roots place t → x ≡ get_or links left x → x ≡ 0 → y ≡ get_or links (left + 1) y → (y ≡ 0 → ⊥) →
        ((u : Tree) → IsWhole links roots (left + 1) u → Replaces roots links links2 (left + 1) u (plucked u)) → ((u : Tree) → IsWhole links roots (left + 1) u → last ≡ lowest 0 u) →
        Replaces roots links links2 place t (plucked t) × (last ≡ lowest 0 t)
    pluck-right x y leaf w fx zx fy zy f g = absurd (let z = w.tree in omega (arith, z, e, s))
    pluck-right x y (fork i (fork j c d) r) w fx zx fy zy f g = grind (arith, nat_tests)
    pluck-right x y (fork i leaf leaf) w fx zx fy zy f g = grind (arith, nat_tests, some_read)
    pluck-right x y (fork i leaf (fork j c d)) w fx zx fy zy f g =
        let is : at ≡ i = e ∙ w.tree.0 in
        let p : left + 1 ≡ branch roots i true = omega (arith, b, is) in
        let u : IsWhole links roots (left + 1) (fork j c d) = subst (λ q. IsWhole links roots q (fork j c d)) (sym p) (branch-whole roots links place i leaf (fork j c d) w true) in
        (replaced-below roots links place i leaf (fork j c d) w links2 at (left + 1) true plucked is (omega (arith, b)) (f (fork j c d)), g (fork j c d) u)
