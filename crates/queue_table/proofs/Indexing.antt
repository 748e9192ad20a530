-- The index after a slot came or went.
use Rattle.std.proofs.Common.{◌≡◌, ℕ, ◌+◌, ◌^◌, ◌<◌, ◌≤◌, Bool, true, false, List, length, get_or, ◌∙◌, sym, refl, arith, suc, zero, ◌*◌, cond, eqb, replicate, ap, inl, inr}
use Rattle.std.proofs.lemmas.Bool.{cases_eq, eq-eqb, ne_eqb, cases_Bool, cond-true, cond-false}
use Rattle.queue_table.specs.Trees.{Item, Tree, leaf, fork, tally, size, branch, turn, IsSorted, IsTree, grafted, detached}
use Rattle.queue_table.specs.Places.{IsWhole, IsThere, IsBare, IsFree, Replaces}
use Rattle.queue_table.specs.Index.{SlotIndex, IsFound, IsMapped, IsIndexed, IsAdded, IsRemoved, IsInBucket, CanFind, bucket, capacity}
use Rattle.queue_table.specs.Walks.{HasTree, HasTreeWithin, IsOnWay}
use Rattle.queue_table.proofs.Trees.{tally-here, on_side, side-tally, side-size, tree_at, tree-is, size-few, side-sorted, its-side, same-slot, same-tree, no-slots, sorted-same, grafted-tally, grafted-sorted, detached-tally, detached-sorted}
use Rattle.queue_table.proofs.Placing.{branch-whole}
use Rattle.std.proofs.Math.ListN.{length-replicate}

-- ---- what a walk down a tree knows at the next place

-- the branch of the slot at a place
pub record IsStep (links : List ℕ) (roots next below : ℕ) (t : Tree) : Type 0 where
  pub branch_shown : Tree
  pub whole : IsWhole links roots below branch_shown
  pub fewer : size branch_shown + 1 ≤ size t
  pub inside : (k : ℕ) → tally k branch_shown ≤ tally k t
  pub here : 1 ≤ tally next t
  pub room : branch roots next true < length links

pub step : (links : List ℕ) (roots place next below : ℕ) (side : Bool) (t : Tree) → IsWhole links roots place t → next ≡ get_or links place 0 → (next ≡ 0 → ⊥) → below ≡ branch roots next side → IsStep links roots next below t
step links roots place next below side leaf w n z b = absurd (z (n ∙ w.tree))
step links roots place next below side (fork i l r) w n z b =
    let is : next ≡ i = n ∙ w.tree.0 in
    record {
      branch_shown = on_side side l r;
      whole = rw (b, is) (branch-whole roots links place i l r w side);
      fewer = omega (arith, side-size side l r);
      inside = λ k. omega (arith, side-tally side k l r);
      here = rw is (omega (arith, tally-here i l r));
      room = rw is w.tree.2;
    }

-- the links have both branches of the first slot
pub top-room : (index : SlotIndex) (place at : ℕ) → HasTree index place 0 → get_or index.links.items place 0 ≡ at → 1 ≤ at → branch (2 ^ index.bits) at true < length index.links.items
top-room index place at h n s =
    (step index.links.items (2 ^ index.bits) place at (branch (2 ^ index.bits) at false) false h.shown h.whole (sym n) (λ z. omega (arith, z, s)) refl).room

module _ (index : SlotIndex) (place depth next below : ℕ) (side : Bool) (n : next ≡ get_or index.links.items place 0) (b : below ≡ branch (2 ^ index.bits) next side) where
  abbrev pub has-below : HasTree index place depth → (next ≡ 0 → ⊥) → HasTree index below (depth + 1)
  has-below h z =
      let s = step index.links.items (2 ^ index.bits) place next below side h.shown h.whole n z b in
      let few = h.few in
      record { shown = s.branch_shown; whole = s.whole; few = omega (arith, s.fewer, few); bits = h.bits }

  pub within-below : (slots : ℕ) → HasTreeWithin index place depth slots → (next ≡ 0 → ⊥) → HasTreeWithin index below (depth + 1) slots
  within-below slots h z =
      let s = step index.links.items (2 ^ index.bits) place next below side h.has.shown h.has.whole n z b in
      record { has = has-below h.has z; within = λ k m. h.within k (let i = s.inside k in omega (arith, i, m)) }

-- the tree is less deep than any bound
pub has-top : (index : SlotIndex) (place depth : ℕ) → HasTree index place depth → HasTree index place 0
has-top index place depth h = record { shown = h.shown; whole = h.whole; few = (let f = h.few in omega (arith, f)); bits = h.bits }

pub smaller : (links : List ℕ) (roots place next below : ℕ) (side : Bool) (t : Tree) → IsWhole links roots place t → next ≡ get_or links place 0 → (next ≡ 0 → ⊥) → below ≡ branch roots next side →
    size (tree_at links roots below (length links)) < size (tree_at links roots place (length links))
smaller links roots place next below side t w n z b =
    let s = step links roots place next below side t w n z b in
    let whole = ap size (tree-is links roots place t (length links) w.tree (size-few links roots place t w.tree w.once)) in
    let part = ap size (tree-is links roots below s.branch_shown (length links) s.whole.tree (size-few links roots below s.branch_shown s.whole.tree s.whole.once)) in
    let fewer = s.fewer in
    omega (arith, whole, part, fewer)

-- the slot at a place with a slot on its way below
pub way-below : (index : SlotIndex) (place at next below : ℕ) (item : Item) (depth : ℕ) → IsOnWay index place at item depth → next ≡ get_or index.links.items place 0 → (next ≡ at → ⊥) →
    below ≡ branch (2 ^ index.bits) next (turn depth item) → IsOnWay index below at item (depth + 1)
way-below index place at next below item depth h n other b = on h.has.shown h.has.whole h.has.few h.there
  where
    on : (t : Tree) → IsWhole index.links.items (2 ^ index.bits) place t → size t + depth ≤ length index.links.items → IsThere h.item_of at item depth t → IsOnWay index below at item (depth + 1)
    on leaf w few there = absurd (let m = there.stands in omega (arith, m))
    on (fork i l r) w few there =
        let is : next ≡ i = n ∙ w.tree.0 in
        let apart : at ≡ i → ⊥ = λ e. other (is ∙ sym e) in
        record {
          has = record { shown = on_side (turn depth item) l r; whole = rw (b, is) (branch-whole (2 ^ index.bits) index.links.items place i l r w (turn depth item)); few = omega (arith, few, side-size); bits = h.has.bits };
          item_of = h.item_of;
          there = record { stands = its-side h.item_of depth item at i l r there.sorted there.its apart there.stands; its = there.its; sorted = side-sorted h.item_of depth (turn depth item) i l r there.sorted };
        }

-- what a search finds

pub found-none : (links : List ℕ) (roots place : ℕ) (item : Item) (item_of : ℕ → Item) (t : Tree) → IsWhole links roots place t → get_or links place 0 ≡ 0 → IsFound item item_of (λ k. tally k t) 0
found-none links roots place item item_of leaf w z = record { there = λ n. absurd (omega (arith, n)); missing = λ _ k m _. absurd (omega (arith, m)) }
found-none links roots place item item_of (fork i l r) w z = absurd (let a = w.tree.0 in let b = w.tree.1 in omega (arith, a, b, z))

pub found-here : (links : List ℕ) (roots place at : ℕ) (item : Item) (item_of : ℕ → Item) (t : Tree) → IsWhole links roots place t → at ≡ get_or links place 0 → (at ≡ 0 → ⊥) → item_of at ≡ item → IsFound item item_of (λ k. tally k t) at
found-here links roots place at item item_of t w n z e =
    let s = step links roots place at (branch roots at true) true t w n z refl in
    record { there = λ _. (s.here, e); missing = λ none k m same. z none }

pub found-on : (links : List ℕ) (roots place depth next below result : ℕ) (item : Item) (item_of : ℕ → Item) (t : Tree) → IsWhole links roots place t → IsSorted item_of depth t → next ≡ get_or links place 0 → (next ≡ 0 → ⊥) →
    (item_of next ≡ item → ⊥) → below ≡ branch roots next (turn depth item) → ((u : Tree) → IsWhole links roots below u → IsSorted item_of (depth + 1) u → IsFound item item_of (λ k. tally k u) result) →
    IsFound item item_of (λ k. tally k t) result
found-on links roots place depth next below result item item_of leaf w s n z other b ih = absurd (z (n ∙ w.tree))
found-on links roots place depth next below result item item_of (fork i l r) w s n z other b ih =
    let is : next ≡ i = n ∙ w.tree.0 in
    let f = ih (on_side (turn depth item) l r) (rw (b, is) (branch-whole roots links place i l r w (turn depth item))) (side-sorted item_of depth (turn depth item) i l r s) in
    record {
      there = λ m. (let t = f.there m in let in_side = t.0 in let few = side-tally (turn depth item) result l r in omega (arith, in_side, few), (f.there m).1);
      missing = λ none k m e. f.missing none k (its-side item_of depth item k i l r s e (λ q. other (ap item_of (is ∙ sym q) ∙ e)) m) e;
    }

cond-below : (b : Bool) (n : ℕ) → cond b n 0 ≤ n
cond-below true n = omega arith
cond-below false n = omega arith

-- a count with one more at a number: there, and elsewhere
more-there : (k n m : ℕ) → m ≡ cond (eqb k k) 1 0 + n → m ≡ 1 + n
more-there k n m e = rw (eq-eqb k k refl) at e

more-elsewhere : (k at n m : ℕ) → (k ≡ at → ⊥) → m ≡ cond (eqb k at) 1 0 + n → m ≡ n
more-elsewhere k at n m d e = let f : m ≡ 0 + n = rw (ne_eqb k at d) at e in omega (arith, f)

module _ (links : List ℕ) (mul bits : ℕ) (item_of : ℕ → Item) (used : ℕ → ℕ) (x : IsMapped links mul bits item_of used) where
  -- a tree has slots in use alone
  pub placed-used : (b k : ℕ) → b < 2 ^ bits → tally k (x.trees b) ≤ used k
  placed-used b k w = let p = x.placed b k w in let m = cond-below (eqb (bucket mul bits (item_of k)) b) (used k) in omega (arith, p, m)

  placed-once : (b k : ℕ) → b < 2 ^ bits → tally k (x.trees b) ≤ 1
  placed-once b k w = let p = placed-used b k w in let o = x.once k in omega (arith, p, o)

  -- a slot stands in the tree of its bucket
  pub placed-here : (b k : ℕ) → b < 2 ^ bits → bucket mul bits (item_of k) ≡ b → tally k (x.trees b) ≡ used k
  placed-here b k w e = x.placed b k w ∙ cond-true (eqb (bucket mul bits (item_of k)) b) (used k) 0 (eq-eqb _ _ e)

  placed-elsewhere : (b k : ℕ) → b < 2 ^ bits → (bucket mul bits (item_of k) ≡ b → ⊥) → tally k (x.trees b) ≡ 0
  placed-elsewhere b k w n = x.placed b k w ∙ cond-false (eqb (bucket mul bits (item_of k)) b) (used k) 0 (ne_eqb _ _ n)

  -- a slot stands in one tree at most
  placed-apart : (b c k : ℕ) → b < 2 ^ bits → c < 2 ^ bits → (c ≡ b → ⊥) → 1 ≤ tally k (x.trees c) → tally k (x.trees b) ≡ 0
  placed-apart b c k v u d m = placed-elsewhere b k v (λ e. let z = placed-elsewhere c k u (λ s. d (sym s ∙ e)) in omega (arith, z, m))

  pub root-whole : (b : ℕ) → b < 2 ^ bits → IsWhole links (2 ^ bits) b (x.trees b)
  root-whole b w =
      let size = x.size in
      record {
        tree = x.rooted b w;
        once = λ k. placed-once b k w;
        outside = λ k side m e. omega (arith, w, e);
        within = omega (arith, w, size);
      }

  -- a slot that is not in use can be put into the tree of a bucket
  pub free : (at b : ℕ) → used at ≡ 0 → b < 2 ^ bits → IsFree links (2 ^ bits) b at (x.trees b)
  free at b z v =
      let few = placed-used b at v in
      record { fresh = omega (arith, few, z); bare = x.bare at z; apart = λ side e. omega (arith, v, e) }

  -- another tree in one bucket
  module _ (links2 : List ℕ) (b : ℕ) (t2 : Tree) (v : b < 2 ^ bits) (p : Replaces (2 ^ bits) links links2 b (x.trees b) t2) where
    rooted2 : (c : ℕ) → c < 2 ^ bits → IsTree links2 (2 ^ bits) c (cond (eqb c b) t2 (x.trees c))
    rooted2 c u = elim (cases_eq c b) as (λ _. IsTree links2 (2 ^ bits) c (cond (eqb c b) t2 (x.trees c))) [
      | inl s ↦ let e : eqb c b ≡ true = eq-eqb c b s in rw (e, s) p.tree
      | inr d ↦ let e : eqb c b ≡ false = ne_eqb c b d in rw e (same-tree links links2 (2 ^ bits) c c (x.trees c) p.size (p.others c d (λ k side m q. omega (arith, u, q)))
          (λ k side m. p.others (branch (2 ^ bits) k side) (λ q. omega (arith, v, q))
          (λ j other n q. let s = same-slot (2 ^ bits) k j side other q in let a = ap (λ i. tally i (x.trees b)) s in let z = placed-apart b c k v u d m in omega (arith, a, z, n)))
          (x.rooted c u))
    ]

    -- a slot that is not in use has no branches still
    bared : (k : ℕ) → used k ≡ 0 → IsBare links2 (2 ^ bits) k
    bared k z side =
        p.others (branch (2 ^ bits) k side) (λ e. omega (arith, v, e))
        (λ j other n e. let s = same-slot (2 ^ bits) k j side other e in let few = placed-used b j v in let zero = ap used s in omega (arith, few, zero, z, n))
        ∙ x.bare k z side

    -- the slot k is in this tree as often as it is in use, and in no other, and nothing else has changed
    changed : (item_of2 : ℕ → Item) (used2 : ℕ → ℕ) (k : ℕ) → bucket mul bits (item_of2 k) ≡ b →
        ((j : ℕ) → (j ≡ k → ⊥) → item_of2 j ≡ item_of j) → ((j : ℕ) → (j ≡ k → ⊥) → used2 j ≡ used j) →
        ((j : ℕ) → (j ≡ k → ⊥) → tally j t2 ≡ tally j (x.trees b)) → tally k t2 ≡ used2 k → used2 k ≤ 1 →
        ((c : ℕ) → c < 2 ^ bits → (c ≡ b → ⊥) → tally k (x.trees c) ≡ 0) → IsSorted item_of2 0 t2 →
        (used2 k ≡ 0 → IsBare links2 (2 ^ bits) k) → IsMapped links2 mul bits item_of2 used2
    changed item_of2 used2 k bk others uses tallies here few past st own = record {
      size = p.size ∙ x.size;
      some = x.some;
      trees = λ c. cond (eqb c b) t2 (x.trees c);
      rooted = rooted2;
      placed = placed2;
      sorted = λ c u. elim (cases_eq c b) as (λ _. IsSorted item_of2 0 (cond (eqb c b) t2 (x.trees c))) [
        | inl q ↦ let e : eqb c b ≡ true = eq-eqb c b q in rw e st
        | inr q ↦
            let e : eqb c b ≡ false = ne_eqb c b q in
            let none = past c u q in
            rw e (sorted-same item_of item_of2 0 (x.trees c) (λ j m. others j (λ s. let a = ap (λ i. tally i (x.trees c)) s in omega (arith, a, m, none))) (x.sorted c u))
      ];
      once = λ j. elim (cases_eq j k) [
        | inl s ↦ rw s few
        | inr d ↦ let m = uses j d in let o = x.once j in omega (arith, m, o)
      ];
      bare = λ j z. elim (cases_eq j k) [
        | inl s ↦ rw s (own (ap used2 (sym s) ∙ z))
        | inr d ↦ bared j (sym (uses j d) ∙ z)
      ];
    }
      where
        own_tree : (c : ℕ) → c < 2 ^ bits → tally k (cond (eqb c b) t2 (x.trees c)) ≡ cond (eqb (bucket mul bits (item_of2 k)) c) (used2 k) 0
        own_tree c u = elim (cases_eq c b) as (λ _. tally k (cond (eqb c b) t2 (x.trees c)) ≡ cond (eqb (bucket mul bits (item_of2 k)) c) (used2 k) 0) [
          | inl q ↦ rw (eq-eqb c b q, eq-eqb _ c (bk ∙ sym q)) here
          | inr q ↦ rw (ne_eqb c b q, ne_eqb _ c (λ e. q (sym e ∙ bk))) (past c u q)
        ]

        other_tree : (c j : ℕ) → c < 2 ^ bits → (j ≡ k → ⊥) → tally j (cond (eqb c b) t2 (x.trees c)) ≡ tally j (x.trees c)
        other_tree c j u d = elim (cases_eq c b) as (λ _. tally j (cond (eqb c b) t2 (x.trees c)) ≡ tally j (x.trees c)) [
          | inl q ↦ rw (eq-eqb c b q, q) (tallies j d)
          | inr q ↦ rw (ne_eqb c b q) refl
        ]

        placed2 : (c j : ℕ) → c < 2 ^ bits → tally j (cond (eqb c b) t2 (x.trees c)) ≡ cond (eqb (bucket mul bits (item_of2 j)) c) (used2 j) 0
        placed2 c j u =
            elim (cases_eq j k) [
              | inl s ↦ rw s (own_tree c u)
              | inr d ↦ rw (others j d, uses j d) (other_tree c j u d ∙ x.placed c j u)
            ]

  -- a slot comes
  module _ (at : ℕ) (item : Item) (item_of2 : ℕ → Item) (used2 : ℕ → ℕ) (j : IsAdded at item item_of item_of2 used used2) (b : ℕ) (bk : b ≡ bucket mul bits item) (v : b < 2 ^ bits) where
    pub added : (links2 : List ℕ) → Replaces (2 ^ bits) links links2 b (x.trees b) (grafted 0 item at (x.trees b)) → IsMapped links2 mul bits item_of2 used2
    added links2 p =
        let more : used2 at ≡ 1 + used at = more-there at _ _ (j.counted at) in
        let one : tally at (grafted 0 item at (x.trees b)) ≡ 1 + tally at (x.trees b) = more-there at _ _ (grafted-tally 0 item at at (x.trees b)) in
        let none : tally at (x.trees b) ≡ 0 = omega (arith, placed-used b at v) in
        let st : IsSorted item_of2 0 (x.trees b) = sorted-same item_of item_of2 0 (x.trees b) (λ k m. j.others k (λ e. let q = ap (λ i. tally i (x.trees b)) e in omega (arith, q, m, none))) (x.sorted b v) in
        changed links2 b (grafted 0 item at (x.trees b)) v p item_of2 used2 at (ap (bucket mul bits) j.its ∙ sym bk) j.others
        (λ k d. more-elsewhere k at _ _ d (j.counted k))
        (λ k d. more-elsewhere k at _ _ d (grafted-tally 0 item at k (x.trees b)))
        (omega (arith, one, more, none))
        (omega (arith, more))
        (λ c u d. let pc = placed-used c at u in omega (arith, pc))
        (grafted-sorted item_of2 0 item at (x.trees b) j.its st)
        (λ z. absurd (omega (arith, z, more)))

  -- a slot goes
  module _ (at : ℕ) (item : Item) (used2 : ℕ → ℕ) (j : IsRemoved at item item_of used used2) (b : ℕ) (bk : b ≡ bucket mul bits item) (v : b < 2 ^ bits) where
    here : bucket mul bits (item_of at) ≡ b
    here = ap (bucket mul bits) j.its ∙ sym bk

    pub stands : IsThere item_of at item 0 (x.trees b)
    stands =
        let there = j.there in
        let whole = placed-here b at v here in
        record { stands = omega (arith, there, whole); its = j.its; sorted = x.sorted b v }

    pub removed : (links2 : List ℕ) → Replaces (2 ^ bits) links links2 b (x.trees b) (detached 0 item at (x.trees b)) → IsBare links2 (2 ^ bits) at → IsMapped links2 mul bits item_of used2
    removed links2 p bare =
        let left : (k : ℕ) → tally k (x.trees b) ≡ cond (eqb k at) 1 0 + tally k (detached 0 item at (x.trees b)) = λ k. detached-tally item_of 0 item at k (x.trees b) (x.sorted b v) j.its stands.stands in
        let m : used2 at ≡ 0 = j.counted at ∙ cond-true (eqb at at) 0 (used at) (eq-eqb at at refl) in
        let one = more-there at _ _ (left at) in
        let few = placed-once b at v in
        changed links2 b (detached 0 item at (x.trees b)) v p item_of used2 at here (λ k d. refl)
        (λ k d. j.counted k ∙ cond-false (eqb k at) 0 (used k) (ne_eqb k at d))
        (λ k d. sym (more-elsewhere k at _ _ d (left k)))
        (let there = stands.stands in omega (arith, one, few, m, there))
        (omega (arith, m))
        (λ c u d. placed-elsewhere c at u (λ e. d (sym e ∙ here)))
        (detached-sorted item_of 0 item at (x.trees b) (x.sorted b v) j.its stands.stands)
        (λ z. bare)

  -- what is found in the tree of the item's bucket
  pub found-root : (b : ℕ) (item : Item) (r : ℕ) → b ≡ bucket mul bits item → (v : b < 2 ^ bits) → IsFound item item_of (λ k. tally k (x.trees b)) r → IsFound item item_of used r
  found-root b item r bk v f = record {
    there = λ m. (let t = (f.there m).0 in let few = placed-used b r v in omega (arith, t, few), (f.there m).1);
    missing = λ z k m e. f.missing z k (let p = placed-here b k v (ap (bucket mul bits) e ∙ sym bk) in omega (arith, p, m)) e;
  }

  -- the first slot of the item's bucket
  pub first-in-bucket : (b : ℕ) (item : Item) (r : ℕ) → b ≡ bucket mul bits item → b < 2 ^ bits → r ≡ get_or links b 0 → IsInBucket item mul bits item_of used r
  first-in-bucket b item r bk v n = record {
    there = λ m.
        let h = (step links (2 ^ bits) b r (branch (2 ^ bits) r true) true (x.trees b) (root-whole b v) n (λ z. omega (arith, m, z)) refl).here in
        elim (cases_eq (bucket mul bits (item_of r)) b) [
          | inl s ↦ (let few = placed-used b r v in omega (arith, h, few), s ∙ bk)
          | inr d ↦ absurd (let z = placed-elsewhere b r v d in omega (arith, z, h))
        ];
    missing = λ z k m e.
        let p = placed-here b k v (e ∙ sym bk) in
        no-slots links (2 ^ bits) b (x.trees b) k (sym n ∙ z) (x.rooted b v) (omega (arith, p, m));
  }

-- the same map in other words
pub same-map : (links : List ℕ) (mul bits : ℕ) (item_of item_of2 : ℕ → Item) (used used2 : ℕ → ℕ) → ((k : ℕ) → item_of2 k ≡ item_of k) → ((k : ℕ) → used2 k ≡ used k) → IsMapped links mul bits item_of used → IsMapped links mul bits item_of2 used2
same-map links mul bits item_of item_of2 used used2 f g x = record {
  size = x.size;
  some = x.some;
  trees = x.trees;
  rooted = x.rooted;
  placed = λ b k w. rw (f k, g k) (x.placed b k w);
  sorted = λ b w. sorted-same item_of item_of2 0 (x.trees b) (λ k _. f k) (x.sorted b w);
  once = λ k. rw (g k) (x.once k);
  bare = λ k z. x.bare k (sym (g k) ∙ z);
}

-- what the walks begin with
abbrev pub root-has : (index : SlotIndex) (item_of : ℕ → Item) (used : ℕ → ℕ) (x : IsIndexed index item_of used) (b : ℕ) → b < 2 ^ index.bits → HasTree index b 0
root-has index item_of used x b w =
    let h = root-whole index.links.items index.multiplier index.bits item_of used x b w in
    let f = size-few index.links.items (2 ^ index.bits) b (x.trees b) h.tree h.once in
    record { shown = x.trees b; whole = h; few = omega (arith, f); bits = x.some.1 }

-- and a search
pub root-within : (index : SlotIndex) (slots : ℕ) → CanFind index slots → (b : ℕ) → b < 2 ^ index.bits → HasTreeWithin index b 0 slots
root-within index slots q b w = record {
  has = root-has index q.item_of q.used q.indexed b w;
  within = λ k m. q.within k (let p = placed-used _ _ _ q.item_of q.used q.indexed b k w in omega (arith, p, m));
}

-- empty trees
pub empty-mapped : (links : List ℕ) (mul bits : ℕ) (item_of : ℕ → Item) → links ≡ replicate (2 ^ bits + 2 * capacity bits) 0 → (1 ≤ bits) × (bits < 32) → IsMapped links mul bits item_of (λ k. 0)
empty-mapped links mul bits item_of e s = rw e record {
  size = length-replicate {A = ℕ} (2 ^ bits + 2 * capacity bits) 0;
  some = s;
  trees = λ b. leaf;
  rooted = λ b w. none (2 ^ bits + 2 * capacity bits) b;
  placed = λ b k w. elim (cases_Bool (eqb (bucket mul bits (item_of k)) b)) as (λ _. ◌≡◌ {A = ℕ} 0 (cond (eqb (bucket mul bits (item_of k)) b) 0 0)) [ inl y ↦ rw y refl | inr y ↦ rw y refl ];
  sorted = λ b w. tt;
  once = λ k. omega arith;
  bare = λ k z side. none (2 ^ bits + 2 * capacity bits) (branch (2 ^ bits) k side);
}
  where
    none : (n b : ℕ) → ◌≡◌ {A = ℕ} (get_or (replicate n 0) b 0) 0
    none zero b = refl
    none (suc n) zero = refl
    none (suc n) (suc b) = none n b
