-- Trees as the links show them.
use Rattle.std.proofs.Common.{◌≡◌, ℕ, suc, zero, ◌+◌, ◌<◌, ◌≤◌, Bool, true, false, cond, eqb, List, length, get_or, ap, ◌∙◌, sym, refl, arith, ◌⊎◌}
use Rattle.std.proofs.lemmas.Bool.{ne_eqb, cases_eq, cond_both}
use Rattle.std.proofs.lemmas.Bool.Decides.{nat_tests}
use Rattle.queue_table.specs.Trees.{Tree, leaf, fork, tally, size, branch, IsTree, Item, turn, IsSorted, grafted, lowest, pruned, plucked, renamed, lifted, detached}

pub some_or_none : (n : ℕ) → (1 ≤ n) ⊎ (n ≡ 0)
some_or_none v = grind (arith, nat_tests)

-- what a tree holds

pub tally-here : (i : ℕ) (l r : Tree) → tally i (fork i l r) ≡ 1 + (tally i l + tally i r)
tally-here i l r = grind (arith, nat_tests)

-- the branch on a side, the right one if true
abbrev pub on_side : Bool → Tree → Tree → Tree
on_side right l r = cond right r l

pub side-tally : (right : Bool) (k : ℕ) (l r : Tree) → tally k (on_side right l r) ≤ tally k l + tally k r
side-tally right k l r = grind (arith, nat_tests)

pub side-size : (right : Bool) (l r : Tree) → size (on_side right l r) ≤ size l + size r
side-size right l r = grind (arith, nat_tests)

pub members : (links : List ℕ) (roots place : ℕ) (t : Tree) (k : ℕ) → IsTree links roots place t → 1 ≤ tally k t → (1 ≤ k) × (branch roots k true < length links)
members links roots place leaf k x m = absurd (omega (arith, m))
members links roots place (fork i l r) k x m =
    let left = members links roots (branch roots i false) l k x.3 in
    let right = members links roots (branch roots i true) r k x.4 in
    grind (arith, nat_tests)

-- where the link is none, so is the tree
pub no-slots : (links : List ℕ) (roots place : ℕ) (t : Tree) (k : ℕ) → get_or links place 0 ≡ 0 → IsTree links roots place t → 1 ≤ tally k t → ⊥
no-slots links roots place leaf k z x m = omega (arith, m)
no-slots links roots place (fork i l r) k z x m = let a = x.0 in let b = x.1 in omega (arith, a, b, z)

-- a tree in which no slot stands twice has no more slots than there are numbers below a bound of theirs

abbrev sum : (ℕ → ℕ) → ℕ → ℕ
sum f zero = 0
sum f (suc n) = f n + sum f n

sum-few : (f : ℕ → ℕ) (n : ℕ) → ((k : ℕ) → f k ≤ 1) → sum f n ≤ n
sum-few f zero h = omega arith
sum-few f (suc n) h = let a = h n in let b = sum-few f n h in omega (arith, a, b)

sum-plus : (f g : ℕ → ℕ) (n : ℕ) → sum (λ k. f k + g k) n ≡ sum f n + sum g n
sum-plus f g zero = refl
sum-plus f g (suc n) = let h = sum-plus f g n in omega (arith, h)

sum-zero : (n : ℕ) → ◌≡◌ {A = ℕ} (sum (λ k. 0) n) 0
sum-zero zero = refl
sum-zero (suc n) = let h = sum-zero n in omega (arith, h)

sum-none : (i n : ℕ) → n ≤ i → ◌≡◌ {A = ℕ} (sum (λ k. cond (eqb k i) 1 0) n) 0
sum-none i zero h = refl
sum-none i (suc n) h = let r = sum-none i n (omega arith) in grind (arith, nat_tests)

sum-one : (i n : ℕ) → i < n → ◌≡◌ {A = ℕ} (sum (λ k. cond (eqb k i) 1 0) n) 1
sum-one i zero h = absurd (omega (arith, h))
sum-one i (suc n) h = let r = sum-one i n in let z = sum-none i n in let e = cases_eq n i in grind (arith, nat_tests)

size-sum : (n : ℕ) (t : Tree) → ((k : ℕ) → 1 ≤ tally k t → k < n) → size t ≡ sum (λ k. tally k t) n
size-sum n leaf h = sym (sum-zero n)
size-sum n (fork i l r) h =
    let a = size-sum n l (λ k m. h k (omega (arith, m))) in
    let b = size-sum n r (λ k m. h k (omega (arith, m))) in
    let o = sum-one i n (h i (let c = tally-here i l r in omega (arith, c))) in
    let p = sum-plus (λ k. tally k l) (λ k. tally k r) n in
    let q = sum-plus (λ k. cond (eqb k i) 1 0) (λ k. tally k l + tally k r) n in
    omega (arith, a, b, o, p, q)

pub size-few : (links : List ℕ) (roots place : ℕ) (t : Tree) → IsTree links roots place t → ((k : ℕ) → tally k t ≤ 1) → size t ≤ length links
size-few links roots place t x once =
    let s = size-sum (length links) t (λ k m. let w = (members links roots place t k x m).1 in omega (arith, w)) in
    let f = sum-few (λ k. tally k t) (length links) once in
    omega (arith, s, f)

-- the tree at a place, n slots deep at most
abbrev pub tree_at : List ℕ → ℕ → ℕ → ℕ → Tree
tree_at links roots place zero = leaf
tree_at links roots place (suc n) =
    cond (eqb (get_or links place 0) 0) leaf (fork (get_or links place 0) (tree_at links roots (branch roots (get_or links place 0) false) n)
    (tree_at links roots (branch roots (get_or links place 0) true) n))

pub tree-is : (links : List ℕ) (roots place : ℕ) (t : Tree) (n : ℕ) → IsTree links roots place t → size t ≤ n → tree_at links roots place n ≡ t
tree-is links roots place leaf zero x w = refl
tree-is links roots place leaf (suc n) x w = grind (arith, nat_tests)
tree-is links roots place (fork i l r) zero x w = absurd (omega (arith, w))
tree-is links roots place (fork i l r) (suc n) x w =
    let e : eqb i 0 ≡ false = ne_eqb i 0 (λ z. let b = x.1 in omega (arith, b, z)) in
    let a = tree-is links roots (branch roots i false) l n x.3 (omega (arith, w)) in
    let b = tree-is links roots (branch roots i true) r n x.4 (omega (arith, w)) in
    rw (x.0, e) (ap (λ y. fork i y (tree_at links roots (branch roots i true) n)) a ∙ ap (λ y. fork i l y) b)

-- places

pub same-slot : (roots i k : ℕ) (a b : Bool) → branch roots i a ≡ branch roots k b → i ≡ k
same-slot roots i k a b e = grind (arith, nat_tests)

-- a tree whose links stay is shown as before, also at another place
pub same-tree : (links links2 : List ℕ) (roots place place2 : ℕ) (t : Tree) → length links2 ≡ length links → get_or links2 place2 0 ≡ get_or links place 0 →
    ((k : ℕ) (side : Bool) → 1 ≤ tally k t → get_or links2 (branch roots k side) 0 ≡ get_or links (branch roots k side) 0) → IsTree links roots place t → IsTree links2 roots place2 t
same-tree links links2 roots place place2 leaf s h f x = h ∙ x
same-tree links links2 roots place place2 (fork i l r) s h f x =
    let here = tally-here i l r in
    let w = x.2 in (
      h ∙ x.0,
      x.1,
      omega (arith, w, s),
      same-tree links links2 roots (branch roots i false) (branch roots i false) l s (f i false (omega (arith, here))) (λ k side m. f k side (omega (arith, m))) x.3,
      same-tree links links2 roots (branch roots i true) (branch roots i true) r s (f i true (omega (arith, here))) (λ k side m. f k side (omega (arith, m))) x.4,
    )

-- ---- search trees by the ways of their items

-- items that stay leave the ways as they are
pub sorted-same : (its its2 : ℕ → Item) (d : ℕ) (t : Tree) → ((k : ℕ) → 1 ≤ tally k t → its2 k ≡ its k) → IsSorted its d t → IsSorted its2 d t
sorted-same its its2 d leaf e s = s
sorted-same its its2 d (fork i l r) e s = (
  sorted-same its its2 (d + 1) l (λ k m. e k (omega (arith, m))) s.0,
  sorted-same its its2 (d + 1) r (λ k m. e k (omega (arith, m))) s.1,
  (λ k m. ap (turn d) (e k (omega (arith, m))) ∙ s.2 k m),
  (λ k m. ap (turn d) (e k (omega (arith, m))) ∙ s.3 k m),
)

-- a slot more

pub grafted-tally : (d : ℕ) (x : Item) (at k : ℕ) (t : Tree) → tally k (grafted d x at t) ≡ cond (eqb k at) 1 0 + tally k t
grafted-tally d x at k leaf = omega arith
grafted-tally d x at k (fork i l r) = search (arith, grafted-tally (d + 1) x at k r, grafted-tally (d + 1) x at k l)

pub grafted-sorted : (its : ℕ → Item) (d : ℕ) (x : Item) (at : ℕ) (t : Tree) → its at ≡ x → IsSorted its d t → IsSorted its d (grafted d x at t)
grafted-sorted its d x at leaf e s = (tt, tt, (λ k m. absurd (omega (arith, m))), (λ k m. absurd (omega (arith, m))))
grafted-sorted its d x at (fork i l r) e s =
    cond_both (turn d x) _ _ (IsSorted its d)
    (λ b. (s.0, grafted-sorted its (d + 1) x at r e s.1, s.2, (λ k m. side k r true b s.3 m)))
    (λ b. (grafted-sorted its (d + 1) x at l e s.0, s.1, (λ k m. side k l false b s.2 m), s.3))
  where
    side : (k : ℕ) (u : Tree) (b : Bool) → turn d x ≡ b → ((j : ℕ) → 1 ≤ tally j u → turn d (its j) ≡ b) → 1 ≤ tally k (grafted (d + 1) x at u) → turn d (its k) ≡ b
    side k u b w f m = grind (arith, nat_tests, grafted-tally (d + 1) x at k u, f k, ap (turn d) e, cases_eq k at)

-- the lowest slot taken out

abbrev last : ℕ → ℕ → Tree → ℕ
last d k leaf = 0
last d k (fork i l r) = cond (eqb k (lowest d (fork i l r))) 1 0

pruned-tally : (d k i : ℕ) (l r : Tree) → tally k l ≡ last (lowest i r) k l + tally k (plucked l) → tally k r ≡ last i k r + tally k (plucked r) →
    tally k (fork i l r) ≡ cond (eqb k (lowest d (fork i l r))) 1 0 + tally k (pruned i l r (plucked l) (plucked r))
pruned-tally d k i v r x y = grind (arith, nat_tests)

tree-tally : (d k : ℕ) (t : Tree) → tally k t ≡ last d k t + tally k (plucked t)
tree-tally d k leaf = omega arith
tree-tally d k (fork i l r) = pruned-tally d k i l r (tree-tally (lowest i r) k l) (tree-tally i k r)

pub plucked-tally : (k i : ℕ) (l r : Tree) → tally k (fork i l r) ≡ cond (eqb k (lowest 0 (fork i l r))) 1 0 + tally k (plucked (fork i l r))
plucked-tally k i l r = tree-tally 0 k (fork i l r)

pub lifted-tally : (k i : ℕ) (l r : Tree) → tally k (fork i l r) ≡ cond (eqb k i) 1 0 + tally k (lifted (fork i l r))
lifted-tally k i v r = grind (arith, nat_tests, plucked-tally)

pruned-sorted : (its : ℕ → Item) (d i : ℕ) (l r : Tree) → IsSorted its (d + 1) (plucked l) → IsSorted its (d + 1) (plucked r) → IsSorted its d (fork i l r) → IsSorted its d (pruned i l r (plucked l) (plucked r))
pruned-sorted its d i (fork j a b) r x y s = (x, s.1, (λ k m. s.2 k (let h = plucked-tally k j a b in omega (arith, h, m))), s.3)
pruned-sorted its d i leaf (fork j a b) x y s = (tt, y, (λ k m. absurd (omega (arith, m))), (λ k m. s.3 k (let h = plucked-tally k j a b in omega (arith, h, m))))
pruned-sorted its d i leaf leaf x y s = tt

plucked-sorted : (its : ℕ → Item) (d : ℕ) (t : Tree) → IsSorted its d t → IsSorted its d (plucked t)
plucked-sorted its d leaf s = s
plucked-sorted its d (fork i l r) s = pruned-sorted its d i l r (plucked-sorted its (d + 1) l s.0) (plucked-sorted its (d + 1) r s.1) s

renamed-sorted : (its : ℕ → Item) (d k : ℕ) (t : Tree) → IsSorted its d t → IsSorted its d (renamed k t)
renamed-sorted its d k v s = grind (arith, nat_tests)

pub lifted-sorted : (its : ℕ → Item) (d : ℕ) (t : Tree) → IsSorted its d t → IsSorted its d (lifted t)
lifted-sorted its d t s = renamed-sorted its d (lowest 0 t) (plucked t) (plucked-sorted its d t s)

-- a slot taken out

pub side-sorted : (its : ℕ → Item) (d : ℕ) (right : Bool) (i : ℕ) (l r : Tree) → IsSorted its d (fork i l r) → IsSorted its (d + 1) (on_side right l r)
side-sorted its d v i l r s = grind (arith, nat_tests)

-- on which side the slot stands
pub its-side : (its : ℕ → Item) (d : ℕ) (x : Item) (at i : ℕ) (l r : Tree) → IsSorted its d (fork i l r) → its at ≡ x → (at ≡ i → ⊥) → 1 ≤ tally at (fork i l r) → 1 ≤ tally at (on_side (turn d x) l r)
its-side its d x at i l r s e n m = grind (arith, nat_tests, ap (turn d) e, s.2 at, s.3 at)

pub detached-tally : (its : ℕ → Item) (d : ℕ) (x : Item) (at k : ℕ) (t : Tree) → IsSorted its d t → its at ≡ x → 1 ≤ tally at t → tally k t ≡ cond (eqb k at) 1 0 + tally k (detached d x at t)
detached-tally its d x at k leaf s e m = absurd (omega (arith, m))
detached-tally its d x at k (fork i l r) s e m =
    let side = its-side its d x at i l r s e in
    let lift = lifted-tally k i l r in
    let right = detached-tally its (d + 1) x at k r s.1 e in
    let left = detached-tally its (d + 1) x at k l s.0 e in
    grind (arith, nat_tests)

pub detached-sorted : (its : ℕ → Item) (d : ℕ) (x : Item) (at : ℕ) (t : Tree) → IsSorted its d t → its at ≡ x → 1 ≤ tally at t → IsSorted its d (detached d x at t)
detached-sorted its d x at leaf s e m = tt
detached-sorted its d x at (fork i l r) s e m =
    cond_both (eqb i at) _ _ (IsSorted its d) (λ g. lifted-sorted its d (fork i l r) s) (λ g.
    let side = its-side its d x at i l r s e (λ q. grind (arith, nat_tests)) m in
    cond_both (turn d x) _ _ (IsSorted its d)
    (λ b.
    let there : 1 ≤ tally at r = rw b at side in
    let left = λ (k : ℕ). detached-tally its (d + 1) x at k r s.1 e there in
    (s.0, detached-sorted its (d + 1) x at r s.1 e there, s.2, (λ k n. s.3 k (let h = left k in omega (arith, h, n)))))
    (λ b.
    let there : 1 ≤ tally at l = rw b at side in
    let left = λ (k : ℕ). detached-tally its (d + 1) x at k l s.0 e there in
    (detached-sorted its (d + 1) x at l s.0 e there, s.1, (λ k n. s.2 k (let h = left k in omega (arith, h, n))), s.3)))
