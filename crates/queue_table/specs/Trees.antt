-- Search trees of slots, and what a slot more or less makes of one.
use Rattle.std.specs.Prelude.{◌≡◌, ℕ, suc, ◌+◌, ◌*◌, ◌/◌, ◌%◌, ◌^◌, ◌≤◌, ◌<◌, eqb, cond, Bool, true, false}
use Rattle.std.specs.Prelude.{List, length, slice_index}
pub use Rattle.engine_base.specs.declared.item.Item.{Item}

-- a binary tree of slots
pub data Tree : Type 0 where
  leaf : Tree
  fork : ℕ → Tree → Tree → Tree

-- how often the slot stands in the tree
abbrev pub tally : ℕ → Tree → ℕ
tally k leaf = 0
tally k (fork i l r) = cond (eqb k i) 1 0 + (tally k l + tally k r)

-- how many slots stand in the tree
abbrev pub size : Tree → ℕ
size leaf = 0
size (fork i l r) = suc (size l + size r)

-- where the links have a slot's branch, the right one if true: side by side after the roots
abbrev pub branch : ℕ → ℕ → Bool → ℕ
branch roots k right = roots + 2 * k + cond right 1 0

-- the link at the place shows the tree; 0 is no slot
abbrev pub IsTree : List ℕ → ℕ → ℕ → Tree → Type 0
IsTree links roots place leaf = slice_index links place ≡ 0
IsTree links roots place (fork i l r) =
    (slice_index links place ≡ i) × (1 ≤ i) × (branch roots i true < length links) ×
    IsTree links roots (branch roots i false) l × IsTree links roots (branch roots i true) r

-- which way the item goes at a depth: by the bits of its key from the lowest on, then by those of its node; true is
-- right
abbrev pub turn : ℕ → Item → Bool
turn depth i = eqb (cond (eqb (depth / 64 % 2) 0) i.key i.node / 2 ^ (depth % 64) % 2) 1

-- below each slot stands left what goes left at its depth, and right what goes right
abbrev pub IsSorted : (ℕ → Item) → ℕ → Tree → Type 0
IsSorted item_of depth leaf = Unit {0}
IsSorted item_of depth (fork i l r) =
    IsSorted item_of (depth + 1) l × IsSorted item_of (depth + 1) r ×
    ((k : ℕ) → 1 ≤ tally k l → turn depth (item_of k) ≡ false) ×
    ((k : ℕ) → 1 ≤ tally k r → turn depth (item_of k) ≡ true)

-- the tree with a slot more, at the end of the item's way
abbrev pub grafted : ℕ → Item → ℕ → Tree → Tree
grafted depth item at leaf = fork at leaf leaf
grafted depth item at (fork i l r) =
    cond (turn depth item) (fork i l (grafted (depth + 1) item at r)) (fork i (grafted (depth + 1) item at l) r)

-- the slot at the end of the way that goes left wherever there is a left branch, k in an empty tree
abbrev pub lowest : ℕ → Tree → ℕ
lowest k leaf = k
lowest k (fork i l r) = lowest (lowest i r) l

-- a slot with two branches, the one of which that has the lowest slot without that: nothing where that is the slot
abbrev pub pruned : ℕ → Tree → Tree → Tree → Tree → Tree
pruned i (fork j a b) r left right = fork i left r
pruned i leaf (fork j a b) left right = fork i leaf right
pruned i leaf leaf left right = leaf

-- the tree without its lowest slot
abbrev pub plucked : Tree → Tree
plucked leaf = leaf
plucked (fork i l r) = pruned i l r (plucked l) (plucked r)

-- the tree with another slot in front
abbrev pub renamed : ℕ → Tree → Tree
renamed k leaf = leaf
renamed k (fork i l r) = fork k l r

-- the tree without its first slot: the lowest one comes in its place
abbrev pub lifted : Tree → Tree
lifted t = renamed (lowest 0 t) (plucked t)

-- the tree without a slot that stands on the item's way
abbrev pub detached : ℕ → Item → ℕ → Tree → Tree
detached depth item at leaf = leaf
detached depth item at (fork i l r) =
    cond (eqb i at) (lifted (fork i l r))
    (cond (turn depth item) (fork i l (detached (depth + 1) item at r)) (fork i (detached (depth + 1) item at l) r))
