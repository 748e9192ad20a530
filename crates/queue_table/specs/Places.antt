-- The tree at a place of the links, and another one put there.
use Rattle.std.specs.Prelude.{◌≡◌, ℕ, ◌≤◌, ◌<◌, Bool, List, length, slice_index}
use Rattle.queue_table.specs.Trees.{Item, Tree, tally, branch, IsTree, IsSorted}

-- the place is that of no branch of the tree's slots
abbrev pub IsOutside : ℕ → ℕ → Tree → Type 0
IsOutside roots place t = (k : ℕ) (side : Bool) → 1 ≤ tally k t → place ≡ branch roots k side → ⊥

-- the links show the tree at the place, which is outside of it, and no slot stands twice
pub record IsWhole (links : List ℕ) (roots place : ℕ) (t : Tree) : Type 0 where
  pub tree : IsTree links roots place t
  pub once : (k : ℕ) → tally k t ≤ 1
  pub outside : IsOutside roots place t
  pub within : place < length links

-- the slot has no branches
abbrev pub IsBare : List ℕ → ℕ → ℕ → Type 0
IsBare links roots at = (side : Bool) → slice_index links (branch roots at side) ≡ 0

-- the slot has no branches and is not in the tree
pub record IsFree (links : List ℕ) (roots place at : ℕ) (t : Tree) : Type 0 where
  pub fresh : tally at t ≡ 0
  pub bare : IsBare links roots at
  pub apart : (side : Bool) → place ≡ branch roots at side → ⊥

-- the slot stands in the tree, on its item's way
pub record IsThere (item_of : ℕ → Item) (at : ℕ) (item : Item) (depth : ℕ) (t : Tree) : Type 0 where
  pub stands : 1 ≤ tally at t
  pub its : item_of at ≡ item
  pub sorted : IsSorted item_of depth t

-- another tree stands at the place, and no link changed but that one and branches of the tree's slots
pub record Replaces (roots : ℕ) (links links2 : List ℕ) (place : ℕ) (t t2 : Tree) : Type 0 where
  pub tree : IsTree links2 roots place t2
  pub others : (q : ℕ) → (q ≡ place → ⊥) → IsOutside roots q t → slice_index links2 q ≡ slice_index links q
  pub size : length links2 ≡ length links
