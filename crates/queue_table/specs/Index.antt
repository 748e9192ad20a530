-- The index as a map: which slots it knows, and the item of each.
use Rattle.std.specs.Prelude.{◌≡◌, ℕ, ◌+◌, ◌-◌, ◌*◌, ◌/◌, ◌%◌, ◌^◌, ◌≤◌, ◌<◌, eqb, cond, List, length}
pub use Rattle.queue_table.specs.declared.slot_index.SlotIndex.{SlotIndex}
use Rattle.queue_table.specs.Trees.{Item, Tree, tally, IsTree, IsSorted}
use Rattle.queue_table.specs.Places.{IsBare}

-- a key and a node spread over the upper bits of one product by the multiplier (Knuth's multiplicative hashing)
abbrev pub hash : ℕ → Item → ℕ
hash multiplier i = ((i.key + i.node * 2 ^ 32) * multiplier) % 2 ^ 64

abbrev pub bucket : ℕ → ℕ → Item → ℕ
bucket multiplier bits i = hash multiplier i / 2 ^ (64 - bits)

-- the slots that an index has branches for are those below this number
abbrev pub capacity : ℕ → ℕ
capacity bits = 2 ^ bits / 2 + 2

-- each slot stands in the tree of its item's bucket as often as it is used, and in no other; one that is not used has
-- no branches
pub record IsMapped (links : List ℕ) (multiplier bits : ℕ) (item_of : ℕ → Item) (used : ℕ → ℕ) : Type 0 where
  pub size : length links ≡ 2 ^ bits + 2 * capacity bits
  pub some : (1 ≤ bits) × (bits < 32)
  pub trees : ℕ → Tree
  pub rooted : (b : ℕ) → b < 2 ^ bits → IsTree links (2 ^ bits) b (trees b)
  pub placed : (b k : ℕ) → b < 2 ^ bits → tally k (trees b) ≡ cond (eqb (bucket multiplier bits (item_of k)) b) (used k) 0
  pub sorted : (b : ℕ) → b < 2 ^ bits → IsSorted item_of 0 (trees b)
  pub once : (k : ℕ) → used k ≤ 1
  pub bare : (k : ℕ) → used k ≡ 0 → IsBare links (2 ^ bits) k

-- the index knows the used slots, with their items
abbrev pub IsIndexed : SlotIndex → (ℕ → Item) → (ℕ → ℕ) → Type 0
IsIndexed index item_of used = IsMapped index.links.items index.multiplier index.bits item_of used

-- the index does not know the slot
pub record LacksSlot (at : ℕ) (index : SlotIndex) : Type 0 where
  pub item_of : ℕ → Item
  pub used : ℕ → ℕ
  pub indexed : IsIndexed index item_of used
  pub absent : used at ≡ 0

-- a slot comes into use with an item; the others stay
pub record IsAdded (at : ℕ) (item : Item) (item_of item_of2 : ℕ → Item) (used used2 : ℕ → ℕ) : Type 0 where
  pub absent : used at ≡ 0
  pub its : item_of2 at ≡ item
  pub others : (k : ℕ) → (k ≡ at → ⊥) → item_of2 k ≡ item_of k
  pub counted : (k : ℕ) → used2 k ≡ cond (eqb k at) 1 0 + used k

-- a slot that holds the item goes out of use; the others stay
pub record IsRemoved (at : ℕ) (item : Item) (item_of : ℕ → Item) (used used2 : ℕ → ℕ) : Type 0 where
  pub there : 1 ≤ used at
  pub its : item_of at ≡ item
  pub counted : (k : ℕ) → used2 k ≡ cond (eqb k at) 0 (used k)

-- the index knows the slot with the item
pub record HasSlot (at : ℕ) (item : Item) (index : SlotIndex) : Type 0 where
  pub item_of : ℕ → Item
  pub used : ℕ → ℕ
  pub indexed : IsIndexed index item_of used
  pub there : 1 ≤ used at
  pub its : item_of at ≡ item

-- each slot that the index knows is one of the first so many
pub record CanFind (index : SlotIndex) (slots : ℕ) : Type 0 where
  pub item_of : ℕ → Item
  pub used : ℕ → ℕ
  pub indexed : IsIndexed index item_of used
  pub within : (k : ℕ) → 1 ≤ used k → k < slots

-- the slot is used and holds the item; 0 where no used slot holds it
pub record IsFound (item : Item) (item_of : ℕ → Item) (used : ℕ → ℕ) (at : ℕ) : Type 0 where
  pub there : 1 ≤ at → (1 ≤ used at) × (item_of at ≡ item)
  pub missing : at ≡ 0 → (k : ℕ) → 1 ≤ used k → item_of k ≡ item → ⊥

-- the slot is used, and its item shares the other one's bucket; or the slot is 0, and no used slot's item does
pub record IsInBucket (item : Item) (multiplier bits : ℕ) (item_of : ℕ → Item) (used : ℕ → ℕ) (at : ℕ) : Type 0 where
  pub there : 1 ≤ at → (1 ≤ used at) × (bucket multiplier bits (item_of at) ≡ bucket multiplier bits item)
  pub missing : at ≡ 0 → (k : ℕ) → 1 ≤ used k → bucket multiplier bits (item_of k) ≡ bucket multiplier bits item → ⊥
