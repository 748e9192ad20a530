-- What the walks down a tree go by.
use Rattle.std.specs.Prelude.{ℕ, ◌+◌, ◌^◌, ◌≤◌, ◌<◌, length}
use Rattle.queue_table.specs.declared.slot_index.SlotIndex.{SlotIndex}
use Rattle.queue_table.specs.Trees.{Item, Tree, tally, size}
use Rattle.queue_table.specs.Places.{IsWhole, IsThere}

-- a tree stands at the place, whose slots are few enough for its depth
pub record HasTree (index : SlotIndex) (place depth : ℕ) : Type 0 where
  pub shown : Tree
  pub whole : IsWhole index.links.items (2 ^ index.bits) place shown
  pub few : size shown + depth ≤ length index.links.items
  pub bits : index.bits < 32

-- and its slots are some of the first so many
pub record HasTreeWithin (index : SlotIndex) (place depth slots : ℕ) : Type 0 where
  pub has : HasTree index place depth
  pub within : (k : ℕ) → 1 ≤ tally k has.shown → k < slots

-- a tree stands at the place, and a slot in it, on its item's way
pub record IsOnWay (index : SlotIndex) (place at : ℕ) (item : Item) (depth : ℕ) : Type 0 where
  pub has : HasTree index place depth
  pub item_of : ℕ → Item
  pub there : IsThere item_of at item depth has.shown
