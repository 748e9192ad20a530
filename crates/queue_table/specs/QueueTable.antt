-- Slots, index and lengths together, and what the calls of the table see of them.
use Rattle.std.specs.Prelude.{◌≡◌, ℕ, suc, zero, ◌+◌, ◌*◌, ◌^◌, ◌<◌, ◌≤◌, Option, List, [], ◌∷◌, ◌++◌, map, length}
use Rattle.std.specs.Prelude.{slice_index, slice_index_or, false, if◌then◌else◌, ◌||◌, ◌==◌, ◌/◌, nat_lt, nat_le}
pub use Rattle.queue_table.specs.declared.lengths.Lengths.{Lengths}
pub use Rattle.queue_table.specs.declared.slot.Slot.{Slot}
use Rattle.queue_table.specs.Entries.{Entry, Item, is_same_item, last_item}
use Rattle.queue_table.specs.Queues.{Queues}
use Rattle.queue_table.specs.Ring.{entries, count, SECTIONS, FIRST, Order, used, order_of, lists}
use Rattle.queue_table.specs.Ring.{slot_entry, slot_item}
use Rattle.queue_table.specs.Ring.{IsQueued}
pub use Rattle.queue_table.specs.declared.slot_index.SlotIndex.{SlotIndex}
use Rattle.queue_table.specs.declared.growth.TheConstants.{MIN_FIRST_BITS, MAX_FIRST_BITS}
use Rattle.queue_table.specs.Index.{capacity, IsIndexed}

-- the entries of each queue, oldest first
abbrev pub queues : List Slot → Queues
queues slots = lists slots

-- for how many more items there is room
abbrev pub spare : List Slot → ℕ
spare slots = length (order_of slots 0)

-- the slot is in use
abbrev pub IsUsed : ℕ → List Slot → Type 0
IsUsed at slots = 1 ≤ count at (used (order_of slots))

-- the entry of a slot
abbrev pub entry_at : ℕ → List Slot → Entry
entry_at at slots = slot_entry (entries slots) at

-- the slot is in use and has the entry
pub record HoldsAt (at : ℕ) (e : Entry) (slots : List Slot) : Type 0 where
  pub used : IsUsed at slots
  pub entry : entry_at at slots ≡ e

-- each slot in use stays so, with its entry
abbrev pub KeepsSlots : List Slot → List Slot → Type 0
KeepsSlots old new = (at : ℕ) (e : Entry) → HoldsAt at e old → HoldsAt at e new

-- each slot in use that has another item stays so, with its entry
abbrev pub KeepsOthers : Item → List Slot → List Slot → Type 0
KeepsOthers i old new =
    (at : ℕ) (e : Entry) → HoldsAt at e old → is_same_item e.item i ≡ false → HoldsAt at e new

-- how many slots stand in each section
abbrev pub IsCounted : Lengths → Order → Type 0
IsCounted lengths o = (s : ℕ) → s < SECTIONS → slice_index lengths.at s ≡ length (o s)

-- the slot is in use, and no section has too many slots to count one more
pub record CanLeave (at : ℕ) (slots : List Slot) (lengths : Lengths) : Type 0 where
  pub queued : IsQueued slots (order_of slots)
  pub used : IsUsed at slots
  pub counted : IsCounted lengths (order_of slots)
  pub few : (s : ℕ) → s < SECTIONS → slice_index lengths.at s + 1 < 2 ^ 64

-- the index knows the used slots, with their items
abbrev pub IsIndexOf : SlotIndex → List Entry → List ℕ → Type 0
IsIndexOf index entries used = IsIndexed index (slot_item entries) (λ k. count k used)

-- n slots from the first on that holds an item
abbrev pub from_first : ℕ → List ℕ
from_first zero = []
from_first (suc n) = (n + FIRST) ∷ from_first n

-- the index has two buckets for each slot, the last one excepted, until it has 2^31 buckets: so a search looks at few
-- slots
abbrev pub IsLoaded : ℕ → ℕ → Type 0
IsLoaded slots bits = 0 < slots → bits < 31 → 2 * slots ≤ 2 ^ bits + 2

-- how many bits number the buckets of the first index, where so many are wished
abbrev pub bits_of_first : ℕ → ℕ
bits_of_first wished = if nat_lt wished MIN_FIRST_BITS || nat_lt MAX_FIRST_BITS wished then MIN_FIRST_BITS else wished

-- how many do once there is an index, for so many slots
abbrev pub bits_once_begun : ℕ → ℕ → ℕ
bits_once_begun slots bits = if slots == 0 then bits_of_first bits else bits

-- how many do before one more slot: one more bit where there are fewer than two buckets for a slot
abbrev pub bits_of_wider : ℕ → ℕ → ℕ
bits_of_wider slots bits = if nat_le slots (2 ^ bits / 2) || nat_le 31 bits then bits else bits + 1

-- the slots are linked in the order, and the index knows those in use and has branches for all
pub record IsInSlots (slots : List Slot) (index : SlotIndex) (o : Order) : Type 0 where
  pub queued : IsQueued slots o
  pub indexed : IsIndexOf index (entries slots) (used o)
  pub room : length slots ≤ capacity index.bits

-- before the first room is made there is no slot; from then on slots and index hold together
abbrev pub IsSound : List Slot → SlotIndex → Type 0
IsSound slots index = 0 < length slots → IsInSlots slots index (order_of slots)

-- what holds of the fields of a table
pub record IsKept (slots : List Slot) (index : SlotIndex) (lengths : Lengths) : Type 0 where
  pub held : IsSound slots index
  pub counted : IsCounted lengths (order_of slots)
  pub few : length slots < 2 ^ 32
  pub load : IsLoaded (length slots) index.bits

-- the slot is in use and holds the item
pub record IsSlotOf (at : ℕ) (i : Item) (slots : List Slot) : Type 0 where
  pub queued : IsQueued slots (order_of slots)
  pub used : 1 ≤ count at (used (order_of slots))
  pub item : slot_item (entries slots) at ≡ i

-- the slots may be cut right after that of the older item, and b is the next one, or the one that closes queue q
pub record IsBehind (b q : ℕ) (older : Option Item) (entries : List Entry) (l : List ℕ) : Type 0 where
  pub front : List ℕ
  pub back : List ℕ
  pub whole : l ≡ front ++ back
  pub older_last : last_item (map (λ k. slot_entry entries k) front) ≡ older
  pub next : slice_index_or back 0 (suc (suc q)) ≡ b

-- the slots before and after the first ones are made
pub record IsSame (old new : List Slot) : Type 0 where
  pub lists : lists new ≡ lists old
  pub lengths : (s : ℕ) → length (order_of new s) ≡ length (order_of old s)
