-- Where the key of a miss stands.
use Rattle.std.specs.Prelude.{◌≡◌, ℕ, ◌≤◌, Bool, false, Option, Some, None, List}
pub use Rattle.queue_table.specs.declared.records.Found.{Found}
pub use Rattle.queue_table.specs.declared.slot.Slot.{Slot}
use Rattle.queue_table.specs.Entries.{Item, entry, occurrences}
use Rattle.queue_table.specs.Queues.{queue_holding}
use Rattle.queue_table.specs.QueueTable.{queues, spare, HoldsAt}

-- it stands where it was found, or nowhere, and then there is room for it
abbrev pub CanEnter : Option Found → Item → List Slot → Type 0
CanEnter None i t = (queue_holding i (queues t) ≡ None) × (1 ≤ spare t)
CanEnter (Some f) i t = HoldsAt f.at (entry i f.count) t

-- it stands in neither of two queues, nor in the ghost where this does not remember it
pub record IsOutside (remembered : Bool) (found : Option Found) (i : Item) (one other ghost : ℕ) (t : List Slot)
    : Type 0 where
  pub enters : CanEnter found i t
  pub off_one : occurrences i (queues t one) ≡ 0
  pub off_other : occurrences i (queues t other) ≡ 0
  pub new : remembered ≡ false → occurrences i (queues t ghost) ≡ 0
