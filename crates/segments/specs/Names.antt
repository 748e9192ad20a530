-- The three queues by name, as the first three of the queues by number: counts are forgotten.
use Rattle.std.specs.Prelude.{◌≡◌, ℕ, suc, zero, []}
pub use Rattle.queue_table.specs.declared.records.Place.{Place}
use Rattle.queue_table.specs.Entries.{items_of}
use Rattle.queue_table.specs.Queues as ByNumber
use Rattle.segments.specs.declared.records.QueuePlace.{QueuePlace}
use Rattle.segments.specs.Queues.{Window, Probation, Protected, Queue, Queues, Shown}

abbrev pub number_of : Queue → ℕ
number_of Window = 0
number_of Probation = 1
number_of Protected = 2

abbrev pub name_of : ℕ → Queue
name_of zero = Window
name_of (suc zero) = Probation
name_of (suc (suc n)) = Protected

-- the items of the three queues
abbrev pub named : ByNumber.Queues → Queues
named s = record { window = items_of (s 0); probation = items_of (s 1); protected = items_of (s 2) }

-- what contracts see of a Segments over a table with these queues and so much room
abbrev pub shown_of : ByNumber.Queues → ℕ → Shown
shown_of s spare = record { lists = named s; spare = spare }

-- the queues that have no name are empty
pub record IsNamed (s : ByNumber.Queues) : Type 0 where
  pub fourth : s 3 ≡ []

abbrev pub named_place : Place → QueuePlace
named_place p = record { queue = name_of p.queue; older = p.older }

abbrev pub numbered_place : QueuePlace → Place
numbered_place p = record { queue = number_of p.queue; older = p.older }
