-- The queues of a table as a value that contracts compare: one list for each.
use Rattle.std.specs.Prelude.{zero, suc, List, []}
use Rattle.queue_table.specs.declared.records.Entry.{Entry}
use Rattle.queue_table.specs.Queues.{Queues}

-- the entries of the queues 0 to 3, oldest first
pub record QueueLists : Type 0 where
  pub zeroth : List Entry
  pub first : List Entry
  pub second : List Entry
  pub third : List Entry

abbrev pub lists_of : Queues → QueueLists
lists_of s = record { zeroth = s 0; first = s 1; second = s 2; third = s 3 }

-- the queues by number again; those past the last are empty
abbrev pub queues_in : QueueLists → Queues
queues_in l zero = l.zeroth
queues_in l (suc zero) = l.first
queues_in l (suc (suc zero)) = l.second
queues_in l (suc (suc (suc zero))) = l.third
queues_in l (suc (suc (suc (suc q)))) = []
