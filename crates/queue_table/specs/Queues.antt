-- Queues by number, and what each call makes of them.
use Rattle.std.specs.Prelude.{ℕ, suc, zero, ◌+◌, ◌≤◌, nat_lt, cond, eqb, Option, Some, None, List, [], ◌∷◌, ◌++◌}
use Rattle.std.specs.Prelude.{length}
pub use Rattle.engine_base.specs.declared.item.Item.{Item}
use Rattle.queue_table.specs.declared.records.Entry.{Entry}
pub use Rattle.queue_table.specs.declared.records.Place.{Place}
use Rattle.queue_table.specs.Entries.{occurrences, entries_without, entries_counted, last_item, before, put_behind}

-- how many queues there are; those from QUEUES on are empty
abbrev pub QUEUES : ℕ
QUEUES = 4

-- the entries of each queue, oldest first
abbrev pub Queues : Type 0
Queues = ℕ → List Entry

abbrev pub empty_queues : Queues
empty_queues q = []

-- the queues with one of them replaced
abbrev pub with_queue : ℕ → List Entry → Queues → Queues
with_queue q l s j = cond (eqb j q) l (s j)

-- the queue below n in which the item stands
abbrev pub queue_below : ℕ → Item → Queues → Option ℕ
queue_below zero i s = None
queue_below (suc n) i s = cond (nat_lt 0 (occurrences i (s n))) (Some n) (queue_below n i s)

-- the queue in which the item stands
abbrev pub queue_holding : Item → Queues → Option ℕ
queue_holding i s = queue_below QUEUES i s

-- how often the item stands in the queues below n
abbrev pub times_below : ℕ → Item → Queues → ℕ
times_below zero i s = 0
times_below (suc n) i s = occurrences i (s n) + times_below n i s

-- each item stands at most once
abbrev pub IsDistinct : Queues → Type 0
IsDistinct s = (i : Item) → times_below QUEUES i s ≤ 1

-- how many items stand in the queues below n
abbrev pub items_below : ℕ → Queues → ℕ
items_below zero s = 0
items_below (suc n) s = length (s n) + items_below n s

-- the entry put at the recent end
abbrev pub after_push : ℕ → Entry → Queues → Queues
after_push q e s = with_queue q (s q ++ e ∷ []) s

-- the item taken out
abbrev pub after_removal : Item → Queues → Queues
after_removal i s j = entries_without i (s j)

-- the entry taken to the recent end of a queue, out of where its item stood
abbrev pub after_send : Entry → ℕ → Queues → Queues
after_send e q s = after_push q e (after_removal e.item s)

-- another count beside the item
abbrev pub after_count : Item → ℕ → Queues → Queues
after_count i n s j = entries_counted i n (s j)

-- the entry put back into a queue, right after its older neighbour
abbrev pub after_return : ℕ → Option Item → Entry → Queues → Queues
after_return q older e s = with_queue q (put_behind older e (s q)) s

-- the place of the item, by the item right before it
abbrev pub place_at : Item → Option ℕ → Queues → Option Place
place_at i None s = None
place_at i (Some q) s = Some record { queue = q; older = last_item (before i (s q)) }

abbrev pub place_in : Item → Queues → Option Place
place_in i s = place_at i (queue_holding i s) s
