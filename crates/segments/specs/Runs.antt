-- A run: items go from the old end of a queue to the recent end of another one. How many they were undoes it.
use Rattle.std.specs.Prelude.{ℕ, ◌-◌, List, ◌++◌, length, take, drop}
use Rattle.segments.specs.Items.{Item}
use Rattle.segments.specs.Queues.{Queue, Queues, queue_of, with_queue}

-- so many newest items, and the others
abbrev pub newest_items : ℕ → List Item → List Item
newest_items n l = drop (length l - n) l

abbrev pub items_before_newest : ℕ → List Item → List Item
items_before_newest n l = take (length l - n) l

-- the queues with two of them replaced
abbrev pub with_both : Queue → List Item → Queue → List Item → Queues → Queues
with_both from l to m s = with_queue to m (with_queue from l s)

-- so many oldest items of a queue, in their order, taken to the recent end of another one
abbrev pub queues_after_run : ℕ → Queue → Queue → Queues → Queues
queues_after_run n from to s =
    with_both from (drop n (queue_of from s)) to (queue_of to s ++ take n (queue_of from s)) s

-- the queues before a run of so many items, from those after it
abbrev pub queues_before_run : ℕ → Queue → Queue → Queues → Queues
queues_before_run n from to s =
    with_both from (newest_items n (queue_of to s) ++ queue_of from s) to (items_before_newest n (queue_of to s)) s
