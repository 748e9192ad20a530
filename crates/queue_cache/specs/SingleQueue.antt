-- The queues of a policy of one queue.
use Rattle.std.specs.Prelude.{ℕ, List, [], map}
use Rattle.segments.specs.Queues.{Queues}
use Rattle.segments.specs.Items.{nodeless_item}

-- the keys stand in the one queue, in this order
abbrev pub single_queue : List ℕ → Queues
single_queue l = record { window = map nodeless_item l; probation = []; protected = [] }
