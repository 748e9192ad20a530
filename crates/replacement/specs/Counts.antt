-- How many items stand where in the queues.
use Rattle.std.specs.Prelude.{ℕ, ◌+◌, length}
pub use Rattle.engine_base.specs.declared.item.Item.{Item}
use Rattle.segments.specs.Items.{occurrences}
use Rattle.segments.specs.Queues.{Queues}

-- how often the item stands in the queues
abbrev pub queue_occurrences : Item → Queues → ℕ
queue_occurrences i q = occurrences i q.window + occurrences i q.probation + occurrences i q.protected

-- how many items stand after the window
abbrev pub main_length : Queues → ℕ
main_length q = length q.probation + length q.protected
