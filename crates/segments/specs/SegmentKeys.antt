-- Queues of keys alone.
use Rattle.std.specs.Prelude.{◌≡◌, ℕ, ◌+◌, ◌≤◌}
use Rattle.segments.specs.Items.{Item, occurrences}
use Rattle.segments.specs.Queues.{Queues}

-- the items that stand in the queues have the node that serves all
abbrev pub AreKeys : Queues → Type 0
AreKeys s = (i : Item) → 1 ≤ occurrences i s.window + occurrences i s.probation + occurrences i s.protected → i.node ≡ 0
