-- How the window's size in force goes to its target, and how the queues follow: a part that is over its size gives its
-- oldest items to the queue beside it. The rules are those of the new size. (Caffeine's BoundedLocalCache, whose
-- QUEUE_TRANSFER_THRESHOLD is 1,000.)
use Rattle.std.specs.Prelude.{ℕ, ◌+◌, ◌-◌, length, min, max, nat_lt, if◌then◌else◌}
use Rattle.segments.specs.declared.records.Queue.TheVariants.{Window, Probation, Protected}
use Rattle.segments.specs.Queues.{Queues}
use Rattle.segments.specs.Runs.{queues_after_run}
pub use Rattle.replacement.specs.declared.rules.Rules.{Rules}
use Rattle.replacement.specs.Counts.{main_length}

-- by how many items the size changes in an access at most
abbrev pub max_size_change : ℕ
max_size_change = 1000

-- the size after an access: the target, or so many items nearer to it
abbrev pub size_towards : ℕ → ℕ → ℕ
size_towards target size =
    if nat_lt size target then min target (size + max_size_change) else max target (size - max_size_change)

-- ---- a window that grew

-- protected gives what it has over its size to probation
abbrev pub demoted_items : Rules → Queues → ℕ
demoted_items r s = length s.protected - r.protected

abbrev pub queues_after_demotions : Rules → Queues → Queues
queues_after_demotions r s = queues_after_run (demoted_items r s) Protected Probation s

-- then probation gives the window, of the items that it has, what the main part has over what the window leaves it
abbrev pub lent_items : Rules → Queues → ℕ
lent_items r s = min (length s.probation) (main_length s - (r.capacity - r.window))

abbrev pub queues_after_loans : Rules → Queues → Queues
queues_after_loans r s = queues_after_run (lent_items r s) Probation Window s

abbrev pub queues_after_growth : Rules → Queues → Queues
queues_after_growth r s = queues_after_loans r (queues_after_demotions r s)

-- ---- a window that shrank

-- it gives what it has over its size to probation
abbrev pub returned_items : Rules → Queues → ℕ
returned_items r s = length s.window - r.window

abbrev pub queues_after_shrinking : Rules → Queues → Queues
queues_after_shrinking r s = queues_after_run (returned_items r s) Window Probation s
