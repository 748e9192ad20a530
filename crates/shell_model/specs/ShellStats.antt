-- The statistics: how often each kind of reply was given.
use Rattle.std.specs.Prelude.{ℕ, ◌+◌, ◌≤◌, nat_lt, Bool}
pub use Rattle.engine_base.specs.declared.step.Reply.{Reply}
use Rattle.engine_base.specs.declared.step.Reply.TheVariants.{Hit, Miss, Kept, Full, Lost, WritesFull, Present, Added}
use Rattle.engine_base.specs.declared.step.Reply.TheVariants.{Removed, Began, Busy, Evicted, Rejected}
pub use Rattle.shell_model.specs.declared.stats.Counted.{Counted}
use Rattle.shell_model.specs.declared.stats.Counted.TheVariants as counted
pub use Rattle.shell_model.specs.declared.stats.ShellStats.{ShellStats}
pub use Rattle.shell_model.specs.declared.stats.TheConstants.ShellStats.{NONE}

-- which count a reply raises
abbrev pub counted_of : Reply → Counted
counted_of (Hit n) = counted.Hit
counted_of Miss = counted.Miss
counted_of Kept = counted.Kept
counted_of Full = counted.Full
counted_of Lost = counted.Lost
counted_of (Added n) = counted.Added
counted_of (Present n) = counted.Updated
counted_of WritesFull = counted.Refused
counted_of (Removed n) = counted.Removed
counted_of (Evicted i) = counted.Evicted
counted_of (Rejected i) = counted.Rejected
counted_of Began = counted.Began
counted_of Busy = counted.Busy
counted_of r = counted.Nothing

-- that count
abbrev pub count_of : Counted → ShellStats → ℕ
count_of counted.Nothing s = 0
count_of counted.Hit s = s.hits
count_of counted.Miss s = s.misses
count_of counted.Kept s = s.kept
count_of counted.Full s = s.full
count_of counted.Lost s = s.lost
count_of counted.Added s = s.added
count_of counted.Updated s = s.updated
count_of counted.Refused s = s.refused
count_of counted.Removed s = s.removed
count_of counted.Evicted s = s.evictions
count_of counted.Rejected s = s.rejections
count_of counted.Began s = s.begun
count_of counted.Busy s = s.busy

-- with f of each count that such a reply raises: a candidate that is rejected is evicted too
abbrev pub shell_stats_with : (ℕ → ℕ) → Counted → ShellStats → ShellStats
shell_stats_with f counted.Nothing s = s
shell_stats_with f counted.Hit s = record s { hits = f s.hits }
shell_stats_with f counted.Miss s = record s { misses = f s.misses }
shell_stats_with f counted.Kept s = record s { kept = f s.kept }
shell_stats_with f counted.Full s = record s { full = f s.full }
shell_stats_with f counted.Lost s = record s { lost = f s.lost }
shell_stats_with f counted.Added s = record s { added = f s.added }
shell_stats_with f counted.Updated s = record s { updated = f s.updated }
shell_stats_with f counted.Refused s = record s { refused = f s.refused }
shell_stats_with f counted.Removed s = record s { removed = f s.removed }
shell_stats_with f counted.Evicted s = record s { evictions = f s.evictions }
shell_stats_with f counted.Rejected s = record s { evictions = f s.evictions; rejections = f s.rejections }
shell_stats_with f counted.Began s = record s { begun = f s.begun }
shell_stats_with f counted.Busy s = record s { busy = f s.busy }

-- p holds of each of these counts
abbrev pub AllCounts : (ℕ → Type 0) → Counted → ShellStats → Type 0
AllCounts p counted.Nothing s = Unit {0}
AllCounts p counted.Rejected s = p s.evictions × p s.rejections
AllCounts p c s = p (count_of c s)

abbrev pub shell_stats_after : Reply → ShellStats → ShellStats
shell_stats_after r s = shell_stats_with (λ n. n + 1) (counted_of r) s

-- whether a reply raises a count: after this reply alone it is above 0
abbrev pub raises : Counted → Reply → Bool
raises c r = nat_lt 0 (count_of c (shell_stats_after r NONE))

-- no count stands higher
abbrev pub AreAtMost : ℕ → ShellStats → Type 0
AreAtMost n s = (c : Counted) → count_of c s ≤ n
