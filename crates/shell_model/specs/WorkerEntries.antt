-- What a worker made, and how it stands in a list of entries.
use Rattle.std.specs.Prelude.{◌≡◌, ◌≢◌, ℕ, ◌==◌, [], ◌++◌}
use Rattle.std.specs.List.{filter}
use Rattle.engine_base.specs.History.{Entries}

-- the entries of worker w, in order
abbrev pub entries_of : ℕ → Entries → Entries
entries_of w es = filter (λ e. e.step.worker == w) es

-- the entries that came to the end of a list
pub record Made (IsMade : Entries → Type 0) (own own' : Entries) : Type 0 where
  pub made : Entries
  pub entered : own' ≡ own ++ made
  pub holds : IsMade made

-- the first entries of such a list, and not all of it
abbrev pub IsUnfinished : (Entries → Type 0) → Entries → Type 0
IsUnfinished IsWhole es = (rest : Entries) × (rest ≢ []) × IsWhole (es ++ rest)
