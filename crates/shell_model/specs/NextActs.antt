-- What a worker does next.
use Rattle.std.specs.Prelude.{◌≡◌, ℕ, Option, Some, None, [], ◌∷◌}
use Rattle.engine_base.specs.History.{Entries}
pub use Rattle.shell_model.specs.declared.next.Next.{Next}
use Rattle.shell_model.specs.declared.next.Next.TheVariants as next
pub use Rattle.shell_model.specs.declared.place.Local.{Local}
use Rattle.shell_model.specs.Walks.{Reply, step_of}
use Rattle.shell_model.specs.WalkPlaces.{IsWalkFrom}

-- the entries that complete the worker's walk, from its act on
abbrev pub IsAheadOf : Local → Entries → Type 0
IsAheadOf l es = IsWalkFrom l.worker l.stripes l.act l.drained es

-- what may still come, after the reply where there is one
abbrev pub AheadAfter : Local → Option Reply → Entries → Type 0
AheadAfter l None es = IsAheadOf l es
AheadAfter l (Some r) es = IsAheadOf l (record { step = step_of l.worker l.act; reply = r } ∷ es)

-- the entries that complete the walk
abbrev pub IsRestOfWalk : Next → Entries → Type 0
IsRestOfWalk next.Done es = es ≡ []
IsRestOfWalk (next.Do a l) es = IsAheadOf l es

-- the act is the one at which the worker then stands, and it is still that worker
abbrev pub IsAskedNext : ℕ → ℕ → Next → Type 0
IsAskedNext w n next.Done = Unit {0}
IsAskedNext w n (next.Do a l) = (l.act ≡ a) × (l.worker ≡ w) × (l.stripes ≡ n)
