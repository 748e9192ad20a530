-- Where two policies part: the first access of a trace at which just one of them hits.
use Rattle.std.specs.Prelude.{◌≡◌, ◌≢◌, ℕ, zero, suc, ◌<◌, Bool, false, Option, Some, None, List, ◌++◌}
use Rattle.std.specs.Prelude.{codes, slice_index_or}
use Rattle.std.specs.Fmt.{decimal}
pub use Rattle.step_record.specs.declared.job.Job.{Job}
pub use Rattle.engine_base.specs.declared.outcome.Outcome.{Outcome}
use Rattle.engine_base.specs.declared.outcome.Outcome.TheVariants.{Kept}
use Rattle.engine_base.specs.Stats.{is_hit}

-- whether access n, counted from 1, is a hit; there is none at 0 and none past the last
abbrev pub is_hit_at : List Outcome → ℕ → Bool
is_hit_at outcomes zero = false
is_hit_at outcomes (suc i) = is_hit (slice_index_or outcomes i Kept)

-- the accesses below n are hits of both or of neither
abbrev pub AgreeBelow : ℕ → List Outcome → List Outcome → Type 0
AgreeBelow n first second = (m : ℕ) → m < n → is_hit_at first m ≡ is_hit_at second m

-- With Some n, access n is the first that is a hit of just one; with None there is no such access.
abbrev pub IsPart : List Outcome → List Outcome → Option ℕ → Type 0
IsPart first second (Some n) = (is_hit_at first n ≢ is_hit_at second n) × AgreeBelow n first second
IsPart first second None = (n : ℕ) → is_hit_at first n ≡ is_hit_at second n

-- what is printed of it. (Format of this project.)
abbrev pub part_line : Option ℕ → List ℕ
part_line None = codes "part none\n"
part_line (Some n) = codes "part " ++ (decimal n ++ codes "\n")
