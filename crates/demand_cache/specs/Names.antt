-- Traces whose keys have other names, as an anonymised trace.
use Rattle.std.specs.Prelude.{◌≡◌, ℕ, true, List, map}
use Rattle.engine_base.specs.Keys.{has_key}
use Rattle.engine_base.specs.Machine.{Machine, outcomes}
use Rattle.engine_base.specs.Stats.{stats_of}
pub use Rattle.engine_base.specs.declared.outcome.Outcome.{Outcome}
use Rattle.engine_base.specs.declared.outcome.Outcome.TheVariants.{Hit, Kept, Evicted, Rejected}

-- f gives no two of the keys the same name
abbrev pub IsRenaming : (ℕ → ℕ) → List ℕ → Type 0
IsRenaming f keys = (a b : ℕ) → has_key a keys ≡ true → has_key b keys ≡ true → f a ≡ f b → a ≡ b

-- the outcome, with the name of its key
abbrev pub renamed_outcome : (ℕ → ℕ) → Outcome → Outcome
renamed_outcome f Hit = Hit
renamed_outcome f Kept = Kept
renamed_outcome f (Evicted k) = Evicted (f k)
renamed_outcome f (Rejected k) = Rejected (f k)

-- Over a trace whose keys are renamed the machine has the same outcomes by the new names, and the same counts.
pub record IgnoresNames (m : Machine) : Type 0 where
  pub renames : (f : ℕ → ℕ) (trace : List ℕ) → IsRenaming f trace
      → outcomes m (map f trace) ≡ map (renamed_outcome f) (outcomes m trace)
  pub counts : (f : ℕ → ℕ) (trace : List ℕ) → IsRenaming f trace
      → stats_of (outcomes m (map f trace)) ≡ stats_of (outcomes m trace)
