-- An access as a step of an engine.
use Rattle.std.specs.Prelude.{◌≡◌, ℕ, ◌==◌, if◌then◌else◌, Option, Some, None}
use Rattle.engine_base.specs.declared.limits.TheConstants.{MAX_STEPS}
pub use Rattle.engine_base.specs.declared.outcome.Outcome.{Outcome}

-- an access to the key, where none is accepted after MAX_STEPS
abbrev pub limited : {D : Type 0} → (D → ℕ) → (ℕ → D → Outcome × D) → D → ℕ → Option (Outcome × D)
limited count access d k = if count d == MAX_STEPS then None else Some (access k d)

-- the same of a whole that has the data as a part
abbrev pub lifted : {D E : Type 0} → (D → E) → Option (Outcome × D) → Option (Outcome × E)
lifted f None = None
lifted f (Some p) = Some (p.0, f p.1)

-- what an accepted access came to is what this one comes to
pub record IsAccepted {D : Type 0} (access : Outcome × D) (o : Outcome) (e : D) : Type 0 where
  pub outcome : o ≡ access.0
  pub next : e ≡ access.1
