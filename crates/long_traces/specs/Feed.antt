-- What takes the accesses of a trace that is read.
use Rattle.std.specs.Prelude.{◌≡◌, ◌≤◌, ◌⊎◌, ℕ, Bool, false, List, Ok, Option, IfSome, length, take}
use Rattle.std.specs.Borrow.{Bor}
use Rattle.engine_base.specs.Config.{config_fault}
use Rattle.policies.specs.Design.{knows_trace}
use Rattle.policy_actors.specs.Following.{CanFollow}
use Rattle.sweeps.specs.Taking.{Job}
pub use Rattle.trace_read.specs.declared.format.Format.{Format}
pub use Rattle.trace_read.specs.TraceText.{keys_in}

-- The job can be run over a trace of at most so many accesses: its configuration is accepted, and where its policy has
-- to know the whole trace, that can be kept.
abbrev pub CanRun : ℕ → Job → Type 0
CanRun most job = (config_fault job.config ≡ Ok tt) × CanFollow most job

abbrev pub has_to_know : Job → Bool
has_to_know job = knows_trace job.policy

-- none was taken yet, of whatever trace
abbrev pub HasBegun : {K : Type 0} → (List ℕ → ℕ → K → Type 0) → K → Type 0
HasBegun HasTaken taker = (trace : List ℕ) → HasTaken trace 0 taker

-- what is made of a trace begins to take it, and where none has to be kept any other
abbrev pub Begins : {K : Type 0} → (Bor (List ℕ) → K → Type 0) → Bool → (List ℕ → ℕ → K → Type 0) → Type 0
Begins {K} IsMade is_kept HasTaken = (opened : Bor (List ℕ)) (taker : K) → IsMade opened taker → (trace : List ℕ)
    → (trace ≡ opened.now) ⊎ (is_kept ≡ false) → HasTaken trace 0 taker

-- the first accesses of these bytes were taken, where the bytes are known, and of any trace that begins with them
pub record IsFed {K : Type 0} (HasTaken : List ℕ → ℕ → K → Type 0) (format : Format) (bytes : Option (List ℕ)) (place : ℕ)
    (taker : K) : Type 0 where
  pub done : List ℕ
  pub long : length done ≡ place
  pub taken : (trace : List ℕ) → place ≤ length trace → done ≡ take place trace → HasTaken trace place taker
  pub first : IfSome bytes (λ bytes. done ≡ take place (keys_in format bytes))
