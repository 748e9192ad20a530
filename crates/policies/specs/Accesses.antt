-- Accesses that a cache is ready for.
use Rattle.std.specs.Prelude.{◌≡◌, ℕ, ◌≤◌, Some, List, ◌++◌, length}
pub use Rattle.step_record.specs.declared.job.Job.{Job}
use Rattle.engine_base.specs.declared.limits.TheConstants.{MAX_STEPS}
pub use Rattle.policies.specs.declared.any_policy.AnyPolicy.{AnyPolicy}
use Rattle.engine_base.specs.Machine.{StopsWithin}
use Rattle.policies.specs.AnyPolicy.{Outcome, HasAccessed}
use Rattle.policies.specs.AnyStep.{any_act, MayAllocate}

-- the cache stands for the first accesses of a trace, and the keys are the next of them
pub record IsNext (keys : List ℕ) (d : AnyPolicy) : Type 0 where
  pub job : Job
  pub trace : List ℕ
  pub before : List ℕ
  pub rest : List ℕ
  pub stands : HasAccessed job trace before d
  pub ahead : trace ≡ before ++ (keys ++ rest)
  pub few : length trace ≤ MAX_STEPS

-- the cache d is the one from the start after accesses to the keys, whichever it made before
abbrev pub IsContinued : List ℕ → AnyPolicy → AnyPolicy → Type 0
IsContinued keys start d = (j : Job) (trace done : List ℕ) → HasAccessed j trace done start → HasAccessed j trace (done ++ keys) d

-- the accesses to the keys stopped at one that may ask for memory, which none of Belady's policy does
abbrev pub IsStopped : List ℕ → AnyPolicy → AnyPolicy → Type 0
IsStopped keys start d = StopsWithin (λ made e. IsContinued made start e) MayAllocate keys d

-- the cache made some accesses of a trace, and the next one may have this outcome
pub record CanAnswer (o : Outcome) (d : AnyPolicy) : Type 0 where
  pub job : Job
  pub trace : List ℕ
  pub keys : List ℕ
  pub next : ℕ
  pub after : AnyPolicy
  pub stands : HasAccessed job trace keys d
  pub answers : any_act d next ≡ Some (o, after)
