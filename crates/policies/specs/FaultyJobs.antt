-- Which job is refused, and which fault that is.
use Rattle.std.specs.Prelude.{◌≡◌, ℕ, ◌+◌, Option, Some, None, Result, Ok, Err, IfErr, List, [], ◌∷◌}
use Rattle.engine_base.specs.Config.{config_fault}
pub use Rattle.engine_base.specs.declared.config.ConfigFault.{ConfigFault}
pub use Rattle.step_record.specs.declared.job.Job.{Job}
pub use Rattle.policies.specs.declared.actor_fault.ActorFault.{ActorFault}
use Rattle.policies.specs.declared.actor_fault.ActorFault.TheVariants.{OutOfMemory, Config}

-- the job with another capacity
abbrev pub at_capacity : Job → ℕ → Job
at_capacity j c = record j { config = record (j.config) { capacity = c } }

abbrev pub config_or : Result (Unit {0}) ConfigFault → ℕ → Option ActorFault → Option ActorFault
config_or (Ok u) i next = next
config_or (Err e) i next = Some (Config i)

-- the first job, counted from i, whose configuration is not accepted
abbrev pub faulty_from : ℕ → List Job → Option ActorFault
faulty_from i [] = None
faulty_from i (j ∷ js) = config_or (config_fault j.config) i (faulty_from (i + 1) js)

abbrev pub faulty_in : List Job → Option ActorFault
faulty_in jobs = faulty_from 0 jobs

-- a fault that is due is answered; where none is due, nothing but memory can be wanting
abbrev pub ReturnsFault : {A : Type 0} → Option ActorFault → Result A ActorFault → Type 0
ReturnsFault None r = IfErr r (λ f. f ≡ OutOfMemory)
ReturnsFault (Some f) r = r ≡ Err f
