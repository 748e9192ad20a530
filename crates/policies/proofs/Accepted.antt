-- Where no job is faulty, each one's configuration is accepted.
use Rattle.std.proofs.Common.{◌≡◌, ℕ, zero, suc, ◌+◌, ◌<◌, Option, None, Result, Ok, Err, List, [], ◌∷◌, length, refl, arith}
use Rattle.std.specs.Prelude.{slice_index_or}
use Rattle.engine_base.specs.Config.{config_fault}
use Rattle.policies.specs.FaultyJobs.{ActorFault, Job, ConfigFault, config_or, faulty_from}

both : (r : Result (Unit {0}) ConfigFault) (i : ℕ) (next : Option ActorFault) → config_or r i next ≡ None → (r ≡ Ok tt) × (next ≡ None)
both (Ok u) i next e = (refl, e)
both (Err x) i next e = absurd (cc (e))

pub accepted : (n : ℕ) (jobs : List Job) (i : ℕ) (d : Job) → faulty_from n jobs ≡ None → i < length jobs → config_fault (slice_index_or jobs i d).config ≡ Ok tt
accepted n [] i d e lt = absurd (omega arith)
accepted n (j ∷ js) zero d e lt = (both (config_fault j.config) n (faulty_from (n + 1) js) e).0
accepted n (j ∷ js) (suc i) d e lt = accepted (n + 1) js i d (both (config_fault j.config) n (faulty_from (n + 1) js) e).1 (omega arith)
