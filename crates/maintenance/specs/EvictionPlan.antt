-- An eviction as it is carried out.
use Rattle.segments.specs.Queues.{Queues}
use Rattle.admission.specs.Frequency.{FrequencyData}
pub use Rattle.replacement.specs.declared.rules.Rules.{Rules}
use Rattle.replacement.specs.Plan.{Plan, eviction_plan}
use Rattle.shell_model.specs.Frequency.{admits}

-- the plan of an eviction, where the keys are counted
abbrev pub planned : Rules → FrequencyData → Queues → Plan
planned r f q = eviction_plan r (admits f) q
