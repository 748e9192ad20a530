-- The first access of a trace that comes in pieces at which just one of two policies hits.
use Rattle.std.specs.Prelude.{◌≡◌, ◌≤◌, ℕ, ◌+◌, IfNone, IfSome, List, Some, length}
use Rattle.policies.specs.AnyPolicy.{Job, outcomes_on}
use Rattle.policy_comparison.specs.Pair.{AreTwo, HavePaired}
use Rattle.policy_comparison.specs.Part.{AgreeBelow, IsPart}
use Rattle.sweeps.specs.Taking.{Task}
pub use Rattle.policy_comparison.specs.declared.part_run.PartRun.{PartRun}

-- it is among the first n accesses, or the caches made them and agree at all of them
pub record HasParted (first second : Job) (trace : List ℕ) (n : ℕ) (run : PartRun) : Type 0 where
  pub within : n ≤ length trace
  pub some : IfSome run.found (λ p. IsPart (outcomes_on first trace) (outcomes_on second trace) (Some p))
  pub none : IfNone run.found ((run.place ≡ n) × HavePaired first second trace n run.pair
      × AgreeBelow (n + 1) (outcomes_on first trace) (outcomes_on second trace))

abbrev pub HasPartedTask : Task → List ℕ → ℕ → PartRun → Type 0
HasPartedTask task trace n run =
    AreTwo task.jobs (λ first second. HasParted first second trace n run)
