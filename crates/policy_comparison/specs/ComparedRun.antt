-- How often two policies hit at the same accesses of a trace that comes in pieces.
use Rattle.std.specs.Prelude.{ℕ, List}
use Rattle.policies.specs.AnyPolicy.{Job, outcomes_on}
use Rattle.policy_comparison.specs.ComparedRows.{HasCounted}
use Rattle.policy_comparison.specs.Comparison.{hits_beside}
use Rattle.policy_comparison.specs.Pair.{AreTwo, HavePaired}
use Rattle.sweeps.specs.Taking.{Task}
pub use Rattle.policy_comparison.specs.declared.compared_run.ComparedRun.{ComparedRun}

-- the caches made the first n accesses, of which it counted how many hit
pub record HasCompared (every : ℕ) (first second : Job) (trace : List ℕ) (n : ℕ) (run : ComparedRun) : Type 0 where
  pub pair : HavePaired first second trace n run.pair
  pub counted : HasCounted every (hits_beside (outcomes_on first trace) (outcomes_on second trace)) n run.counted

abbrev pub HasComparedTask : Task → List ℕ → ℕ → ComparedRun → Type 0
HasComparedTask task trace n run =
    AreTwo task.jobs (λ first second. HasCompared task.every first second trace n run)
