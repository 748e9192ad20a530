-- What takes the accesses of a trace, piece by piece.
use Rattle.std.specs.Prelude.{◌≡◌, ◌≤◌, ◌⊎◌, ℕ, ◌+◌, false, List, length, drop, take}
pub use Rattle.step_record.specs.declared.job.Job.{Job}
use Rattle.engine_base.specs.declared.limits.TheConstants.{MAX_STEPS}
use Rattle.policies.specs.Design.{knows_trace}

-- what accesses are taken for: jobs, and how many accesses an interval has
pub record Task : Type 0 where
  pub jobs : List Job
  pub every : ℕ

-- A cache of the job that was opened over one trace runs the job over another: they are the same, or the policy does not
-- have to know the whole trace.
abbrev pub RunsOver : List ℕ → List ℕ → Job → Type 0
RunsOver opened trace job = (trace ≡ opened) ⊎ (knows_trace job.policy ≡ false)

-- these keys come next in a trace, behind the first n
pub record AreNext (trace : List ℕ) (n : ℕ) (keys : List ℕ) : Type 0 where
  pub within : n + length keys ≤ length trace
  pub piece : keys ≡ take (length keys) (drop n trace)

-- they do in some trace that is no longer than an engine counts, whose accesses before them were taken
pub record CanTake {K : Type 0} (HasTaken : List ℕ → ℕ → K → Type 0) (keys : List ℕ) (taker : K) : Type 0 where
  pub trace : List ℕ
  pub place : ℕ
  pub next : AreNext trace place keys
  pub few : length trace ≤ MAX_STEPS
  pub taken : HasTaken trace place taker

-- so for some task
pub record CanTakeFor {K : Type 0} (HasTaken : Task → List ℕ → ℕ → K → Type 0) (keys : List ℕ) (taker : K) : Type 0 where
  pub task : Task
  pub can : CanTake (HasTaken task) keys taker

-- all accesses of some trace were taken
pub record HasTakenAll {K : Type 0} (HasTaken : List ℕ → ℕ → K → Type 0) (taker : K) : Type 0 where
  pub trace : List ℕ
  pub taken : HasTaken trace (length trace) taker
