-- What a quiet run of the concurrent cache is to W-TinyLFU.
use Rattle.std.specs.Prelude.{◌≡◌, ℕ, Some, List, ◌++◌}
use Rattle.engine_base.specs.declared.outcome.Outcome.TheVariants.{Kept}
use Rattle.engine_base.specs.History.{data_after, IsLegal, Entries}
use Rattle.queue_cache.specs.QueueCache.{Outcome, QueueState, outcomes_after, state_after}
use Rattle.queue_cache.specs.QueueStep.{queue_act}
use Rattle.shell_model.specs.Shell.{Shell, act}
use Rattle.shell_model.specs.ReachableShell.{IsReachable}
use Rattle.quiet_run.specs.Quiet.{Config, IsQuiet, quiet_setup}
use Rattle.quiet_run.specs.Outcomes.{outcome_from}
use Rattle.quiet_run.specs.QuietWalks.{IsQuietWalk}

-- the outcomes are those of the policy over the keys, and the shell x holds what the policy's cache holds after them
abbrev pub IsPolicysRun : Config → List ℕ → List Outcome → Shell → Type 0
IsPolicysRun c keys os x =
    (os ≡ outcomes_after (quiet_setup c) keys) × IsQuiet x (state_after (quiet_setup c) keys)

-- the same of keys that came after those of the past
abbrev pub QuietGoesOn : Config → List ℕ → List ℕ → List Outcome → Shell → Type 0
QuietGoesOn c past keys os x =
    (outcomes_after (quiet_setup c) (past ++ keys) ≡ outcomes_after (quiet_setup c) past ++ os)
    × IsQuiet x (state_after (quiet_setup c) (past ++ keys))

-- Where the shell is quiet beside a cache of the policy, the walk of a key comes to the outcome of the policy's step,
-- and leaves the shell quiet beside what the step leaves.
abbrev pub KeysAgree : Type 0
KeysAgree = (x : Shell) (d e : QueueState) (k : ℕ) (o : Outcome) (es : Entries) → IsReachable x → IsQuiet x d
    → IsQuietWalk x.config.stripes k es → IsLegal act x es → queue_act d k ≡ Some (o, e)
    → (outcome_from Kept es ≡ o) × IsQuiet (data_after act x es) e
