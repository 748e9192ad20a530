use Rattle.std.proofs.Common.{IfOk, List, ◌≡◌, ℕ, ap, length, subst, sym}
use Rattle.std.specs.Int.{div_ceil}
use Rattle.policies.specs.AnyPolicy.{Job, outcomes_on}
use Rattle.policy_comparison.specs.Comparison.{hits_beside}
use Rattle.policy_comparison.specs.ComparedIntervals.{ComparedInterval, compared_intervals_on, first_compared}
use Rattle.policy_comparison.specs.ComparedRows.{HasCounted}
use Rattle.policy_comparison.specs.ComparedRun.{ComparedRun, HasCompared}
use Rattle.policy_comparison.proofs.Compared.{beside-long}
use Rattle.policy_comparison.proofs.compared_run.ComparedRun.into_rows.Goals as goal

-- all hits are counted
all : (every : ℕ) (first second : Job) (trace : List ℕ) (run : ComparedRun) → HasCompared every first second trace (length trace) run
    → HasCounted every (hits_beside (outcomes_on first trace) (outcomes_on second trace)) (length (hits_beside (outcomes_on first trace) (outcomes_on second trace))) run.counted
all every first second trace run has =
    subst (λ n. HasCounted every (hits_beside (outcomes_on first trace) (outcomes_on second trace)) n run.counted) (sym (beside-long first second trace)) has.counted

pub into_rows-requires : goal.into_rows-requires
into_rows-requires c =
    let run = c.requires in
    record {
      every = run.0;
      hits = hits_beside (outcomes_on run.1 run.3.trace) (outcomes_on run.2 run.3.trace);
      counted = all run.0 run.1 run.2 run.3.trace c.args.self run.3.taken;
    }

pub returns : goal.returns
unfolding compared_intervals_on
returns c = λ every first second trace has.
    let hits = hits_beside (outcomes_on first trace) (outcomes_on second trace) in
    subst (λ (l : List ComparedInterval). IfOk c.into_rows.result (λ rows. rows.items ≡ l))
    (ap (λ (n : ℕ). first_compared every hits (div_ceil n every)) (beside-long first second trace))
    (c.into_rows.ensures every hits (all every first second trace c.args.self has))
