-- Jobs that are run over a trace, which is kept where one of them has to know it whole.
use Rattle.std.proofs.Common.{◌≡◌, ◌∙◌, ◌⊎◌, ◌≤◌, ◌+◌, ◌||◌, ℕ, Bool, List, [], ◌∷◌, None, Ok, inl, inr, sym, refl, false, true, true≢false}
use Rattle.std.specs.List.{All, list_any}
use Rattle.std.proofs.lemmas.List.Elements.{All-cons, All-head, All-nil, All-tail}
use Rattle.engine_base.specs.Config.{config_fault}
use Rattle.engine_base.specs.declared.limits.TheConstants.{MAX_ACCESSES}
use Rattle.policies.specs.Design.{knows_trace}
use Rattle.policies.specs.FaultyJobs.{faulty_from}
use Rattle.policy_actors.specs.Following.{CanFollow}
use Rattle.sweeps.specs.Taking.{Job, RunsOver}
use Rattle.long_traces.specs.Feed.{CanRun, has_to_know}

pub none-faulty : (most i : ℕ) (jobs : List Job) → All (CanRun most) jobs → faulty_from i jobs ≡ None
none-faulty most i [] all = refl
none-faulty most i (job ∷ jobs) all = rw (All-head (CanRun most) job jobs all).0 (none-faulty most (i + 1) jobs (All-tail (CanRun most) job jobs all))

pub all-accepted : (most : ℕ) (jobs : List Job) → All (CanRun most) jobs → All (λ job. config_fault job.config ≡ Ok tt) jobs
all-accepted most jobs all = λ i d lt. (all i d lt).0

pub all-follow : (most : ℕ) (jobs : List Job) → All (CanRun most) jobs → All (CanFollow most) jobs
all-follow most jobs all = λ i d lt. (all i d lt).1

-- ---- which of them has to know the whole trace

split-or : (a b : Bool) → (a || b) ≡ true → (a ≡ true) ⊎ (b ≡ true)
split-or true b e = inl refl
split-or false b e = inr e

neither : (a b : Bool) → (a || b) ≡ false → (a ≡ false) × (b ≡ false)
neither true b e = absurd (true≢false e)
neither false b e = (refl, e)

-- where one has, the trace can be kept
pub can-keep : (most : ℕ) (jobs : List Job) → All (CanRun most) jobs → list_any has_to_know jobs ≡ true → most ≤ MAX_ACCESSES
can-keep most [] all some = absurd (true≢false (sym some))
can-keep most (job ∷ jobs) all some = elim (split-or (knows_trace job.policy) (list_any has_to_know jobs) some) [
  | inl here ↦ (All-head (CanRun most) job jobs all).1 here
  | inr later ↦ can-keep most jobs (All-tail (CanRun most) job jobs all) later
]

over-any : (opened trace : List ℕ) (jobs : List Job) → list_any has_to_know jobs ≡ false → All (RunsOver opened trace) jobs
over-any opened trace [] none = All-nil (RunsOver opened trace)
over-any opened trace (job ∷ jobs) none =
    let both = neither (knows_trace job.policy) (list_any has_to_know jobs) none in
    All-cons (RunsOver opened trace) job jobs (inr both.0) (over-any opened trace jobs both.1)

-- so runs that are opened over the trace that is kept, or over none where none has to be, run over the trace
pub over-each : (opened trace : List ℕ) (jobs : List Job) (is_kept : Bool) → is_kept ≡ list_any has_to_know jobs → (trace ≡ opened) ⊎ (is_kept ≡ false)
    → All (RunsOver opened trace) jobs
over-each opened trace jobs is_kept is (inl same) = λ i d lt. inl same
over-each opened trace jobs is_kept is (inr none) = over-any opened trace jobs (sym is ∙ none)

-- ---- of two jobs

pub both-run : (most : ℕ) (first second : Job) → CanRun most first → CanRun most second → All (CanRun most) (first ∷ second ∷ [])
both-run most first second one other = All-cons (CanRun most) first (second ∷ []) one (All-cons (CanRun most) second [] other (All-nil (CanRun most)))

pub over-both : (opened trace : List ℕ) (first second : Job) (is_kept : Bool) → is_kept ≡ list_any has_to_know (first ∷ second ∷ []) → (trace ≡ opened) ⊎ (is_kept ≡ false)
    → RunsOver opened trace first × RunsOver opened trace second
over-both opened trace first second is_kept is over =
    let all = over-each opened trace (first ∷ second ∷ []) is_kept is over in
    (All-head (RunsOver opened trace) first (second ∷ []) all, All-head (RunsOver opened trace) second [] (All-tail (RunsOver opened trace) first (second ∷ []) all))
