-- Configurations that are accepted give no fault of jobs.
use Rattle.std.proofs.Common.{◌≡◌, ◌∙◌, ap, ◌≤◌, ◌+◌, refl, ◌||◌, inl, inr, sym, nat_lt, Bool, true, false, ℕ, List, [], ◌∷◌, length, map, subst, Option, None, Result, Ok, Err}
use Rattle.std.specs.List.{All, AllPass, list_any}
use Rattle.std.specs.Prelude.{IfErr, if◌then◌else◌}
use Rattle.std.proofs.lemmas.List.Elements.{All-append, All-head, All-tail, All-nil, All-cons}
use Rattle.std.proofs.lemmas.Bool.{cases_Bool, le-leb, ltb-false}
use Rattle.engine_base.specs.Config.{config_fault, is_from_one}
use Rattle.step_record.specs.declared.job.Policy.TheVariants.{Clairvoyant}
use Rattle.engine_base.specs.declared.config.ConfigFault.TheVariants.{Capacity}
use Rattle.engine_base.specs.declared.limits.TheConstants.{MAX_ACCESSES, MAX_BATCH, MAX_CAPACITY}
use Rattle.engine_base.specs.declared.config.Config.{Config}
use Rattle.policies.specs.Design.{Policy, Job, knows_trace}
use Rattle.policies.specs.FaultyJobs.{ConfigFault, at_capacity, faulty_from, faulty_in, ReturnsFault}
use Rattle.policies.specs.declared.actor_fault.ActorFault.TheVariants.{OutOfMemory}
use Rattle.sweeps.specs.Sweep.{ActorFault, first_config_fault, jobs_over, sweep_fault}
use Rattle.policy_actors.specs.Following.{CanFollow}
use Rattle.long_traces.specs.Feed.{CanRun}
use Rattle.policy_actors.specs.Faults.{actor_fault}
use Rattle.sweeps.specs.Intervals.{intervals_fault}
use Rattle.policies.specs.declared.job_checks.TheConstants.{MAX_ACTORS}
use Rattle.command_line.specs.Accepted.{AreAcceptedJobs, IsAcceptedJob, IsAcceptedPart, IsAcceptedRun, IsAcceptedSweep, is_clairvoyant, is_clairvoyant_job, is_long, jobs_need_whole_trace, needs_whole_trace, pair_needs_whole_trace}
use Rattle.command_line.specs.declared.arguments.Arguments.TheVariants.{Run, Sweep}
use Rattle.command_line.specs.declared.arguments.RunArguments.{RunArguments}
use Rattle.command_line.specs.declared.arguments.SweepArguments.{SweepArguments}
use Rattle.cachesim.specs.TraceOutput.{PartArguments, JobArguments}

no_fault : (i : ℕ) (jobs : List Job) → All IsAcceptedJob jobs → faulty_from i jobs ≡ None
no_fault i [] all = refl
no_fault i (job ∷ jobs) all = rw (All-head IsAcceptedJob job jobs all).config (no_fault (i + 1) jobs (All-tail IsAcceptedJob job jobs all))

in_batch : (batch : ℕ) → 1 ≤ batch → batch ≤ MAX_BATCH → is_from_one MAX_BATCH batch ≡ true
in_batch batch some few = rw (le-leb 1 batch some, le-leb batch MAX_BATCH few) refl

-- a configuration that is accepted is so at each capacity that is
or_else : (b : Bool) (x : Result (Unit {0}) ConfigFault) (e : ConfigFault) → (if b then x else Err e) ≡ Ok tt → x ≡ Ok tt
or_else true x e h = h
or_else false x e h = absurd (cc h)

at_other : (config : Config) (c : ℕ) → config_fault config ≡ Ok tt → is_from_one MAX_CAPACITY c ≡ true → config_fault (record config { capacity = c }) ≡ Ok tt
at_other config c ok fits = rw fits (or_else (is_from_one MAX_CAPACITY config.capacity) _ Capacity ok)

at_each : (job : Job) (i : ℕ) (cs : List ℕ) → config_fault job.config ≡ Ok tt → AllPass (is_from_one MAX_CAPACITY) cs → faulty_from i (map (at_capacity job) cs) ≡ None
at_each job i [] ok all = refl
at_each job i (c ∷ cs) ok all =
    rw (at_other job.config c ok (All-head (λ n. is_from_one MAX_CAPACITY n ≡ true) c cs all)) (at_each job (i + 1) cs ok (All-tail (λ n. is_from_one MAX_CAPACITY n ≡ true) c cs all))

no_config_fault : (jobs : List Job) (cs : List ℕ) → All IsAcceptedJob jobs → AllPass (is_from_one MAX_CAPACITY) cs → first_config_fault jobs cs ≡ None
no_config_fault [] cs ok all = refl
no_config_fault (job ∷ jobs) cs ok all =
    rw (at_each job 0 cs (All-head IsAcceptedJob job jobs ok).config all) (no_config_fault jobs cs (All-tail IsAcceptedJob job jobs ok) all)

-- so the jobs of an accepted `sweep` have no fault, if they are not too many
pub can_sweep : (sweep : SweepArguments) (jobs : List Job) (capacities : List ℕ) → IsAcceptedSweep sweep → jobs ≡ sweep.jobs.list
    → capacities ≡ sweep.capacities → length jobs ≤ MAX_ACTORS → sweep_fault jobs capacities ≡ None
can_sweep sweep jobs capacities accepted is same few =
    rw (le-leb (length jobs) MAX_ACTORS few, is, same) (no_config_fault sweep.jobs.list sweep.capacities accepted.jobs.list accepted.capacities)

-- so those of an accepted `intervals` have none
pub can_count : (asked : JobArguments) (jobs : List Job) → AreAcceptedJobs asked → jobs ≡ asked.list → length jobs ≤ MAX_ACTORS
    → intervals_fault jobs ≡ None
can_count asked jobs accepted is few = rw (le-leb (length jobs) MAX_ACTORS few, is) (no_fault 0 asked.list accepted.list)

-- and those of an accepted `run` can be run, if they are not too many
pub can_run : (run : RunArguments) (jobs : List Job) → IsAcceptedRun run → jobs ≡ run.jobs.list → length jobs ≤ MAX_ACTORS
    → actor_fault run.batch jobs ≡ None
can_run run jobs accepted is few =
    rw (in_batch run.batch accepted.some accepted.few) (can_count run.jobs jobs accepted.jobs is few)

-- and the two of an accepted `part` have no fault
pub pair_accepted : (part : PartArguments) → IsAcceptedPart part → faulty_in (part.first ∷ part.second ∷ []) ≡ None
pair_accepted part accepted = rw (accepted.first.config, accepted.second.config) refl

-- where no fault is due, the one that came is out of memory
pub memory_alone : {A : Type 0} (due : Option ActorFault) (r : Result A ActorFault) → due ≡ None → ReturnsFault due r → IfErr r (λ f. f ≡ OutOfMemory)
memory_alone due r none h = subst (λ (d : Option ActorFault). ReturnsFault d r) none h

-- a policy that has to know the whole trace is named only where the trace can be kept, so each can be run

neither : (a b : Bool) → (a || b) ≡ false → (a ≡ false) × (b ≡ false)
neither true b e = absurd (cc e)
neither false b e = (refl, e)

forgets : (most : ℕ) (policy : Policy) → is_clairvoyant policy ≡ false → knows_trace policy ≡ true → most ≤ MAX_ACCESSES
forgets most Clairvoyant other knows = absurd (cc other)
forgets most _ other knows = absurd (cc knows)

each_runs : (most : ℕ) (jobs : List Job) → All IsAcceptedJob jobs → list_any is_clairvoyant_job jobs ≡ false → All (CanRun most) jobs
each_runs most [] ok none = All-nil (CanRun most)
each_runs most (job ∷ jobs) ok none =
    let both = neither (is_clairvoyant job.policy) (list_any is_clairvoyant_job jobs) none in
    All-cons (CanRun most) job jobs ((All-head IsAcceptedJob job jobs ok).config, forgets most job.policy both.0) (each_runs most jobs (All-tail IsAcceptedJob job jobs ok) both.1)

-- the jobs that are accepted can be run within their limits
pub can_run_each : (asked : JobArguments) (jobs : List Job) → AreAcceptedJobs asked → jobs_need_whole_trace asked ≡ false → jobs ≡ asked.list
    → All (CanRun asked.limits.accesses) jobs
can_run_each asked jobs accepted kept is = subst (All (CanRun asked.limits.accesses)) (sym is) (elim (cases_Bool (is_long asked.limits)) [
  | inl long ↦
      let none : list_any is_clairvoyant_job asked.list ≡ false = rw long at kept in
      each_runs asked.limits.accesses asked.list accepted.list none
  | inr short ↦ λ i d lt. ((accepted.list i d lt).config, λ knows. ltb-false MAX_ACCESSES asked.limits.accesses short)
])

-- so those of a `run`
pub can_follow : (run : RunArguments) (jobs : List Job) → IsAcceptedRun run → needs_whole_trace (Run run) ≡ false
    → jobs ≡ run.jobs.list → All (CanFollow run.jobs.limits.accesses) jobs
can_follow run jobs accepted kept is = λ i d lt. (can_run_each run.jobs jobs accepted.jobs kept is i d lt).1

-- and the two of a `part` or `compare`
pub can_run_both : (part : PartArguments) → IsAcceptedPart part → pair_needs_whole_trace part ≡ false
    → CanRun part.limits.accesses part.first × CanRun part.limits.accesses part.second
can_run_both part accepted kept = elim (cases_Bool (is_long part.limits)) [
  | inl long ↦
      let none : (is_clairvoyant part.first.policy || is_clairvoyant part.second.policy) ≡ false = rw long at kept in
      let both = neither (is_clairvoyant part.first.policy) (is_clairvoyant part.second.policy) none in
      ((accepted.first.config, forgets part.limits.accesses part.first.policy both.0), (accepted.second.config, forgets part.limits.accesses part.second.policy both.1))
  | inr short ↦
      let few = ltb-false MAX_ACCESSES part.limits.accesses short in ((accepted.first.config, λ knows. few), (accepted.second.config, λ knows. few))
]

-- and no job at all can be run
pub can_pass : (run : RunArguments) → IsAcceptedRun run → actor_fault run.batch [] ≡ None
can_pass run accepted = rw (in_batch run.batch accepted.some accepted.few) refl

-- ---- at several capacities

-- what holds of a policy at each capacity of a sweep holds of its jobs
at_capacities : (P : Job → Type 0) (job : Job) (cs : List ℕ) → ((c : ℕ) → is_from_one MAX_CAPACITY c ≡ true → P (at_capacity job c)) → AllPass (is_from_one MAX_CAPACITY) cs
    → All P (map (at_capacity job) cs)
at_capacities P job [] each all = All-nil P
at_capacities P job (c ∷ cs) each all =
    All-cons P _ _ (each c (All-head (λ n. is_from_one MAX_CAPACITY n ≡ true) c cs all)) (at_capacities P job cs each (All-tail (λ n. is_from_one MAX_CAPACITY n ≡ true) c cs all))

over_capacities : (P : Job → Type 0) (jobs : List Job) (cs : List ℕ) → ((job : Job) (c : ℕ) → is_from_one MAX_CAPACITY c ≡ true → P job → P (at_capacity job c))
    → AllPass (is_from_one MAX_CAPACITY) cs → All P jobs → All P (jobs_over jobs cs)
over_capacities P [] cs each all has = All-nil P
over_capacities P (job ∷ jobs) cs each all has =
    All-append P _ _ (at_capacities P job cs (λ c fits. each job c fits (All-head P job jobs has)) all) (over_capacities P jobs cs each all (All-tail P job jobs has))

-- the jobs of a `sweep` can be run
pub sweeps_run : (sweep : SweepArguments) (rows : List Job) → IsAcceptedSweep sweep → needs_whole_trace (Sweep sweep) ≡ false
    → rows ≡ jobs_over sweep.jobs.list sweep.capacities → All (CanRun sweep.jobs.limits.accesses) rows
sweeps_run sweep rows accepted kept is =
    let most = sweep.jobs.limits.accesses in
    subst (All (CanRun most)) (sym is) (over_capacities (CanRun most) _ sweep.capacities (λ job c fits runs. (at_other job.config c runs.0 fits, runs.1)) accepted.capacities
    (can_run_each sweep.jobs sweep.jobs.list accepted.jobs kept refl))

pub swept_rows : (sweep : SweepArguments) (jobs rows : List Job) (cs : List ℕ) → jobs ≡ sweep.jobs.list → cs ≡ sweep.capacities
    → rows ≡ jobs_over jobs cs → rows ≡ jobs_over sweep.jobs.list sweep.capacities
swept_rows sweep jobs rows cs are is made =
    made ∙ (ap (λ (js : List Job). jobs_over js cs) are ∙ ap (jobs_over sweep.jobs.list) is)
