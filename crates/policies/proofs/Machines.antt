-- The engine of each policy that knows no trace, as a machine over keys: what every machine shows, each of them shows.
use Rattle.std.proofs.Common.{◌≡◌, ℕ, zero, suc, ◌+◌, ◌≤◌, true, false, Some, None, Result, Ok, Err, inl, inr, List, [], ◌∷◌, ◌++◌, length, take, get_or, map, count_by, eqb, ap, ◌∙◌, sym, refl, subst, arith, length-append}
use Rattle.std.proofs.lemmas.Bool.{cases_lt}
use Rattle.engine_base.specs.Config.{config_fault}
use Rattle.engine_base.specs.Limited.{IsAccepted, limited, lifted}
use Rattle.engine_base.specs.Machine.{Machine, state_after_all, after, outcomes, IsServed, IsCounting, KeepsKeys}
use Rattle.engine_base.specs.Stats.{is_miss, is_eviction, stats_of}
use Rattle.engine_base.specs.declared.limits.TheConstants.{MAX_STEPS}
use Rattle.engine_base.specs.declared.outcome.Outcome.TheVariants.{Rejected}
use Rattle.engine_base.proofs.Limited.{accepted-in, refused-in}
use Rattle.engine_base.proofs.Machine.{state-append, kept-from, answered, counted, made, first-counted, stands, residents-counted}
use Rattle.queue_cache.proofs.Fitting.{cache_keeps}
use Rattle.demand_cache.proofs.Keeping.{pages-sound, demand-keeps, page-outcomes}
use Rattle.demand_cache.specs.DemandCache.{DemandState, demand_access, demand_machine}
use Rattle.queue_cache.specs.declared.design.QueueDesign.{QueueDesign}
use Rattle.queue_cache.specs.QueueCache.{QueueState, StandsFor}
use Rattle.queue_cache.proofs.Balance.{queue-keeps}
use Rattle.queue_cache.proofs.Reached.{has-room}
use Rattle.policies.specs.declared.any_policy.AnyPolicy.TheVariants.{Queues, Optimal, Demand, Adaptive}
use Rattle.policies.specs.declared.design.Design.TheVariants as design
use Rattle.policies.specs.Design.{design_of, knows_trace, queue_setup}
use Rattle.policies.specs.AnyPolicy.{AnyPolicy, ConfigFault, DemandPolicy, Design, Job, Outcome, IsAfter, HasAccessed, adaptive_engine, adaptive_outcomes, any_residents, demand_engine, demand_outcomes, outcomes_by, outcomes_on, queues_engine, stats_in, Stats}
use Rattle.policies.specs.Accesses.{IsNext}
use Rattle.policies.specs.AnyCounts.{any_count}
use Rattle.policies.specs.AnyStep.{any_act}
use Rattle.policies.proofs.Designs.{optimal-knows}

-- ---- a cache that keeps no key: what a job comes to that no cache is opened for

abbrev rejecting : Machine
rejecting = record { State = Unit {0}; start = tt; access = λ k s. (Rejected k, s); residents = λ s. []; IsState = λ s. Unit {0} }

rejecting-keeps : (c : ℕ) → KeepsKeys c rejecting
rejecting-keeps c = record {
  empty = refl;
  starts = tt;
  keeps = λ k s h. tt;
  accesses = λ k s h. record { hits = refl; counts = refl; came = λ x there. absurd (cc there) };
  fits = λ s h. omega arith;
  distinct = λ s k h. (let none : count_by (eqb k) [] ≡ 0 = refl in omega (arith, none));
}

all-rejected : (keys : List ℕ) → map (λ k. Rejected k) keys ≡ outcomes rejecting keys
all-rejected [] = refl
all-rejected (k ∷ keys) = ap (λ os. Rejected k ∷ os) (all-rejected keys)

-- ---- the machine of a job

pub record HasMachine (j : Job) : Type 1 where
  pub machine : Machine
  pub keeps : KeepsKeys j.config.capacity machine
  pub gives : (trace : List ℕ) → outcomes_on j trace ≡ outcomes machine trace

rejects : (j : Job) → ((trace : List ℕ) → outcomes_on j trace ≡ map (λ k. Rejected k) trace) → HasMachine j
rejects j all = record { machine = rejecting; keeps = rejecting-keeps j.config.capacity; gives = λ t. all t ∙ all-rejected t }

-- the outcomes of a policy that keeps each missed key are those of its engine, where there is room for a key
pub with-room : (p : DemandPolicy) (c : ℕ) (keys : List ℕ) → 1 ≤ c → demand_outcomes p c keys ≡ outcomes (demand_machine p c) keys
with-room p zero keys h = absurd (omega (arith, h))
with-room p (suc c) keys h = sym (page-outcomes p (suc c) keys h)

abbrev pub of-queues : (q : QueueDesign) (j : Job) → design_of j ≡ design.Queues q → HasMachine j
of-queues q j is = record {
  machine = queues_engine q j;
  keeps = queue-keeps (queue_setup q j);
  gives = λ t. ap (λ x. outcomes_by x j t) is;
}

abbrev of-demand : (p : DemandPolicy) (j : Job) → design_of j ≡ design.Demand p → 1 ≤ j.config.capacity → HasMachine j
of-demand p j is room = record {
  machine = demand_engine p j;
  keeps = demand-keeps pages-sound p j.config.capacity room;
  gives = λ t. ap (λ x. outcomes_by x j t) is ∙ with-room p j.config.capacity t room;
}

abbrev of-adaptive : (j : Job) → design_of j ≡ design.Adaptive → config_fault j.config ≡ Ok tt → HasMachine j
of-adaptive j is ok = record {
  machine = adaptive_engine j;
  keeps = cache_keeps j.config j.tuning.period ok;
  gives = λ t. ap (λ x. outcomes_by x j t) is ∙ ap (λ f. adaptive_outcomes f j t) ok;
}

by-check : (f : Result (Unit {0}) ConfigFault) (j : Job) → config_fault j.config ≡ f → design_of j ≡ design.Adaptive → HasMachine j
by-check (Ok u) j ok is = of-adaptive j is ok
by-check (Err e) j ok is = rejects j (λ t. ap (λ x. outcomes_by x j t) is ∙ ap (λ f. adaptive_outcomes f j t) ok)

by-design : (x : Design) (j : Job) → design_of j ≡ x → knows_trace j.policy ≡ false → HasMachine j
by-design (design.Queues q) j is other = of-queues q j is
by-design design.KnowsTrace j is other = absurd (let no : true ≡ false = sym (optimal-knows j is) ∙ other in cc no)
by-design (design.Demand p) j is other = elim (cases_lt 0 j.config.capacity) [
  | inl room ↦ of-demand p j is room
  | inr less ↦
      let none : j.config.capacity ≡ 0 = omega (arith, less) in
      rejects j (λ t. ap (λ x. outcomes_by x j t) is ∙ ap (λ n. demand_outcomes p n t) none)
]
by-design design.Adaptive j is other = by-check (config_fault j.config) j refl is

-- of each policy but Belady's
pub any_keeps : (j : Job) → knows_trace j.policy ≡ false → HasMachine j
any_keeps j other = by-design (design_of j) j refl other

-- ---- a cache of any policy but Belady's, as a state of its machine

-- The machine of its job, how a state of it is a cache, and that the cache's is the one after its accesses.
pub record MachineRun (j : Job) (trace keys : List ℕ) : Type 1 where
  pub job : HasMachine j
  pub cache : job.machine.State → AnyPolicy
  pub counting : IsCounting job.machine (λ s. stats_in (cache s))
  pub acts : (k : ℕ) (s : job.machine.State) → any_act (cache s) k ≡ lifted cache (limited (λ x. any_count (cache x)) job.machine.access s k)
  pub shows : (s : job.machine.State) → any_residents (cache s) ≡ job.machine.residents s
  pub state : job.machine.State
  pub is : state ≡ after job.machine keys
  pub next : (k : ℕ) → HasAccessed j trace (keys ++ k ∷ []) (cache (job.machine.access k state).1)

module _ (j : Job) (x : Design) (m : Machine) (done : List ℕ) (d : m.State) (s : IsAfter j x m done d) where
  -- more accesses in a row
  pub more-accessed : (keys : List ℕ) → IsAfter j x m (done ++ keys) (state_after_all m.access d keys)
  more-accessed keys = record {
    design = s.design;
    checked = s.checked;
    is = ap (λ (e : m.State). state_after_all m.access e keys) s.is ∙ sym (state-append m.access m.start done keys);
  }

-- a new cache of queues
pub queues_opened : (j : Job) (q : QueueDesign) (d : QueueState) → design_of j ≡ design.Queues q → StandsFor (queue_setup q j) [] d
    → (trace : List ℕ) → HasAccessed j trace [] (Queues d)
queues_opened j q d is s trace =
    subst (λ (x : QueueState). HasAccessed j trace [] (Queues x)) (sym s.gives) record { design = is; checked = s.checked; is = refl }

same-policy : (d : DemandState) (keys : List ℕ) → (state_after_all demand_access d keys).queues.policy ≡ d.queues.policy
same-policy d keys = kept-from demand_access (λ e. e.queues.policy ≡ d.queues.policy) (λ k e h. h) d keys refl

pub demand-made : (j : Job) (trace done keys : List ℕ) (d : DemandState) → HasAccessed j trace done (Demand d)
    → HasAccessed j trace (done ++ keys) (Demand (state_after_all demand_access d keys))
demand-made j trace done keys d s =
    let made = more-accessed j (design.Demand d.queues.policy) (demand_engine d.queues.policy j) done d s keys in
    subst (λ p. IsAfter j (design.Demand p) (demand_engine p j) (done ++ keys) (state_after_all demand_access d keys)) (sym (same-policy d keys)) made

abbrev pub IsOnline : AnyPolicy → Type 0
IsOnline (Queues d) = Unit {0}
IsOnline (Optimal d) = ⊥
IsOnline (Demand d) = Unit {0}
IsOnline (Adaptive d) = Unit {0}

abbrev pub run_of : (j : Job) (trace keys : List ℕ) (d : AnyPolicy) → IsOnline d → HasAccessed j trace keys d → MachineRun j trace keys
run_of j trace keys (Queues d) u s = record {
  job = of-queues d.setup.design j s.design;
  cache = Queues;
  counting = record { starts = refl; counts = λ k e. refl };
  acts = λ k e. refl;
  shows = λ e. refl;
  state = d;
  is = s.is;
  next = λ k. more-accessed j (design.Queues d.setup.design) (queues_engine d.setup.design j) keys d s (k ∷ []);
}
run_of j trace keys (Optimal d) u s = absurd u
run_of j trace keys (Demand d) u s = record {
  job = of-demand d.queues.policy j s.design (has-room j.config s.checked);
  cache = Demand;
  counting = record { starts = refl; counts = λ k e. refl };
  acts = λ k e. refl;
  shows = λ e. refl;
  state = d;
  is = s.is;
  next = λ k. more-accessed j (design.Demand d.queues.policy) (demand_engine d.queues.policy j) keys d s (k ∷ []);
}
run_of j trace keys (Adaptive d) u s = record {
  job = of-adaptive j s.design s.checked;
  cache = Adaptive;
  counting = record { starts = refl; counts = λ k e. refl };
  acts = λ k e. refl;
  shows = λ e. refl;
  state = d;
  is = s.is;
  next = λ k. more-accessed j design.Adaptive (adaptive_engine j) keys d s (k ∷ []);
}

-- ---- what it shows

module _ (j : Job) (trace keys : List ℕ) (r : MachineRun j trace keys) where
  abbrev m : Machine
  m = r.job.machine

  abbrev d : AnyPolicy
  d = r.cache r.state

  abbrev stats : m.State → Stats
  stats s = stats_in (r.cache s)

  pub run-stands : m.IsState r.state
  run-stands = subst m.IsState (sym r.is) (stands j.config.capacity m r.job.keeps keys)

  counts : stats_in d ≡ stats_of (outcomes m keys)
  counts = ap stats r.is ∙ counted m stats r.counting keys

  -- its counts are those of the job over its accesses
  pub run-counted : stats_in d ≡ stats_of (outcomes_on j keys)
  run-counted = counts ∙ ap stats_of (sym (r.job.gives keys))

  pub run-made : any_count d ≡ length keys
  run-made = ap (λ s. (stats s).accesses) r.is ∙ made m stats r.counting keys

  pub run-fits : length (any_residents d) ≤ j.config.capacity
  run-fits = subst (λ l. length l ≤ j.config.capacity) (sym (r.shows r.state)) (r.job.keeps.fits r.state run-stands)

  pub run-distinct : (k : ℕ) → count_by (eqb k) (any_residents d) ≤ 1
  run-distinct k = subst (λ l. count_by (eqb k) l ≤ 1) (sym (r.shows r.state)) (r.job.keeps.distinct r.state k run-stands)

  pub run-residents : length (any_residents d) + (stats_in d).evictions ≡ (stats_in d).misses
  run-residents =
      let size : length (any_residents d) ≡ length (m.residents (after m keys)) = ap length (r.shows r.state ∙ ap m.residents r.is) in
      let out : (stats_in d).evictions ≡ count_by is_eviction (outcomes m keys) = ap (λ (s : Stats). s.evictions) counts in
      let in_ : (stats_in d).misses ≡ count_by is_miss (outcomes m keys) = ap (λ (s : Stats). s.misses) counts in
      omega (arith, size, out, in_, residents-counted j.config.capacity m r.job.keeps keys)

  pub run-refuses : (k : ℕ) → any_act d k ≡ None → any_count d ≡ MAX_STEPS
  run-refuses k h = refused-in (λ s. any_count (r.cache s)) m.access r.cache r.state k (sym (r.acts k r.state) ∙ h)

  -- an accepted step is an access of the machine
  module _ (k : ℕ) (o : Outcome) (e : AnyPolicy) (h : any_act d k ≡ Some (o, e)) where
    abbrev a : Outcome × m.State
    a = m.access k r.state

    accepts : IsAccepted (a.0, r.cache a.1) o e
    accepts = accepted-in (λ s. any_count (r.cache s)) m.access r.cache r.state k o e (sym (r.acts k r.state) ∙ h)

    pub run-steps : HasAccessed j trace (keys ++ k ∷ []) e
    run-steps = subst (HasAccessed j trace (keys ++ k ∷ [])) (sym accepts.next) (r.next k)

    shown : IsServed k (any_residents d) a.0 (any_residents (r.cache a.1))
    shown = subst (λ l. IsServed k l a.0 (any_residents (r.cache a.1))) (sym (r.shows r.state))
        (subst (IsServed k (m.residents r.state) a.0) (sym (r.shows a.1)) (r.job.keeps.accesses k r.state run-stands))

    pub run-serves : IsServed k (any_residents d) o (any_residents e)
    run-serves = subst (λ x. IsServed k (any_residents d) o (any_residents x)) (sym accepts.next)
        (subst (λ x. IsServed k (any_residents d) x (any_residents (r.cache a.1))) (sym accepts.outcome) shown)

    pub run-answers : (rest : List ℕ) (x : Outcome) → trace ≡ keys ++ k ∷ rest → o ≡ get_or (outcomes_on j trace) (length keys) x
    run-answers rest x t =
        accepts.outcome ∙ ap (λ s. (m.access k s).0) r.is ∙ sym (answered m keys rest k x)
        ∙ ap (λ l. get_or (outcomes m l) (length keys) x) (sym t) ∙ ap (λ os. get_or os (length keys) x) (sym (r.job.gives trace))

-- of the first accesses of a trace
pub run-first : (j : Job) (trace : List ℕ) (n : ℕ) (r : MachineRun j trace (take n trace)) → stats_in (r.cache r.state) ≡ stats_of (take n (outcomes_on j trace))
run-first j trace n r =
    ap (λ s. stats_in (r.cache s)) r.is ∙ first-counted r.job.machine (λ s. stats_in (r.cache s)) r.counting n trace
    ∙ ap (λ os. stats_of (take n os)) (sym (r.job.gives trace))

-- there is room in the count for the next accesses of a trace
pub demand-next : (keys : List ℕ) (d : DemandState) → IsNext keys (Demand d) → d.stats.accesses + length keys ≤ MAX_STEPS
demand-next keys d n =
    let counts : d.stats.accesses ≡ length n.before = run-made n.job n.trace n.before (run_of n.job n.trace n.before (Demand d) tt n.stands) in
    let long = ap length n.ahead ∙ length-append n.before (keys ++ n.rest) in
    let more = length-append keys n.rest in
    let few = n.few in
    omega (arith, counts, long, more, few)
