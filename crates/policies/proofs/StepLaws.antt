-- What every policy keeps: each law for Belady's optimal policy, and for all others by their machine.
use Rattle.std.proofs.lemmas.Bool.Decides.{nat_tests}
use Rattle.std.proofs.Common.{◌≡◌, ℕ, zero, suc, ◌+◌, ◌<◌, ◌≤◌, inl, inr, true, Option, Some, None, List, [], ◌∷◌, ◌++◌, length, get_or, count_by, eqb, ap, ◌∙◌, sym, refl, subst, arith, length-append}
use Rattle.std.proofs.lemmas.Bool.{cases_Bool, cases_lt}
use Rattle.std.proofs.lemmas.List.{get_or_append_left, take_more}
use Rattle.std.proofs.Math.Seq.{get_or-append_seam}
use Rattle.engine_base.specs.Keys.{has_key}
use Rattle.engine_base.specs.Limited.{lifted}
use Rattle.engine_base.specs.Machine.{after}
use Rattle.engine_base.specs.Stats.{is_eviction, is_miss, one_if}
use Rattle.engine_base.specs.declared.limits.TheConstants.{MAX_STEPS}
use Rattle.engine_base.specs.declared.outcome.Outcome.TheVariants.{Hit}
use Rattle.engine_base.proofs.Counting.{hits-misses, one-few}
use Rattle.engine_base.proofs.Limited.{accepted-in, accepted-where}
use Rattle.engine_base.proofs.Machine.{outcomes-long, misses-fit}
use Rattle.queue_cache.specs.AdaptiveCache.{cache_access, cache_count}
use Rattle.queue_cache.specs.Residents.{CacheHitsAskNothing, CacheAsksWhereOneLeft}
use Rattle.clairvoyant.specs.Belady.{Outcome, belady_outcomes, belady_outcome as outcome_at, belady_residents}
use Rattle.clairvoyant.specs.Clairvoyant.{ClairvoyantState, clairvoyant_at, clairvoyant_act}
use Rattle.clairvoyant.specs.Keys.{IsAscendingKeys}
use Rattle.clairvoyant.specs.Theorems.{ClairvoyantStepLaw, ClairvoyantAccepts}
use Rattle.clairvoyant.proofs.Belady.{residents-ascending, served-has, hit-resident, residents-fit as belady-residents-fit}
use Rattle.clairvoyant.proofs.Listing.{times-sum, times-has}
use Rattle.clairvoyant.proofs.Reached.{held-count}
use Rattle.clairvoyant.proofs.Records.{outcome-is}
use Rattle.demand_cache.specs.DemandCache.{demand_access, demand_count}
use Rattle.demand_cache.specs.Theorems.{HitsAskNothing, AsksWhereOneLeft}
use Rattle.queue_cache.specs.QueueCache.{queue_access}
use Rattle.queue_cache.specs.QueueStep.{queue_count}
use Rattle.queue_cache.proofs.Leaving.{hit-keeps-all, queue-asks-evicts}
use Rattle.policies.specs.declared.any_policy.AnyPolicy.TheVariants.{Queues, Optimal, Demand, Adaptive}
use Rattle.policies.specs.declared.design.Design.TheVariants as design
use Rattle.policies.specs.Design.{design_of, knows_trace, queue_setup}
use Rattle.policies.specs.AnyPolicy.{AnyPolicy, Design, Job, IsBeladyAt, HasAccessed, adaptive_engine, any_residents, demand_engine, outcomes_by, outcomes_on, queues_engine, stats_on}
use Rattle.policies.specs.Residents.{StatsAddUp, MissesFit, ResidentsFit, ResidentsDistinct, ResidentsCounted, HitsAreResidents, FetchesOnDemand}
use Rattle.policies.specs.Theorems.{AnyStepLaw, AnyAccepts, AnyIsOne, AnyAnswers, AnyCoversTrace, AnyHitsKeepAll, AnyRecordsShowOutcome, AnyAsksWhereOneLeft}
use Rattle.policies.proofs.Designs.{optimal-is}
use Rattle.policies.proofs.Machines.{HasMachine, any_keeps, run_of, run-made, run-stands, run-refuses, run-steps, run-answers, run-fits, run-distinct, run-residents, run-serves}

-- ---- the outcomes of Belady's optimal policy, by place

pub outcomes-length : (c : ℕ) (t : List ℕ) (i : ℕ) → length (belady_outcomes c t i) ≡ i
outcomes-length c t zero = refl
outcomes-length c t (suc i) = length-append (belady_outcomes c t i) (outcome_at c t i ∷ []) ∙ (let n : length (belady_outcomes c t i) ≡ i = outcomes-length c t i in omega arith)

pub at-answers : (c : ℕ) (t : List ℕ) (n i : ℕ) (x : Outcome) → i < n → get_or (belady_outcomes c t n) i x ≡ outcome_at c t i
at-answers c t zero i x lt = absurd (omega arith)
at-answers c t (suc n) i x lt =
    let len : length (belady_outcomes c t n) ≡ n = outcomes-length c t n in
    elim (cases_lt i n) [
      | inl below ↦ get_or_append_left (belady_outcomes c t n) (outcome_at c t n ∷ []) x i (omega (arith, len)) ∙ at-answers c t n i x below
      | inr above ↦ grind (arith, nat_tests, get_or-append_seam (belady_outcomes c t n) (outcome_at c t n))
    ]

-- a cache that knows the trace, at its place
record IsAtPlace (j : Job) (trace keys : List ℕ) (d : ClairvoyantState) : Type 0 where
  place : d.stats.accesses ≡ length keys
  trace_is : d.trace ≡ trace
  capacity : d.capacity ≡ j.config.capacity
  here : d ≡ clairvoyant_at d.capacity d.trace d.stats.accesses

at_place : (j : Job) (trace keys : List ℕ) (d : ClairvoyantState) → IsBeladyAt j trace keys d → IsAtPlace j trace keys d
at_place j trace keys d s = grind (arith, nat_tests, outcomes-length j.config.capacity trace (length keys))

optimal_stands : ClairvoyantStepLaw → (j : Job) (trace keys : List ℕ) (d : ClairvoyantState) (k : ℕ) (o : Outcome) (e : ClairvoyantState)
    → IsBeladyAt j trace keys d → clairvoyant_act d k ≡ Some (o, e) → IsBeladyAt j trace (keys ++ k ∷ []) e
optimal_stands law j trace keys d k o e s h = grind (arith, nat_tests, at_place, length-append, take_more)

pub any_step_law : ClairvoyantStepLaw → AnyStepLaw
any_step_law law j trace keys (Optimal d) k o e s h = grind (arith, nat_tests, optimal_stands)
any_step_law law j trace keys v k o e s h = run-steps j trace keys (run_of j trace keys v tt s) k o e h

at-length : (keys rest : List ℕ) (k : ℕ) → get_or (keys ++ k ∷ rest) (length keys) 0 ≡ k
at-length [] rest k = refl
at-length (a ∷ keys) rest k = at-length keys rest k

no-optimal : (x : Option (Outcome × ClairvoyantState)) → lifted Optimal x ≡ None → x ≡ None
no-optimal v h = grind (arith, nat_tests)

-- a cache that made fewer accesses than the trace has is not at its last
has-left : (trace keys rest : List ℕ) (k n : ℕ) → trace ≡ keys ++ k ∷ rest → length trace ≤ MAX_STEPS → n ≡ length keys → n ≡ MAX_STEPS → ⊥
has-left trace keys rest k n t few made all = grind (arith, nat_tests, length-append keys (k ∷ rest))

pub any_accepts : ClairvoyantAccepts → AnyAccepts
any_accepts law j trace keys rest k (Optimal d) t few s h =
    let p : IsAtPlace j trace keys d = at_place j trace keys d s in
    let l : length trace ≡ length keys + length (k ∷ rest) = ap length t ∙ length-append keys (k ∷ rest) in
    let long : length d.trace ≡ length trace = ap length p.trace_is in
    let place : d.stats.accesses ≡ length keys = p.place in
    let key : get_or d.trace d.stats.accesses 0 ≡ k =
    ap (λ x. get_or x d.stats.accesses 0) (p.trace_is ∙ t) ∙ (ap (λ x. get_or (keys ++ k ∷ rest) x 0) place ∙ at-length keys rest k) in
    let none : clairvoyant_act d k ≡ None = no-optimal (clairvoyant_act d k) h in
    law d (omega (arith, l, long, place)) (omega (arith, long, few)) (subst (λ x. clairvoyant_act d x ≡ None) (sym key) none)
any_accepts law j trace keys rest k v t few s h =
    let r = run_of j trace keys v tt s in
    has-left trace keys rest k _ t few (run-made j trace keys r) (run-refuses j trace keys r k h)

-- the cache of a design after the accesses to the keys
abbrev cache_by : Design → Job → List ℕ → List ℕ → AnyPolicy
cache_by (design.Queues q) j trace keys = Queues (after (queues_engine q j) keys)
cache_by design.KnowsTrace j trace keys = Optimal (clairvoyant_at j.config.capacity trace (length keys))
cache_by (design.Demand p) j trace keys = Demand (after (demand_engine p j) keys)
cache_by design.Adaptive j trace keys = Adaptive (after (adaptive_engine j) keys)

is-cache : (j : Job) (trace keys : List ℕ) (d : AnyPolicy) → HasAccessed j trace keys d → d ≡ cache_by (design_of j) j trace keys
is-cache j trace keys (Queues d) s = ap Queues s.is ∙ ap (λ x. cache_by x j trace keys) (sym s.design)
is-cache j trace keys (Optimal d) s = ap Optimal s.gives ∙ ap (λ x. cache_by x j trace keys) (sym s.design)
is-cache j trace keys (Demand d) s = ap Demand s.is ∙ ap (λ x. cache_by x j trace keys) (sym s.design)
is-cache j trace keys (Adaptive d) s = ap Adaptive s.is ∙ ap (λ x. cache_by x j trace keys) (sym s.design)

pub any_one : AnyIsOne
any_one j trace keys d e a b = is-cache j trace keys d a ∙ sym (is-cache j trace keys e b)

-- ---- the outcomes over the whole trace

pub optimal-outcomes : (j : Job) (trace : List ℕ) → knows_trace j.policy ≡ true → outcomes_on j trace ≡ belady_outcomes j.config.capacity trace (length trace)
optimal-outcomes j trace knows = ap (λ x. outcomes_by x j trace) (optimal-is j knows)

pub any_covers_trace : AnyCoversTrace
any_covers_trace j trace = elim (cases_Bool (knows_trace j.policy)) [
  | inl knows ↦ ap length (optimal-outcomes j trace knows) ∙ outcomes-length j.config.capacity trace (length trace)
  | inr other ↦ let a : HasMachine j = any_keeps j other in ap length (a.gives trace) ∙ outcomes-long a.machine.access a.machine.start trace
]

pub any_answers : ClairvoyantStepLaw → AnyAnswers
any_answers law j trace keys rest k (Optimal d) o e x t s h = search (arith, at_place, length-append, at-answers)
any_answers law j trace keys rest k v o e x t s h = run-answers j trace keys (run_of j trace keys v tt s) k o e h rest x t

pub stats_add_up : AnyCoversTrace → StatsAddUp
unfolding stats_on
stats_add_up covers j trace = (covers j trace, hits-misses (outcomes_on j trace) ∙ covers j trace)

abbrev MissesFitIn : ℕ → List Outcome → Type 0
MissesFitIn c os = count_by is_miss os ≤ count_by is_eviction os + c

optimal-fit : (c : ℕ) (t : List ℕ) (i : ℕ) → MissesFitIn c (belady_outcomes c t i)
optimal-fit c t i = let counted = held-count c t i in let few = belady-residents-fit c t i in omega (arith, counted, few)

pub misses_fit : MissesFit
unfolding stats_on
misses_fit j trace = elim (cases_Bool (knows_trace j.policy)) [
  | inl knows ↦ subst (MissesFitIn j.config.capacity) (sym (optimal-outcomes j trace knows)) (optimal-fit j.config.capacity trace (length trace))
  | inr other ↦
      let a : HasMachine j = any_keeps j other in
      subst (MissesFitIn j.config.capacity) (sym (a.gives trace)) (misses-fit j.config.capacity a.machine a.keeps trace)
]

-- ---- undo records

-- a record has the outcome
pub any_records_show_outcome : ClairvoyantStepLaw → AnyRecordsShowOutcome
any_records_show_outcome law j trace keys v k o e s h = grind (arith, nat_tests, accepted-in, at_place, outcome-is)

-- undoing a hit asks for no room
pub any_hits_keep_all : HitsAskNothing → CacheHitsAskNothing → AnyHitsKeepAll
any_hits_keep_all law own (Queues d) k e h = grind (arith, nat_tests, hit-keeps-all, accepted-in)
any_hits_keep_all law own (Optimal d) k e h = λ asks. asks
any_hits_keep_all law own (Demand d) k e h =
    law k d.queues (sym (accepted-in demand_count demand_access Demand d k Hit e h).outcome)
any_hits_keep_all law own (Adaptive d) k e h = own k d (sym (accepted-in cache_count cache_access Adaptive d k Hit e h).outcome)

pub any_asks_where_one_left : AsksWhereOneLeft → CacheAsksWhereOneLeft → AnyAsksWhereOneLeft
any_asks_where_one_left law own j trace keys (Queues d) k o e s h asks =
    ap is_eviction (accepted-in queue_count queue_access Queues d k o e h).outcome
    ∙ queue-asks-evicts (queue_setup d.setup.design j) keys d k record { checked = s.checked; gives = s.is } asks
any_asks_where_one_left law own j trace keys (Optimal d) k o e s h asks = absurd asks
any_asks_where_one_left law own j trace keys (Demand d) k o e s h asks =
    ap is_eviction (accepted-in demand_count demand_access Demand d k o e h).outcome
    ∙ law j.config.capacity k d.queues (run-stands j trace keys (run_of j trace keys (Demand d) tt s)) asks
any_asks_where_one_left law own j trace keys (Adaptive d) k o e s h asks =
    ap is_eviction (accepted-in cache_count cache_access Adaptive d k o e h).outcome
    ∙ own j.config.capacity k d (run-stands j trace keys (run_of j trace keys (Adaptive d) tt s)) asks

-- ---- the residents

pub residents_fit : ResidentsFit
residents_fit j trace keys (Optimal d) s =
    subst (λ (x : ClairvoyantState). length x.residents ≤ j.config.capacity) (sym s.gives)
    (belady-residents-fit j.config.capacity trace (length keys))
residents_fit j trace keys v s = run-fits j trace keys (run_of j trace keys v tt s)

pub residents_counted : ResidentsCounted
residents_counted j trace keys (Optimal d) s = grind (arith, nat_tests, held-count)
residents_counted j trace keys v s = run-residents j trace keys (run_of j trace keys v tt s)

ascending-once : (k : ℕ) (r : List ℕ) → IsAscendingKeys r → count_by (eqb k) r ≡ one_if (has_key k r)
ascending-once k r s = sym (times-sum k r) ∙ times-has k r s

pub residents_distinct : ResidentsDistinct
residents_distinct j trace keys (Optimal d) k s =
    let r : List ℕ = belady_residents j.config.capacity trace (length keys) in
    let once : count_by (eqb k) r ≤ 1 = omega (arith, ascending-once k r (residents-ascending j.config.capacity trace (length keys)), one-few (has_key k r)) in
    subst (λ (x : ClairvoyantState). count_by (eqb k) x.residents ≤ 1) (sym s.gives) once
residents_distinct j trace keys v k s = run-distinct j trace keys (run_of j trace keys v tt s) k

pub hits_are_residents : HitsAreResidents
hits_are_residents j trace keys (Optimal d) k o e s h =
    grind (arith, nat_tests, accepted-where, hit-resident d.capacity d.trace d.stats.accesses k d.residents)
hits_are_residents j trace keys v k o e s h = (run-serves j trace keys (run_of j trace keys v tt s) k o e h).hits

there-in : (x : ℕ) {d e : AnyPolicy} → d ≡ e → has_key x (any_residents e) ≡ true → has_key x (any_residents d) ≡ true
there-in x same there = ap (λ y. has_key x (any_residents y)) same ∙ there

pub fetches_on_demand : FetchesOnDemand
fetches_on_demand j trace keys (Optimal d) k o e x s h there = grind (arith, nat_tests, accepted-where, served-has, there-in)
fetches_on_demand j trace keys v k o e x s h there = (run-serves j trace keys (run_of j trace keys v tt s) k o e h).came x there
