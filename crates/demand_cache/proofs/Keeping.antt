-- An access by any policy's plan is that of its definition, so what holds of the definition holds of it.
use Rattle.std.proofs.lemmas.Bool.Decides.{nat_tests}
use Rattle.std.proofs.Common.{◌≡◌, ℕ, ◌≤◌, Option, [], List, ◌∷◌, ap, ◌∙◌, sym, subst, refl, arith, Some, None}
use Rattle.engine_base.specs.Keys.{has_key}
use Rattle.queue_table.specs.Queues.{Queues, empty_queues}
use Rattle.engine_base.specs.Machine.{outcomes_of_all}
use Rattle.engine_base.specs.Stats.{stats_of}
use Rattle.policy_pages.specs.Residents.{IsAccess}
use Rattle.policy_pages.proofs.Residents.{served, each-once}
use Rattle.queue_table.specs.Moves.{item_of, Plan, after_all, outcome_of, IsLowPlan, Leaving, outcome_after, evicted}
use Rattle.queue_table.specs.Tabled.{IsTabled, keys_of}
use Rattle.queue_table.specs.Lists.{QueueLists, lists_of, queues_in}
use Rattle.queue_table.proofs.Tabled.{tabled-all, lists-shown}
use Rattle.policy_pages.specs.PolicyPage.{PolicyPage, keys_with, LeavesNone}
use Rattle.policy_pages.proofs.FifoPlan.{fifo-sound}
use Rattle.policy_pages.proofs.ClockPlan.{clock-sound}
use Rattle.policy_pages.proofs.SievePlan.{sieve-sound}
use Rattle.policy_pages.proofs.S3FifoPlan.{s3-fifo-sound}
use Rattle.policy_pages.proofs.TwoQPlan.{two-q-sound}
use Rattle.policy_pages.proofs.ArcPlan.{arc-sound}
use Rattle.policy_pages.proofs.CarPlan.{car-sound}
use Rattle.demand_cache.specs.declared.demand_policy.DemandPolicy.TheVariants.{Fifo, Clock, Sieve, S3Fifo, TwoQ, Arc, Car}
use Rattle.demand_cache.specs.DemandQueues.{DemandPolicy, DemandQueues, queues_of, plan_of, queues_residents, queues_act, IsQueues}
use Rattle.demand_cache.specs.DemandPolicy.{page_of, plan_by, residents_by, IsStateOf}
use Rattle.demand_cache.specs.DemandCache.{Stats, DemandState, state_of, demand_access}
use Rattle.demand_cache.specs.Theorems.{PagesAreSound, DemandKeeps, MissesAreAdmitted, RunsByPage, HitsAskNothing, AsksWhereOneLeft}
use Rattle.std.proofs.lemmas.Bool.{cases_Bool}
use Rattle.engine_base.specs.declared.outcome.Outcome.TheVariants.{Hit}
use Rattle.queue_table.specs.declared.records.Entry.{Entry}
use Rattle.queue_table.specs.Entries.{oldest_of}
use Rattle.queue_table.specs.Undoing.{record_of, MovesAsk}

pub pages-sound : PagesAreSound
pages-sound Fifo = fifo-sound
pages-sound Clock = clock-sound
pages-sound Sieve = sieve-sound
pages-sound (S3Fifo part) = s3-fifo-sound part
pages-sound (TwoQ z) = two-q-sound z
pages-sound Arc = arc-sound
pages-sound Car = car-sound

-- what an access by the plan p comes to, in a cache of the policy
pub record IsPlannedAccess (p : DemandPolicy) (c k x : ℕ) (s : Queues) (plan : Plan) : Type 0 where
  pub state : IsStateOf p c plan.own_number (after_all plan (item_of k) s)
  pub access : IsAccess c k (residents_by p x s) (outcome_of plan s) (residents_by p plan.own_number (after_all plan (item_of k) s))
  pub low : IsLowPlan plan
  pub hits : plan.hits ≡ has_key k (residents_by p x s)

pub planned-access : PagesAreSound → (p : DemandPolicy) (c k x : ℕ) (s : Queues) → 1 ≤ c → IsTabled s → IsStateOf p c x s → IsPlannedAccess p c k x s (plan_by p c k x s)
planned-access all p c k x s h t i =
    let g : PolicyPage = page_of p in
    let old : g.State = g.view x s in
    let q = (all p).planned c k x s h t i.0 i.1 in
    let a = ((all p).keeps c h).accesses k old i.1 in
    record {
      state = (q.1, subst (g.IsState c) (sym q.0.state) (((all p).keeps c h).keeps k old i.1));
      access = subst (λ (v : g.State). IsAccess c k (g.residents old) (outcome_of (plan_by p c k x s) s) (g.residents v)) (sym q.0.state)
          (subst (λ o. IsAccess c k (g.residents old) o (g.residents (g.act c k old).1)) (sym q.0.outcome) a);
      low = q.0.low;
      hits = q.0.hits;
    }

-- ---- the queues of a cache

abbrev pub cache_of : DemandPolicy → ℕ → ℕ → Queues → DemandQueues
cache_of p c x s = record { policy = p; capacity = c; own_number = x; lists = lists_of s }

pub is-cache : (p : DemandPolicy) (c x : ℕ) (s : Queues) → 1 ≤ c → IsTabled s → IsStateOf p c x s → IsQueues c (cache_of p c x s)
is-cache p c x s h t i = search (arith, lists-shown s t)

pub access-of : PagesAreSound → (c k : ℕ) (d : DemandQueues) → 1 ≤ c → IsQueues c d → IsPlannedAccess d.policy d.capacity k d.own_number (queues_of d) (plan_of k d)
access-of all c k d h i = grind (arith, nat_tests, planned-access)

next-tabled : PagesAreSound → (c k : ℕ) (d : DemandQueues) → 1 ≤ c → IsQueues c d → IsTabled (after_all (plan_of k d) (item_of k) (queues_of d))
next-tabled all c k d h i = tabled-all (queues_of d) i.tabled (plan_of k d) (access-of all c k d h i).low k

pub next-keeps : PagesAreSound → (c : ℕ) → 1 ≤ c → (k : ℕ) (d : DemandQueues) → IsQueues c d → IsQueues c (queues_act k d).1
next-keeps all c h k d i = search (arith, is-cache, next-tabled all c k d h i, access-of all c k d h i)

pub misses-admitted : PagesAreSound → MissesAreAdmitted
misses-admitted all c k d i = search (arith, lists-shown, next-tabled all c k d i.least i, access-of all c k d i.least i)

empty-tabled : IsTabled empty_queues
empty-tabled = record { keys = λ q. refl; distinct = λ i. omega arith; high = λ q w. refl }

-- empty queues show an empty cache
empty-state : PagesAreSound → (p : DemandPolicy) (c : ℕ) → 1 ≤ c → IsStateOf p c 0 empty_queues
empty-state all p c h = ((all p).starts.0, subst ((page_of p).IsState c) (sym (all p).starts.1) ((all p).keeps c h).starts.0)

empty-residents : PagesAreSound → (p : DemandPolicy) (c : ℕ) → 1 ≤ c → residents_by p 0 empty_queues ≡ []
empty-residents all p c h = ap (page_of p).residents (all p).starts.1 ∙ ((all p).keeps c h).starts.1

pub started : PagesAreSound → (p : DemandPolicy) (c : ℕ) → 1 ≤ c → IsQueues c (cache_of p c 0 empty_queues)
started all p c h = is-cache p c 0 empty_queues h empty-tabled (empty-state all p c h)

pub demand-keeps : PagesAreSound → DemandKeeps
demand-keeps all p c h = record {
  empty = ap (residents_by p 0) (lists-shown empty_queues empty-tabled) ∙ empty-residents all p c h;
  starts = started all p c h;
  keeps = λ k d i. next-keeps all c h k d.queues i;
  accesses = λ k d i. served c k _ _ _ (misses-admitted all c k d.queues i);
  fits = λ d i. (((all d.queues.policy).keeps c h).holds _ i.state.1).fits;
  distinct = λ d k i. each-once c k _ (((all d.queues.policy).keeps c h).holds _ i.state.1);
}

-- ---- the residents, by the queues in which they stand

pub residents-shown : (p : DemandPolicy) (c x : ℕ) (s : Queues) → IsTabled s → (r : ℕ × Option ℕ) → r ≡ (page_of p).resident_queues x
    → queues_residents (cache_of p c x s) ≡ keys_with (keys_of (s r.0)) r.1 s
residents-shown p c x s t r h = grind (arith, nat_tests, lists-shown s t, pages-sound p)

-- ---- the outcomes are those of the definition

module _ (all : PagesAreSound) (p : DemandPolicy) (c : ℕ) (h : 1 ≤ c) where
  abbrev page : PolicyPage
  page = page_of p

  simulated : (keys : List ℕ) (x : ℕ) (l : QueueLists) (stats : Stats) → IsQueues c (state_of p c x l stats).queues
      → outcomes_of_all demand_access (state_of p c x l stats) keys ≡ outcomes_of_all (page.act c) (page.view x (queues_in l)) keys
  simulated [] x l stats i = refl
  simulated (k ∷ keys) x l stats i =
      let d : DemandState = state_of p c x l stats in
      let q = (all p).planned c k x (queues_in l) h i.tabled i.state.0 i.state.1 in
      let plan = plan_by p c k x (queues_in l) in
      let u = after_all plan (item_of k) (queues_in l) in
      let rest = simulated keys plan.own_number (lists_of u) (demand_access k d).1.stats (next-keeps all c h k d.queues i) in
      ap (λ o. o ∷ outcomes_of_all demand_access (demand_access k d).1 keys) q.0.outcome
      ∙ ap (λ r. (page.act c k (page.view x (queues_in l))).0 ∷ r) (rest ∙ ap (λ v. outcomes_of_all (page.act c) v keys) (ap (page.view plan.own_number) (lists-shown u (next-tabled all c k d.queues h i)) ∙ q.0.state))

pub runs-by-page : PagesAreSound → RunsByPage
runs-by-page all p c keys h =
    let g : PolicyPage = page_of p in
    simulated all p c h keys 0 (lists_of empty_queues) (stats_of []) (started all p c h)
    ∙ ap (λ (v : g.State). outcomes_of_all (g.act c) v keys) (ap (g.view 0) (lists-shown empty_queues empty-tabled) ∙ (all p).starts.1)

-- as an equation of any run
pub page-outcomes : RunsByPage
page-outcomes = runs-by-page pages-sound

-- ---- when undoing an access takes memory

-- Where a key left for good, so in a full cache, and never for a hit.

asks-nothing : (p : Plan) (k x : ℕ) (s : Queues) → LeavesNone p → MovesAsk (record_of p (item_of k) x s) → ⊥
asks-nothing p k x s n a = grind (arith, nat_tests)

-- ---- undoing a hit

no-hit : (l : Option Leaving) (s : Queues) → outcome_after l s ≡ Hit → ⊥
no-hit None s h = cc h
no-hit (Some l) s h = by_oldest (oldest_of (s l.from)) h
  where
    by_oldest : (o : Option Entry) → evicted o ≡ Hit → ⊥
    by_oldest None h = cc h
    by_oldest (Some e) h = cc h

pub hits-ask-nothing : PagesAreSound → HitsAskNothing
hits-ask-nothing all k d h a = grind (arith, nat_tests, asks-nothing, cases_Bool, no-hit)

-- ---- undoing an access

pub asks-where-one-left : PagesAreSound → AsksWhereOneLeft
asks-where-one-left all c k d i a =
    grind (arith, nat_tests, asks-nothing, cases_Bool (plan_of k d).hits, access-of all c k d i.least i)
