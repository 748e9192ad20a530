-- One access to a cache, and undoing it, from what the step and the queues ensure.
use Rattle.std.proofs.lemmas.Bool.Decides.{nat_tests}
use Rattle.std.proofs.Common.{arith, ◌≡◌, ℕ, ◌≤◌, false, Some, ap, ◌∙◌, sym, subst}
use Rattle.std.proofs.lemmas.Bool.{ne_eqb}
use Rattle.engine_base.specs.declared.limits.TheConstants.{MAX_STEPS}
use Rattle.engine_base.specs.Keys.{has_key}
use Rattle.engine_base.specs.Stats.{stats_with}
use Rattle.queue_table.specs.Queues.{Queues}
use Rattle.queue_table.specs.declared.moves.Accessed.{Accessed}
use Rattle.queue_table.specs.Moves.{Outcome, item_of}
use Rattle.queue_table.specs.Undoing.{record_of, before_all, FitsMoves, IsAccessed}
use Rattle.queue_table.specs.Tabled.{IsTabled}
use Rattle.queue_table.specs.Lists.{lists_of, queues_in}
use Rattle.queue_table.proofs.Tabled.{lists-shown, tabled-all}
use Rattle.demand_cache.specs.DemandQueues.{DemandPolicy, Moves, DemandQueues, queues_residents, IsQueues, QueuesFits, queues_act, queues_record_of, queues_undone}
use Rattle.demand_cache.specs.DemandPolicy.{plan_by, residents_by, IsStateOf}
use Rattle.demand_cache.specs.DemandCache.{Stats, DemandState, demand_act, IsCountedBy}
use Rattle.demand_cache.specs.Theorems.{PagesAreSound}
use Rattle.demand_cache.proofs.Keeping.{IsPlannedAccess, planned-access, is-cache, cache_of}

module _ (all : PagesAreSound) (p : DemandPolicy) (c x : ℕ) (s : Queues) (t : IsTabled s) (h : 1 ≤ c) (i : IsQueues c (cache_of p c x s)) where
  pub state-shown : IsStateOf p c x s
  state-shown = subst (IsStateOf p c x) (lists-shown s t) i.state

  module _ (k : ℕ) where
    what : IsPlannedAccess p c k x s (plan_by p c k x s)
    what = planned-access all p c k x s h t state-shown

    -- an access that is out of memory is no hit
    pub no-resident : (plan_by p c k x s).hits ≡ false → has_key k (queues_residents (cache_of p c x s)) ≡ false
    no-resident m = ap (λ v. has_key k (residents_by p x v)) (lists-shown s t) ∙ sym what.hits ∙ m

    module _ (u : Queues) (o : Outcome) (y : ℕ) (a : IsCountedBy (plan_by p c k x s) (item_of k) s u o y) where
      after-tabled : IsTabled u
      after-tabled = subst IsTabled (sym a.after) (tabled-all s t (plan_by p c k x s) what.low k)

      pub next-queues : IsQueues c (cache_of p c y u)
      next-queues = is-cache p c y u h after-tabled
          (subst (λ y. IsStateOf p c y u) (sym a.own_number) (subst (IsStateOf p c (plan_by p c k x s).own_number) (sym a.after) what.state))

      pub act-is : queues_act k (cache_of p c x s) ≡ (o, cache_of p c y u)
      act-is = cc (lists-shown s t)

    module _ (u : Queues) (r : Accessed) (a : IsAccessed (plan_by p c k x s) (item_of k) x s u r) where
      counted : IsCountedBy (plan_by p c k x s) (item_of k) s u r.outcome r.own_number
      counted = record { outcome = a.outcome; own_number = a.own_number; after = a.carried.after }

      pub queues-recorded : IsQueues c (cache_of p c r.own_number u)
      queues-recorded = next-queues u r.outcome r.own_number counted

      pub act-recorded : queues_act k (cache_of p c x s) ≡ (r.outcome, cache_of p c r.own_number u)
      act-recorded = act-is u r.outcome r.own_number counted

      next-tabled : IsTabled u
      next-tabled = after-tabled u r.outcome r.own_number counted

      pub record-is : r.moves ≡ queues_record_of k (cache_of p c x s)
      record-is = a.carried.is ∙ sym (ap (λ v. record_of (plan_by p c k x v) (item_of k) x v) (lists-shown s t))

      pub undone-is : queues_undone r.moves (cache_of p c r.own_number u) ≡ cache_of p c x s
      undone-is = search (arith, lists-shown u next-tabled, next-tabled)

      pub record-fits : QueuesFits r.moves (cache_of p c r.own_number u)
      record-fits = record {
        moves = subst (FitsMoves r.moves) (sym (lists-shown u next-tabled)) a.carried.fits;
        before = subst (IsQueues c) (sym undone-is) i;
      }

-- ---- as steps of the engine

pub accepts : (d : DemandState) (k : ℕ) (o : Outcome) (q : DemandQueues) (stats : Stats) → (d.stats.accesses ≡ MAX_STEPS → ⊥) → queues_act k d.queues ≡ (o, q)
    → stats ≡ stats_with o d.stats → demand_act d k ≡ Some (o, record { queues = q; stats = stats })
accepts d k o q stats h a e = grind (arith, nat_tests, ne_eqb d.stats.accesses MAX_STEPS h)

-- undoing, from the queues that a table has
module _ (p : DemandPolicy) (c x : ℕ) (s u : Queues) (t : IsTabled s) (r : Moves) (done : u ≡ before_all r s) where
  pub undone-shown : cache_of p c r.own_number u ≡ queues_undone r (cache_of p c x s)
  undone-shown = ap (cache_of p c r.own_number) (done ∙ sym (ap (before_all r) (lists-shown s t)))

pub moves-fit : (s : Queues) → IsTabled s → (r : Moves) → FitsMoves r (queues_in (lists_of s)) → FitsMoves r s
moves-fit s t r f = subst (FitsMoves r) (lists-shown s t) f
