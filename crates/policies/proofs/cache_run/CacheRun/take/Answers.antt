use Rattle.std.proofs.Common.{◌≡◌, ◌++◌, ◌-◌, ℕ, false, true, true≢false, List, length, Result, Ok, Err, OnErr, OnOk, take, drop, ap, sym, ◌∙◌, subst, rules, arith, append_assoc, length-drop, take-append-drop}
use Rattle.std.proofs.lemmas.List.{take_all}
use Rattle.std.specs.Result.{is_err}
use Rattle.policies.specs.Accesses.{AnyPolicy, IsStopped}
use Rattle.policies.specs.CacheRun.{CanTake, HasTaken}
use Rattle.policies.specs.declared.any_policy.AnyPolicy.TheVariants.{Demand}
use Rattle.policies.specs.declared.cache_run.CacheRun.{CacheRun}
use Rattle.policies.specs.declared.cache_run.CacheRun.TheVariants.{Cache, Narrow}
use Rattle.policies.proofs.Machines.{demand-next}
use Rattle.policies.proofs.Stretches.{demand-continued, demand-stopped, left-next}
use Rattle.policies.proofs.cache_run.CacheRun.take.Goals.{in-Cache, in-NextUses, in-Narrow+in-Err}
use Rattle.policies.proofs.cache_run.CacheRun.take.Goals as goal

pub access_narrow-requires : goal.access_narrow-requires
access_narrow-requires c = demand-next c.args.keys.now c.in-Narrow.cache (subst (CanTake c.args.keys.now) c.in-Narrow.is c.requires)

-- the keys behind the first m, as a slice of them is written
left : (keys : List ℕ) (m : ℕ) → take (length keys - m) (drop m keys) ≡ drop m keys
left keys m = take_all _ _ (omega (arith, length-drop m keys))

pub take_left-requires-clause-next : goal.take_left-requires-clause-next
take_left-requires-clause-next c =
    rw (left c.args.keys.now c.in-Ok.made) (left-next c.args.keys.now c.in-Ok.made (Demand c.in-Narrow.cache) (Demand c.access_narrow.new.self) (subst (CanTake c.args.keys.now) c.in-Narrow.is c.requires)
    (demand-continued (take c.in-Ok.made c.args.keys.now) c.in-Narrow.cache c.access_narrow.new.self c.in-Ok.ensures.made))

pub returns-in-Ok-clause-taken : goal.returns-in-Ok-clause-taken
returns-in-Ok-clause-taken c j trace done s =
    let keys = c.args.keys.now in
    let first = take c.in-Ok.made keys in
    let begun = demand-continued first c.in-Narrow.cache c.access_narrow.new.self c.in-Ok.ensures.made j trace done (subst (HasTaken j trace done) c.in-Narrow.is s) in
    subst (λ (l : List ℕ). HasTaken j trace l c.take_left.new.self) (ap (λ (l : List ℕ). (done ++ first) ++ l) (left keys c.in-Ok.made) ∙ append_assoc done first (drop c.in-Ok.made keys) ∙ ap (λ (l : List ℕ). done ++ l) (take-append-drop c.in-Ok.made keys))
    (c.take_left.ensures.taken j trace (done ++ first) begun)

-- what comes where there was no error
went : {T E P : Type 0} (r : Result T E) → is_err r ≡ false → OnOk r P → P
went (Ok v) none h = h
went (Err e) none h = absurd (true≢false none)

pub returns-else-is_err-clause-taken : goal.returns-else-is_err-clause-taken
returns-else-is_err-clause-taken c = elim c.match-self.branch [
  | in-Cache w ↦ λ j trace done s.
      let made = went w.access_all-taken.result (ap is_err (sym w.taken-is) ∙ sym c.if-is_err.ensures.value) w.access_all-taken.ensures.all in
      subst (HasTaken j trace (done ++ c.args.keys.now)) (sym w.self-is) (made j trace done (subst (HasTaken j trace done) w.in-Cache.is s))
  | in-NextUses w ↦ λ j trace done s. search rules
  | in-Narrow+in-Err w ↦ absurd (true≢false (ap is_err (sym w.taken-is) ∙ sym c.if-is_err.ensures.value))
]

-- what comes where there was one
failed : {T E P : Type 0} (r : Result T E) → is_err r ≡ true → OnErr r P → P
failed (Ok v) some h = absurd (true≢false (sym some))
failed (Err e) some h = h

-- the cache of a run that has one
cache_of : AnyPolicy → CacheRun → AnyPolicy
cache_of other (Cache d) = d
cache_of other (Narrow d) = Demand d
cache_of other _ = other

pub returns-then-is_err-clause-memory : goal.returns-then-is_err-clause-memory
unfolding cache_of
returns-then-is_err-clause-memory c = elim c.match-self.branch [
  | in-Cache w ↦ λ d was out. (
    w.access_all-taken.new.cache,
    subst (λ (x : AnyPolicy). IsStopped c.args.keys.now x w.access_all-taken.new.cache) (ap (cache_of d) (sym w.in-Cache.is ∙ was))
        (failed w.access_all-taken.result (ap is_err (sym w.taken-is) ∙ sym c.if-is_err.ensures.value) w.access_all-taken.ensures.memory),
  )
  | in-NextUses w ↦ λ d was out. absurd (cc (sym w.in-NextUses.is ∙ was))
  | in-Narrow+in-Err w ↦ λ d was out. absurd (cc (sym w.in-Narrow.is ∙ was))
]

pub returns-then-is_err-clause-narrow : goal.returns-then-is_err-clause-narrow
unfolding cache_of
returns-then-is_err-clause-narrow c = elim c.match-self.branch [
  | in-Cache w ↦ λ d was out narrow. absurd (cc (sym w.in-Cache.is ∙ was))
  | in-NextUses w ↦ λ d was out narrow. absurd (cc (sym w.in-NextUses.is ∙ was))
  | in-Narrow+in-Err w ↦ λ d was out narrow. (
    Demand w.access_narrow.new.self,
    subst (λ (x : AnyPolicy). IsStopped c.args.keys.now x (Demand w.access_narrow.new.self)) (ap (cache_of (Demand d)) (sym w.in-Narrow.is ∙ was))
        (demand-stopped c.args.keys.now w.in-Narrow.cache w.access_narrow.new.self w.in-Err.ensures.memory),
  )
]
