use Rattle.std.proofs.Common.{◌∙◌, ℕ, List, ap, sym, subst, arith, refl, Err}
use Rattle.demand_cache.specs.DemandCache.{DemandState, DemandStops}
use Rattle.demand_cache.proofs.Accesses.{HasMade, named-at, named-length, has-made-next, is-accepted, has-made-all, stops-next}
use Rattle.demand_cache.proofs.demand_cache.DemandCache.access_all_by.Goals as goal

pub loop-i-init : goal.loop-i-init
loop-i-init g c = record { policy = refl; state = refl; counts = omega arith }

pub access_by-requires : goal.access_by-requires
access_by-requires g c = c.requires.policy ∙ sym (ap (λ (d : DemandState). d.queues.policy) c.prefetch_at.ensures ∙ c.loop-i.invariant.policy)

pub unreachable-requires : goal.unreachable-requires
unreachable-requires g c =
    let keys : List ℕ = g.K.KeyName.keys c.args.keys.now in
    let long = named-length g.K.KeyName.key c.args.keys.now keys (g.met.K.KeyName.keys_are c.args.keys.now) in
    is-accepted keys c.loop-i.i c.args.self.now c.prefetch_at.new.self _ (omega (arith, long, c.loop-i-test.true))
    (subst (HasMade keys c.loop-i.i c.args.self.now) (sym c.prefetch_at.ensures) c.loop-i.invariant)
    (omega (arith, long, c.requires.room)) (c.access_by.ensures.not_now.0 (c.in-Err-NotNow.is ∙ ap Err c.in-Err-NotNow.field-0-is))

pub loop-i-preserved : goal.loop-i-preserved
loop-i-preserved g c =
    let names = c.args.keys.now in
    let keys : List ℕ = g.K.KeyName.keys names in
    let long = named-length g.K.KeyName.key names keys (g.met.K.KeyName.keys_are names) in
    has-made-next keys c.loop-i.i c.args.self.now c.prefetch_at.new.self _ _ (omega (arith, long, c.loop-i-test.true))
    (subst (HasMade keys c.loop-i.i c.args.self.now) (sym c.prefetch_at.ensures) c.loop-i.invariant)
    c.access_by.ensures.policy
    (rw (named-at g.K.KeyName.key names keys c.loop-i.i _ (g.met.K.KeyName.keys_are names) c.loop-i-test.true c.index-keys-i.is) at c.in-Ok.ensures.accepted)

pub returns-in-Err-OutOfMemory-clause-memory : goal.returns-in-Err-OutOfMemory-clause-memory
returns-in-Err-OutOfMemory-clause-memory g c =
    let names = c.args.keys.now in
    let keys : List ℕ = g.K.KeyName.keys names in
    let long = named-length g.K.KeyName.key names keys (g.met.K.KeyName.keys_are names) in
    subst (λ d. DemandStops keys c.args.self.now d) (sym c.in-Err-OutOfMemory.ensures.err)
    (stops-next keys c.loop-i.i c.args.self.now c.prefetch_at.new.self (omega (arith, long, c.loop-i-test.true))
    (subst (HasMade keys c.loop-i.i c.args.self.now) (sym c.prefetch_at.ensures) c.loop-i.invariant)
    (rw (named-at g.K.KeyName.key names keys c.loop-i.i _ (g.met.K.KeyName.keys_are names) c.loop-i-test.true c.index-keys-i.is)
    at (c.access_by.ensures.memory (c.in-Err-OutOfMemory.is ∙ ap Err c.in-Err-OutOfMemory.field-0-is))))

pub returns-clause-all : goal.returns-clause-all
returns-clause-all g c =
    let keys : List ℕ = g.K.KeyName.keys c.args.keys.now in
    let long = named-length g.K.KeyName.key c.args.keys.now keys (g.met.K.KeyName.keys_are c.args.keys.now) in
    has-made-all keys c.loop-i.i c.args.self.now c.loop-i.self (omega (arith, long, c.loop-i-test.false)) c.loop-i.invariant
