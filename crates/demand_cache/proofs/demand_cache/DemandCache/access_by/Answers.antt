use Rattle.std.proofs.Common.{◌≡◌, ◌∙◌, false, rules, ap, sym, subst}
use Rattle.engine_base.specs.Keys.{has_key}
use Rattle.queue_table.specs.QueueTable.{queues}
use Rattle.queue_table.specs.Lists.{lists_of}
use Rattle.queue_table.specs.Moves.{item_of}
use Rattle.demand_cache.specs.DemandQueues.{queues_residents}
use Rattle.demand_cache.specs.DemandPolicy.{page_of, plan_by}
use Rattle.demand_cache.specs.DemandCache.{DemandState, IsDemand, IsCountedBy, state_of, demand_act}
use Rattle.demand_cache.proofs.Keeping.{pages-sound}
use Rattle.demand_cache.proofs.Engine.{state-shown, no-resident, next-queues, act-is, accepts}
use Rattle.demand_cache.proofs.demand_cache.DemandCache.access_by.Goals as goal

pub count_out-requires-clause-shown : goal.count_out-requires-clause-shown
count_out-requires-clause-shown g c =
    subst (λ p. (page_of p).IsShown c.self.inside.own_number (queues c.self.inside.queues)) (sym (c.requires ∙ sym (ap (λ (d : DemandState). d.queues.policy) c.self.view_is)))
    (state-shown pages-sound c.self.inside.policy c.self.inside.capacity c.self.inside.own_number (queues c.self.inside.queues) c.tabled.ensures c.self.invariant.least c.self.invariant.queues).0

pub count_out-requires-clause-state : goal.count_out-requires-clause-state
count_out-requires-clause-state g c =
    subst (λ p. (page_of p).IsState c.self.inside.capacity ((page_of p).view c.self.inside.own_number (queues c.self.inside.queues))) (sym (c.requires ∙ sym (ap (λ (d : DemandState). d.queues.policy) c.self.view_is)))
    (state-shown pages-sound c.self.inside.policy c.self.inside.capacity c.self.inside.own_number (queues c.self.inside.queues) c.tabled.ensures c.self.invariant.least c.self.invariant.queues).1

pub invariant_of-self : goal.invariant_of-self
invariant_of-self g c =
    subst (λ v. IsDemand (state_of c.self.inside.policy c.self.inside.capacity c.self.inside.own_number (lists_of v) c.self.inside.stats)) (sym c.in-Err.ensures.err) c.self.invariant

pub invariant_of-self-in-Ok : goal.invariant_of-self-in-Ok
invariant_of-self-in-Ok g c = record {
  least = c.self.invariant.least;
  most = c.self.invariant.most;
  queues = next-queues pages-sound c.self.inside.policy c.self.inside.capacity c.self.inside.own_number (queues c.self.inside.queues) c.tabled.ensures c.self.invariant.least c.self.invariant.queues (g.K.KeyName.key c.args.key) (queues c.count_out.new.queues) c.in-Ok.done.outcome c.in-Ok.done.own_number (subst (λ p. IsCountedBy (plan_by p c.self.inside.capacity (g.K.KeyName.key c.args.key) c.self.inside.own_number (queues c.self.inside.queues)) (item_of (g.K.KeyName.key c.args.key)) (queues c.self.inside.queues) (queues c.count_out.new.queues) c.in-Ok.done.outcome c.in-Ok.done.own_number) (c.requires ∙ sym (ap (λ (d : DemandState). d.queues.policy) c.self.view_is)) c.in-Ok.ensures.counted);
  counts = (let t = c.self.invariant.counts in search rules);
}

pub returns-in-Err-clause-memory : goal.returns-in-Err-clause-memory
returns-in-Err-clause-memory g c m =
    subst (λ (d : DemandState). has_key (g.K.KeyName.key c.args.key) (queues_residents d.queues) ≡ false) c.self.view_is
    (no-resident pages-sound c.self.inside.policy c.self.inside.capacity c.self.inside.own_number (queues c.self.inside.queues) c.tabled.ensures c.self.invariant.least c.self.invariant.queues (g.K.KeyName.key c.args.key)
    (subst (λ p. (plan_by p c.self.inside.capacity (g.K.KeyName.key c.args.key) c.self.inside.own_number (queues c.self.inside.queues)).hits ≡ false) (c.requires ∙ sym (ap (λ (d : DemandState). d.queues.policy) c.self.view_is)) c.in-Err.ensures.memory))

pub returns-in-Err-clause-err : goal.returns-in-Err-clause-err
returns-in-Err-clause-err g c =
    ap (λ v. state_of c.self.inside.policy c.self.inside.capacity c.self.inside.own_number (lists_of v) c.self.inside.stats) c.in-Err.ensures.err ∙ c.self.view_is

pub returns-in-Ok-clause-accepted : goal.returns-in-Ok-clause-accepted
returns-in-Ok-clause-accepted g c =
    ap (λ d. demand_act d (g.K.KeyName.key c.args.key)) (sym c.self.view_is)
    ∙ accepts (state_of c.self.inside.policy c.self.inside.capacity c.self.inside.own_number (lists_of (queues c.self.inside.queues)) c.self.inside.stats) (g.K.KeyName.key c.args.key)
    c.in-Ok.done.outcome _ c.count.new.self c.if-self-eq-MAX_STEPS.false
    (act-is pages-sound c.self.inside.policy c.self.inside.capacity c.self.inside.own_number (queues c.self.inside.queues) c.tabled.ensures c.self.invariant.least c.self.invariant.queues (g.K.KeyName.key c.args.key) (queues c.count_out.new.queues) c.in-Ok.done.outcome c.in-Ok.done.own_number (subst (λ p. IsCountedBy (plan_by p c.self.inside.capacity (g.K.KeyName.key c.args.key) c.self.inside.own_number (queues c.self.inside.queues)) (item_of (g.K.KeyName.key c.args.key)) (queues c.self.inside.queues) (queues c.count_out.new.queues) c.in-Ok.done.outcome c.in-Ok.done.own_number) (c.requires ∙ sym (ap (λ (d : DemandState). d.queues.policy) c.self.view_is)) c.in-Ok.ensures.counted))
    c.count.ensures
