use Rattle.std.proofs.Common.{◌≡◌, ◌∙◌, false, rules, ap, sym, subst}
use Rattle.engine_base.specs.Keys.{has_key}
use Rattle.queue_table.specs.QueueTable.{queues}
use Rattle.queue_table.specs.Lists.{lists_of}
use Rattle.demand_cache.specs.DemandQueues.{queues_residents, queues_record_of}
use Rattle.demand_cache.specs.DemandCache.{DemandState, IsDemand, state_of, demand_act, demand_record_of}
use Rattle.demand_cache.proofs.Keeping.{pages-sound}
use Rattle.demand_cache.proofs.Engine.{state-shown, no-resident, queues-recorded, act-recorded, record-is, undone-is, record-fits, accepts}
use Rattle.demand_cache.proofs.demand_cache.DemandCacheEngine.apply.Goals as goal

pub step-requires-clause-shown : goal.step-requires-clause-shown
step-requires-clause-shown c = (state-shown pages-sound c.self.inside.policy c.self.inside.capacity c.self.inside.own_number (queues c.self.inside.queues) c.tabled.ensures c.self.invariant.least c.self.invariant.queues).0

pub step-requires-clause-state : goal.step-requires-clause-state
step-requires-clause-state c = (state-shown pages-sound c.self.inside.policy c.self.inside.capacity c.self.inside.own_number (queues c.self.inside.queues) c.tabled.ensures c.self.invariant.least c.self.invariant.queues).1

pub invariant_of-self : goal.invariant_of-self
invariant_of-self c =
    subst (λ v. IsDemand (state_of c.self.inside.policy c.self.inside.capacity c.self.inside.own_number (lists_of v) c.self.inside.stats)) (sym c.in-Err.ensures.err) c.self.invariant

pub invariant_of-self-in-Ok : goal.invariant_of-self-in-Ok
invariant_of-self-in-Ok c = record {
  least = c.self.invariant.least;
  most = c.self.invariant.most;
  queues = queues-recorded pages-sound c.self.inside.policy c.self.inside.capacity c.self.inside.own_number (queues c.self.inside.queues) c.tabled.ensures c.self.invariant.least c.self.invariant.queues c.args.step.now (queues c.step.new.queues) c.in-Ok.done c.in-Ok.ensures.accessed;
  counts = (let t = c.self.invariant.counts in search rules);
}

pub returns-in-Err-clause-memory : goal.returns-in-Err-clause-memory
returns-in-Err-clause-memory c m =
    subst (λ (d : DemandState). has_key c.args.step.now (queues_residents d.queues) ≡ false) c.self.view_is
    (no-resident pages-sound c.self.inside.policy c.self.inside.capacity c.self.inside.own_number (queues c.self.inside.queues) c.tabled.ensures c.self.invariant.least c.self.invariant.queues c.args.step.now c.in-Err.ensures.memory)

pub returns-in-Err-clause-err : goal.returns-in-Err-clause-err
returns-in-Err-clause-err c =
    ap (λ v. state_of c.self.inside.policy c.self.inside.capacity c.self.inside.own_number (lists_of v) c.self.inside.stats) c.in-Err.ensures.err ∙ c.self.view_is

pub returns-in-Ok-clause-accepted : goal.returns-in-Ok-clause-accepted
returns-in-Ok-clause-accepted c =
    ap (λ d. demand_act d c.args.step.now) (sym c.self.view_is)
    ∙ accepts (state_of c.self.inside.policy c.self.inside.capacity c.self.inside.own_number (lists_of (queues c.self.inside.queues)) c.self.inside.stats) c.args.step.now
    c.in-Ok.done.outcome _ c.count.new.self c.if-self-eq-MAX_STEPS.false
    (act-recorded pages-sound c.self.inside.policy c.self.inside.capacity c.self.inside.own_number (queues c.self.inside.queues) c.tabled.ensures c.self.invariant.least c.self.invariant.queues c.args.step.now (queues c.step.new.queues) c.in-Ok.done c.in-Ok.ensures.accessed)
    c.count.ensures

pub returns-in-Ok-clause-record_is : goal.returns-in-Ok-clause-record_is
returns-in-Ok-clause-record_is c =
    let a = act-recorded pages-sound c.self.inside.policy c.self.inside.capacity c.self.inside.own_number (queues c.self.inside.queues) c.tabled.ensures c.self.invariant.least c.self.invariant.queues c.args.step.now (queues c.step.new.queues) c.in-Ok.done c.in-Ok.ensures.accessed in
    let m = record-is pages-sound c.self.inside.policy c.self.inside.capacity c.self.inside.own_number (queues c.self.inside.queues) c.tabled.ensures c.self.invariant.least c.self.invariant.queues c.args.step.now (queues c.step.new.queues) c.in-Ok.done c.in-Ok.ensures.accessed in
    ap (λ y. record { moves = y; outcome = c.in-Ok.done.outcome }) m
    ∙ ap (λ v. record { moves = queues_record_of c.args.step.now (state_of c.self.inside.policy c.self.inside.capacity c.self.inside.own_number (lists_of (queues c.self.inside.queues)) c.self.inside.stats).queues; outcome = v.0 }) (sym a)
    ∙ ap (demand_record_of c.args.step.now) c.self.view_is

pub returns-in-Ok-clause-fits : goal.returns-in-Ok-clause-fits
returns-in-Ok-clause-fits c = record {
  queues = record-fits pages-sound c.self.inside.policy c.self.inside.capacity c.self.inside.own_number (queues c.self.inside.queues) c.tabled.ensures c.self.invariant.least c.self.invariant.queues c.args.step.now (queues c.step.new.queues) c.in-Ok.done c.in-Ok.ensures.accessed;
  counted = (let t = c.self.invariant.counts in search rules);
  counts = (let t = c.self.invariant.counts in search rules);
}

pub returns-in-Ok-clause-undone : goal.returns-in-Ok-clause-undone
returns-in-Ok-clause-undone c =
    let u = undone-is pages-sound c.self.inside.policy c.self.inside.capacity c.self.inside.own_number (queues c.self.inside.queues) c.tabled.ensures c.self.invariant.least c.self.invariant.queues c.args.step.now (queues c.step.new.queues) c.in-Ok.done c.in-Ok.ensures.accessed in
    search (rules, u)
