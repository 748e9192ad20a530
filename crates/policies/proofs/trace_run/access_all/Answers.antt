use Rattle.std.proofs.Common.{Result, Ok, Err, OnOk, OnErr, sym, subst}
use Rattle.policies.specs.declared.any_policy.AnyPolicy.TheVariants.{Adaptive, Demand, Optimal, Queues}
use Rattle.policies.specs.Accesses.{AnyPolicy, IsContinued, IsNext, IsStopped}
use Rattle.policies.proofs.Machines.{demand-next}
use Rattle.policies.proofs.Stretches.{demand-continued, demand-stopped}
use Rattle.policies.proofs.trace_run.access_all.Goals as goal

on_ok : {T E P Q : Type 0} (r : Result T E) → (P → Q) → OnOk r P → OnOk r Q
on_ok (Ok v) f h = f h
on_ok (Err e) f h = h

on_err : {T E P Q : Type 0} (r : Result T E) → (P → Q) → OnErr r P → OnErr r Q
on_err (Ok v) f h = h
on_err (Err e) f h = f h

pub access_all-requires : goal.access_all-requires
access_all-requires c = demand-next c.args.keys.now c.in-Demand.cache (subst (IsNext c.args.keys.now) c.in-Demand.is c.requires)

pub returns-in-Demand-clause-all : goal.returns-in-Demand-clause-all
returns-in-Demand-clause-all c =
    subst (λ (d : AnyPolicy). OnOk c.access_all.result (IsContinued c.args.keys.now d (Demand c.access_all.new.self))) (sym c.in-Demand.is)
    (on_ok c.access_all.result (demand-continued c.args.keys.now c.in-Demand.cache c.access_all.new.self) c.access_all.ensures.all)

pub returns-in-Demand-clause-memory : goal.returns-in-Demand-clause-memory
returns-in-Demand-clause-memory c =
    subst (λ (d : AnyPolicy). OnErr c.access_all.result (IsStopped c.args.keys.now d (Demand c.access_all.new.self))) (sym c.in-Demand.is)
    (on_err c.access_all.result (demand-stopped c.args.keys.now c.in-Demand.cache c.access_all.new.self) c.access_all.ensures.memory)

pub returns-in-Queues-clause-all : goal.returns-in-Queues-clause-all
returns-in-Queues-clause-all c =
    subst (λ (d : AnyPolicy). OnOk c.access_all_queues.result (IsContinued c.args.keys.now d (Queues c.access_all_queues.new.cache))) (sym c.in-Queues.is) c.access_all_queues.ensures.all

pub returns-in-Queues-clause-memory : goal.returns-in-Queues-clause-memory
returns-in-Queues-clause-memory c =
    subst (λ (d : AnyPolicy). OnErr c.access_all_queues.result (IsStopped c.args.keys.now d (Queues c.access_all_queues.new.cache))) (sym c.in-Queues.is) c.access_all_queues.ensures.memory

pub returns-in-Adaptive-clause-all : goal.returns-in-Adaptive-clause-all
returns-in-Adaptive-clause-all c =
    subst (λ (d : AnyPolicy). OnOk c.access_all_adaptive.result (IsContinued c.args.keys.now d (Adaptive c.access_all_adaptive.new.cache))) (sym c.in-Adaptive.is) c.access_all_adaptive.ensures.all

pub returns-in-Adaptive-clause-memory : goal.returns-in-Adaptive-clause-memory
returns-in-Adaptive-clause-memory c =
    subst (λ (d : AnyPolicy). OnErr c.access_all_adaptive.result (IsStopped c.args.keys.now d (Adaptive c.access_all_adaptive.new.cache))) (sym c.in-Adaptive.is) c.access_all_adaptive.ensures.memory

pub returns-in-Optimal-clause-all : goal.returns-in-Optimal-clause-all
returns-in-Optimal-clause-all c =
    subst (λ (d : AnyPolicy). OnOk c.access_all_optimal.result (IsContinued c.args.keys.now d (Optimal c.access_all_optimal.new.cache))) (sym c.in-Optimal.is) c.access_all_optimal.ensures.all

pub returns-in-Optimal-clause-memory : goal.returns-in-Optimal-clause-memory
returns-in-Optimal-clause-memory c =
    subst (λ (d : AnyPolicy). OnErr c.access_all_optimal.result (IsStopped c.args.keys.now d (Optimal c.access_all_optimal.new.cache))) (sym c.in-Optimal.is) c.access_all_optimal.ensures.memory
