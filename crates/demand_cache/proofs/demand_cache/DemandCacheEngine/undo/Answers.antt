use Rattle.std.proofs.lemmas.Bool.Decides.{nat_tests}
use Rattle.std.proofs.Common.{arith, ◌∙◌, ap, sym, subst}
use Rattle.queue_table.specs.QueueTable.{queues}
use Rattle.queue_table.specs.Lists.{lists_of}
use Rattle.demand_cache.specs.DemandQueues.{DemandQueues, queues_undone}
use Rattle.demand_cache.specs.DemandCache.{DemandState, IsDemand, state_of, demand_undone, DemandFits}
use Rattle.demand_cache.proofs.Engine.{undone-shown, moves-fit}
use Rattle.demand_cache.proofs.demand_cache.DemandCacheEngine.undo.Goals as goal

pub undo-requires : goal.undo-requires
undo-requires c =
    moves-fit (queues c.self.inside.queues) c.tabled.ensures c.args.done.moves
    (subst (λ (d : DemandState). DemandFits c.args.done d) (sym c.self.view_is) c.requires).queues.moves

pub invariant_of-self : goal.invariant_of-self
invariant_of-self c =
    subst (λ v. IsDemand (state_of c.self.inside.policy c.self.inside.capacity c.self.inside.own_number (lists_of v) c.self.inside.stats)) (sym c.in-Err.ensures.err) c.self.invariant

pub invariant_of-self-in-Ok : goal.invariant_of-self-in-Ok
invariant_of-self-in-Ok c =
    let f : DemandFits c.args.done (state_of c.self.inside.policy c.self.inside.capacity c.self.inside.own_number (lists_of (queues c.self.inside.queues)) c.self.inside.stats) =
    subst (λ (d : DemandState). DemandFits c.args.done d) (sym c.self.view_is) c.requires in
    grind (arith, nat_tests, undone-shown c.self.inside.policy c.self.inside.capacity c.self.inside.own_number (queues c.self.inside.queues) (queues c.undo.new.self) c.tabled.ensures c.args.done.moves c.in-Ok.ensures.ok)

pub returns-in-Err-clause-err : goal.returns-in-Err-clause-err
returns-in-Err-clause-err c =
    ap (λ v. state_of c.self.inside.policy c.self.inside.capacity c.self.inside.own_number (lists_of v) c.self.inside.stats) c.in-Err.ensures.err ∙ c.self.view_is

pub returns-in-Ok-clause-ok : goal.returns-in-Ok-clause-ok
returns-in-Ok-clause-ok c =
    ap (λ (q : DemandQueues). let d : DemandState = record { queues = q; stats = c.uncount.new.self } in d)
    (undone-shown c.self.inside.policy c.self.inside.capacity c.self.inside.own_number (queues c.self.inside.queues) (queues c.undo.new.self) c.tabled.ensures c.args.done.moves c.in-Ok.ensures.ok)
    ∙ ap (λ y. let d : DemandState = record { queues = queues_undone c.args.done.moves (state_of c.self.inside.policy c.self.inside.capacity c.self.inside.own_number (lists_of (queues c.self.inside.queues)) c.self.inside.stats).queues; stats = y } in d) c.uncount.ensures
    ∙ ap (demand_undone c.args.done) c.self.view_is
