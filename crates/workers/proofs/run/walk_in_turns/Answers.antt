use Rattle.std.proofs.lemmas.Grind.{common_steps}
use Rattle.std.proofs.Common.{refl, sym, subst, ◌∙◌, arith}
use Rattle.shell_model.specs.AdmittedSteps.{MayMake}
use Rattle.shell_model.proofs.Coming.{may_make}
use Rattle.shell_model.proofs.Walking.{nothing, stopped, stepped, over, known, asks_same, asks_on, Completes}
use Rattle.workers.proofs.Turning.{if_ok_at, if_err_at}
use Rattle.workers.proofs.run.walk_in_turns.Goals as goal

pub loop-init : goal.loop-init
loop-init g c = record {
  can = tt;
  finite = tt;
  same = refl;
  worker = c.requires.walker.worker_is;
  within = c.requires.walker.within;
  made = nothing (Completes c.args.worker c.args.stripes c.args.call c.next_step-next.result) _ (λ rest left. (c.start.ensures.ahead rest).1 ((c.next_step-next.ensures.left rest).1 left));
  asks = asks_same c.args.worker c.args.stripes _ _ c.next_step-next.result c.start.ensures.same.0 c.start.ensures.same.1 c.next_step-next.ensures.asks;
}

pub returns-in_default-clause-ok : goal.returns-in_default-clause-ok
returns-in_default-clause-ok g c =
    (known _ _ _ _ (over c.args.worker c.args.stripes c.args.call c.loop.next c.in_default.is) c.loop.invariant.made, c.loop.invariant.within)

pub loop-preserved : goal.loop-preserved
loop-preserved g c =
    let step = if_ok_at _ _ _ c.in-Ok.is c.step_in_turn-given.ensures.ok in
    record {
      can = tt;
      finite = tt;
      same = c.step_in_turn-given.ensures.same.0 ∙ c.loop.invariant.same;
      worker = c.step_in_turn-given.ensures.same.1 ∙ c.loop.invariant.worker;
      within = step.2;
      made = stepped c.args.worker c.args.stripes c.args.call c.loop.next c.next_step-next-in-Ok.result c.in-Do.act c.in-Do.local c.in-Ok.reply c.in-Do.is c.loop.invariant.asks
          (λ rest left. (c.next_step-next-in-Ok.ensures.left rest).1 left) _ _ _ step.0
          c.loop.invariant.made;
      asks = asks_on c.args.worker c.args.stripes c.loop.next c.next_step-next-in-Ok.result c.in-Do.act c.in-Do.local c.in-Do.is c.loop.invariant.asks c.next_step-next-in-Ok.ensures.asks;
    }

pub returns-in-Err-clause-err : goal.returns-in-Err-clause-err
returns-in-Err-clause-err g c =
    let refused = if_err_at _ _ _ c.in-Err.is c.step_in_turn-given.ensures.err in (
      stopped c.args.worker c.args.stripes c.args.call _ _ _ c.in-Do.is _ _ _ refused.0 c.loop.invariant.made,
      refused.1,
    )

pub step_in_turn-given-requires-clause-takes : goal.step_in_turn-given-requires-clause-takes
step_in_turn-given-requires-clause-takes g c = λ es legal own below.
    c.requires.walker.admits es legal c.in-Do.act (subst (λ l. MayMake c.args.worker c.args.stripes l c.in-Do.act) (sym own)
    (may_make c.args.worker c.args.stripes c.args.call c.requires.walker.walks.0 _ _ c.loop.next c.in-Do.act c.in-Do.local c.requires.walker.walks.1 c.loop.invariant.made c.in-Do.is c.loop.invariant.asks)) below

pub returns-in-Err-clause-same : goal.returns-in-Err-clause-same
returns-in-Err-clause-same g c = (c.step_in_turn-given.ensures.same.0 ∙ c.loop.invariant.same, c.step_in_turn-given.ensures.same.1 ∙ c.loop.invariant.worker)

pub step_in_turn-given-requires-clause-own : goal.step_in_turn-given-requires-clause-own
step_in_turn-given-requires-clause-own g c = grind (arith, common_steps)
