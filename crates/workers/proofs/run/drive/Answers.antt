use Rattle.std.proofs.lemmas.Grind.{common_steps, elements}
use Rattle.std.proofs.Common.{rules, arith, ◌≤◌, map, vec_items, sym, ap, subst, ◌∙◌}
use Rattle.std.proofs.lemmas.List.{length-map}
use Rattle.engine_base.specs.declared.worker.TheConstants.{MAX_WORKERS}
use Rattle.workers.specs.DriveFaults.{CanRun}
use Rattle.workers.specs.Runs.{IsRunUpTo}
use Rattle.workers.proofs.RunResults.{whole_run, free_of}
use Rattle.workers.proofs.run.drive.Goals as goal
use Rattle.workers.proofs.run.drive.Goals.{After-as_slice, In-Ok}

-- what was looked at before the run began: so many workers can run
can-run : (g : _) (c : goal.After-as_slice g) → CanRun (map (λ p. vec_items p) c.args.pieces.items) c.args.session.engine
can-run g c =
    let many = length-map c.args.pieces.items (λ p. vec_items p) in
    let ok = c.args.pieces.ok.0 in
    let len = c.len-workers.ensures in
    let some : 1 ≤ c.len-workers.result = search rules in
    let few : c.len-workers.result ≤ MAX_WORKERS = search rules in
    record {
      some = omega arith;
      few = omega arith;
      free = ap (λ x. x.holder) (sym c.engine.ensures.engine) ∙ free_of _ _ (sym c.holder.ensures ∙ c.in_default.is);
    }

-- the run over the pieces that were handed in
run-of : (g : _) (c : goal.In-Ok g) → IsRunUpTo c.in-Ok.cause c.args.session.engine.config.stripes (map (λ p. vec_items p) c.args.pieces.items) c.args.session c.in-Ok.session
run-of g c = subst (λ ps. IsRunUpTo c.in-Ok.cause c.args.session.engine.config.stripes (map (λ p. vec_items p) ps) c.args.session c.in-Ok.session) c.as_slice.ensures.value c.in-Ok.ensures.run

pub returns-in-None-clause-run : goal.returns-in-None-clause-run
returns-in-None-clause-run g c = whole_run _ _ _ _ _ c.in-None.is (run-of g (goal.at.returns-in-None-clause-run g c).In-Ok)

pub returns-in-None-clause-accepted : goal.returns-in-None-clause-accepted
returns-in-None-clause-accepted g c = can-run g (goal.at.returns-in-None-clause-accepted g c).After-as_slice

pub returns-clause-fault : goal.returns-clause-fault
returns-clause-fault g c = (
  can-run g (goal.at.returns-clause-fault g c).After-as_slice,
  c.in-Ok.ensures.legal,
  subst (λ o. IsRunUpTo o c.args.session.engine.config.stripes (map (λ p. vec_items p) c.args.pieces.items) c.args.session c.in-Ok.session) c.in-Some-cause.is (run-of g (goal.at.returns-clause-fault g c).In-Ok),
  c.len-earlier.ensures.len,
)

pub returns-in-Err-clause-fault : goal.returns-in-Err-clause-fault
returns-in-Err-clause-fault g c = (c.in-Err.ensures.err, can-run g (goal.at.returns-in-Err-clause-fault g c).After-as_slice)

pub returns-in-Some-clause-fault : goal.returns-in-Some-clause-fault
returns-in-Some-clause-fault g c = grind (arith, elements)

pub returns-then-workers-eq0-clause-fault : goal.returns-then-workers-eq0-clause-fault
returns-then-workers-eq0-clause-fault g c = grind (arith, common_steps)

pub run_workers-requires : goal.run_workers-requires
run_workers-requires g c =
    let can : CanRun (map (λ p. vec_items p) c.as_slice.result.now) c.args.session.engine =
    subst (λ ps. CanRun (map (λ p. vec_items p) ps) c.args.session.engine) (sym c.as_slice.ensures.value) (can-run g (goal.at.run_workers-requires g c).After-as_slice) in
    search rules
