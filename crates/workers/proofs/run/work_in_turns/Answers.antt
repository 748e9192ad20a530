use Rattle.std.proofs.Common.{◌∙◌}
use Rattle.std.proofs.lemmas.List.{drop_all}
use Rattle.shell_model.proofs.Coming.{walked}
use Rattle.shell_model.proofs.Joining.{joined, one_walk, cut_walk, all_walks, drop_item}
use Rattle.workers.proofs.Turning.{on_ok_at, if_err_at}
use Rattle.shell_model.proofs.Walking.{known}
use Rattle.workers.proofs.run.work_in_turns.Goals as goal

pub loop-n-preserved : goal.loop-n-preserved
loop-n-preserved g c =
    let walk = on_ok_at _ _ _ c.in_default.is c.walk_in_turns-given.ensures.ok in
    record {
      same = c.walk_in_turns-given.ensures.same.0 ∙ c.loop-n.invariant.same;
      worker = c.walk_in_turns-given.ensures.same.1;
      within = walk.1;
      walks = walked c.args.worker c.args.stripes _ c.loop-n.invariant.walks.0 _ _ c.loop-n.invariant.walks.1 walk.0;
      made = joined _ _ _ _ _ _ c.loop-n.invariant.made walk.0 (one_walk c.args.worker c.args.stripes c.args.calls.now _ _ _ (drop_item c.args.calls.now c.loop-n.n _ c.loop-n-test.true));
    }

-- the worker can go on behind each walk
pub walk_in_turns-given-requires-clause-walker : goal.walk_in_turns-given-requires-clause-walker
walk_in_turns-given-requires-clause-walker g c =
    let walker = c.requires.walker in
    record {
      own = c.loop-n.invariant.same ∙ walker.own;
      worker_is = c.loop-n.invariant.worker;
      admits = walker.admits;
      walks = c.loop-n.invariant.walks;
      stripes_in = walker.stripes_in;
      within = c.loop-n.invariant.within;
      turns = walker.turns;
    }

pub returns-in-Err-clause-err : goal.returns-in-Err-clause-err
returns-in-Err-clause-err g c =
    joined _ _ _ _ _ _ c.loop-n.invariant.made (if_err_at _ _ _ c.in-Err.is c.walk_in_turns-given.ensures.err).0 (cut_walk c.args.worker c.args.stripes c.args.calls.now _ _ _ (drop_item c.args.calls.now c.loop-n.n _ c.loop-n-test.true))

pub returns-in-Err-clause-refused : goal.returns-in-Err-clause-refused
returns-in-Err-clause-refused g c = (if_err_at _ _ _ c.in-Err.is c.walk_in_turns-given.ensures.err).1

pub returns-in-Err-clause-same : goal.returns-in-Err-clause-same
returns-in-Err-clause-same g c = c.walk_in_turns-given.ensures.same.0 ∙ c.loop-n.invariant.same

pub returns-clause-ok : goal.returns-clause-ok
returns-clause-ok g c =
    known _ _ _ _ (all_walks c.args.worker c.args.stripes c.args.calls.now _ (drop_all c.loop-n.n c.args.calls.now c.loop-n-test.false)) c.loop-n.invariant.made
