use Rattle.end_to_end.proofs.Rewinding.{left_by, fewer_undone}
use Rattle.end_to_end.proofs.undone_run.undo.Goals as goal

pub returns-clause-opening : goal.returns-clause-opening
returns-clause-opening c = (left_by c.args.k _ _ c.back-undone.result c.back-undone.ensures.ok c.back-undone.ensures.err).0

pub returns-clause-left : goal.returns-clause-left
returns-clause-left c = (left_by c.args.k _ _ c.back-undone.result c.back-undone.ensures.ok c.back-undone.ensures.err).1

pub returns-clause-redo : goal.returns-clause-redo
returns-clause-redo c = (left_by c.args.k _ _ c.back-undone.result c.back-undone.ensures.ok c.back-undone.ensures.err).2

pub returns-clause-fewer : goal.returns-clause-fewer
returns-clause-fewer c = fewer_undone c.args.k _ _ c.back-undone.result c.back-undone.ensures.err c.back-undone.ensures.past
