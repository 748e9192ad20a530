use Rattle.queue_table.proofs.Runs.{turns-fit-next, turns-back-next}
use Rattle.queue_table.proofs.undo.KeyQueues.undo_run.Goals as goal

pub undo_turn-requires-clause-count : goal.undo_turn-requires-clause-count
undo_turn-requires-clause-count c = (turns-fit-next _ _ _ _ _ _ c.loop-turn-test.true c.loop-turn.invariant.fits).0

pub loop-turn-preserved : goal.loop-turn-preserved
loop-turn-preserved c = turns-back-next _ _ _ _ _ _ _ _ c.loop-turn-test.true c.loop-turn.invariant c.undo_turn.ensures
