use Rattle.queue_table.proofs.SlotWrites.{links-then}
use Rattle.queue_table.proofs.links.unlink.Goals as goal

pub returns-clause-only : goal.returns-clause-only
returns-clause-only g c = links-then _ _ _ c.set_newer.ensures.only c.set_older.ensures.only
