use Rattle.std.proofs.Common.{arith}
use Rattle.std.proofs.lemmas.Grind.{common_steps}
use Rattle.queue_table.proofs.SlotWrites.{links-then}
use Rattle.queue_table.proofs.links.link.Goals as goal

pub returns-clause-only : goal.returns-clause-only
returns-clause-only g c =
    links-then _ _ _ c.set_newer.ensures.only (links-then _ _ _ c.set_newer-2.ensures.only (links-then _ _ _ c.set_older.ensures.only c.set_older-2.ensures.only))

pub set_newer-requires : goal.set_newer-requires
set_newer-requires g c = grind (arith, common_steps)

pub returns-clause-newers : goal.returns-clause-newers
returns-clause-newers g c = grind (arith, common_steps)

pub returns-clause-olders : goal.returns-clause-olders
returns-clause-olders g c = grind (arith, common_steps)
