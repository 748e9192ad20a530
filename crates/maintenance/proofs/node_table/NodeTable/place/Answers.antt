use Rattle.std.proofs.Common.{◌∙◌, ap}
use Rattle.maintenance.specs.NodeTable.{table_items}
use Rattle.maintenance.proofs.Tables.{entry-placed, ascending}
use Rattle.maintenance.proofs.node_table.NodeTable.place.Goals as goal

pub invariant_of-self-2 : goal.invariant_of-self-2
invariant_of-self-2 c = ascending _ c.insert.ensures.ordered

pub returns-clause-ok : goal.returns-clause-ok
returns-clause-ok c = rw (← c.self.view_is) (ap table_items c.in_ok-insert.ensures.entries ∙ entry-placed c.args.item.key c.args.item.node _ (rw (← c.self.view_is) at c.requires))
