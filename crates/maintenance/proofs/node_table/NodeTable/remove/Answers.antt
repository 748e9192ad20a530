use Rattle.std.proofs.Common.{◌∙◌, ap}
use Rattle.maintenance.specs.NodeTable.{table_items}
use Rattle.maintenance.proofs.Tables.{entry-removed, ascending}
use Rattle.maintenance.proofs.node_table.NodeTable.remove.Goals as goal

pub invariant_of-self : goal.invariant_of-self
invariant_of-self c = ascending _ c.remove.ensures.ordered

pub returns : goal.returns
returns c = rw (← c.self.view_is) (ap table_items c.remove.ensures.entries ∙ entry-removed c.args.item _ c.self.invariant (rw (← c.self.view_is) at c.requires))
