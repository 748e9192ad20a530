use Rattle.std.proofs.Common.{◌∙◌}
use Rattle.maintenance.proofs.Tables.{found}
use Rattle.maintenance.proofs.node_table.NodeTable.node_of.Goals as goal

pub returns : goal.returns
returns c = rw (← c.self.view_is) (c.copied.ensures ∙ c.get.ensures.value ∙ found c.args.key _)
