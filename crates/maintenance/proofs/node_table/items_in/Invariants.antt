use Rattle.std.proofs.Common.{◌≡◌, ◌++◌}
use Rattle.maintenance.specs.NodeTable.{table_items}
use Rattle.maintenance.proofs.node_table.items_in.Given as goal

abbrev pub invariant-loop-key : goal.invariant-loop-key
invariant-loop-key l = l.items.items ++ table_items l.key-iterator ≡ table_items l.nodes.entries
