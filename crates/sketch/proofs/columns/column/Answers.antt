use Rattle.std.proofs.Common.{sym}
use Rattle.std.proofs.lemmas.Bool.{eqb-true}
use Rattle.sketch.specs.Columns.{column_below}
use Rattle.sketch.proofs.Masks.{power_of}
use Rattle.sketch.proofs.columns.column.Goals as goal

pub masked-requires-clause-power : goal.masked-requires-clause-power
masked-requires-clause-power c = power_of c.args.width (eqb-true _ _ (sym c.if-is_power_of_two.ensures))

pub returns-then-is_power_of_two-clause-below : goal.returns-then-is_power_of_two-clause-below
returns-then-is_power_of_two-clause-below c = rw c.masked.ensures (column_below c.args.spread c.args.key c.args.row c.args.width c.requires.some)

pub returns-else-is_power_of_two-clause-below : goal.returns-else-is_power_of_two-clause-below
returns-else-is_power_of_two-clause-below c = rw c.column_by_division.ensures (column_below c.args.spread c.args.key c.args.row c.args.width c.requires.some)
