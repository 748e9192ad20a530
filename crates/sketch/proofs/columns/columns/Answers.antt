use Rattle.std.proofs.Common.{◌<◌, refl}
use Rattle.std.proofs.lemmas.Nat.{pow_pos}
use Rattle.sketch.proofs.Tables.{columns_below}
use Rattle.sketch.proofs.columns.columns.Goals as goal

pub returns-clause-value : goal.returns-clause-value
returns-clause-value c = rw (c.masked.ensures, c.masked-2.ensures, c.masked-3.ensures, c.masked-4.ensures) refl

pub returns-clause-below : goal.returns-clause-below
returns-clause-below c =
    let some : 0 < c.args.width = rw c.requires.power.1 (pow_pos c.requires.power.0) in
    columns_below c.args.width c.args.spread some c.args.key _ (returns-clause-value c)
