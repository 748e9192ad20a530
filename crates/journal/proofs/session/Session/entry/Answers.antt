use Rattle.std.proofs.Common.{arith}
use Rattle.std.proofs.lemmas.Grind.{elements}
use Rattle.journal.proofs.session.Session.entry.Goals as goal

pub returns : goal.returns
returns g c = grind (arith, elements)
