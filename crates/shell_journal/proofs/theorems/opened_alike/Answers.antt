use Rattle.shell_journal.proofs.Alike.{alike}
use Rattle.shell_journal.proofs.theorems.opened_alike.Goals as goal

pub returns : goal.returns
returns c = alike
