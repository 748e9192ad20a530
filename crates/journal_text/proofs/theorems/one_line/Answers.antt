use Rattle.journal_text.proofs.Unique.{one_line}
use Rattle.journal_text.proofs.theorems.one_line.Goals as goal

pub returns : goal.returns
returns c = one_line
