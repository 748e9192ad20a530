use Rattle.journal_text.proofs.Unique.{one_journal}
use Rattle.journal_text.proofs.theorems.one_journal.Goals as goal

pub returns : goal.returns
returns c = one_journal
