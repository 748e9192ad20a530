use Rattle.shell_journal.proofs.JournalSize.{text-size-law}
use Rattle.shell_journal.proofs.theorems.text_size.Goals as goal

pub returns : goal.returns
returns c = text-size-law
