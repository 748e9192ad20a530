use Rattle.std.proofs.Common.{◌∙◌, sym}
use Rattle.journal_text.specs.Journal.{header}
use Rattle.journal_text.proofs.Fronts.{header_lacks, same_line}
use Rattle.journal_text.proofs.replay.header_of.Goals as goal

pub returns-in_err-version_of : goal.returns-in_err-version_of
returns-in_err-version_of c =
    rw c.from_residual-in_err-version_of.ensures (λ v more e.
    c.in_err-version_of.ensures v
    (same_line c.in_ok-text.text.now (header v) c.in_ok-text.behind.now more c.in_ok-text.ensures.0 (header_lacks v) (sym c.in_ok-text.ensures.1 ∙ e)).0)
