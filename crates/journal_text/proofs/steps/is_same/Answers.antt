use Rattle.std.proofs.Common.{◌∙◌, sym}
use Rattle.journal_text.proofs.Replies.{same_reply}
use Rattle.journal_text.proofs.steps.is_same.Goals as goal

pub returns-clause-same : goal.returns-clause-same
returns-clause-same c h = same_reply c.args.reply c.args.other (sym c.eq.ensures ∙ h)
