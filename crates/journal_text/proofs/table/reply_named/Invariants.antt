use Rattle.std.proofs.Common.{◌≡◌, drop}
use Rattle.journal_text.specs.Table.{reply_word}
use Rattle.streams.specs.Reads.{first_named}
use Rattle.journal_text.proofs.table.reply_named.Given as goal

abbrev pub invariant-loop-reply : goal.invariant-loop-reply
invariant-loop-reply l = first_named reply_word (drop l.reply-index l.replies) l.word ≡ first_named reply_word l.replies l.word
