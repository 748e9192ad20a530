use Rattle.std.proofs.Common.{◌≡◌, drop}
use Rattle.journal_text.specs.Table.{act_word}
use Rattle.streams.specs.Reads.{first_named}
use Rattle.journal_text.proofs.table.act_named.Given as goal

abbrev pub invariant-loop-act : goal.invariant-loop-act
invariant-loop-act l = first_named act_word (drop l.act-index l.acts) l.word ≡ first_named act_word l.acts l.word
