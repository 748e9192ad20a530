use Rattle.std.proofs.Common.{◌∙◌, ◌++◌, [], ap, sym}
use Rattle.std.proofs.lemmas.List.{append-nil}
use Rattle.journal_text.specs.Table.{Named}
use Rattle.journal_text.proofs.Spacing.{spaced_none, word_more}
use Rattle.journal_text.proofs.line_text.push_name.Goals as goal

pub returns-clause-items : goal.returns-clause-items
returns-clause-items c =
    let new = c.push_bytes.new.text.items in
    sym (append-nil new) ∙ ap (λ t. new ++ t) (sym spaced_none)
    ∙ word_more c.args.text.now.items c.push_reserved.new.self.items new (Named c.args.name.now) [] c.push_reserved.ensures.items c.push_bytes.ensures.items
