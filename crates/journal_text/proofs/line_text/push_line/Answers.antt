use Rattle.std.proofs.Common.{◌∙◌, ◌++◌, ◌∷◌, [], ap, codes, sym}
use Rattle.std.specs.Fmt.{decimal}
use Rattle.journal_text.specs.Table.{text_of, Named, Wide}
use Rattle.journal_text.proofs.Spacing.{entry_more, words_more}
use Rattle.journal_text.proofs.line_text.push_line.Goals as goal

pub returns-in-Made-clause-items : goal.returns-in-Made-clause-items
unfolding text_of
returns-in-Made-clause-items c =
    let old = c.args.text.now.items in
    entry_more old c.push_number.new.text.items c.push_act.new.text.items c.push_name.new.text.items c.push_reply.new.text.items c.in-Made.entry
    (c.push_number.ensures.items ∙ ap (λ n. old ++ decimal n) (c.from.ensures ∙ c.number.ensures.number))
    c.push_act.ensures.items c.push_name.ensures.items c.push_reply.ensures.items
    ∙ ap (λ l. old ++ text_of l) (sym c.in-Made.is)

pub returns-in-Steps-clause-items : goal.returns-in-Steps-clause-items
unfolding text_of
returns-in-Steps-clause-items c =
    let old = c.args.text.now.items in
    words_more old c.push_bytes.new.text.items c.push_numbers.new.text.items (Named (codes "steps")) (Wide c.in-Steps.count ∷ []) c.push_bytes.ensures.items c.push_numbers.ensures.items
    ∙ ap (λ l. old ++ text_of l) (sym c.in-Steps.is)
