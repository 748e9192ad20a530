use Rattle.std.proofs.Common.{◌∙◌, ◌++◌, ◌∷◌, [], ap, sym}
use Rattle.journal_text.specs.Table.{act_word, act_words, behind, spaced, Named}
use Rattle.journal_text.proofs.Spacing.{act_front, name_more}
use Rattle.journal_text.proofs.line_text.push_act.Goals as goal

pub returns-clause-items : goal.returns-clause-items
returns-clause-items c =
    name_more c.args.text.now.items c.push_name.new.text.items c.push_act_numbers.new.text.items (act_word c.args.act) (behind (act_words c.args.act))
    (c.push_name.ensures.items ∙ ap (λ n. c.args.text.now.items ++ spaced (Named n ∷ [])) c.act_word.ensures.word) c.push_act_numbers.ensures.items
    ∙ ap (λ ws. c.args.text.now.items ++ spaced ws) (sym (act_front c.args.act))
