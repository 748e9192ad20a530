use Rattle.std.proofs.Common.{◌∙◌, ◌++◌, ◌∷◌, [], ap, sym}
use Rattle.journal_text.specs.Table.{behind, reply_word, reply_words, spaced, Named}
use Rattle.journal_text.proofs.Spacing.{name_more, reply_front}
use Rattle.journal_text.proofs.line_text.push_reply.Goals as goal

pub returns-clause-items : goal.returns-clause-items
returns-clause-items c =
    name_more c.args.text.now.items c.push_name.new.text.items c.push_reply_numbers.new.text.items (reply_word c.args.reply) (behind (reply_words c.args.reply))
    (c.push_name.ensures.items ∙ ap (λ n. c.args.text.now.items ++ spaced (Named n ∷ [])) c.reply_word.ensures.word) c.push_reply_numbers.ensures.items
    ∙ ap (λ ws. c.args.text.now.items ++ spaced ws) (sym (reply_front c.args.reply))
