use Rattle.std.proofs.Common.{◌∙◌, ◌++◌, ◌+◌, ap, sym, drop, map, arith}
use Rattle.std.proofs.lemmas.List.{append-nil, at_drop_all, at_drop_more}
use Rattle.journal_text.specs.Table.{spaced, Wide}
use Rattle.journal_text.proofs.Spacing.{spaced_none, word_more}
use Rattle.journal_text.proofs.line_text.push_numbers.Goals as goal

pub loop-number-preserved : goal.loop-number-preserved
loop-number-preserved c =
    let i = c.loop-number.number-index in
    record {
      items = word_more c.loop-number.text.items c.push_reserved.new.self.items c.push_number.new.text.items (Wide _) (map Wide (drop (i + 1) c.args.numbers.now)) c.push_reserved.ensures.items c.push_number.ensures.items
          ∙ ap (λ t. c.loop-number.text.items ++ t) (sym (at_drop_more (λ ns. spaced (map Wide ns)) c.args.numbers.now i _ c.loop-number-test.true))
          ∙ c.loop-number.invariant.items;
      len = omega (arith, c.push_number.ensures.len, c.push_reserved.ensures.len, c.loop-number.invariant.len);
      capacity = omega (arith, c.push_number.ensures.capacity, c.push_reserved.ensures.capacity, c.loop-number.invariant.capacity);
      within = omega (arith, c.loop-number-test.true);
    }

pub returns-clause-items : goal.returns-clause-items
returns-clause-items c =
    sym (append-nil c.loop-number.text.items)
    ∙ ap (λ t. c.loop-number.text.items ++ t) (sym (at_drop_all (λ ns. spaced (map Wide ns)) c.args.numbers.now c.loop-number.number-index c.loop-number-test.false ∙ spaced_none))
    ∙ c.loop-number.invariant.items
