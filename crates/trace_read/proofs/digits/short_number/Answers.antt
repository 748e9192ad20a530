use Rattle.std.proofs.Common.{◌∙◌, arith}
use Rattle.trace_read.proofs.Eights.{bytes_of, moved_below, moved_is, moved_digits, moved_up, below_power}
use Rattle.trace_read.proofs.LineFeeds.{first_digits}
use Rattle.trace_read.proofs.digits.short_number.Goals as goal

pub returns-clause-value : goal.returns-clause-value
returns-clause-value c =
    let text = c.args.text.now in
    let fits = bytes_of text (λ k. (c.type_inv.text k).fits) in
    let moved = moved_is text c.args.count c.first_word.result c.requires.text c.requires.count.1 fits c.first_word.ensures in
    let digits = moved_below text c.args.count fits (first_digits text c.args.count (omega (arith, c.requires.text, c.requires.count)) c.requires.digits) in
    c.value_of_eight.ensures _ moved.1 digits moved.0 ∙ (moved_digits text c.args.count fits digits).1

pub returns-clause-below : goal.returns-clause-below
returns-clause-below c =
    let text = c.args.text.now in
    let fits = bytes_of text (λ k. (c.type_inv.text k).fits) in
    let moved = moved_is text c.args.count c.first_word.result c.requires.text c.requires.count.1 fits c.first_word.ensures in
    let digits = moved_below text c.args.count fits (first_digits text c.args.count (omega (arith, c.requires.text, c.requires.count)) c.requires.digits) in
    omega (arith, c.value_of_eight.ensures _ moved.1 digits moved.0, below_power (moved_up text c.args.count) moved.1 digits)
