use Rattle.std.proofs.Common.{◌≡◌, ◌∙◌, ◌+◌, ◌-◌, ◌≤◌, arith, ap, length, length-drop, length-take, sym, take, drop}
use Rattle.std.specs.Str.Parse.{digits_value}
use Rattle.trace_read.proofs.DigitLines.{joined}
use Rattle.trace_read.proofs.LineFeeds.{digits_behind, first_digits}
use Rattle.trace_read.proofs.digits.longest_number.Goals as goal

pub short_number-last-requires-clause-digits : goal.short_number-last-requires-clause-digits
short_number-last-requires-clause-digits c = digits_behind c.args.text.now (c.args.count - 8) 8 c.args.count (omega (arith, c.requires.count, c.requires.text)) (omega (arith, c.requires.count)) c.requires.digits

pub returns : goal.returns
returns c =
    let text = c.args.text.now in
    let n = c.args.count - 8 in
    let size : n + 8 ≤ length text = omega (arith, c.requires.count, c.requires.text) in
    let whole : c.args.count ≡ n + 8 = omega (arith, c.requires.count) in
    let first = first_digits text n (omega (arith, size)) (λ k less. c.requires.digits k (omega (arith, c.requires.count))) in
    let last = first_digits (take (length text - n) (drop n text)) 8 (omega (arith, size, length-take (length text - n) (drop n text), length-drop n text))
    (digits_behind text n 8 c.args.count size (omega (arith, c.requires.count)) c.requires.digits) in (
      (joined text n c.long_number-upper.result c.short_number-last.result size first c.long_number-upper.ensures.value last c.short_number-last.ensures.value).1
          ∙ ap (λ k. digits_value 10 (take k text)) (sym whole),
      omega (arith, c.if-upper.false, c.short_number-last.ensures.below),
    )
