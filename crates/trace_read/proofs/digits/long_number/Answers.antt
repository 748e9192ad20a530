use Rattle.std.proofs.Common.{subst, length-take-le, ◌^◌, ◌<◌, ◌≡◌, ◌∙◌, ◌+◌, ◌-◌, ◌≤◌, arith, ap, length, length-drop, length-take, sym, take, drop}
use Rattle.std.specs.Str.Parse.{digits_value}
use Rattle.trace_read.proofs.DigitLines.{joined}
use Rattle.trace_read.proofs.LineFeeds.{digits_behind, first_digits, value_below}
use Rattle.trace_read.proofs.digits.long_number.Goals as goal

pub short_number-requires-clause-digits : goal.short_number-requires-clause-digits
short_number-requires-clause-digits c k less = c.requires.digits k (omega (arith, c.requires.count))

pub short_number-requires-2-clause-digits : goal.short_number-requires-2-clause-digits
short_number-requires-2-clause-digits c = digits_behind c.args.text.now (c.args.count - 8) 8 c.args.count (omega (arith, c.requires.count, c.requires.text)) (omega (arith, c.requires.count)) c.requires.digits

pub returns-clause-value : goal.returns-clause-value
returns-clause-value c =
    let text = c.args.text.now in
    let n = c.args.count - 8 in
    let size : n + 8 ≤ length text = omega (arith, c.requires.count, c.requires.text) in
    let whole : c.args.count ≡ n + 8 = omega (arith, c.requires.count) in
    let first = first_digits text n (omega arith) (λ k less. c.requires.digits k (omega (arith, c.requires.count))) in
    let last = first_digits (take (length text - n) (drop n text)) 8 (omega (arith, length-take (length text - n) (drop n text), length-drop n text))
    (digits_behind text n 8 c.args.count size (omega (arith, c.requires.count)) c.requires.digits) in
    (joined text n c.short_number.result c.short_number-2.result size first c.short_number.ensures.value last c.short_number-2.ensures.value).1
    ∙ ap (λ k. digits_value 10 (take k text)) (sym whole)

pub returns-clause-below : goal.returns-clause-below
returns-clause-below c = omega (arith, c.short_number.ensures.below, c.short_number-2.ensures.below)

pub returns-clause-few : goal.returns-clause-few
returns-clause-few c =
    let text = c.args.text.now in
    let within : c.args.count ≤ length text = omega (arith, c.requires.count, c.requires.text) in
    let long : length (take c.args.count text) ≡ c.args.count = length-take-le c.args.count text within in
    subst (λ v. v < 10 ^ c.args.count) (sym (returns-clause-value c)) (subst (λ n. digits_value 10 (take c.args.count text) < 10 ^ n) long (value_below (take c.args.count text) (first_digits text c.args.count within c.requires.digits)))
