use Rattle.std.proofs.Common.{arith, sym, ap, ◌∙◌, ◌≡◌, ◌-◌, get_or, true, Some}
use Rattle.std.proofs.lemmas.Bool.Decides.{nat_tests}
use Rattle.std.proofs.lemmas.Int.Digits.{digits_value_more}
use Rattle.std.proofs.lemmas.List.{take_all}
use Rattle.std.specs.Char.{digit_value}
use Rattle.std.specs.Str.{all_ascii_digits}
use Rattle.std.specs.Str.Parse.{digits_value}
use Rattle.streams.proofs.Numbers.{digits_more, empty_is_none, other_is_none, large_is_none, a_number}
use Rattle.streams.proofs.digits.number.Goals as goal

pub returns-then-is_empty : goal.returns-then-is_empty
returns-then-is_empty c = empty_is_none _ (grind (arith, nat_tests))

pub returns-then-not-is_ascii_digit : goal.returns-then-not-is_ascii_digit
returns-then-not-is_ascii_digit c = other_is_none _ _ c.loop-byte-test.true (sym c.if-not-is_ascii_digit.ensures.value)

pub returns-in_err-value : goal.returns-in_err-value
returns-in_err-value c =
    let digit : digit_value (get_or c.args.text.now c.loop-byte.byte-index 0) ≡ get_or c.args.text.now c.loop-byte.byte-index 0 - 48 = grind (arith, nat_tests) in
    c.from_residual.ensures ∙ large_is_none _ _ c.loop-byte-test.true (omega (arith, c.in_err-value.ensures, c.loop-byte.invariant.0))

pub loop-byte-preserved : goal.loop-byte-preserved
loop-byte-preserved c =
    let digit : digit_value (get_or c.args.text.now c.loop-byte.byte-index 0) ≡ get_or c.args.text.now c.loop-byte.byte-index 0 - 48 = grind (arith, nat_tests) in (
      omega (arith, digits_value_more 10 c.args.text.now _ c.loop-byte-test.true, c.in_ok-value.ensures, c.loop-byte.invariant.0),
      digits_more _ _ c.loop-byte-test.true c.loop-byte.invariant.1 (sym c.if-not-is_ascii_digit.ensures.value),
      omega (arith, c.in_ok-value.ensures),
    )

pub returns : goal.returns
returns c =
    let ds = c.args.text.now in
    let all = take_all c.loop-byte.byte-index ds c.loop-byte-test.false in
    let value : c.loop-byte.value ≡ digits_value 10 ds = c.loop-byte.invariant.0 ∙ ap (digits_value 10) all in
    let digits : all_ascii_digits ds ≡ true = sym (ap all_ascii_digits all) ∙ c.loop-byte.invariant.1 in
    ap Some value ∙ a_number ds (grind (arith, nat_tests)) digits (omega arith)
