-- When a text is a number.
use Rattle.std.proofs.Common.{◌≡◌, ◌<◌, ◌≤◌, ◌^◌, ◌*◌, ◌+◌, ◌&&◌, ℕ, zero, suc, true, false, List, [], ◌∷◌, length, get_or, take, ap, sym, ◌∙◌, refl, arith, Some, None}
use Rattle.std.proofs.lemmas.Bool.{cond-true, cond-false, and_parts, and_left, and_right, and_from, lt-ltb, le-ltb}
use Rattle.std.proofs.lemmas.Int.Digits.{digits_value_more}
use Rattle.std.proofs.lemmas.Str.Parse.{digits_value-take-le}
use Rattle.std.specs.Char.{is_ascii_digit, digit_value}
use Rattle.std.specs.Prelude.{nat_lt}
use Rattle.std.specs.Str.{all_ascii_digits}
use Rattle.std.specs.Str.Parse.{digits_value}
use Rattle.streams.specs.Numbers.{number_of}

digits_next : (ds : List ℕ) (i : ℕ) → i < length ds → all_ascii_digits (take i ds) ≡ true
    → is_ascii_digit (get_or ds i 0) ≡ true → all_ascii_digits (take (suc i) ds) ≡ true
digits_next [] i inside before here = absurd (omega arith)
digits_next (d ∷ ds) zero inside before here = and_from _ _ here refl
digits_next (d ∷ ds) (suc i) inside before here =
    let parts = and_parts (is_ascii_digit d) (all_ascii_digits (take i ds)) before in
    and_from _ _ parts.0 (digits_next ds i (omega arith) parts.1 here)

-- One more digit.
pub digits_more : (ds : List ℕ) (i : ℕ) → i < length ds → all_ascii_digits (take i ds) ≡ true
    → is_ascii_digit (get_or ds i 0) ≡ true → all_ascii_digits (take (i + 1) ds) ≡ true
digits_more ds i inside before here =
    let next : i + 1 ≡ suc i = omega arith in
    ap (λ k. all_ascii_digits (take k ds)) next ∙ digits_next ds i inside before here

one_is_none : (ds : List ℕ) (i : ℕ) → i < length ds → is_ascii_digit (get_or ds i 0) ≡ false → all_ascii_digits ds ≡ false
one_is_none [] i inside fails = absurd (omega arith)
one_is_none (d ∷ ds) zero inside fails = and_left _ _ fails
one_is_none (d ∷ ds) (suc i) inside fails = and_right _ _ (one_is_none ds i (omega arith) fails)

no_number : (ds : List ℕ) → (all_ascii_digits ds && nat_lt (digits_value 10 ds) (2 ^ 64)) ≡ false → None ≡ number_of ds
unfolding number_of
no_number ds e = sym (cond-false _ _ _ (and_right _ _ e))

pub empty_is_none : (ds : List ℕ) → length ds ≡ 0 → None ≡ number_of ds
unfolding number_of
empty_is_none ds e = sym (cond-false _ _ _ (and_left _ _ (le-ltb 0 (length ds) (omega arith))))

pub other_is_none : (ds : List ℕ) (i : ℕ) → i < length ds → is_ascii_digit (get_or ds i 0) ≡ false → None ≡ number_of ds
other_is_none ds i inside fails = no_number ds (and_left _ _ (one_is_none ds i inside fails))

-- Where the first digits are too many, all are.
pub large_is_none : (ds : List ℕ) (i : ℕ) → i < length ds
    → 2 ^ 64 ≤ digits_value 10 (take i ds) * 10 + digit_value (get_or ds i 0) → None ≡ number_of ds
large_is_none ds i inside large =
    let most = digits_value-take-le 10 ds (i + 1) (omega arith) in
    no_number ds (and_right _ _ (le-ltb (digits_value 10 ds) (2 ^ 64) (omega (arith, digits_value_more 10 ds i inside, most))))

pub a_number : (ds : List ℕ) → 0 < length ds → all_ascii_digits ds ≡ true → digits_value 10 ds < 2 ^ 64
    → Some (digits_value 10 ds) ≡ number_of ds
unfolding number_of
a_number ds some digits few = sym (cond-true _ _ _ (and_from _ _ (lt-ltb _ _ some) (and_from _ _ digits (lt-ltb _ _ few))))
