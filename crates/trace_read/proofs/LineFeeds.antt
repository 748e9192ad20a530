-- Digits and line feeds by their places.
use Rattle.std.proofs.Common.{subst, map, ◌≡◌, ◌∙◌, ◌<◌, ◌≤◌, ◌+◌, ◌-◌, ◌^◌, ℕ, zero, suc, Bool, true, false, not, List, [], ◌∷◌, length, take, drop, get_or, refl, sym, ap, arith, length-drop, get_or-drop, length-take, take-take, Ok}
use Rattle.std.proofs.lemmas.Int.Digits.{digits_value_is, number_lt}
use Rattle.std.proofs.lemmas.List.{length-map, get_or-take}
use Rattle.std.specs.Int.Digits.{AllBelowBase}
use Rattle.std.proofs.lemmas.Bool.{and_parts, and_from}
use Rattle.std.proofs.lemmas.Bool.Decides.{nat_tests}
use Rattle.std.proofs.lemmas.List.Sums.{position_or_len_is}
use Rattle.std.specs.Char.{digit_value, is_ascii_digit}
use Rattle.std.specs.Str.{all_ascii_digits}
use Rattle.streams.specs.Feeds.{feed_in}
use Rattle.trace_read.specs.DigitRuns.{is_other, AreDigits, DigitsBetween, NoFeedBetween}
use Rattle.std.specs.Str.Parse.{digits_value}
use Rattle.streams.specs.Blanks.{trimmed_text}
use Rattle.trace_read.proofs.DigitLines.{plain_read}
use Rattle.trace_read.specs.Lines.{is_feed, lirs_keys}

-- the first line feed, where it is looked for from a place on
pub feed_at : (bytes : List ℕ) (start end : ℕ) → start ≤ end → end < length bytes → NoFeedBetween bytes start end → get_or bytes end 0 ≡ 10 → end - start ≡ feed_in (drop start bytes)
feed_at bytes start end order within none here = sym (position_or_len_is is_feed (drop start bytes) (end - start) 0 (omega (arith, length-drop start bytes)) before found)
  where
    before : (k : ℕ) → k < end - start → is_feed (get_or (drop start bytes) k 0) ≡ false
    before k l = ap is_feed (get_or-drop start bytes k 0) ∙ none (start + k) (omega arith) (omega arith)

    found : end - start < length (drop start bytes) → is_feed (get_or (drop start bytes) (end - start) 0) ≡ true
    found l = ap is_feed (get_or-drop start bytes (end - start) 0 ∙ ap (λ k. get_or bytes k 0) {y = end} (omega arith) ∙ here)

was_digit : (b : ℕ) → is_other b ≡ false → is_ascii_digit b ≡ true
was_digit b h = by (is_ascii_digit b) h
  where
    by : (d : Bool) → not d ≡ false → d ≡ true
    by true e = refl
    by false e = sym e

digit_no_feed : (b : ℕ) → is_ascii_digit b ≡ true → is_feed b ≡ false
digit_no_feed b h = grind (arith, nat_tests)

pub digits_no_feed : (bytes : List ℕ) (start end : ℕ) → DigitsBetween bytes start end → NoFeedBetween bytes start end
digits_no_feed bytes start end digits k low high = digit_no_feed (get_or bytes k 0) (was_digit (get_or bytes k 0) (digits k low high))

pub digits_here : (bytes : List ℕ) (start end : ℕ) → end ≤ length bytes → DigitsBetween bytes start end → AreDigits (take (length bytes - start) (drop start bytes)) (end - start)
digits_here bytes start end within digits k less =
    ap is_ascii_digit (get_or-take (length bytes - start) (drop start bytes) k 0 (omega arith) ∙ get_or-drop start bytes k 0)
    ∙ was_digit (get_or bytes (start + k) 0) (digits (start + k) (omega arith) (omega arith))

pub digits_behind : (text : List ℕ) (at count more : ℕ) → at + count ≤ length text → at + count ≤ more → AreDigits text more → AreDigits (take (length text - at) (drop at text)) count
digits_behind text at count more within few digits k less =
    ap is_ascii_digit (get_or-take (length text - at) (drop at text) k 0 (omega arith) ∙ get_or-drop at text k 0) ∙ digits (at + k) (omega arith)

pub first_digits : (text : List ℕ) (n : ℕ) → n ≤ length text → AreDigits text n → all_ascii_digits (take n text) ≡ true
first_digits text zero within digits = refl
first_digits [] (suc n) within digits = absurd (omega arith)
first_digits (x ∷ xs) (suc n) within digits = and_from _ _ (digits 0 (omega arith)) (first_digits xs n (omega arith) (λ k less. digits (suc k) (omega arith)))

-- a line of digits, whose number was read from the slice that begins with it
pub read_here : (bytes : List ℕ) (start end v : ℕ) → start < end → end ≤ length bytes → DigitsBetween bytes start end
    → v ≡ digits_value 10 (take (end - start) (take (length bytes - start) (drop start bytes))) → v < 2 ^ 64
    → lirs_keys (trimmed_text (take (end - start) (drop start bytes))) ≡ Ok (v ∷ [])
read_here bytes start end v some within digits value few =
    let slice = take (length bytes - start) (drop start bytes) in
    let long : end - start ≤ length slice = omega (arith, length-take (length bytes - start) (drop start bytes), length-drop start bytes) in
    let same : take (end - start) slice ≡ take (end - start) (drop start bytes) = take-take (end - start) (length bytes - start) (drop start bytes) (omega arith) in
    ap (λ t. lirs_keys (trimmed_text t)) (sym same)
    ∙ plain_read (take (end - start) slice) v (omega (arith, length-take (end - start) slice)) (first_digits slice (end - start) long (digits_here bytes start end within digits)) value few

-- so many digits write a number below that power of ten
pub value_below : (ds : List ℕ) → all_ascii_digits ds ≡ true → digits_value 10 ds < 10 ^ length ds
value_below ds digits =
    let lt = number_lt 10 (map digit_value ds) (values_small ds digits) in
    let is = digits_value_is 10 ds in
    let long : length (map digit_value ds) ≡ length ds = length-map ds digit_value in
    subst (λ n. digits_value 10 ds < 10 ^ n) long (subst (λ v. v < 10 ^ length (map digit_value ds)) (sym is) lt)
  where
    small : (d : ℕ) → is_ascii_digit d ≡ true → digit_value d < 10
    small d h = grind (arith, nat_tests)

    values_small : (xs : List ℕ) → all_ascii_digits xs ≡ true → AllBelowBase 10 (map digit_value xs)
    values_small [] h = tt
    values_small (x ∷ xs) h =
        let parts = and_parts (is_ascii_digit x) (all_ascii_digits xs) h in
        (small x parts.0, values_small xs parts.1)
