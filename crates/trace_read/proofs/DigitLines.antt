-- A line that is digits alone.
use Rattle.std.proofs.Common.{◌≡◌, ◌∙◌, ◌<◌, ◌^◌, ◌==◌, ℕ, true, false, List, [], ◌∷◌, length, refl, ap, sym, arith, Ok, subst, take, drop, ◌++◌, ◌*◌, ◌+◌, ◌-◌, ◌≤◌, pow-suc, take-take, take-add, length-take-le, length-drop}
use Rattle.std.proofs.lemmas.Bool.{cond-false, and_parts, and_from, and_left, or_from, ne_eqb}
use Rattle.std.proofs.lemmas.Bool.Decides.{nat_tests}
use Rattle.std.specs.Char.{digit_value, is_ascii_digit}
use Rattle.std.specs.Str.{all_ascii_digits, bytes_eq}
use Rattle.std.specs.Str.Parse.{digits_value, digits_value_after}
use Rattle.streams.proofs.Numbers.{a_number}
use Rattle.streams.specs.Blanks.{is_blank, is_empty, trimmed_text, without_back, without_front}
use Rattle.trace_read.specs.Lines.{lirs_keys, one_key}

pub no_blank : (d : ℕ) → is_ascii_digit d ≡ true → is_blank d ≡ false
no_blank d h = grind (arith, nat_tests)

no_star : (ds : List ℕ) → all_ascii_digits ds ≡ true → bytes_eq ds (42 ∷ []) ≡ false
no_star [] h = refl
no_star (d ∷ ds) h =
    let digit : is_ascii_digit d ≡ true = (and_parts (is_ascii_digit d) (all_ascii_digits ds) h).0 in
    let other : (d == 42) ≡ false = grind (arith, nat_tests) in
    and_left _ _ other

front : (ds : List ℕ) → all_ascii_digits ds ≡ true → without_front ds ≡ ds
front [] h = refl
front (d ∷ ds) h = cond-false _ _ _ (no_blank d (and_parts (is_ascii_digit d) (all_ascii_digits ds) h).0)

back : (ds : List ℕ) → all_ascii_digits ds ≡ true → without_back ds ≡ ds
back [] h = refl
back (d ∷ ds) h =
    let parts = and_parts (is_ascii_digit d) (all_ascii_digits ds) h in
    cond-false _ _ _ (and_left (is_blank d) _ (no_blank d parts.0)) ∙ ap (λ t. d ∷ t) (back ds parts.1)

pub trimmed : (ds : List ℕ) → all_ascii_digits ds ≡ true → trimmed_text ds ≡ ds
unfolding trimmed_text
trimmed ds h = ap without_back (front ds h) ∙ back ds h

pub plain_keys : (ds : List ℕ) → 0 < length ds → all_ascii_digits ds ≡ true → digits_value 10 ds < 2 ^ 64
    → lirs_keys (trimmed_text ds) ≡ Ok (digits_value 10 ds ∷ [])
plain_keys ds some digits few =
    let filled : is_empty ds ≡ false = ne_eqb (length ds) 0 (λ e. omega arith) in
    ap lirs_keys (trimmed ds digits) ∙ cond-false _ _ _ (or_from _ _ filled (no_star ds digits)) ∙ ap one_key (sym (a_number ds some digits few))

-- the same of a value that was read
pub plain_read : (ds : List ℕ) (v : ℕ) → 0 < length ds → all_ascii_digits ds ≡ true → v ≡ digits_value 10 ds → v < 2 ^ 64
    → lirs_keys (trimmed_text ds) ≡ Ok (v ∷ [])
plain_read ds v some digits value few = plain_keys ds some digits (subst (λ k. k < 2 ^ 64) value few) ∙ ap (λ k. Ok (k ∷ [])) (sym value)

-- ---- digits, and more of them

digits_join : (xs ys : List ℕ) → all_ascii_digits xs ≡ true → all_ascii_digits ys ≡ true → all_ascii_digits (xs ++ ys) ≡ true
digits_join [] ys h k = k
digits_join (x ∷ xs) ys h k =
    let parts = and_parts (is_ascii_digit x) (all_ascii_digits xs) h in
    and_from _ _ parts.0 (digits_join xs ys parts.1 k)

value_after : (n : ℕ) (ds : List ℕ) → digits_value_after 10 n ds ≡ n * 10 ^ length ds + digits_value 10 ds
value_after n [] = omega arith
value_after n (c ∷ cs) =
    let a = value_after (n * 10 + digit_value c) cs in
    let b = value_after (0 * 10 + digit_value c) cs in
    omega (arith, ap (λ x. n * x) (pow-suc 10 (length cs)))

value_join_after : (n : ℕ) (xs ys : List ℕ) → digits_value_after 10 n (xs ++ ys) ≡ digits_value_after 10 (digits_value_after 10 n xs) ys
value_join_after n [] ys = refl
value_join_after n (x ∷ xs) ys = value_join_after (n * 10 + digit_value x) xs ys

-- two runs of digits that stand one behind the other, the second of eight
pub joined : (text : List ℕ) (n a b : ℕ) → n + 8 ≤ length text → all_ascii_digits (take n text) ≡ true → a ≡ digits_value 10 (take n text)
    → all_ascii_digits (take 8 (take (length text - n) (drop n text))) ≡ true → b ≡ digits_value 10 (take 8 (take (length text - n) (drop n text)))
    → (all_ascii_digits (take (n + 8) text) ≡ true) × (a * 100000000 + b ≡ digits_value 10 (take (n + 8) text))
joined text n a b long first a_is last b_is =
    let size : 8 ≤ length text - n = omega arith in
    let tail : take 8 (take (length text - n) (drop n text)) ≡ take 8 (drop n text) = take-take 8 (length text - n) (drop n text) size in
    let last_ : all_ascii_digits (take 8 (drop n text)) ≡ true = ap all_ascii_digits (sym tail) ∙ last in
    let whole : take (n + 8) text ≡ take n text ++ take 8 (drop n text) = take-add n 8 text in
    let eight : length (take 8 (drop n text)) ≡ 8 = length-take-le 8 (drop n text) (omega (arith, length-drop n text)) in (
      ap all_ascii_digits whole ∙ digits_join (take n text) (take 8 (drop n text)) first last_,
      (λ i. a_is i * 100000000 + (b_is ∙ ap (digits_value 10) tail) i)
          ∙ ap (λ k. digits_value 10 (take n text) * 10 ^ k + digits_value 10 (take 8 (drop n text))) (sym eight)
          ∙ sym (value_join_after 0 (take n text) (take 8 (drop n text)) ∙ value_after (digits_value 10 (take n text)) (take 8 (drop n text)))
          ∙ ap (digits_value 10) (sym whole),
    )
