-- A line of the ARC format with one space or tab between its two numbers.
use Rattle.std.proofs.Common.{◌≡◌, ◌∙◌, ◌<◌, ◌≤◌, ◌+◌, ◌-◌, ◌^◌, ◌&&◌, ℕ, zero, suc, Bool, true, false, cond, List, [], ◌∷◌, ◌++◌, length, take, drop, get_or, refl, ap, sym, subst, arith, inl, inr, Some, ◌⊎◌, take-add, drop-drop, length-append, length-take-le, length-drop}
use Rattle.std.proofs.Math.Seq.{drop-append_seam, drop-cons, take-append_seam}
use Rattle.std.proofs.lemmas.Bool.{cond-true, cond-false, and_parts, and_left, and_right, ne_eqb}
use Rattle.std.proofs.lemmas.Bool.Decides.{nat_tests}
use Rattle.std.proofs.lemmas.List.Sums.{position_or_len_is}
use Rattle.std.specs.Char.{is_ascii_digit}
use Rattle.std.specs.List.{position_or_len}
use Rattle.std.specs.Str.{all_ascii_digits}
use Rattle.std.specs.Str.Parse.{digits_value}
use Rattle.streams.proofs.Numbers.{a_number}
use Rattle.streams.specs.Blanks.{is_blank, is_empty, trimmed_text, without_back, without_front}
use Rattle.streams.specs.Numbers.{number_of}
use Rattle.trace_read.proofs.DigitLines.{no_blank}
use Rattle.trace_read.specs.Lines.{arc_keys, first_field, is_feed, is_gap, later_fields, run_of, without_gap}

-- nothing, or what begins with a gap
abbrev pub EndsField : List ℕ → Type 0
EndsField [] = Unit {0}
EndsField (g ∷ rest) = is_gap g ≡ true

no_gap : (d : ℕ) → is_ascii_digit d ≡ true → is_gap d ≡ false
no_gap d h = grind (arith, nat_tests)

pub gap_no_feed : (g : ℕ) → is_gap g ≡ true → is_feed g ≡ false
gap_no_feed g h = grind (arith, nat_tests)

-- ---- blanks

kept_front : (ds rest : List ℕ) → 0 < length ds → all_ascii_digits ds ≡ true → without_front (ds ++ rest) ≡ ds ++ rest
kept_front [] rest some h = absurd (omega arith)
kept_front (d ∷ ds) rest some h = cond-false _ _ _ (no_blank d (and_parts (is_ascii_digit d) (all_ascii_digits ds) h).0)

kept_back : (ds rest : List ℕ) → all_ascii_digits ds ≡ true → without_back (ds ++ rest) ≡ ds ++ without_back rest
kept_back [] rest h = refl
kept_back (d ∷ ds) rest h =
    let parts = and_parts (is_ascii_digit d) (all_ascii_digits ds) h in
    cond-false _ _ _ (and_left (is_blank d) _ (no_blank d parts.0)) ∙ ap (λ t. d ∷ t) (kept_back ds rest parts.1)

filled : (ds rest : List ℕ) → 0 < length ds → is_empty (ds ++ rest) ≡ false
filled ds rest some = ne_eqb (length (ds ++ rest)) 0 (λ e. omega (arith, length-append ds rest))

-- a gap stays where digits stand behind it
kept_gap : (g : ℕ) (ds rest : List ℕ) → 0 < length ds → all_ascii_digits ds ≡ true → without_back (g ∷ (ds ++ rest)) ≡ g ∷ (ds ++ without_back rest)
kept_gap g ds rest some h =
    let back = kept_back ds rest h in
    cond-false _ _ _ (and_right (is_blank g) _ (ap is_empty back ∙ filled ds (without_back rest) some)) ∙ ap (λ t. g ∷ t) back

field_ends : (rest : List ℕ) → EndsField rest → EndsField (without_back rest)
field_ends [] h = tt
field_ends (g ∷ gs) h = by (is_blank g && is_empty (without_back gs))
  where
    by : (b : Bool) → EndsField (cond b [] (g ∷ without_back gs))
    by true = tt
    by false = h

-- ---- fields

no_gap_before : (ds rest : List ℕ) → all_ascii_digits ds ≡ true → (k : ℕ) → k < length ds → is_gap (get_or (ds ++ rest) k 0) ≡ false
no_gap_before [] rest h k l = absurd (omega arith)
no_gap_before (d ∷ ds) rest h zero l = no_gap d (and_parts (is_ascii_digit d) (all_ascii_digits ds) h).0
no_gap_before (d ∷ ds) rest h (suc k) l = no_gap_before ds rest (and_parts (is_ascii_digit d) (all_ascii_digits ds) h).1 k (omega arith)

gap_behind : (ds rest : List ℕ) → EndsField rest → length ds < length (ds ++ rest) → is_gap (get_or (ds ++ rest) (length ds) 0) ≡ true
gap_behind [] [] e l = absurd (omega arith)
gap_behind [] (g ∷ rest) e l = e
gap_behind (d ∷ ds) rest e l = gap_behind ds rest e (omega arith)

field_place : (ds rest : List ℕ) → all_ascii_digits ds ≡ true → EndsField rest → position_or_len is_gap (ds ++ rest) ≡ length ds
field_place ds rest h e = position_or_len_is is_gap (ds ++ rest) (length ds) 0 (omega (arith, length-append ds rest)) (no_gap_before ds rest h) (gap_behind ds rest e)

field_is : (ds rest : List ℕ) → all_ascii_digits ds ≡ true → EndsField rest → first_field (ds ++ rest) ≡ ds
field_is ds rest h e = ap (λ k. take k (ds ++ rest)) (field_place ds rest h e) ∙ take-append_seam ds rest

past_none : (ds rest : List ℕ) → 0 < length ds → all_ascii_digits ds ≡ true → without_gap (ds ++ rest) ≡ ds ++ rest
past_none [] rest some h = absurd (omega arith)
past_none (d ∷ ds) rest some h = cond-false _ _ _ (no_gap d (and_parts (is_ascii_digit d) (all_ascii_digits ds) h).0)

-- ---- the line

module _ (first second rest : List ℕ) (gap : ℕ) (some : 0 < length first) (digits : all_ascii_digits first ≡ true) (few : digits_value 10 first < 2 ^ 64)
    (some_ : 0 < length second) (digits_ : all_ascii_digits second ≡ true) (few_ : digits_value 10 second < 2 ^ 64) (is_one : is_gap gap ≡ true) (ends : EndsField (without_back rest)) where
  abbrev tail : List ℕ
  tail = second ++ without_back rest

  abbrev text : List ℕ
  text = first ++ gap ∷ tail

  trimmed : trimmed_text (first ++ gap ∷ (second ++ rest)) ≡ text
  unfolding trimmed_text
  trimmed = ap without_back (kept_front first (gap ∷ (second ++ rest)) some digits) ∙ kept_back first (gap ∷ (second ++ rest)) digits
      ∙ ap (λ t. first ++ t) (kept_gap gap second rest some_ digits_)

  later : later_fields text ≡ tail
  later = ap (λ k. without_gap (drop k text)) (field_place first (gap ∷ tail) digits is_one) ∙ ap without_gap (drop-append_seam first (gap ∷ tail))
      ∙ cond-true _ _ _ is_one ∙ past_none second (without_back rest) some_ digits_

  first_is : number_of (first_field text) ≡ Some (digits_value 10 first)
  first_is = ap number_of (field_is first (gap ∷ tail) digits is_one) ∙ sym (a_number first some digits few)

  second_is : number_of (first_field (later_fields text)) ≡ Some (digits_value 10 second)
  second_is = ap (λ t. number_of (first_field t)) later ∙ ap number_of (field_is second (without_back rest) digits_ ends) ∙ sym (a_number second some_ digits_ few_)

  run_line : arc_keys (trimmed_text (first ++ gap ∷ (second ++ rest))) ≡ run_of (Some (digits_value 10 first)) (Some (digits_value 10 second))
  run_line = ap arc_keys trimmed ∙ cond-false _ _ _ (filled first (gap ∷ tail) some) ∙ cond-false _ _ _ (ap is_empty later ∙ filled second (without_back rest) some_)
      ∙ (λ i. run_of (first_is i) (second_is i))

-- ---- the same of the first bytes of a text

ends_at : (xs : List ℕ) (i r : ℕ) → (0 < r → is_gap (get_or xs i 0) ≡ true) → EndsField (take r (drop i xs))
ends_at xs i zero h = tt
ends_at [] zero (suc r) h = tt
ends_at [] (suc i) (suc r) h = tt
ends_at (x ∷ xs) zero (suc r) h = h (omega arith)
ends_at (x ∷ xs) (suc i) (suc r) h = ends_at xs i (suc r) h

-- a carriage return (13) is trimmed
return_gone : (xs : List ℕ) (i : ℕ) → get_or xs i 0 ≡ 13 → EndsField (without_back (take 1 (drop i xs)))
return_gone [] zero is = tt
return_gone [] (suc i) is = tt
return_gone (x ∷ xs) zero is = subst (λ b. EndsField (without_back (b ∷ []))) (sym is) tt
return_gone (x ∷ xs) (suc i) is = return_gone xs i is

pub ends_by : (xs : List ℕ) (i r : ℕ) → (0 < r → (is_gap (get_or xs i 0) ≡ true) ⊎ ((get_or xs i 0 ≡ 13) × (r ≡ 1))) → EndsField (without_back (take r (drop i xs)))
ends_by xs i zero h = tt
ends_by xs i (suc r) h = elim (h (omega arith)) [
  | inl gap ↦ field_ends (take (suc r) (drop i xs)) (ends_at xs i (suc r) (λ l. gap))
  | inr last ↦ subst (λ k. EndsField (without_back (take k (drop i xs)))) (sym last.1) (return_gone xs i last.0)
]

module _ (text : List ℕ) (len n m : ℕ) (some : 0 < n) (some_ : 0 < m) (within : n + 1 + m ≤ len) (long : len ≤ length text) where
  abbrev left : ℕ
  left = len - (n + 1 + m)

  cut : take len text ≡ take n text ++ get_or text n 0 ∷ (take m (drop (n + 1) text) ++ take left (drop (n + 1 + m) text))
  cut =
      let more : len ≡ n + (len - n) = omega arith in
      let one : len - n ≡ suc (m + left) = omega arith in
      let next : suc n ≡ n + 1 = omega arith in
      ap (λ k. take k text) more ∙ take-add n (len - n) text
      ∙ ap (λ t. take n text ++ t) (ap (λ k. take k (drop n text)) one ∙ ap (take (suc (m + left))) (drop-cons text n 0 (omega arith))
      ∙ ap (λ t. get_or text n 0 ∷ t) (ap (λ k. take (m + left) (drop k text)) next ∙ take-add m left (drop (n + 1) text)
      ∙ ap (λ t. take m (drop (n + 1) text) ++ t) (ap (λ t. take left t) (drop-drop m (n + 1) text))))

  pub run_at : (a b : ℕ) → a < 2 ^ 64 → b < 2 ^ 64 → all_ascii_digits (take n text) ≡ true → a ≡ digits_value 10 (take n text) → is_gap (get_or text n 0) ≡ true
      → all_ascii_digits (take m (drop (n + 1) text)) ≡ true → b ≡ digits_value 10 (take m (drop (n + 1) text))
      → EndsField (without_back (take (len - (n + 1 + m)) (drop (n + 1 + m) text)))
      → arc_keys (trimmed_text (take len text)) ≡ run_of (Some a) (Some b)
  run_at a b few few_ digits a_is gap digits_ b_is ends =
      let one : length (take n text) ≡ n = length-take-le n text (omega arith) in
      let two : length (take m (drop (n + 1) text)) ≡ m = length-take-le m (drop (n + 1) text) (omega (arith, length-drop (n + 1) text)) in
      ap (λ t. arc_keys (trimmed_text t)) cut
      ∙ run_line (take n text) (take m (drop (n + 1) text)) (take left (drop (n + 1 + m) text)) (get_or text n 0) (omega (arith, one)) digits (omega (arith, a_is)) (omega (arith, two)) digits_ (omega (arith, b_is)) gap
      ends
      ∙ (λ i. run_of (Some (sym a_is i)) (Some (sym b_is i)))
