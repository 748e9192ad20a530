-- Bytes that are no digits, as the bits of a word.
use Rattle.std.proofs.Common.{◌≡◌, ◌∙◌, ◌<◌, ◌≤◌, ◌+◌, ◌-◌, ◌*◌, ◌/◌, ◌^◌, ◌%◌, leb, replicate, ℕ, zero, suc, Bool, true, false, not, cond, List, [], ◌∷◌, map, length, take, drop, refl, sym, ap, arith, inl, inr, drop-drop, take-take}
use Rattle.std.proofs.lemmas.Bool.{cases_lt}
use Rattle.std.proofs.lemmas.Nat.{shr-shr}
use Rattle.std.proofs.lemmas.Simd.{none_from_empty_mask, run_in_chunk_fails, mask_l-mod, trailing_mask_l, length-chunk}
use Rattle.std.specs.Int.Count.{count_trailing_zeros}
use Rattle.std.specs.List.{prefix_len}
use Rattle.std.proofs.lemmas.List.{length-map}
use Rattle.std.specs.Int.Digits.{AllBelowBase}
use Rattle.std.specs.Simd.Lanes.{chunk, mask_l, top, zip2}
use Rattle.trace_read.proofs.Lanes.{tried}
use Rattle.trace_read.specs.DigitRuns.{is_other, DigitsBetween, MarksOthers}

bit_below : (b : Bool) (m : ℕ) → (cond b 1 0 + 2 * m) / 2 ≡ m
bit_below true m = omega arith
bit_below false m = omega arith

none_after : (n : ℕ) → 0 / 2 ^ n ≡ 0
none_after zero = omega arith
none_after (suc n) =
    let e : suc n ≡ 1 + n = omega arith in
    ap (λ k. 0 / 2 ^ k) e ∙ sym (shr-shr 0 1 n) ∙ none_after n

pub bits_after : (n : ℕ) (bs : List Bool) → mask_l bs / 2 ^ n ≡ mask_l (drop n bs)
bits_after zero bs = omega arith
bits_after (suc n) [] = none_after (suc n)
bits_after (suc n) (b ∷ bs) =
    let e : suc n ≡ 1 + n = omega arith in
    ap (λ k. (cond b 1 0 + 2 * mask_l bs) / 2 ^ k) e ∙ sym (shr-shr (cond b 1 0 + 2 * mask_l bs) 1 n) ∙ ap (λ y. y / 2 ^ n) (bit_below b (mask_l bs)) ∙ bits_after n bs

set_within : (p : ℕ → Bool) (xs : List ℕ) → 0 < mask_l (map p xs) → prefix_len (λ x. not (p x)) xs < length xs
set_within p [] h = absurd (omega arith)
set_within p (x ∷ xs) h = by (p x) (set_within p xs) h
  where
    by : (b : Bool) → (0 < mask_l (map p xs) → prefix_len (λ y. not (p y)) xs < length xs) → 0 < cond b 1 0 + 2 * mask_l (map p xs)
        → cond (not b) (1 + prefix_len (λ y. not (p y)) xs) 0 < suc (length xs)
    by true more h = omega arith
    by false more h = let rest = more (omega arith) in omega arith

bits_of_drop : (f : ℕ → Bool) (k n : ℕ) (xs : List ℕ) → drop k (map f (take n xs)) ≡ map f (take (n - k) (drop k xs))
bits_of_drop f zero n xs = ap (λ m. map f (take m xs)) (omega arith)
bits_of_drop f (suc k) zero xs = ap (λ m. map f (take m (drop (suc k) xs))) {x = 0} (omega arith)
bits_of_drop f (suc k) (suc n) [] = sym (none_taken (suc n - suc k))
  where
    none_taken : (m : ℕ) → map f (take m []) ≡ []
    none_taken zero = refl
    none_taken (suc m) = refl
bits_of_drop f (suc k) (suc n) (x ∷ xs) = bits_of_drop f k n xs ∙ ap (λ m. map f (take m (drop k xs))) (omega arith)

-- ---- the bits of a vector

same_bool : (a b : Bool) → cond a b (not b) ≡ true → a ≡ b
same_bool true true h = refl
same_bool true false h = sym h
same_bool false true h = h
same_bool false false h = refl

-- the top bit of a lane of the comparison
abbrev compared : ℕ → Bool
compared x = top 7 (cond (leb 10 ((x + (256 - 48)) % 256)) 255 0)

lanes_compared : (xs : List ℕ) → AllBelowBase 256 xs
    → map (top 7) (zip2 (λ a b. cond (leb a b) 255 0) (replicate (length xs) 10) (zip2 (λ a b. (a + (256 - b)) % 256) xs (replicate (length xs) 48))) ≡ map is_other xs
lanes_compared [] fits = refl
lanes_compared (x ∷ xs) fits =
    let here : compared x ≡ is_other x = same_bool _ _ (tried 256 (λ y. cond (compared y) (is_other y) (not (is_other y))) refl x fits.0) in
    (λ i. here i ∷ lanes_compared xs fits.1 i)

pub others_are : (xs : List ℕ) (n : ℕ) → length xs ≡ n → n ≤ 64 → AllBelowBase 256 xs
    → mask_l (map (top 7) (zip2 (λ a b. cond (leb a b) 255 0) (replicate n 10) (zip2 (λ a b. (a + (256 - b)) % 256) xs (replicate n 48)))) % 2 ^ 64 ≡ mask_l (map is_other xs)
others_are xs n long few fits =
    let count : length (map is_other xs) ≤ 64 = omega (arith, length-map xs is_other) in
    (λ i. mask_l (map (top 7) (zip2 (λ a b. cond (leb a b) 255 0) (replicate (sym long i) 10) (zip2 (λ a b. (a + (256 - b)) % 256) xs (replicate (sym long i) 48)))) % 2 ^ 64)
    ∙ ap (λ l. mask_l l % 2 ^ 64) (lanes_compared xs fits) ∙ mask_l-mod (map is_other xs) 64 count

-- the bits of the first 64 bytes from a place on
pub marks_first : (bytes : List ℕ) (at others : ℕ) → at + 64 ≤ length bytes → others ≡ mask_l (map is_other (take 64 (take (length bytes - at) (drop at bytes))))
    → MarksOthers bytes at (at + 64) others
marks_first bytes at others room is =
    let all : 64 ≤ length bytes - at = omega arith in
    let size : 64 ≡ at + 64 - at = omega arith in
    is ∙ ap (λ l. mask_l (map is_other l)) (take-take 64 (length bytes - at) (drop at bytes) all ∙ ap (λ k. take k (drop at bytes)) size)

module _ (bytes : List ℕ) (start from to others : ℕ) (order : start ≤ from) (inside : from ≤ to) (short : to ≤ from + 64) (within : to ≤ length bytes)
    (digits : DigitsBetween bytes start from) (marks : MarksOthers bytes from to others) where
  run : 0 < others → count_trailing_zeros 64 others ≡ prefix_len (λ x. not (is_other x)) (chunk from (to - from) bytes)
  run some =
      ap (count_trailing_zeros 64) marks
      ∙ trailing_mask_l is_other 64 (chunk from (to - from) bytes) (omega (arith, length-chunk from (to - from) bytes (omega arith))) (omega (arith, marks))

  pub end_inside : 0 < others → from + count_trailing_zeros 64 others < to
  end_inside some = omega (arith, run some, set_within is_other (chunk from (to - from) bytes) (omega (arith, marks)), length-chunk from (to - from) bytes (omega arith))

  pub next_digits : 0 < others → DigitsBetween bytes start (from + count_trailing_zeros 64 others)
  next_digits some k low high = elim (cases_lt k from) [
    | inl early ↦ digits k low early
    | inr late ↦ run_in_chunk_fails is_other bytes from (to - from) (count_trailing_zeros 64 others) 0 (omega arith) (run some) k late (omega arith)
  ]

  -- the bits behind the lowest
  pub marks_on : 0 < others → MarksOthers bytes (from + count_trailing_zeros 64 others + 1) to (others / 2 ^ count_trailing_zeros 64 others / 2)
  marks_on some =
      let t = count_trailing_zeros 64 others in
      ap (λ m. m / 2 ^ t / 2) marks ∙ shr-shr (mask_l (map is_other (chunk from (to - from) bytes))) t 1 ∙ bits_after (t + 1) (map is_other (chunk from (to - from) bytes))
      ∙ ap mask_l (bits_of_drop is_other (t + 1) (to - from) (drop from bytes)
      ∙ (λ i. map is_other (take (fewer t i) ((drop-drop (t + 1) from bytes ∙ ap (λ k. drop k bytes) (later t)) i))))
    where
      fewer : (t : ℕ) → to - from - (t + 1) ≡ to - (from + t + 1)
      fewer t = omega arith

      later : (t : ℕ) → from + (t + 1) ≡ from + t + 1
      later t = omega arith

-- where no bit is left, all bytes are digits
pub none_left : (bytes : List ℕ) (start from to : ℕ) → from ≤ to → to ≤ length bytes → DigitsBetween bytes start from → MarksOthers bytes from to 0 → DigitsBetween bytes start to
none_left bytes start from to inside within none marks k low high = elim (cases_lt k from) [
  | inl early ↦ none k low early
  | inr late ↦ none_from_empty_mask is_other bytes from (to - from) 0 (omega arith) (sym marks) k late (omega arith)
]
