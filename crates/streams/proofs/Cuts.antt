-- A text cut at a byte: its first part, and the parts behind it.
use Rattle.std.proofs.Common.{◌≡◌, ◌∙◌, ◌<◌, ◌+◌, ◌-◌, ◌==◌, ℕ, List, [], ◌∷◌, ◌++◌, length, take, drop, get_or, ap, subst, arith, length-drop}
use Rattle.std.proofs.lemmas.Grind.{common_steps}
use Rattle.std.proofs.lemmas.List.{take_all}
use Rattle.std.proofs.lemmas.List.Splits.{slice_split_at, slice_split_none}
use Rattle.std.proofs.lemmas.List.Sums.{fails_before_first, passes_at_first, split_at_first}
use Rattle.std.specs.List.{slice_split}
use Rattle.streams.specs.Cuts.{byte_place, Lacks}

module _ (c : ℕ) where
  pub lacks_before : (xs : List ℕ) → Lacks c (take (byte_place c xs) xs)
  lacks_before xs = λ k e m.
      let before = fails_before_first (λ b. b == c) xs k e (grind (arith, common_steps)) in grind (arith, common_steps)

  pub lacks_all : (xs : List ℕ) → byte_place c xs ≡ length xs → Lacks c xs
  lacks_all xs all =
      let whole : take (byte_place c xs) xs ≡ xs = ap (λ k. take k xs) all ∙ take_all (length xs) xs (omega arith) in
      subst (Lacks c) whole (lacks_before xs)

  pub last_part : (xs : List ℕ) → byte_place c xs ≡ length xs → slice_split (λ b. b == c) xs ≡ xs ∷ []
  last_part xs all = slice_split_none (λ b. b == c) xs (lacks_all xs all)

  pub cut_at : (xs : List ℕ) → byte_place c xs < length xs
      → xs ≡ take (byte_place c xs) xs ++ (c ∷ drop (byte_place c xs + 1) xs)
  cut_at xs lt =
      let passes : get_or xs (byte_place c xs) 0 ≡ c =
      grind (arith, common_steps, passes_at_first (λ b. b == c) xs 0 lt) in
      split_at_first (λ b. b == c) xs 0 lt
      ∙ ap (λ b. take (byte_place c xs) xs ++ (b ∷ drop (byte_place c xs + 1) xs)) passes

  pub first_part : (xs : List ℕ) → byte_place c xs < length xs
      → slice_split (λ b. b == c) xs ≡ take (byte_place c xs) xs ∷ slice_split (λ b. b == c) (drop (byte_place c xs + 1) xs)
  first_part xs lt =
      ap (slice_split (λ b. b == c)) (split_at_first (λ b. b == c) xs 0 lt)
      ∙ slice_split_at (λ b. b == c) (take (byte_place c xs) xs) (get_or xs (byte_place c xs) 0)
      (drop (byte_place c xs + 1) xs) (lacks_before xs) (passes_at_first (λ b. b == c) xs 0 lt)

-- the part behind the first, as a slice of the rest
pub behind : (xs : List ℕ) (n : ℕ) → take (length xs - n) (drop n xs) ≡ drop n xs
behind xs n = take_all (length xs - n) (drop n xs) (omega (arith, length-drop n xs))
