-- What a trim from the back leaves, seen from the last byte.
use Rattle.std.proofs.Common.{◌≡◌, ◌∙◌, ◌≤◌, ◌<◌, ◌+◌, ◌-◌, ◌&&◌, ℕ, true, false, List, [], ◌∷◌, ◌++◌, length, take, get_or, refl, ap, sym, arith, cond}
use Rattle.std.proofs.lemmas.Bool.{and_right, cond-false, ne_eqb}
use Rattle.std.proofs.lemmas.List.{take_more}
use Rattle.streams.specs.Blanks.{is_blank, is_empty, without_back, without_front}

-- what `without_back` makes of a byte before what it leaves
abbrev before : ℕ → List ℕ → List ℕ
before x rest = cond (is_blank x && is_empty rest) [] (x ∷ rest)

pub back_blank : (xs : List ℕ) (y : ℕ) → is_blank y ≡ true → without_back (xs ++ y ∷ []) ≡ without_back xs
back_blank [] y h = rw h refl
back_blank (x ∷ xs) y h = ap (before x) (back_blank xs y h)

not_empty : (xs : List ℕ) (y : ℕ) → is_empty (xs ++ y ∷ []) ≡ false
not_empty [] y = refl
not_empty (x ∷ xs) y = ne_eqb _ _ (λ e. omega arith)

pub back_solid : (xs : List ℕ) (y : ℕ) → is_blank y ≡ false → without_back (xs ++ y ∷ []) ≡ xs ++ y ∷ []
back_solid [] y h = rw h refl
back_solid (x ∷ xs) y h = ap (before x) (back_solid xs y h)
    ∙ cond-false _ _ _ (and_right (is_blank x) _ (not_empty xs y))

-- one step of the trim
pub back_step : (s : List ℕ) (n : ℕ) → 0 < n → n ≤ length s → is_blank (get_or s (n - 1) 0) ≡ true
    → without_back (take n s) ≡ without_back s → without_back (take (n - 1) s) ≡ without_back s
back_step s n lo hi h e =
    let at : n - 1 < length s = omega arith in
    let one : n - 1 + 1 ≡ n = omega arith in
    let all : take n s ≡ take (n - 1) s ++ get_or s (n - 1) 0 ∷ [] = ap (λ k. take k s) (sym one) ∙ take_more s (n - 1) 0 at in
    sym (ap without_back all ∙ back_blank (take (n - 1) s) (get_or s (n - 1) 0) h) ∙ e

-- its end, at a byte that is no blank
pub back_stop : (s : List ℕ) (n : ℕ) → 0 < n → n ≤ length s → is_blank (get_or s (n - 1) 0) ≡ false
    → without_back (take n s) ≡ without_back s → take n s ≡ without_back s
back_stop s n lo hi h e =
    let at : n - 1 < length s = omega arith in
    let one : n - 1 + 1 ≡ n = omega arith in
    let all : take n s ≡ take (n - 1) s ++ get_or s (n - 1) 0 ∷ [] = ap (λ k. take k s) (sym one) ∙ take_more s (n - 1) 0 at in
    all ∙ sym (back_solid (take (n - 1) s) (get_or s (n - 1) 0) h) ∙ ap without_back (sym all) ∙ e

-- its end, where no byte is left
pub back_none : (s : List ℕ) (n : ℕ) → n ≤ 0 → without_back (take n s) ≡ without_back s → take n s ≡ without_back s
back_none s n h e =
    let z : n ≡ 0 = omega arith in
    let none : take n s ≡ [] = ap (λ k. take k s) z in
    none ∙ sym (ap without_back none) ∙ e

-- a trim from the front ends at no byte, or at one that is no blank
pub front_none : (s : List ℕ) → length s < 1 → without_front s ≡ s
front_none [] h = refl
front_none (x ∷ xs) h = absurd (omega arith)

pub front_stop : (s : List ℕ) → is_blank (get_or s 0 0) ≡ false → without_front s ≡ s
front_stop [] h = refl
front_stop (x ∷ xs) h = rw h refl
