-- A list by its places.
use Rattle.std.proofs.Common.{◌≡◌, ℕ, ◌<◌, ◌≤◌, List, length, get_or, refl, ◌∙◌, sym, arith}
use Rattle.std.proofs.lemmas.List.FromFn.{length-map-range_with_len, get_or-map-range_with_len, fill_by_all}
use Rattle.std.proofs.lemmas.List.{get_or_past}
use Rattle.engine_base.specs.Places.{by_place}

pub length-by_place : {A : Type 0} (n : ℕ) (f : ℕ → A) → length (by_place n f) ≡ n
length-by_place n f = length-map-range_with_len f 0 n

pub get_or-by_place : {A : Type 0} (n : ℕ) (f : ℕ → A) (i : ℕ) (d : A) → i < n → get_or (by_place n f) i d ≡ f i
get_or-by_place n f i d h = get_or-map-range_with_len f 0 n i i d h (omega arith)

pub by_place_same : {A : Type 0} (n : ℕ) (f g : ℕ → A) (d : A) → ((i : ℕ) → i < n → f i ≡ g i) → by_place n f ≡ by_place n g
by_place_same n f g d h = fill_by_all g (by_place n f) n d (length-by_place n f) (λ k w. get_or-by_place n f k d w ∙ h k w)

-- a list read by its places is the list
pub by_place_whole : {A : Type 0} (xs : List A) (n : ℕ) (d : A) → length xs ≡ n → by_place n (λ i. get_or xs i d) ≡ xs
by_place_whole xs n d h = sym (fill_by_all (λ i. get_or xs i d) xs n d h (λ k w. refl))

-- past the end there is the default
pub past-by_place : {A : Type 0} (n : ℕ) (f : ℕ → A) (i : ℕ) (d : A) → n ≤ i → get_or (by_place n f) i d ≡ d
past-by_place n f i d h = get_or_past (by_place n f) i d (let l : length (by_place n f) ≡ n = length-by_place n f in omega (arith, l))
