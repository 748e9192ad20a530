-- The residents, listed from the ranks that are held.
use Rattle.std.proofs.Common.{◌≡◌, ℕ, suc, ◌+◌, ◌*◌, ◌<◌, ◌≤◌, Bool, true, false, ◌&&◌, eqb, nat_lt, inl, inr, List, [], ◌∷◌, ◌++◌, length, get_or, ap, sym, refl, subst, arith}
use Rattle.std.specs.List.{sum_by}
use Rattle.std.specs.List.Sorted.{IsPermutation, IsNonDecreasing}
use Rattle.std.proofs.lemmas.List.Sums.{sum_by-cons}
use Rattle.std.proofs.lemmas.List.Sorted.{sum_by-IsPermutation}
use Rattle.std.proofs.lemmas.Bool.{cases_Bool, cases_eq, eqb-true, eq-eqb}
use Rattle.std.proofs.lemmas.Bool.Decides.{nat_tests}
use Rattle.engine_base.specs.Stats.{one_if}
use Rattle.engine_base.specs.Keys.{has_key}
use Rattle.clairvoyant.specs.Bits.{is_in_set}
use Rattle.clairvoyant.specs.Keys.{IsAscendingKeys}
use Rattle.clairvoyant.specs.Ranks.{rank, key_at}
use Rattle.clairvoyant.specs.RankSet.{IsTied}
use Rattle.clairvoyant.specs.Belady.{belady_residents}
use Rattle.clairvoyant.proofs.Keys.{below-none, below-has}
use Rattle.clairvoyant.proofs.Ranked.{IsSeen, named}
use Rattle.clairvoyant.proofs.Belady.{residents-seen, residents-ascending}

-- how often k is in a list
abbrev pub times : ℕ → List ℕ → ℕ
times k [] = 0
times k (a ∷ xs) = one_if (eqb k a) + times k xs

pub times-sum : (k : ℕ) (xs : List ℕ) → times k xs ≡ sum_by (λ x. one_if (eqb k x)) xs
times-sum k [] = refl
times-sum k (a ∷ xs) = omega (arith, sum_by-cons (λ x. one_if (eqb k x)) a xs, times-sum k xs)

times-snoc : (k a : ℕ) (xs : List ℕ) → times k (xs ++ a ∷ []) ≡ times k xs + one_if (eqb k a)
times-snoc k a [] = omega arith
times-snoc k a (x ∷ xs) = omega (arith, times-snoc k a xs)

pub times-has : (k : ℕ) (rs : List ℕ) → IsAscendingKeys rs → times k rs ≡ one_if (has_key k rs)
times-has k [] s = refl
times-has k (a ∷ rs) s = grind (arith, nat_tests, eqb-true, below-none a rs s.0, times-has k rs s.1)

-- what holds of each element holds of what is in the list
found : (k : ℕ) (xs : List ℕ) → 0 < times k xs → (P : ℕ → Type 0) → ((j : ℕ) → j < length xs → P (get_or xs j 0)) → P k
found k [] h P all = absurd (omega arith)
found k (x ∷ xs) h P all =
    elim (cases_Bool (eqb k x)) [
      | inl e ↦ subst P (sym (eqb-true k x e)) (all 0 (omega arith))
      | inr e ↦ found k xs (omega (arith, h, ap one_if e)) P (λ j lt. all (suc j) (omega (arith, lt)))
    ]

own : (x : ℕ) (xs : List ℕ) → 0 < times x (x ∷ xs)
own x xs = omega (arith, ap one_if (eq-eqb x x refl))

-- a sorted list in which each key is as often as in an ascending one is that
same-list : (xs rs : List ℕ) → IsNonDecreasing xs → IsAscendingKeys rs → ((k : ℕ) → times k xs ≡ times k rs) → xs ≡ rs
same-list [] [] up s e = refl
same-list [] (r ∷ rs) up s e = absurd (omega (arith, own r rs, e r))
same-list (x ∷ xs) [] up s e = absurd (omega (arith, own x xs, e x))
same-list (x ∷ xs) (r ∷ rs) up s e =
    let down : r ≤ x = (grind (arith, nat_tests, times-has x rs s.1, below-has r x rs s.0)) in
    let high : x ≤ r = (found r (x ∷ xs) (omega (arith, own r rs, e r)) (λ y. x ≤ y) (λ j lt. up 0 j 0 (omega arith) lt)) in
    let head : x ≡ r = omega (arith, down, high) in
    let rest : (k : ℕ) → times k xs ≡ times k rs = λ k. omega (arith, e k, ap (λ y. one_if (eqb k y)) head) in
    let tail : xs ≡ rs = same-list xs rs (λ i j d le lt. up (suc i) (suc j) d (omega (arith, le)) (omega (arith, lt))) s.1 rest in
    λ i. head i ∷ tail i

-- ---- listing rank by rank

-- k is a resident whose rank is below q
abbrev pub is_listed : List ℕ → ℕ → List ℕ → ℕ → ℕ → Bool
is_listed t i r q k = has_key k r && nat_lt (rank t i k) q

module _ (t : List ℕ) (i : ℕ) (r : List ℕ) (le : i ≤ length t) (seen : (x : ℕ) → has_key x r ≡ true → IsSeen t i x) where
  module _ (h : List Bool) (tied : IsTied t i r h) (q : ℕ) (lt : q < 2 * length t) where
    -- the rank q is of its key
    own-rank : (k : ℕ) → (has_key k r && eqb (rank t i k) q) ≡ (eqb k (key_at t q) && is_in_set h q)
    own-rank k = grind (arith, nat_tests, named, cases_eq k (key_at t q), cases_eq (rank t i k) q)

    listed-next : (k : ℕ) → one_if (is_listed t i r (q + 1) k) ≡ one_if (is_listed t i r q k) + one_if (eqb k (key_at t q) && is_in_set h q)
    listed-next k = grind (arith, nat_tests, own-rank k)

    module _ (keys : List ℕ) (all : (k : ℕ) → times k keys ≡ one_if (is_listed t i r q k)) where
      pub listed-other : is_in_set h q ≡ false → (k : ℕ) → times k keys ≡ one_if (is_listed t i r (q + 1) k)
      listed-other none k = let before = all k in let next = listed-next k in grind (arith, before, next, none)

      pub listed-held : (a : ℕ) → a ≡ key_at t q → is_in_set h q ≡ true → (k : ℕ) → times k (keys ++ a ∷ []) ≡ one_if (is_listed t i r (q + 1) k)
      listed-held a is held k = grind (arith, nat_tests, listed-next k, times-snoc k a keys)

pub listed-residents : (c : ℕ) (t : List ℕ) (i : ℕ) (keys sorted : List ℕ) → i ≤ length t → ((k : ℕ) → times k keys ≡ one_if (is_listed t i (belady_residents c t i) (2 * length t) k)) → IsPermutation keys sorted → IsNonDecreasing sorted → sorted ≡ belady_residents c t i
listed-residents c t i keys sorted le all moved up =
    search (arith, residents-ascending c t i, same-list, times-sum, sum_by-IsPermutation, residents-seen c t i, times-has)
