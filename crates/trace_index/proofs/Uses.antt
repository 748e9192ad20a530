-- Next uses, from one place to the next.
use Rattle.std.proofs.Common.{◌≡◌, ℕ, suc, ◌+◌, ◌-◌, ◌<◌, ◌≤◌, true, false, cond, eqb, Option, Some, None, IfSome, List, [], ◌∷◌, length, drop, get_or, ◌∙◌, sym, refl, arith, inl, inr, length-drop, drop-cons}
use Rattle.std.proofs.lemmas.Bool.{cases_Bool, eqb-true, eq-eqb}
use Rattle.std.proofs.lemmas.List.{get_or-drop}
use Rattle.trace_index.specs.Uses.{next_place_in, next_from}

pub next-step : (t : List ℕ) (i k : ℕ) → i < length t → next_from t i k ≡ cond (eqb k (get_or t i 0)) (Some i) (next_from t (suc i) k)
next-step t i k h = rw (drop-cons t i 0 h) refl

pub next-own : (t : List ℕ) (i : ℕ) → i < length t → next_from t i (get_or t i 0) ≡ Some i
next-own t i h = let e : eqb (get_or t i 0) (get_or t i 0) ≡ true = eq-eqb (get_or t i 0) (get_or t i 0) refl in next-step t i (get_or t i 0) h ∙ rw e refl

pub next-other : (t : List ℕ) (i x : ℕ) → i < length t → eqb x (get_or t i 0) ≡ false → next_from t i x ≡ next_from t (suc i) x
next-other t i x h e = next-step t i x h ∙ rw e refl

-- ---- where a use is

record IsPlaced (n : ℕ) (k : ℕ) (xs : List ℕ) (m : ℕ) : Type 0 where
  pub from : n ≤ m
  pub to : m < n + length xs
  pub there : get_or xs (m - n) 0 ≡ k

placed : (n k m : ℕ) (xs : List ℕ) → next_place_in n k xs ≡ Some m → IsPlaced n k xs m
placed n k m [] h = absurd (cc (h))
placed n k m (a ∷ xs) h =
    elim (cases_Bool (eqb k a)) [
      | inl e ↦
          let same : n ≡ m = (cc (rw e at h)) in
          let key : k ≡ a = eqb-true k a e in
          let none : m - n ≡ 0 = omega arith in
          record { from = omega arith; to = omega arith; there = rw none (sym key) }
      | inr e ↦
          let rest : IsPlaced (suc n) k xs m = placed (suc n) k m xs (rw e at h) in
          let more : m - n ≡ suc (m - suc n) = let f = rest.from in omega (arith, f) in
          record { from = let f = rest.from in omega (arith, f); to = let f = rest.to in omega (arith, f); there = rw more rest.there }
    ]

pub record IsNext (t : List ℕ) (i k n : ℕ) : Type 0 where
  pub from : i ≤ n
  pub within : n < length t
  pub there : get_or t n 0 ≡ k

pub next-found : (t : List ℕ) (i k n : ℕ) → i ≤ length t → next_from t i k ≡ Some n → IsNext t i k n
next-found t i k n le h = search (arith, placed i k n (drop i t) h, length-drop i t, get_or-drop i t (n - i) 0)

pub next-within : (t : List ℕ) (i k : ℕ) (o : Option ℕ) → i ≤ length t → o ≡ next_from t i k → IfSome o (λ n. n < length t)
next-within t i k None h e = tt
next-within t i k (Some n) h e = (next-found t i k n h (sym e)).within
