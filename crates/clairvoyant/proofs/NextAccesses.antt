-- When keys come next, from the end of the trace back.
use Rattle.std.proofs.Common.{◌≡◌, ◌∙◌, ◌⊎◌, inl, inr, ℕ, zero, suc, ◌<◌, ◌≤◌, ◌==◌, if◌then◌else◌, Bool, true, false, None, Result, Ok, Err, List, [], ◌∷◌, drop, get_or, length, map, refl, ap, sym, subst, arith}
use Rattle.std.specs.Prelude.{slice_index, slice_set}
use Rattle.std.proofs.lemmas.Bool.{cases_eq, cases_lt}
use Rattle.std.proofs.lemmas.Bool.Decides.{nat_tests}
use Rattle.segments.specs.NamedQueue.{numbered_key}
use Rattle.segments.specs.declared.named_queue.QueueKey.{QueueKey}
use Rattle.trace_index.specs.Uses.{next_from, next_place_in}
use Rattle.clairvoyant.specs.Keys.{IsBelowAll, IsAscendingKeys}
use Rattle.clairvoyant.specs.NextAccesses.{renumbered, with_next}

-- ---- one place further back

drop-one : (t : List ℕ) (p : ℕ) → p < length t → drop p t ≡ slice_index t p ∷ drop (suc p) t
drop-one [] p h = absurd (omega (arith, h))
drop-one (a ∷ t) zero h = refl
drop-one (a ∷ t) (suc p) h = drop-one t p (omega (arith, h))

one-back : (t : List ℕ) (p k : ℕ) → p < length t
    → (if k == slice_index t p then numbered_key (slice_index t p) (suc p) else with_next t (suc p) k) ≡ with_next t p k
one-back t p k h =
    let here : next_from t p k ≡ next_place_in p k (slice_index t p ∷ drop (suc p) t) = ap (next_place_in p k) (drop-one t p h) in
    let e = cases_eq k (slice_index t p) in
    grind (arith, nat_tests)

pub back : (t : List ℕ) (p : ℕ) (keys : List ℕ) → p < length t
    → renumbered (slice_index t p) (suc p) (map (with_next t (suc p)) keys) ≡ map (with_next t p) keys
back t p [] h = refl
back t p (k ∷ keys) h = rw (one-back t p k h) (ap (λ l. with_next t p k ∷ l) (back t p keys h))

pub keys-kept : (t : List ℕ) (p : ℕ) (keys : List ℕ) → map (λ (e : QueueKey). e.key) (map (with_next t p) keys) ≡ keys
keys-kept t p [] = refl
keys-kept t p (k ∷ keys) = ap (λ l. k ∷ l) (keys-kept t p keys)

-- ---- a number beside one of ascending keys

below-at : (a : ℕ) (l : List ℕ) (i : ℕ) → IsBelowAll a l → i < length l → a < get_or l i 0
below-at a [] i b h = absurd (omega (arith, h))
below-at a (x ∷ l) zero b h = b.0
below-at a (x ∷ l) (suc i) b h = below-at a l i b.1 (omega (arith, h))

pub rising : (l : List ℕ) → IsAscendingKeys l → (i j : ℕ) → i ≤ j → j < length l → get_or l i 0 ≤ get_or l j 0
rising [] a i j le h = absurd (omega (arith, h))
rising (x ∷ l) a zero zero le h = omega arith
rising (x ∷ l) a zero (suc j) le h = let b = below-at x l j a.0 (omega (arith, h)) in omega (arith, b)
rising (x ∷ l) a (suc i) zero le h = absurd (omega (arith, le))
rising (x ∷ l) a (suc i) (suc j) le h = rising l a.1 i j (omega (arith, le)) (omega (arith, h))

abbrev keys_in : List QueueKey → List ℕ
keys_in l = map (λ (e : QueueKey). e.key) l

-- no key is x
pub untouched : (x n : ℕ) (l : List QueueKey) → ((k : ℕ) → k < length (keys_in l) → get_or (keys_in l) k 0 ≡ x → ⊥) → renumbered x n l ≡ l
untouched x n [] h = refl
untouched x n (e ∷ l) h =
    let rest : renumbered x n l ≡ l = untouched x n l (λ k lt. h (suc k) (omega (arith, lt))) in
    let off = h 0 (omega arith) in
    let c = cases_eq e.key x in
    grind (arith, nat_tests)

pub touched : (x n i : ℕ) (l : List QueueKey) → IsAscendingKeys (keys_in l) → i < length (keys_in l) → get_or (keys_in l) i 0 ≡ x
    → slice_set l i (numbered_key x n) ≡ renumbered x n l
touched x n i [] a h at = absurd (omega (arith, h))
touched x n zero (e ∷ l) a h at =
    let rest : renumbered x n l ≡ l =
    untouched x n l (λ k lt is. let b = below-at e.key (keys_in l) k a.0 lt in omega (arith, b, is, at)) in
    rw rest (let c = cases_eq e.key x in grind (arith, nat_tests))
touched x n (suc i) (e ∷ l) a h at =
    let rest : slice_set l i (numbered_key x n) ≡ renumbered x n l = touched x n i l a.1 (omega (arith, h)) at in
    let off : e.key < x = let b = below-at e.key (keys_in l) i a.0 (omega (arith, h)) in omega (arith, b, at) in
    rw (sym rest) (let c = cases_eq e.key x in grind (arith, nat_tests))

-- what is not found is not there
pub missed : (l : List ℕ) (x i : ℕ) → ((k : ℕ) → k < i → get_or l k 0 < x) → ((k : ℕ) → i ≤ k → k < length l → x < get_or l k 0) → (k : ℕ)
    → k < length l → get_or l k 0 ≡ x → ⊥
missed l x i low high k lt is = by_side (cases_lt k i)
  where
    by_side : (k < i) ⊎ (i ≤ k) → ⊥
    by_side (inl h) = let a = low k h in omega (arith, a, is)
    by_side (inr h) = let a = high k h lt in omega (arith, a, is)
