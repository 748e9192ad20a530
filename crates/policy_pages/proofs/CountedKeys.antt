-- Keys and counts of a queue.
use Rattle.std.proofs.Common.{◌≡◌, ℕ, suc, ◌+◌, ◌*◌, ◌≤◌, false, if◌then◌else◌, eqb, List, [], ◌∷◌, ◌++◌, length, ap, sym, ◌∙◌, refl, arith, length-append}
use Rattle.std.proofs.Math.Nat.{suc-mul}
use Rattle.std.proofs.lemmas.Bool.{cases_Bool}
use Rattle.std.proofs.lemmas.Bool.Decides.{nat_tests}
use Rattle.engine_base.specs.Keys.{has_key}
use Rattle.policy_pages.specs.Residents.{times}
use Rattle.policy_pages.specs.CountedKeys.{CountedKey, keys_of, count_of, with_count, AreCounted, total_count}
use Rattle.policy_pages.proofs.Residents.{times-append, no-times}

-- what is shown of a queue by its oldest, where it has one
pub by-oldest : {A : Type 0} (P : List A → Type 0) (l : List A) → 1 ≤ length l → ((a : A) (r : List A) → l ≡ a ∷ r → P (a ∷ r)) → P l
by-oldest P [] n h = absurd (omega (arith, n))
by-oldest P (a ∷ r) n h = h a r refl

pub keys-append : (a b : List CountedKey) → keys_of (a ++ b) ≡ keys_of a ++ keys_of b
keys-append [] b = refl
keys-append (e ∷ a) b = ap (λ t. e.key ∷ t) (keys-append a b)

pub keys-times : (x : ℕ) (a b : List CountedKey) → times x (keys_of (a ++ b)) ≡ times x (keys_of a) + times x (keys_of b)
keys-times x a b = ap (times x) (keys-append a b) ∙ times-append x (keys_of a) (keys_of b)

pub length-keys : (l : List CountedKey) → length (keys_of l) ≡ length l
length-keys [] = refl
length-keys (e ∷ l) = ap suc (length-keys l)

pub joined-times : (x : ℕ) (e : CountedKey) (l : List CountedKey) → times x (keys_of (l ++ e ∷ [])) ≡ times x (keys_of l) + times x (e.key ∷ [])
joined-times x e l = keys-times x l (e ∷ [])

pub joined-length : (e : CountedKey) (l : List CountedKey) → length (keys_of (l ++ e ∷ [])) ≡ suc (length (keys_of l))
joined-length e l = ap length (keys-append l (e ∷ [])) ∙ omega (arith, length-append (keys_of l) (e.key ∷ []))

pub keys-with : (k n : ℕ) (l : List CountedKey) → keys_of (with_count k n l) ≡ keys_of l
keys-with k n [] = refl
keys-with k n (e ∷ l) = grind (arith, nat_tests, keys-with k n l)

pub keys-with-both : (k n : ℕ) (a b : List CountedKey) → keys_of (with_count k n a ++ with_count k n b) ≡ keys_of (a ++ b)
keys-with-both k n a b = keys-append (with_count k n a) (with_count k n b) ∙ rw (keys-with k n a, keys-with k n b) (sym (keys-append a b))

pub counted-append : (m : ℕ) (a b : List CountedKey) → AreCounted m a → AreCounted m b → AreCounted m (a ++ b)
counted-append m [] b h g = g
counted-append m (e ∷ a) b h g = (h.0, counted-append m a b h.1 g)

pub counted-first : (m : ℕ) (a b : List CountedKey) → AreCounted m (a ++ b) → AreCounted m a
counted-first m [] b h = tt
counted-first m (e ∷ a) b h = (h.0, counted-first m a b h.1)

pub counted-second : (m : ℕ) (a b : List CountedKey) → AreCounted m (a ++ b) → AreCounted m b
counted-second m [] b h = h
counted-second m (e ∷ a) b h = counted-second m a b h.1

pub counted-with : (m k n : ℕ) (l : List CountedKey) → n ≤ m → AreCounted m l → AreCounted m (with_count k n l)
counted-with m k n [] h g = tt
counted-with m k n (e ∷ l) h g = grind (arith, nat_tests, cases_Bool (eqb k e.key), counted-with m k n l h g.1)

pub counted-both : (m k n : ℕ) (a b : List CountedKey) → n ≤ m → AreCounted m (a ++ b) → AreCounted m (with_count k n a ++ with_count k n b)
counted-both m k n a b l h = counted-append m (with_count k n a) (with_count k n b) (counted-with m k n a l (counted-first m a b h)) (counted-with m k n b l (counted-second m a b h))

pub total-append : (a b : List CountedKey) → total_count (a ++ b) ≡ total_count a + total_count b
total-append [] b = omega arith
total-append (e ∷ a) b = omega (arith, total-append a b)

pub total-few : (m : ℕ) (l : List CountedKey) → AreCounted m l → total_count l ≤ length l * m
total-few m [] h = omega arith
total-few m (e ∷ l) h = let own = h.0 in omega (arith, own, total-few m l h.1, suc-mul (length l) m)

-- ---- a count in one of two queues

pub with-absent : (k n : ℕ) (l : List CountedKey) → has_key k (keys_of l) ≡ false → with_count k n l ≡ l
with-absent k n [] h = refl
with-absent k n (e ∷ l) h = grind (arith, nat_tests, with-absent k n l)

pub count-append : (k : ℕ) (a b : List CountedKey) → count_of k (a ++ b) ≡ (if has_key k (keys_of a) then count_of k a else count_of k b)
count-append k [] b = refl
count-append k (e ∷ a) b = grind (arith, nat_tests, count-append k a b)

-- one of two queues has the key
pub with-append : (k n : ℕ) (a b : List CountedKey) → times k (keys_of (a ++ b)) ≤ 1 → with_count k n (a ++ b) ≡ with_count k n a ++ with_count k n b
with-append k n [] b d = refl
with-append k n (e ∷ a) b d = grind (arith, nat_tests, with-append k n a b, keys-times, no-times, with-absent)
