-- Edits of ascending lists.
use Rattle.std.proofs.Common.{◌≡◌, ℕ, suc, ◌<◌, ◌≤◌, true, false, cond, eqb, nat_lt, List, [], ◌∷◌, length, refl, arith}
use Rattle.std.proofs.lemmas.Bool.{cond_both, eqb-true, eq-eqb, ltb-true, lt-ltb, cases_eq}
use Rattle.std.proofs.lemmas.Bool.Decides.{nat_tests}
use Rattle.engine_base.specs.Keys.{has_key, keys_without}
use Rattle.clairvoyant.specs.Keys.{residents_with, IsBelowAll, IsAscendingKeys}

pub has-put : (k b : ℕ) (l : List ℕ) → has_key k (residents_with b l) ≡ cond (eqb k b) true (has_key k l)
has-put k b [] = refl
has-put k b (a ∷ l) = grind (arith, has-put k b l)

pub has-without : (k b : ℕ) (l : List ℕ) → has_key k (keys_without b l) ≡ cond (eqb k b) false (has_key k l)
has-without k b [] = grind arith
has-without k b (a ∷ l) = grind (arith, nat_tests, has-without k b l)

pub without-none : (k : ℕ) (l : List ℕ) → has_key k l ≡ false → keys_without k l ≡ l
without-none k [] h = refl
without-none k (a ∷ l) h = grind (arith, without-none k l)

pub without-put : (k : ℕ) (l : List ℕ) → has_key k l ≡ false → keys_without k (residents_with k l) ≡ l
without-put k [] h = rw (eq-eqb k k refl) refl
without-put k (a ∷ l) h = let here : eqb k k ≡ true = eq-eqb k k refl in grind (arith, without-put k l, without-none k l)

-- two are taken out in any order
pub without-swap : (a b : ℕ) (l : List ℕ) → keys_without a (keys_without b l) ≡ keys_without b (keys_without a l)
without-swap a b [] = refl
without-swap a b (x ∷ l) = grind (arith, without-swap a b l)

pub below-all : (k b : ℕ) (l : List ℕ) → k ≤ b → IsBelowAll b l → IsBelowAll k l
below-all k b [] h w = tt
below-all k b (a ∷ l) h w = (let n = w.0 in omega (arith, n), below-all k b l h w.1)

pub below-has : (a k : ℕ) (l : List ℕ) → IsBelowAll a l → has_key k l ≡ true → a < k
below-has a k [] w h = absurd (cc (h))
below-has a k (x ∷ l) w h = grind (arith, nat_tests, w.0, below-has a k l w.1)

pub below-none : (k : ℕ) (l : List ℕ) → IsBelowAll k l → has_key k l ≡ false
below-none k [] w = refl
below-none k (a ∷ l) w = grind (arith, nat_tests, w.0, below-none k l w.1)

below-put : (a k : ℕ) (l : List ℕ) → a < k → IsBelowAll a l → IsBelowAll a (residents_with k l)
below-put a k [] h w = (h, tt)
below-put a k (x ∷ l) h w = cond_both (nat_lt k x) _ _ (IsBelowAll a) (λ e. (h, w)) (λ e. (w.0, below-put a k l h w.1))

pub ascending-put : (k : ℕ) (l : List ℕ) → IsAscendingKeys l → has_key k l ≡ false → IsAscendingKeys (residents_with k l)
ascending-put k [] s h = (tt, tt)
ascending-put k (a ∷ l) s h =
    let rest : has_key k l ≡ false = grind arith in
    grind (arith, nat_tests, cond_both, ltb-true, below-all, below-put, ascending-put k l s.1 rest)

below-without : (a k : ℕ) (l : List ℕ) → IsBelowAll a l → IsBelowAll a (keys_without k l)
below-without a k [] w = tt
below-without a k (x ∷ l) w = cond_both (eqb k x) _ _ (IsBelowAll a) (λ e. below-without a k l w.1) (λ e. (w.0, below-without a k l w.1))

pub ascending-without : (k : ℕ) (l : List ℕ) → IsAscendingKeys l → IsAscendingKeys (keys_without k l)
ascending-without k [] s = tt
ascending-without k (a ∷ l) s = cond_both (eqb k a) _ _ IsAscendingKeys (λ e. ascending-without k l s.1) (λ e. (below-without a k l s.0, ascending-without k l s.1))

put-below : (k : ℕ) (l : List ℕ) → IsBelowAll k l → residents_with k l ≡ k ∷ l
put-below k [] w = refl
put-below k (a ∷ l) w = rw (lt-ltb k a w.0) refl

-- what was taken out goes back to its place
pub put-without : (k : ℕ) (l : List ℕ) → IsAscendingKeys l → has_key k l ≡ true → residents_with k (keys_without k l) ≡ l
put-without k [] s h = absurd (cc (h))
put-without k (a ∷ l) s h =
    grind (arith, nat_tests, without-none, below-none, put-without k l s.1, below-has, put-below, cases_eq)

pub length-put : (k : ℕ) (l : List ℕ) → length (residents_with k l) ≡ suc (length l)
length-put k [] = refl
length-put k (a ∷ l) = grind (arith, length-put k l)

pub length-without : (k : ℕ) (l : List ℕ) → IsAscendingKeys l → has_key k l ≡ true → suc (length (keys_without k l)) ≡ length l
length-without k [] s h = absurd (cc (h))
length-without k (a ∷ l) s h =
    grind (arith, nat_tests, without-none, eqb-true, below-none a l s.0, length-without k l s.1)
