-- The last distinct keys, one access after another.
use Rattle.std.proofs.Common.{◌≡◌, ℕ, suc, zero, ◌+◌, ◌-◌, ◌<◌, ◌≤◌, Bool, true, false, cond, eqb, nat_lt, List, [], ◌∷◌, ◌++◌, length, drop, refl, arith, ◌⊎◌, inl, inr, length-append, length-drop}
use Rattle.std.proofs.lemmas.Bool.Decides.{nat_tests}
use Rattle.std.proofs.lemmas.List.{drop-append-le}
use Rattle.engine_base.specs.Keys.{has_key, keys_without}
use Rattle.engine_base.specs.declared.outcome.Outcome.TheVariants.{Hit, Kept, Evicted}
use Rattle.queue_cache.specs.Lru.{Outcome, distinct_keys, lru_residents, is_lru_hit, lru_outcome, first_or}

-- the residents after an access, from those before it
abbrev pub moved : ℕ → List ℕ → ℕ → List ℕ
moved c r k = cond (has_key k r) (keys_without k r ++ k ∷ []) (cond (nat_lt (length r) c) (r ++ k ∷ []) (drop 1 r ++ k ∷ []))

-- the outcome of an access, from the residents
abbrev pub answer : ℕ → List ℕ → ℕ → Outcome
answer c r k = cond (has_key k r) Hit (cond (nat_lt (length r) c) Kept (Evicted (first_or 0 r)))

abbrev pub IsDistinct : List ℕ → Type 0
IsDistinct [] = Unit {0}
IsDistinct (a ∷ xs) = (has_key a xs ≡ false) × IsDistinct xs

pub two : (b : Bool) → (b ≡ true) ⊎ (b ≡ false)
two v = grind (arith, nat_tests)

abbrev pub last : ℕ → List ℕ → List ℕ
last c l = drop (length l - c) l

has-distinct : (k : ℕ) (xs : List ℕ) → has_key k (distinct_keys xs) ≡ has_key k xs
has-distinct k [] = refl
has-distinct k (a ∷ xs) = grind (arith, nat_tests, has-distinct k xs)

pub distinct-distinct : (xs : List ℕ) → IsDistinct (distinct_keys xs)
distinct-distinct [] = tt
distinct-distinct (a ∷ xs) = grind (arith, nat_tests, distinct-distinct xs, has-distinct)

pub without-none : (k : ℕ) (l : List ℕ) → has_key k l ≡ false → keys_without k l ≡ l
without-none k [] h = refl
without-none k (a ∷ l) h = grind (arith, nat_tests, without-none k l)

-- at most one leaves
without-long : (k : ℕ) (l : List ℕ) → IsDistinct l → length l ≤ length (keys_without k l) + 1
without-long k [] d = omega arith
without-long k (a ∷ l) d = grind (arith, nat_tests, without-none, without-long k l d.1)

without-le : (k : ℕ) (l : List ℕ) → length (keys_without k l) ≤ length l
without-le k [] = omega arith
without-le k (a ∷ l) = grind (arith, nat_tests, without-le k l)

-- one leaves
without-short : (k : ℕ) (l : List ℕ) → has_key k l ≡ true → length (keys_without k l) < length l
without-short k [] h = absurd (cc (h))
without-short k (a ∷ l) h = grind (arith, nat_tests, without-le, without-short k l)

last-long : (c x : ℕ) (l : List ℕ) → c ≤ length l → last c (x ∷ l) ≡ last c l
last-long c x l h = let n : suc (length l) - c ≡ suc (length l - c) = omega arith in rw n refl

last-short : (c : ℕ) (l : List ℕ) → length l ≤ c → last c l ≡ l
last-short c l h = let n : length l - c ≡ 0 = omega arith in rw n refl

pub has-drop : (k n : ℕ) (l : List ℕ) → has_key k (drop n l) ≡ true → has_key k l ≡ true
has-drop k zero l h = h
has-drop k (suc n) [] h = absurd (cc (h))
has-drop k (suc n) (a ∷ l) h = grind (arith, nat_tests, two (eqb k a), has-drop k n l h)

-- k is among the last, and goes to the end
last-hit : (c k : ℕ) (l : List ℕ) → IsDistinct l → has_key k (last (suc c) l) ≡ true → last c (keys_without k l) ≡ keys_without k (last (suc c) l)
last-hit c k [] d h = absurd (let no : false ≡ true = rw (last-short (suc c) [] (omega arith)) at h in cc (no))
last-hit c k (x ∷ l) d h =
    grind (arith, nat_tests, last-long, has-drop, without-long, last-hit c k l d.1, last-short, without-short)

-- k is not among the last
last-miss : (c k : ℕ) (l : List ℕ) → IsDistinct l → has_key k (last (suc c) l) ≡ false → last c (keys_without k l) ≡ cond (nat_lt (length l) (suc c)) l (drop 1 (last (suc c) l))
last-miss c k [] d h = grind (arith, nat_tests, last-short)
last-miss c k (x ∷ l) d h =
    grind (arith, nat_tests, last-long, without-none, without-long, last-miss c k l d.1, last-short)

last-snoc : (c k : ℕ) (l : List ℕ) → last (suc c) (l ++ k ∷ []) ≡ last c l ++ k ∷ []
last-snoc c k l = grind (arith, nat_tests, length-append, drop-append-le)

has-snoc : (a k : ℕ) (xs : List ℕ) → has_key a (xs ++ k ∷ []) ≡ cond (has_key a xs) true (eqb a k)
has-snoc a k [] = elim (two (eqb a k)) as (λ _. cond (eqb a k) true false ≡ eqb a k) [ inl e ↦ rw e refl | inr e ↦ rw e refl ]
has-snoc a k (x ∷ xs) = grind (arith, nat_tests, two (eqb a x), has-snoc a k xs)

distinct-snoc : (k : ℕ) (xs : List ℕ) → distinct_keys (xs ++ k ∷ []) ≡ keys_without k (distinct_keys xs) ++ k ∷ []
distinct-snoc k [] = refl
distinct-snoc k (a ∷ xs) = grind (arith, nat_tests, has-snoc, distinct-snoc k xs)

pub not-drop : (k n : ℕ) (l : List ℕ) → has_key k l ≡ false → has_key k (drop n l) ≡ false
not-drop k n l h = grind (arith, nat_tests, two (has_key k (drop n l)), has-drop)

-- a key is a resident where it is a hit
has-last : (c k : ℕ) (xs : List ℕ) → has_key k (lru_residents c xs) ≡ is_lru_hit c xs k
has-last c k [] = let none : last c [] ≡ [] = last-short c [] (omega arith) in rw none refl
has-last c k (a ∷ xs) = search (arith, has-last c k xs, last-long, last-short, has-distinct, not-drop)

full-last : (c : ℕ) (l : List ℕ) → nat_lt (length (last c l)) c ≡ nat_lt (length l) c
full-last c l = grind (arith, nat_tests, length-drop, last-short)

-- the residents, one access further
pub residents-snoc : (c k : ℕ) (xs : List ℕ) → lru_residents (suc c) (xs ++ k ∷ []) ≡ moved (suc c) (lru_residents (suc c) xs) k
residents-snoc c k xs =
    rw (distinct-snoc k xs, last-snoc c k (keys_without k (distinct_keys xs)))
    (grind (arith, nat_tests, two (has_key k (last (suc c) (distinct_keys xs))), last-hit, distinct-distinct xs, last-miss, full-last (suc c) (distinct_keys xs), last-short))

-- the outcome is the one that the residents show
pub outcome-residents : (c k : ℕ) (xs : List ℕ) → lru_outcome c xs k ≡ answer c (lru_residents c xs) k
outcome-residents c k xs = rw (has-last c k xs, full-last c (distinct_keys xs)) refl
