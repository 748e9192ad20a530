-- Lru is conservative: a key that came again in a stretch of few keys is resident still.
use Rattle.std.proofs.Common.{◌≡◌, ℕ, zero, suc, ◌+◌, ◌<◌, ◌≤◌, Bool, true, false, cond, nat_lt, List, [], ◌∷◌, ◌++◌, length, take, get_or, ap, ◌∙◌, sym, refl, arith, inl, inr}
use Rattle.std.proofs.lemmas.Bool.Decides.{nat_tests}
use Rattle.std.proofs.lemmas.Bool.{cases_lt, lt-ltb, cases_eq}
use Rattle.std.proofs.lemmas.List.{take-append-drop}
use Rattle.engine_base.specs.Keys.{has_key}
use Rattle.engine_base.specs.Stats.{is_hit}
use Rattle.engine_base.specs.declared.outcome.Outcome.TheVariants.{Hit, Kept, Evicted}
use Rattle.clairvoyant.proofs.Belady.{later}
use Rattle.queue_cache.specs.Lru.{distinct_keys, keys_since}
use Rattle.queue_cache.proofs.Recency.{outcome-residents}
use Rattle.policy_laws.specs.Strategy.{strategy_misses}
use Rattle.policy_laws.proofs.Lru.{lru_at}
use Rattle.conservative_laws.specs.Conservative.{stretch, IsConservative, FillsFirst}
use Rattle.conservative_laws.proofs.Stretches.{misses-next, distinct-subset, stretch-next, has-last}
use Rattle.replacement.proofs.Residents.{has-append}

hit-of : (b room : Bool) (v : ℕ) → is_hit (cond b Hit (cond room Kept (Evicted v))) ≡ b
hit-of w room v = grind (arith, nat_tests)

-- ---- what came after the last access to k

has-second : (k : ℕ) (xs ys : List ℕ) → has_key k ys ≡ true → has_key k (xs ++ ys) ≡ true
has-second k [] ys h = h
has-second k (a ∷ xs) ys h = later k a (xs ++ ys) (has-second k xs ys h)

since-second : (k : ℕ) (xs ys : List ℕ) → has_key k ys ≡ true → keys_since k (xs ++ ys) ≡ keys_since k ys
since-second k [] ys h = refl
since-second k (a ∷ xs) ys h = rw (has-second k xs ys h) (since-second k xs ys h)

since-among : (k x : ℕ) (xs : List ℕ) → has_key x (keys_since k xs) ≡ true → has_key x xs ≡ true
since-among k x [] h = h
since-among k x (a ∷ xs) h = grind (arith, nat_tests, since-among k x xs)

since-without : (k : ℕ) (xs : List ℕ) → has_key k (keys_since k xs) ≡ false
since-without k [] = refl
since-without k (a ∷ xs) = grind (arith, nat_tests, since-without k xs)

-- fewer keys than with k
since-fewer : (k : ℕ) (xs : List ℕ) → has_key k xs ≡ true → length (distinct_keys (keys_since k xs)) < length (distinct_keys xs)
since-fewer k xs h =
    let more : length (distinct_keys (k ∷ keys_since k xs)) ≡ suc (length (distinct_keys (keys_since k xs))) = rw (since-without k xs) refl in
    let few = distinct-subset (k ∷ keys_since k xs) xs (λ x g. grind (arith, nat_tests, since-among)) in
    omega (arith, more, few)

-- ---- a stretch

module _ (c : ℕ) (t : List ℕ) (i : ℕ) where
  came-again : (n : ℕ) → has_key (get_or t n 0) (stretch t i n) ≡ true → length (distinct_keys (stretch t i n)) ≤ c → has_key (get_or t n 0) (lru_at c t n) ≡ true
  came-again n h few =
      let k : ℕ = get_or t n 0 in
      let parts : take i (take n t) ++ stretch t i n ≡ take n t = take-append-drop i (take n t) in
      let there : has_key k (take n t) ≡ true = ap (has_key k) (sym parts) ∙ has-second k (take i (take n t)) (stretch t i n) h in
      let since : keys_since k (take n t) ≡ keys_since k (stretch t i n) = ap (keys_since k) (sym parts) ∙ since-second k (take i (take n t)) (stretch t i n) h in
      let long : length (distinct_keys (keys_since k (take n t))) ≡ length (distinct_keys (keys_since k (stretch t i n))) = ap (λ l. length (distinct_keys l)) since in
      let less : nat_lt (length (distinct_keys (keys_since k (take n t)))) c ≡ true = lt-ltb _ c (omega (arith, long, since-fewer k (stretch t i n) h, few)) in
      (sym (hit-of _ _ _) ∙ (ap is_hit (sym (outcome-residents c k (take n t))) ∙ hit-of _ _ _)) ∙ rw (there, less) refl

  -- it misses each key once
  few-misses : (n : ℕ) → i ≤ n → n ≤ length t → length (distinct_keys (stretch t i n)) ≤ c
      → strategy_misses t (lru_at c t) n ≤ strategy_misses t (lru_at c t) i + length (distinct_keys (stretch t i n))
  few-misses zero h l few = let same : 0 ≡ i = omega (arith, h) in rw same (omega arith)
  few-misses (suc n) h l few =
      elim (cases_lt i (suc n)) [
        | inr f ↦ let same : suc n ≡ i = omega (arith, h, f) in let equal : strategy_misses t (lru_at c t) (suc n) ≡ strategy_misses t (lru_at c t) i = ap (strategy_misses t (lru_at c t)) same in omega (arith, equal)
        | inl f ↦
            let k : ℕ = get_or t n 0 in
            let s : List ℕ = stretch t i n in
            let longer : stretch t i (suc n) ≡ s ++ k ∷ [] = stretch-next t i n (omega (arith, f)) (omega (arith, l)) in
            let size : length (distinct_keys (stretch t i (suc n))) ≡ length (distinct_keys (s ++ k ∷ [])) = ap (λ x. length (distinct_keys x)) longer in
            let grows : length (distinct_keys s) ≤ length (distinct_keys (s ++ k ∷ [])) = distinct-subset s (s ++ k ∷ []) (λ x g. (has-append x s (k ∷ []) ∙ ap (λ b. cond b true (has_key x (k ∷ []))) g)) in
            let rest = few-misses n (omega (arith, f)) (omega (arith, l)) (omega (arith, few, size, grows)) in
            let next = misses-next t (lru_at c t) n in
            let again = λ (e : has_key k s ≡ true). came-again n e (omega (arith, few, size, grows)) in
            let more = distinct-subset (k ∷ s) (s ++ k ∷ [])
            (λ x g. grind (arith, nat_tests, has-last k s, has-append, cases_eq x k)) in
            grind (arith, nat_tests, rest, next, again, more, size, grows)
      ]

pub lru-conservative : (c : ℕ) (t : List ℕ) → IsConservative c t (strategy_misses t (lru_at c t))
lru-conservative c t i n h l few = let bound = few-misses c t i n h l few in omega (arith, bound, few)

pub lru-fills : (c : ℕ) (t : List ℕ) → FillsFirst c t (strategy_misses t (lru_at c t))
lru-fills c t n l few =
    elim (cases_lt c (length (distinct_keys (take n t)))) [
      | inl f ↦ omega (arith, few, f)
      | inr f ↦ let bound = few-misses c t 0 n (omega arith) l (omega (arith, f)) in omega (arith, bound)
    ]
