-- The hits at each capacity, as sums of the counts of distances.
use Rattle.std.proofs.Common.{◌≡◌, ℕ, suc, ◌+◌, ◌≤◌, min, cond, Option, List, [], ◌∷◌, ◌++◌, length, count_by, ap, ◌∙◌, sym, refl, arith, append_assoc, append-nil}
use Rattle.std.proofs.lemmas.Bool.{cases_lt}
use Rattle.std.proofs.lemmas.Bool.Decides.{nat_tests}
use Rattle.engine_base.specs.Keys.{has_key}
use Rattle.queue_cache.specs.Lru.{distinct_keys}
use Rattle.queue_cache.specs.Distances.{distance, distances_after, is_within, hits_within}
use Rattle.queue_cache.specs.Histogram.{is_at}
use Rattle.engine_base.proofs.Counting.{count-cons}
use Rattle.queue_cache.proofs.Counting.{grows, since-within}

-- ---- one distance more

one-more : (d : ℕ) (x : Option ℕ) → cond (is_within (suc d) x) 1 0 ≡ cond (is_within d x) 1 0 + cond (is_at (suc d) x) 1 0
one-more d v = grind (arith, nat_tests)

pub within-more : (d : ℕ) (ds : List (Option ℕ)) → count_by (is_within (suc d)) ds ≡ count_by (is_within d) ds + count_by (is_at (suc d)) ds
within-more d [] = omega arith
within-more d (x ∷ ds) = omega (arith, within-more d ds, one-more d x, count-cons (is_within (suc d)) x ds, count-cons (is_within d) x ds, count-cons (is_at (suc d)) x ds)

none-after : (past keys : List ℕ) → count_by (is_within 0) (distances_after past keys) ≡ 0
none-after past [] = refl
none-after past (k ∷ ks) = grind (arith, nat_tests, none-after (past ++ k ∷ []) ks, count-cons)

pub no-hits : (keys : List ℕ) → hits_within 0 keys ≡ 0
no-hits keys = none-after [] keys

-- ---- no distance is over the number of distinct keys

full : (c : ℕ) (xs : List ℕ) (k : ℕ) → length (distinct_keys xs) ≤ c → is_within c (distance xs k) ≡ has_key k xs
full c xs k h = let d = since-within k 0 xs in grind (arith, nat_tests, d, h)

pub more-distinct : (past keys : List ℕ) → length (distinct_keys past) ≤ length (distinct_keys (past ++ keys))
more-distinct past [] = rw (append-nil past) (omega arith)
more-distinct past (k ∷ ks) = grind (arith, nat_tests, grows, more-distinct (past ++ k ∷ []) ks, append_assoc)

full-after : (c d : ℕ) (past keys : List ℕ) → length (distinct_keys (past ++ keys)) ≤ c → length (distinct_keys (past ++ keys)) ≤ d → count_by (is_within c) (distances_after past keys) ≡ count_by (is_within d) (distances_after past keys)
full-after c d past [] h g = refl
full-after c d past (k ∷ ks) h g =
    let same : length (distinct_keys ((past ++ k ∷ []) ++ ks)) ≡ length (distinct_keys (past ++ k ∷ ks)) = ap (λ l. length (distinct_keys l)) (append_assoc past (k ∷ []) ks) in
    let first : is_within c (distance past k) ≡ is_within d (distance past k) = full c past k (omega (arith, more-distinct past (k ∷ ks), h)) ∙ sym (full d past k (omega (arith, more-distinct past (k ∷ ks), g))) in
    omega (arith, full-after c d (past ++ k ∷ []) ks (omega (arith, same, h)) (omega (arith, same, g)), ap (λ b. cond {A = ℕ} b 1 0) first, count-cons (is_within c) (distance past k) (distances_after (past ++ k ∷ []) ks), count-cons (is_within d) (distance past k) (distances_after (past ++ k ∷ []) ks))

-- past the number of distinct keys the hits stay
pub hits-held : (c : ℕ) (keys : List ℕ) → hits_within (min (length (distinct_keys keys)) c) keys ≡ hits_within c keys
hits-held c keys = search (arith, cases_lt c (length (distinct_keys keys)), full-after (length (distinct_keys keys)) c)

-- no distance is over the number of distinct keys
pub none-deeper : (keys : List ℕ) (d : ℕ) → length (distinct_keys keys) ≤ d → count_by (is_at (suc d)) (distances_after [] keys) ≡ 0
none-deeper keys d past = grind (arith, nat_tests, full-after (suc d) d, within-more d (distances_after [] keys))
