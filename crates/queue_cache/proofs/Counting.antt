-- What Lru counts, by the distances.
use Rattle.std.proofs.Common.{◌≡◌, ℕ, suc, zero, ◌≤◌, true, false, cond, eqb, List, [], ◌∷◌, ◌++◌, length, drop, refl, arith, ◌+◌, ◌<◌, nat_lt, take, get_or, ap, ◌∙◌, sym, inl, inr, drop-cons, min, Option, count_by, append_assoc, append-nil}
use Rattle.std.proofs.lemmas.Bool.{eqb-true, cases_lt, eq-eqb}
use Rattle.std.proofs.lemmas.Bool.Decides.{nat_tests}
use Rattle.engine_base.specs.Keys.{has_key}
use Rattle.queue_cache.specs.Lru.{lru, distinct_keys, keys_since, Outcome, is_lru_hit, lru_outcome}
use Rattle.queue_cache.proofs.Recency.{has-drop, two}
use Rattle.std.proofs.lemmas.Grind.{common_steps}
use Rattle.std.proofs.lemmas.List.{get_or-take, drop-append-le, length-take-le, take_more}
use Rattle.std.proofs.Math.ListN.{drop_of_length-le}
use Rattle.trace_index.specs.Uses.{last_below, number_of}
use Rattle.std.proofs.lemmas.List.Sums.{sum_by-le-sum_by}
use Rattle.engine_base.specs.Machine.{outcomes_of_all}
use Rattle.engine_base.specs.Stats.{is_hit, is_miss, is_eviction, is_rejection, one_if, stats_of}
use Rattle.engine_base.proofs.Counting.{count-cons, hits-misses}
use Rattle.engine_base.proofs.Machine.{next, counted as stats-counted}
use Rattle.queue_cache.specs.declared.design.QueueSetup.{QueueSetup}
use Rattle.queue_cache.specs.QueueCache.{queue_access, queue_machine, state_after, outcomes_after}
use Rattle.queue_cache.proofs.Balance.{queue-counting}
use Rattle.queue_cache.proofs.OneQueue.{outcome-lru}
use Rattle.queue_cache.specs.DistanceTheorems.{LruHits, LruCounts}
use Rattle.queue_cache.specs.Distances.{distance, distances_after, distances, is_within, hits_within, stats_by, stats_within}

-- ---- the stack of the distinct keys, one access after another

pub has-snoc : (a k : ℕ) (xs : List ℕ) → has_key a (xs ++ k ∷ []) ≡ cond (has_key a xs) true (eqb a k)
has-snoc a k [] = grind arith
has-snoc a k (x ∷ xs) = let rest = has-snoc a k xs in grind (arith, rest)

-- a first access makes the stack longer, and no other
pub grows : (k : ℕ) (xs : List ℕ) → length (distinct_keys (xs ++ k ∷ [])) ≡ cond (has_key k xs) (length (distinct_keys xs)) (suc (length (distinct_keys xs)))
grows k [] = refl
grows k (a ∷ xs) = grind (arith, nat_tests, eqb-true, has-snoc a k xs, grows k xs)

-- ---- the distinct keys from a place on

front-more : (a : ℕ) (xs : List ℕ) → length (distinct_keys xs) ≤ length (distinct_keys (a ∷ xs))
front-more a xs = grind arith

pub fewer-behind : (f : ℕ) (xs : List ℕ) → length (distinct_keys (drop f xs)) ≤ length (distinct_keys xs)
fewer-behind zero xs = omega arith
fewer-behind (suc f) [] = omega arith
fewer-behind (suc f) (a ∷ xs) = let r = fewer-behind f xs in let m = front-more a xs in omega (arith, r, m)

-- what came since the last access to k is within what came from a place on, where k came there
pub since-within : (k f : ℕ) (xs : List ℕ) → has_key k (drop f xs) ≡ true → suc (length (distinct_keys (keys_since k xs))) ≤ length (distinct_keys (drop f xs))
since-within k zero [] h = absurd (cc h)
since-within k zero (a ∷ xs) h = grind (arith, nat_tests, eqb-true, since-within k zero xs, front-more a xs)
since-within k (suc f) [] h = absurd (cc h)
since-within k (suc f) (a ∷ xs) h = rw (has-drop k f xs h) (since-within k f xs h)

-- and reaches further, where k came before that place alone
pub since-beyond : (k f : ℕ) (xs : List ℕ) → has_key k xs ≡ true → has_key k (drop f xs) ≡ false → length (distinct_keys (drop f xs)) ≤ length (distinct_keys (keys_since k xs))
since-beyond k zero xs came h = absurd (cc (came, h))
since-beyond k (suc f) [] came h = absurd (cc came)
since-beyond k (suc f) (a ∷ xs) came h =
    let rest : has_key k xs ≡ true → length (distinct_keys (drop f xs)) ≤ length (distinct_keys (keys_since k xs)) = λ e. since-beyond k f xs e h in
    let few = fewer-behind f xs in
    grind (arith, rest, few)

-- ---- where keys of a trace came last

-- ---- the accesses from a place on

pub past-length : (keys : List ℕ) (place : ℕ) → place < length keys → length (take place keys) ≡ place
past-length keys place in_it = length-take-le place keys (omega (arith, in_it))

pub front-at : (keys : List ℕ) (n s : ℕ) → s < n → n ≤ length keys → drop s (take n keys) ≡ get_or keys s 0 ∷ drop (suc s) (take n keys)
front-at keys n s h all = grind (arith, nat_tests, length-take-le n keys all, drop-cons, get_or-take n keys s 0 h)

-- what comes from a place on, with one access more
pub drop-next : (keys : List ℕ) (place f : ℕ) → place < length keys → f ≤ place → drop f (take (place + 1) keys) ≡ drop f (take place keys) ++ get_or keys place 0 ∷ []
drop-next keys place f in_it h = grind (arith, common_steps, take_more, drop-append-le, past-length)

pub past-end : (keys : List ℕ) (n f : ℕ) → n ≤ length keys → n ≤ f → drop f (take n keys) ≡ []
past-end keys n f all h = drop_of_length-le (take n keys) {i = f} (omega (arith, length-take-le n keys all, h))

-- the number of the last access to a key is above f exactly where the key came at f or later
pub came-by : (keys : List ℕ) (n f k : ℕ) → n ≤ length keys → nat_lt f (number_of (last_below keys n k)) ≡ has_key k (drop f (take n keys))
came-by keys zero f k h = grind (arith, nat_tests, past-end keys 0 f h (omega arith))
came-by keys (suc n) f k h =
    let in_it : n < length keys = omega (arith, h) in
    let rest : nat_lt f (number_of (last_below keys n k)) ≡ has_key k (drop f (take n keys)) = came-by keys n f k (omega (arith, h)) in
    elim (cases_lt n f) [
      | inl past ↦ grind (arith, nat_tests, past-end keys (suc n) f h (omega (arith, past)), past-end keys n f (omega (arith, h)) (omega (arith, past)))
      | inr within ↦
          let on : n + 1 ≡ suc n = omega arith in
          let more : has_key k (drop f (take (suc n) keys)) ≡ cond (has_key k (drop f (take n keys))) true (eqb k (get_or keys n 0)) =
          ap (λ (m : ℕ). has_key k (drop f (take m keys))) (sym on) ∙ (ap (has_key k) (drop-next keys n f in_it (omega (arith, within))) ∙ has-snoc k (get_or keys n 0) (drop f (take n keys))) in
          rw more (grind (arith, nat_tests))
    ]

-- how many distinct keys come from a place on, among the first n accesses
abbrev pub stack : List ℕ → ℕ → ℕ → ℕ
stack keys n f = length (distinct_keys (drop f (take n keys)))

-- the key at the front counts where it does not come again
pub stack-front : (keys : List ℕ) (n f : ℕ) → f < n → n ≤ length keys → stack keys n f ≡ cond (has_key (get_or keys f 0) (drop (suc f) (take n keys))) (stack keys n (suc f)) (suc (stack keys n (suc f)))
stack-front keys n f h all = ap (λ l. length (distinct_keys l)) (front-at keys n f h all) ∙ grind arith

-- and that of an access more where it did not come before
pub stack-next : (keys : List ℕ) (place f : ℕ) → place < length keys → f ≤ place → stack keys (place + 1) f ≡ cond (has_key (get_or keys place 0) (drop f (take place keys))) (stack keys place f) (suc (stack keys place f))
stack-next keys place f in_it h = ap (λ l. length (distinct_keys l)) (drop-next keys place f in_it h) ∙ grows (get_or keys place 0) (drop f (take place keys))

-- ---- the last place of a key, by its number

module _ (keys : List ℕ) where
  abbrev pub last_number : ℕ → ℕ → ℕ
  last_number n k = number_of (last_below keys n k)

  pub last-low : (n k : ℕ) → last_number n k ≤ n
  last-low zero k = omega arith
  last-low (suc n) k = let rest = last-low n k in grind (arith, rest)

  pub last-key : (n k i : ℕ) → last_number n k ≡ suc i → eqb k (get_or keys i 0) ≡ true
  last-key zero k i h = absurd (omega (arith, h))
  last-key (suc n) k i h = let rest = last-key n k i in grind (arith, nat_tests, rest, h)

  pub last-high : (n k i : ℕ) → i < n → eqb k (get_or keys i 0) ≡ true → i < last_number n k
  last-high zero k i h same = absurd (omega (arith, h))
  last-high (suc n) k i h same =
      let rest : i < n → i < last_number n k = λ l. last-high n k i l same in
      grind (arith, nat_tests, rest, h, same)

  module _ (place : ℕ) (in_it : place < length keys) (before : ℕ) (noted : before ≡ last_number place (get_or keys place 0)) where
    again-by : (i : ℕ) → nat_lt (suc i) (last_number (suc place) (get_or keys i 0)) ≡ cond (eqb (i + 1) before) true (nat_lt (suc i) (last_number place (get_or keys i 0)))
    again-by i =
        let low = last-low place (get_or keys place 0) in
        let back = last-key place (get_or keys place 0) i in
        let high : i < place → i < last_number place (get_or keys i 0) = λ l. last-high place (get_or keys i 0) i l (eq-eqb (get_or keys i 0) (get_or keys i 0) refl) in
        grind (arith, nat_tests, low, back, high, noted)

    -- the access at the place makes the key of the last one to its key come again, and no other
    pub again-next : (i : ℕ) → has_key (get_or keys i 0) (drop (suc i) (take (place + 1) keys)) ≡ cond (eqb (i + 1) before) true (has_key (get_or keys i 0) (drop (suc i) (take place keys)))
    again-next i =
        let on : place + 1 ≡ suc place = omega arith in
        ap (λ m. has_key (get_or keys i 0) (drop (suc i) (take m keys))) on
        ∙ (sym (came-by keys (suc place) (suc i) (get_or keys i 0) (omega (arith, in_it)))
        ∙ (again-by i ∙ ap (cond (eqb (i + 1) before) true) (came-by keys place (suc i) (get_or keys i 0) (omega (arith, in_it)))))

-- ---- one access

pub within-hits : (c : ℕ) (xs : List ℕ) (k : ℕ) → is_within c (distance xs k) ≡ is_lru_hit c xs k
within-hits c xs k = elim (two (has_key k xs)) [ inl h ↦ rw h refl | inr h ↦ rw h refl ]

outcome-is : (c : ℕ) (xs : List ℕ) (k : ℕ) → (is_hit (lru_outcome c xs k) ≡ is_lru_hit c xs k) × (is_rejection (lru_outcome c xs k) ≡ false)
outcome-is c xs k = (grind arith, grind arith)

pub lru_hits : LruHits
lru_hits s keys k is room = ap is_hit (outcome-lru s is room keys k) ∙ ((outcome-is s.config.capacity keys k).0 ∙ sym (within-hits s.config.capacity keys k))

-- ---- a list of accesses

abbrev lru_outcomes : ℕ → List ℕ → List ℕ → List Outcome
lru_outcomes c past [] = []
lru_outcomes c past (k ∷ ks) = lru_outcome c past k ∷ lru_outcomes c (past ++ k ∷ []) ks

module _ (s : QueueSetup) (is_lru : s.design ≡ lru) (room : 1 ≤ s.config.capacity) where
  from-outcomes : (past keys : List ℕ) → outcomes_of_all queue_access (state_after s past) keys ≡ lru_outcomes s.config.capacity past keys
  from-outcomes past [] = refl
  from-outcomes past (k ∷ ks) =
      ap (λ o. o ∷ outcomes_of_all queue_access (queue_access k (state_after s past)).1 ks) (outcome-lru s is_lru room past k)
      ∙ ap (λ l. lru_outcome s.config.capacity past k ∷ l)
      (ap (λ d. outcomes_of_all queue_access d ks) (sym (next (queue_machine s) past k)) ∙ from-outcomes (past ++ k ∷ []) ks)

  all-outcomes : (keys : List ℕ) → outcomes_after s keys ≡ lru_outcomes s.config.capacity [] keys
  all-outcomes keys = from-outcomes [] keys

-- ---- counts

-- a miss without an eviction fills one place
fills : (c : ℕ) (xs : List ℕ) (k : ℕ) → one_if (is_eviction (lru_outcome c xs k)) + min c (length (distinct_keys (xs ++ k ∷ []))) ≡ one_if (is_miss (lru_outcome c xs k)) + min c (length (distinct_keys xs))
fills c xs k = grind (arith, nat_tests, grows k xs, since-within k 0 xs)

abbrev IsCounted : ℕ → List ℕ → List ℕ → List Outcome → Type 0
IsCounted c past keys os = (count_by is_hit os ≡ count_by (is_within c) (distances_after past keys)) × (length os ≡ length keys) × (count_by is_rejection os ≡ 0)
    × (count_by is_eviction os + min c (length (distinct_keys (past ++ keys))) ≡ count_by is_miss os + min c (length (distinct_keys past)))

counted : (c : ℕ) (past keys : List ℕ) → IsCounted c past keys (lru_outcomes c past keys)
counted c past [] = (refl, refl, refl, rw (append-nil past) refl)
counted c past (k ∷ ks) =
    grind (arith, common_steps, counted c (past ++ k ∷ []) ks, outcome-is, append_assoc, within-hits, count-cons, fills)

-- ---- the statistics

outcomes-counted : (c : ℕ) (keys : List ℕ) → stats_of (lru_outcomes c [] keys) ≡ stats_within c keys
outcomes-counted c keys = grind (arith, nat_tests, counted, hits-misses)

pub lru_counts : LruCounts
lru_counts s keys is room =
    stats-counted (queue_machine s) (λ d. d.stats) (queue-counting s) keys ∙ ap stats_of (all-outcomes s is room keys) ∙ outcomes-counted s.config.capacity keys

-- as the misses less the keys that are left at the end
pub stats-read : (s : QueueSetup) (keys : List ℕ) (n h held c : ℕ) → s.design ≡ lru → s.config.capacity ≡ c → 1 ≤ c → n ≡ length keys → h ≡ hits_within c keys → held ≡ min c (length (distinct_keys keys))
    → stats_by n h held ≡ (state_after s keys).stats
stats-read s keys n h held c is cap some all hits left = grind (arith, nat_tests, lru_counts s keys is (rw cap some))

-- a miss fills a place of the cache, or evicts
pub hits-and-held : (c : ℕ) (keys : List ℕ) → hits_within c keys + min c (length (distinct_keys keys)) ≤ length keys
hits-and-held c keys = let n = counted c [] keys in omega (arith, n.0, n.1, n.3, hits-misses (lru_outcomes c [] keys))

-- ---- larger capacities

within-more : (c d : ℕ) (x : Option ℕ) → c ≤ d → one_if (is_within c x) ≤ one_if (is_within d x)
within-more c d v h = grind (arith, nat_tests)

pub hits_grow : (c d : ℕ) (keys : List ℕ) → c ≤ d → hits_within c keys ≤ hits_within d keys
hits_grow c d keys h = sum_by-le-sum_by (λ x. one_if (is_within c x)) (λ x. one_if (is_within d x)) (distances keys) (λ x. within-more c d x h)
