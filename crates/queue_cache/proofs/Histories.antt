-- A histogram, one access of the trace after another.
use Rattle.std.proofs.Common.{◌≡◌, ℕ, suc, zero, ◌+◌, ◌<◌, ◌≤◌, Bool, true, false, cond, eqb, nat_eq, nat_lt, Option, Some, None, List, [], ◌∷◌, ◌++◌, length, count_by, take, drop, get_or, ap, ◌∙◌, sym, refl, arith, append_assoc, append-nil, length-take, set, inl, inr, get_or-set_other}
use Rattle.std.proofs.lemmas.Bool.{eqb-true, ne_eqb, cases_eq, cases_lt, eq-eqb}
use Rattle.std.proofs.lemmas.Bool.Decides.{nat_tests}
use Rattle.std.proofs.lemmas.List.{take_more, get_or_past}
use Rattle.std.proofs.lemmas.List.Sums.{sum_by_push, count_by-le-length}
use Rattle.engine_base.specs.Keys.{has_key}
use Rattle.engine_base.specs.Bits.{bit_of}
use Rattle.queue_cache.specs.Lru.{distinct_keys, keys_since}
use Rattle.queue_cache.proofs.Recency.{has-drop, two}
use Rattle.trace_index.specs.KeyPlaces.{place_of}
use Rattle.trace_index.specs.Uses.{last_below, number_of}
use Rattle.queue_cache.specs.Distances.{distance, distances_after, distances}
use Rattle.queue_cache.specs.Sums.{mark_of, sum_below}
use Rattle.queue_cache.specs.Histogram.{Histogram, is_last, is_at, IsHistogram, count_at, IsNoted}
use Rattle.queue_cache.proofs.Bits.{put-marks}
use Rattle.queue_cache.proofs.Counting.{again-next, came-by, last_number, last-key, last-low, past-end, stack, stack-front, stack-next, since-beyond, since-within}
use Rattle.std.proofs.lemmas.Grind.{get_or-set_at}
use Rattle.engine_base.specs.declared.limits.TheConstants.{MAX_ACCESSES}
use Rattle.queue_cache.proofs.Prefix.{none-deeper}

-- ---- the distances

snoc-after : (past xs : List ℕ) (k : ℕ) → distances_after past (xs ++ k ∷ []) ≡ distances_after past xs ++ distance (past ++ xs) k ∷ []
snoc-after past [] k = rw (append-nil past) refl
snoc-after past (a ∷ xs) k = ap (λ (ds : List (Option ℕ)). distance past a ∷ ds) (snoc-after (past ++ a ∷ []) xs k ∙ ap (λ (l : List ℕ). distances_after (past ++ a ∷ []) xs ++ distance l k ∷ []) (append_assoc past (a ∷ []) xs))

pub distances-long : (past xs : List ℕ) → length (distances_after past xs) ≡ length xs
distances-long past [] = refl
distances-long past (a ∷ xs) = ap suc (distances-long (past ++ a ∷ []) xs)

pub count-snoc : (p : Option ℕ → Bool) (xs : List ℕ) (k : ℕ) → count_by p (distances (xs ++ k ∷ [])) ≡ count_by p (distances xs) + cond (p (distance xs k)) 1 0
count-snoc p xs k = ap (λ (ds : List (Option ℕ)). count_by p ds) (snoc-after [] xs k) ∙ sum_by_push (λ x. cond (p x) 1 0) (distances xs) (distance xs k)

distance-none : (xs : List ℕ) (k : ℕ) → has_key k xs ≡ false → distance xs k ≡ None
distance-none xs k h = rw h refl

pub push-zero : (cs : List ℕ) (d : ℕ) → get_or (cs ++ 0 ∷ []) d 0 ≡ get_or cs d 0
push-zero [] zero = refl
push-zero [] (suc d) = refl
push-zero (c ∷ cs) zero = refl
push-zero (c ∷ cs) (suc d) = push-zero cs d

-- with the access at a place of a trace
pub count-next : (p : Option ℕ → Bool) (keys : List ℕ) (place : ℕ) → place < length keys → count_by p (distances (take (place + 1) keys)) ≡ count_by p (distances (take place keys)) + cond (p (distance (take place keys) (get_or keys place 0))) 1 0
count-next p keys place in_it = ap (λ l. count_by p (distances l)) (take_more keys place 0 in_it) ∙ count-snoc p (take place keys) (get_or keys place 0)

-- ---- the marks

sum-low : (ws : List ℕ) (n : ℕ) → sum_below (mark_of ws) n ≤ n
sum-low ws zero = omega arith
sum-low ws (suc n) = grind (arith, nat_tests, two (bit_of ws n), sum-low ws n)

-- an access is the last one to its key, and that to the same key before it is no more
next-last : (keys : List ℕ) (place : ℕ) (in_it : place < length keys) (before : ℕ) → before ≡ last_number keys place (get_or keys place 0) → (q : ℕ) → is_last keys (place + 1) q ≡ cond (eqb (q + 1) before) false (cond (eqb q place) true (is_last keys place q))
next-last keys place in_it before noted q =
    let again = again-next keys place in_it before noted q in
    let low = last-low keys place (get_or keys place 0) in
    let last : q ≡ place → has_key (get_or keys q 0) (drop (suc q) (take (place + 1) keys)) ≡ false = λ e. ap (has_key (get_or keys q 0)) (past-end keys (place + 1) (suc q) (omega (arith, in_it)) (omega (arith, e))) in
    grind (arith, nat_tests, again, low, last, noted)

-- ---- one access

module _ (keys : List ℕ) (place : ℕ) (in_it : place < length keys) (h : Histogram) (c : IsHistogram keys place h) where
  abbrev key : ℕ
  key = get_or keys place 0

  abbrev words : List ℕ
  words = h.marks.words.items

  pub free : bit_of words place ≡ false
  free = c.marked place ∙ (let no : nat_lt place place ≡ false = grind (arith, nat_tests) in rw no refl)

  pub marks-few : sum_below (mark_of words) (place + 1) ≤ place
  marks-few = let on : place + 1 ≡ suc place = omega arith in let none : mark_of words place ≡ 0 = rw free refl in rw on (omega (arith, sum-low words place, none))

  -- of the distinct keys, those whose last access is below p are marked there, and the others make up the stack from p
  stack-below : (p : ℕ) → p ≤ place → sum_below (mark_of words) p + stack keys place p ≡ stack keys place 0
  stack-below zero low = omega arith
  stack-below (suc p) low = grind (arith, nat_tests, stack-below p (omega (arith, low)), low, stack-front)

  pub last-next : (places : ℕ → Option ℕ) → ((x : ℕ) → places x ≡ cond (nat_eq key x) (Some place) (place_of h.last x)) → (x : ℕ) → places x ≡ last_below keys (place + 1) x
  last-next places updates x = grind (arith, nat_tests)

  module _ (vs : List ℕ) (puts : (q : ℕ) → bit_of vs q ≡ cond (eqb q place) true (bit_of words q)) where
    marked-next : (before : ℕ) → before ≡ last_number keys place key → (q : ℕ) → cond (eqb (q + 1) before) false (bit_of vs q) ≡ is_last keys (place + 1) q
    marked-next before noted q = ap (cond (eqb (q + 1) before) false) (puts q ∙ ap (cond (eqb q place) true) (c.marked q)) ∙ sym (next-last keys place in_it before noted q)

    -- to a new key
    module _ (none : place_of h.last key ≡ None) where
      gone : has_key key (take place keys) ≡ false
      gone = sym (came-by keys place 0 key (omega (arith, in_it))) ∙ rw (sym (c.last key) ∙ none) refl

      pub first-marked : (q : ℕ) → bit_of vs q ≡ is_last keys (place + 1) q
      first-marked q = grind (arith, nat_tests, ne_eqb, marked-next 0 (sym (ap number_of (sym (c.last key) ∙ none))) q)

      pub first-long : length h.counts.items + 1 ≡ length (distinct_keys (take (place + 1) keys))
      first-long = let more : length (distinct_keys (take (place + 1) keys)) ≡ suc (length (distinct_keys (take place keys))) = stack-next keys place 0 in_it (omega arith) ∙ rw gone refl in omega (arith, more, c.long)

      pub first-counted : (d : ℕ) → count_by (is_at (suc d)) (distances (take place keys)) ≡ count_by (is_at (suc d)) (distances (take (place + 1) keys))
      first-counted d = sym (count-next (is_at (suc d)) keys place in_it ∙ (ap (λ o. count_by (is_at (suc d)) (distances (take place keys)) + cond (is_at (suc d) o) 1 0) (distance-none (take place keys) key gone) ∙ omega arith))

    -- to a key that came before, last at p
    module _ (p : ℕ) (some : place_of h.last key ≡ Some p) where
      number : suc p ≡ last_number keys place key
      number = sym (ap number_of (sym (c.last key) ∙ some))

      pub low : p < place
      low = omega (arith, number, last-low keys place key)

      in-stack : has_key key (drop p (take place keys)) ≡ true
      in-stack = grind (arith, nat_tests, came-by keys place p key (omega (arith, in_it)), number)

      behind : has_key key (drop (suc p) (take place keys)) ≡ false
      behind = grind (arith, nat_tests, came-by keys place (suc p) key (omega (arith, in_it)), number)

      is-key : key ≡ get_or keys p 0
      is-key = eqb-true key (get_or keys p 0) (last-key keys place key p (sym number))

      last-there : has_key (get_or keys p 0) (drop (suc p) (take place keys)) ≡ false
      last-there = ap (λ k. has_key k (drop (suc p) (take place keys))) (sym is-key) ∙ behind

      came : has_key key (take place keys) ≡ true
      came = has-drop key p (take place keys) in-stack

      pub there : bit_of vs p ≡ true
      there = let is = puts p in let mark = c.marked p in let before = low in grind (arith, nat_tests, is, mark, before, last-there)

      pub below-few : sum_below (mark_of vs) p ≤ place
      below-few = omega (arith, sum-low vs p, low)

      pub depth : sum_below (mark_of vs) p + suc (length (distinct_keys (keys_since key (take place keys)))) ≡ length h.counts.items
      depth =
          let none : cond {A = ℕ} (nat_lt place p) 1 0 ≡ 0 = (let l : p < place = low in grind (arith, nat_tests)) in
          let front = rw last-there at (stack-front keys place p low (omega (arith, in_it))) in
          omega (arith, put-marks words vs place free puts p, none, stack-below p (omega (arith, low)), front, since-within key p (take place keys) in-stack, since-beyond key (suc p) (take place keys) came behind, c.long)

      pub again-marked : (q : ℕ) → cond (eqb q p) false (bit_of vs q) ≡ is_last keys (place + 1) q
      again-marked q =
          let same : eqb q p ≡ eqb (q + 1) (suc p) = grind (arith, nat_tests) in
          ap (λ b. cond b false (bit_of vs q)) same ∙ marked-next (suc p) number q

      pub again-long : length h.counts.items ≡ length (distinct_keys (take (place + 1) keys))
      again-long = c.long ∙ sym (stack-next keys place 0 in_it (omega arith) ∙ rw came refl)

      pub again-counted : (e : ℕ) → e + 1 + sum_below (mark_of vs) p ≡ length h.counts.items → (d : ℕ) → count_by (is_at (suc d)) (distances (take place keys)) + cond (eqb d e) 1 0 ≡ count_by (is_at (suc d)) (distances (take (place + 1) keys))
      again-counted e deep d = grind (arith, nat_tests, depth, came, count-next)

-- ---- what was noted, to be counted

module _ (counts noted : List ℕ) (d : ℕ) where
  pub noted-more : (q : ℕ) → count_at counts (noted ++ d ∷ []) q ≡ count_at counts noted q + cond (eqb q d) 1 0
  noted-more q = omega (arith, sum_by_push (λ x. cond {A = ℕ} (eqb q x) 1 0) noted d)

  noted-there : count_at counts (noted ++ d ∷ []) d ≡ count_at counts noted d + 1
  noted-there = noted-more d ∙ ap (λ b. count_at counts noted d + cond b 1 0) (eq-eqb d d refl)

  -- the last one is counted
  pub counted-last : d < length counts → (q : ℕ) → count_at (set counts d (get_or counts d 0 + 1)) noted q ≡ count_at counts (noted ++ d ∷ []) q
  counted-last within q = search (arith, cases_eq, get_or-set_at, noted-there, get_or-set_other, noted-more, ne_eqb)

  module _ (first-counts first-noted : List ℕ) (may : IsNoted first-counts first-noted) (same : (q : ℕ) → count_at counts (noted ++ d ∷ []) q ≡ count_at first-counts first-noted q) where
    pub last-within : length counts ≡ length first-counts → d < length counts
    last-within long = elim (cases_lt d (length counts)) [
      | inl l ↦ l
      | inr past ↦ absurd (omega (arith, same d, noted-there, may.within d (omega (arith, past, long)), get_or_past first-counts d 0 (omega (arith, past, long))))
    ]

-- what a histogram noted may be counted
pub may-count : (keys : List ℕ) (place : ℕ) (h : Histogram) → length keys ≤ MAX_ACCESSES → IsHistogram keys place h → IsNoted h.counts.items h.noted.items
may-count keys place h few c = record {
  within = λ d past. omega (arith, c.counted d, none-deeper (take place keys) d (omega (arith, past, c.long)));
  few = λ d. omega (arith, c.counted d, count_by-le-length (is_at (suc d)) (distances (take place keys)), distances-long [] (take place keys), length-take place keys, few);
}
