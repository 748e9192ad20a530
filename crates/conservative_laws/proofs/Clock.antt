-- CLOCK is conservative: in a stretch of few keys each miss is one of the evictions that were ahead of it, or fills up the
-- cache.
use Rattle.std.proofs.Common.{◌≡◌, ℕ, zero, suc, ◌+◌, ◌<◌, ◌≤◌, true, false, not, nat_lt, List, [], ◌∷◌, length, take, get_or, ap, refl, arith, inl, inr, length-append}
use Rattle.std.proofs.lemmas.Bool.{cases_Bool, cases_lt, eq-eqb, ltb-false, cases_eq}
use Rattle.std.proofs.lemmas.Bool.Decides.{nat_tests}
use Rattle.engine_base.specs.Keys.{has_key}
use Rattle.engine_base.specs.Stats.{one_if}
use Rattle.queue_cache.specs.Lru.{distinct_keys}
use Rattle.policy_laws.specs.Strategy.{strategy_misses}
use Rattle.engine_base.specs.Machine.{state_after_all}
use Rattle.policy_pages.specs.Residents.{times}
use Rattle.policy_pages.specs.CountedKeys.{CountedKey, keys_of, with_count, oldest_count, AreCounted}
use Rattle.policy_pages.specs.Turns.{after_turn, turn_count_within, after_turns}
use Rattle.policy_pages.specs.Clock.{marked_key, clock_eviction, clock_act, IsClock}
use Rattle.policy_pages.specs.ClockPlan.{clock_page}
use Rattle.policy_pages.specs.PolicyPage.{page_machine}
use Rattle.policy_pages.proofs.Residents.{times-none, no-times, page-keeps}
use Rattle.policy_pages.proofs.CountedKeys.{length-keys, keys-with}
use Rattle.policy_pages.proofs.Turns.{settled, turns-times, turns-length, turns-counted}
use Rattle.policy_pages.proofs.ClockKeeping.{keeps}
use Rattle.conservative_laws.specs.Conservative.{stretch, IsConservative}
use Rattle.conservative_laws.proofs.Stretches.{misses-next, once-few, in-stretch, next-is, stands-at}
use Rattle.conservative_laws.proofs.Fifo.{once-more}
use Rattle.conservative_laws.proofs.Evictions.{any_of, is_stale, evictions_ahead, ahead-few, ahead-joined, ahead-turned, ahead-hit}

-- the queue before the access at each place, and its keys
abbrev clock_queue : ℕ → List ℕ → ℕ → List CountedKey
clock_queue c t n = state_after_all (clock_act c) [] (take n t)

abbrev pub clock_keys : ℕ → List ℕ → ℕ → List ℕ
clock_keys c t n = keys_of (clock_queue c t n)

-- ---- turns

turns-ahead : (ks : List ℕ) (n : ℕ) (queue : List CountedKey) → AreCounted 1 queue → evictions_ahead ks (after_turns (turn_count_within n queue) queue) ≡ evictions_ahead ks queue
turns-ahead ks zero queue bits = refl
turns-ahead ks (suc n) queue bits =
    grind (arith, nat_tests, turns-ahead ks n (after_turn queue) (turns-counted 1 1 queue bits), ahead-turned)

-- ---- a full cache has a stale key

none-stale : (ks : List ℕ) (queue : List CountedKey) → any_of (is_stale ks) queue ≡ false → (x : ℕ) → has_key x (keys_of queue) ≡ true → has_key x ks ≡ true
none-stale ks [] h x g = absurd (cc (g))
none-stale ks (e ∷ l) h x g =
    let rest = λ (f : any_of (is_stale ks) l ≡ false). none-stale ks l f x in
    grind (arith, nat_tests, rest, cases_eq x e.key)

some-stale : (c k : ℕ) (ks : List ℕ) (queue : List CountedKey) → has_key k ks ≡ true → length (distinct_keys ks) ≤ c → c ≤ length queue → has_key k (keys_of queue) ≡ false → ((x : ℕ) → times x (keys_of queue) ≤ 1) → any_of (is_stale ks) queue ≡ true
some-stale c k ks queue among few full out once =
    elim (cases_Bool (any_of (is_stale ks) queue)) [
      | inl h ↦ h
      | inr h ↦ absurd (
          let less : length (k ∷ keys_of queue) ≤ length (distinct_keys ks) = once-few (k ∷ keys_of queue) ks (once-more k [] (keys_of queue) out once)
          (λ x g. grind (arith, nat_tests, none-stale ks queue h x, cases_eq x k)) in
          omega (arith, less, few, full, length-keys queue))
    ]

-- ---- an access

fresh-one : (k : ℕ) (ks : List ℕ) → has_key k ks ≡ true → is_stale ks (marked_key k) ≡ false
fresh-one k ks among = ap not among

evicts-ahead : (k : ℕ) (ks : List ℕ) (queue : List CountedKey) → has_key k ks ≡ true → oldest_count queue ≡ 0 → any_of (is_stale ks) queue ≡ true
    → suc (evictions_ahead ks (clock_eviction k queue).1 + length queue) ≤ evictions_ahead ks queue + length (clock_eviction k queue).1
evicts-ahead k ks v among zero_count stale = grind (arith, nat_tests, ahead-joined, fresh-one, eq-eqb, length-append)

act-ahead : (c k : ℕ) (ks : List ℕ) (queue : List CountedKey) → has_key k ks ≡ true → length (distinct_keys ks) ≤ c → IsClock c queue
    → one_if (not (has_key k (keys_of queue))) + evictions_ahead ks (clock_act c k queue).1 + length queue ≤ evictions_ahead ks queue + length (clock_act c k queue).1
act-ahead c k ks queue among few is =
    elim (cases_Bool (has_key k (keys_of queue))) [
      | inl e ↦ grind (arith, nat_tests, length-keys (with_count k 1 queue), keys-with k 1 queue, length-keys queue, ahead-hit ks k among queue)
      | inr e ↦ rw e (elim (cases_Bool (nat_lt (length queue) c)) [
        | inl f ↦ rw f (omega (arith, ahead-joined ks queue (marked_key k) (fresh-one k ks among) refl, length-append queue (marked_key k ∷ [])))
        | inr f ↦ grind (arith, nat_tests, ltb-false, turns-length, turns-times, no-times, times-none, some-stale, turns-ahead, evicts-ahead, settled)
      ])
    ]

-- ---- a stretch

module _ (c : ℕ) (t : List ℕ) (room : 1 ≤ c) (i m : ℕ) (l : m ≤ length t) (few : length (distinct_keys (stretch t i m)) ≤ c) where
  abbrev misses_at : ℕ → ℕ
  misses_at n = strategy_misses t (clock_keys c t) n

  is-clock : (n : ℕ) → IsClock c (clock_queue c t n)
  is-clock n = stands-at (page_machine clock_page c) t c (page-keeps clock_page c (keeps c room)) n

  abbrev IsAhead : ℕ → Type 0
  IsAhead n = misses_at n + evictions_ahead (stretch t i m) (clock_queue c t n) ≤ misses_at i + length (clock_queue c t n)

  ahead-here : (n : ℕ) → n ≡ i → IsAhead n
  ahead-here n same = omega (arith, ap misses_at same, ahead-few (stretch t i m) (clock_queue c t n))

  ahead-next : (n : ℕ) → i ≤ n → n < m → IsAhead n → IsAhead (suc n)
  ahead-next n h g now =
      let k : ℕ = get_or t n 0 in
      let ks : List ℕ = stretch t i m in
      let next : misses_at (suc n) ≡ misses_at n + one_if (not (has_key k (clock_keys c t n))) = misses-next t (clock_keys c t) n in
      let after : clock_queue c t (suc n) ≡ (clock_act c k (clock_queue c t n)).1 = next-is (page_machine clock_page c) t n (omega (arith, g, l)) in
      let ahead : evictions_ahead ks (clock_queue c t (suc n)) ≡ evictions_ahead ks (clock_act c k (clock_queue c t n)).1 = ap (evictions_ahead ks) after in
      let long : length (clock_queue c t (suc n)) ≡ length (clock_act c k (clock_queue c t n)).1 = ap length after in
      let one = act-ahead c k ks (clock_queue c t n) (in-stretch t i n m h g l) few (is-clock n) in
      omega (arith, now, next, ahead, long, one)

  ahead-at : (n : ℕ) → i ≤ n → n ≤ m → IsAhead n
  ahead-at zero h g = ahead-here zero (omega (arith, h))
  ahead-at (suc n) h g =
      elim (cases_lt i (suc n)) [
        | inl f ↦ ahead-next n (omega (arith, f)) (omega (arith, g)) (ahead-at n (omega (arith, f)) (omega (arith, g)))
        | inr f ↦ ahead-here (suc n) (omega (arith, h, f))
      ]

pub clock-conservative : (c : ℕ) (t : List ℕ) → 1 ≤ c → IsConservative c t (strategy_misses t (clock_keys c t))
clock-conservative c t room i m h l few =
    let end = ahead-at c t room i m l few m h (omega arith) in
    let fits = (is-clock c t room i m l few m).residents.fits in
    omega (arith, end, fits, length-keys (clock_queue c t m))
