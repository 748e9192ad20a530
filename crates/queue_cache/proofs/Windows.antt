-- The window of a trace whose keys Lru holds, one access after another.
use Rattle.std.proofs.Common.{◌≡◌, ℕ, suc, zero, ◌+◌, ◌-◌, ◌<◌, ◌≤◌, min, Bool, true, false, ◌||◌, cond, eqb, nat_lt, List, length, take, drop, get_or, ap, ◌∙◌, sym, refl, arith}
use Rattle.std.proofs.lemmas.Bool.{cases_eq, cases_lt, ne_eqb}
use Rattle.std.proofs.lemmas.Bool.Decides.{nat_tests}
use Rattle.std.proofs.lemmas.List.{take_all}
use Rattle.engine_base.specs.Keys.{has_key}
use Rattle.engine_base.specs.Bits.{bit_of}
use Rattle.queue_cache.specs.Lru.{lru, distinct_keys}
use Rattle.queue_cache.specs.declared.design.QueueSetup.{QueueSetup}
use Rattle.queue_cache.specs.QueueCache.{state_after}
use Rattle.queue_cache.proofs.Recency.{has-drop}
use Rattle.queue_cache.specs.Distances.{distance, is_within, hits_within, stats_by}
use Rattle.trace_index.specs.Uses.{last_below, number_of}
use Rattle.queue_cache.specs.Window.{Window, IsWindow, IsFirstClear}
use Rattle.queue_cache.proofs.Counting.{stats-read, hits-and-held, again-next, came-by, past-end, past-length, stack, stack-front, stack-next, fewer-behind, since-within, since-beyond}
use Rattle.queue_cache.proofs.Histories.{count-next}
use Rattle.queue_cache.proofs.Reading.{sum-small}

-- ---- hits

-- and to any other, where the window is full or the whole trace so far
miss-beyond : (c f : ℕ) (xs : List ℕ) (k : ℕ) → (1 ≤ f → length (distinct_keys (drop f xs)) ≡ c) → has_key k (drop f xs) ≡ false → is_within c (distance xs k) ≡ false
miss-beyond c v xs k full h = grind (arith, nat_tests, since-beyond)

-- the access at the place, and the number of the last one to its key
module _ (keys : List ℕ) (place : ℕ) (in_it : place < length keys) (before : ℕ) (noted : before ≡ number_of (last_below keys place (get_or keys place 0))) where
  came-since : (f : ℕ) → nat_lt f (before) ≡ has_key (get_or keys place 0) (drop f (take place keys))
  came-since f = ap (nat_lt f) noted ∙ came-by keys place f (get_or keys place 0) (omega (arith, in_it))

  -- ---- the window's begin, moved

  -- past several keys that come again
  past-run : (f n : ℕ) → f + n ≤ place → ((i : ℕ) → f ≤ i → i < f + n → has_key (get_or keys i 0) (drop (suc i) (take (place + 1) keys)) ≡ true) → stack keys (place + 1) (f + n) ≡ stack keys (place + 1) f
  past-run f zero h again = let e : f + 0 ≡ f = omega arith in ap (stack keys (place + 1)) e
  past-run f (suc n) h again =
      let e : f + suc n ≡ suc (f + n) = omega arith in
      let front = stack-front keys (place + 1) (f + n) (omega (arith, h)) (omega (arith, in_it)) in
      ap (stack keys (place + 1)) e ∙ (sym (rw (again (f + n) (omega arith) (omega arith)) at front) ∙ past-run f n (omega (arith, h)) (λ i from below. again i from (omega (arith, below))))

  -- ---- one access

  module _ (w : Window) (h : IsWindow keys place w) where
    pub hits-small : w.hits ≤ place
    hits-small = omega (arith, sum-small (take place keys) w.capacity, past-length keys place in_it, h.hits)

    -- the bits of a place that hits
    hit-bit : w.first < before → (i : ℕ) → w.first ≤ i → (bit_of w.renewed.items i || eqb (before - 1) i) ≡ has_key (get_or keys i 0) (drop (suc i) (take (place + 1) keys))
    hit-bit later i from = rw (h.renewed i from, again-next keys place in_it before noted i) (grind (arith, nat_tests))

    -- and those of one that misses
    missed-bit : before ≤ w.first → (i : ℕ) → w.first ≤ i → bit_of w.renewed.items i ≡ has_key (get_or keys i 0) (drop (suc i) (take (place + 1) keys))
    missed-bit early i from = h.renewed i from ∙ sym (again-next keys place in_it before noted i ∙ rw (ne_eqb (i + 1) before (λ e. omega (arith, e, early, from))) refl)

    hits-next : (b : Bool) → is_within w.capacity (distance (take place keys) (get_or keys place 0)) ≡ b → hits_within w.capacity (take (place + 1) keys) ≡ w.hits + cond b 1 0
    hits-next b e = count-next (is_within w.capacity) keys place in_it ∙ (λ i. sym h.hits i + cond (e i) 1 0)

    pub hit-window : (v : Window) → w.first < before → v.capacity ≡ w.capacity → v.first ≡ w.first → v.held ≡ w.held → v.hits ≡ w.hits + 1 → length v.renewed.items ≡ length w.renewed.items → ((i : ℕ) → bit_of v.renewed.items i ≡ (bit_of w.renewed.items i || eqb (before - 1) i)) → IsWindow keys (place + 1) v
    hit-window v later capacity first held hits size sets =
        let low : nat_lt w.first before ≡ true = grind (arith, nat_tests) in
        let came : has_key (get_or keys place 0) (drop w.first (take place keys)) ≡ true = sym (came-since w.first) ∙ low in
        let yes = hits-next true (let less = since-within (get_or keys place 0) w.first (take place keys) came in rw (has-drop (get_or keys place 0) w.first (take place keys) came) (grind (arith, nat_tests))) in
        grind (arith, nat_tests, stack-next keys place w.first in_it h.begun, hit-bit)

    missed : before ≤ w.first → has_key (get_or keys place 0) (drop w.first (take place keys)) ≡ false
    missed early = let high : nat_lt w.first (before) ≡ false = grind (arith, nat_tests) in sym (came-since w.first) ∙ high

    same-hits : before ≤ w.first → w.hits ≡ hits_within w.capacity (take (place + 1) keys)
    same-hits early =
        let no = hits-next false (miss-beyond w.capacity w.first (take place keys) (get_or keys place 0) (λ some. sym h.held ∙ h.full some) (missed early)) in
        omega (arith, no)

    pub filled-window : before ≤ w.first → w.held < w.capacity → IsWindow keys (place + 1) (record { capacity = w.capacity; first = w.first; held = w.held + 1; hits = w.hits; renewed = w.renewed })
    filled-window early room = grind (arith, nat_tests, missed, stack-next, same-hits early, missed-bit early)

    -- ---- the oldest key leaves
    module _ (early : before ≤ w.first) (crowded : w.capacity ≤ w.held) (o : ℕ) (c : IsFirstClear w.renewed.items w.first o) where
      pub oldest-low : o ≤ place
      oldest-low =
          grind (arith, nat_tests, cases_lt place o, missed-bit early place h.begun, past-end keys (place + 1) (suc place) (omega (arith, in_it)) (omega arith))

      one-less : stack keys (place + 1) (o + 1) + 1 ≡ stack keys (place + 1) w.first
      one-less =
          let e : w.first + (o - w.first) ≡ o = omega (arith, c.behind) in
          let on : o + 1 ≡ suc o = omega arith in
          let gone : has_key (get_or keys o 0) (drop (suc o) (take (place + 1) keys)) ≡ false = sym (missed-bit early o c.behind) ∙ c.clear in
          let front = rw gone at (stack-front keys (place + 1) o (omega (arith, oldest-low)) (omega (arith, in_it))) in
          let run = past-run w.first (o - w.first) (omega (arith, e, oldest-low)) (λ i from below. sym (missed-bit early i from) ∙ c.set i from (omega (arith, e, below))) in
          omega (arith, front, run, ap (stack keys (place + 1)) e, ap (stack keys (place + 1)) on)

      pub moved-window : IsWindow keys (place + 1) (record { capacity = w.capacity; first = o + 1; held = w.held; hits = w.hits; renewed = w.renewed })
      moved-window = grind (arith, nat_tests, oldest-low, missed, stack-next, one-less, same-hits early, missed-bit)

-- ---- the whole trace

module _ (keys : List ℕ) (w : Window) (place : ℕ) (all : length keys ≤ place) (h : IsWindow keys place w) where
  whole-hits : w.hits ≡ hits_within w.capacity keys
  whole-hits = h.hits ∙ ap (hits_within w.capacity) (take_all place keys all)

  whole-held : w.held ≡ min w.capacity (length (distinct_keys keys))
  whole-held = grind (arith, nat_tests, take_all, cases_eq w.first 0, fewer-behind w.first keys)

  pub window-room : w.hits + w.held ≤ length keys
  window-room = omega (arith, hits-and-held w.capacity keys, whole-hits, whole-held)

  pub window-stats : (s : QueueSetup) (n : ℕ) → s.design ≡ lru → s.config.capacity ≡ w.capacity → 1 ≤ w.capacity → n ≡ length keys → stats_by n w.hits w.held ≡ (state_after s keys).stats
  window-stats s n is cap some e = stats-read s keys n w.hits w.held w.capacity is cap some e whole-hits whole-held
