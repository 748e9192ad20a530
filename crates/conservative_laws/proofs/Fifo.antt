-- FIFO is conservative: the keys that were missed in a stretch of few keys are the newest of the queue.
use Rattle.std.proofs.Common.{◌≡◌, ℕ, zero, suc, ◌+◌, ◌<◌, ◌≤◌, true, false, not, nat_lt, List, [], ◌∷◌, ◌++◌, length, take, get_or, ap, ◌∙◌, sym, refl, arith, inl, inr, length-append}
use Rattle.std.proofs.lemmas.List.{append_assoc, append-nil}
use Rattle.std.proofs.lemmas.Bool.{cases_Bool, cases_lt, ltb-false, cases_eq}
use Rattle.std.proofs.lemmas.Bool.Decides.{nat_tests}
use Rattle.engine_base.specs.Keys.{has_key}
use Rattle.engine_base.specs.Stats.{one_if}
use Rattle.queue_cache.specs.Lru.{distinct_keys}
use Rattle.policy_laws.specs.Strategy.{strategy_misses}
use Rattle.engine_base.specs.Machine.{state_after_all}
use Rattle.policy_pages.specs.Residents.{times, AreResidents}
use Rattle.policy_pages.specs.Fifo.{fifo_eviction, fifo_act}
use Rattle.policy_pages.specs.FifoPlan.{fifo_page}
use Rattle.policy_pages.specs.PolicyPage.{page_machine}
use Rattle.policy_pages.proofs.Residents.{times-append, times-none, page-keeps}
use Rattle.policy_pages.proofs.FifoKeeping.{keeps}
use Rattle.conservative_laws.specs.Conservative.{stretch, IsConservative}
use Rattle.conservative_laws.proofs.Stretches.{misses-next, once-few, one-of, in-stretch, next-is, stands-at}

-- the queue before the access at each place
abbrev pub fifo_queue : ℕ → List ℕ → ℕ → List ℕ
fifo_queue c t n = state_after_all (fifo_act c) [] (take n t)

-- ---- one miss

evicted : (k : ℕ) (old new : List ℕ) → length new < length (old ++ new) → (rest : List ℕ) × ((fifo_eviction k (old ++ new)).1 ≡ rest ++ (new ++ k ∷ []))
evicted k [] new h = absurd (omega (arith, h))
evicted k (v ∷ old) new h = (old, append_assoc old new (k ∷ []))

-- fewer than c newest keys stay
missed : (c k : ℕ) (old new : List ℕ) → has_key k (old ++ new) ≡ false → length new < c → (rest : List ℕ) × ((fifo_act c k (old ++ new)).1 ≡ rest ++ (new ++ k ∷ []))
missed c k old new h less =
    elim (cases_Bool (nat_lt (length (old ++ new)) c)) [
      | inl f ↦ (old, rw (h, f) (append_assoc old new (k ∷ [])))
      | inr f ↦
          let full : c ≤ length (old ++ new) = ltb-false (length (old ++ new)) c f in
          let out = evicted k old new (omega (arith, full, less)) in
          (out.0, rw (h, f) out.1)
    ]

pub once-more : (k : ℕ) (old new : List ℕ) → has_key k (old ++ new) ≡ false → ((x : ℕ) → times x (old ++ new) ≤ 1) → (x : ℕ) → times x (k ∷ new) ≤ 1
once-more k old new h d x = grind (arith, nat_tests, times-append x old new, times-none k (old ++ new) h, cases_eq x k)

-- ---- a stretch

module _ (c : ℕ) (t : List ℕ) (room : 1 ≤ c) (i m : ℕ) (l : m ≤ length t) (few : length (distinct_keys (stretch t i m)) ≤ c) where
  -- before place n, the newest keys of the queue are those that were missed from place i on
  record Newest (n : ℕ) : Type 0 where
    old : List ℕ
    new : List ℕ
    queue : fifo_queue c t n ≡ old ++ new
    among : (x : ℕ) → has_key x new ≡ true → has_key x (stretch t i m) ≡ true
    misses : strategy_misses t (fifo_queue c t) n ≡ strategy_misses t (fifo_queue c t) i + length new
    fits : length new ≤ c

  newest-here : (n : ℕ) → i ≤ n → n ≤ i → Newest n
  newest-here n h g = grind (arith, nat_tests, append-nil (fifo_queue c t n))

  newest-next : (n : ℕ) → i ≤ n → n < m → Newest n → Newest (suc n)
  newest-next n h g now =
      let k : ℕ = get_or t n 0 in
      let q : List ℕ = fifo_queue c t n in
      let count : strategy_misses t (fifo_queue c t) n ≡ strategy_misses t (fifo_queue c t) i + length now.new = now.misses in
      let next : strategy_misses t (fifo_queue c t) (suc n) ≡ strategy_misses t (fifo_queue c t) n + one_if (not (has_key k q)) = misses-next t (fifo_queue c t) n in
      let after : fifo_queue c t (suc n) ≡ (fifo_act c k q).1 = next-is (page_machine fifo_page c) t n (omega (arith, g, l)) in
      elim (cases_Bool (has_key k q)) [
        | inl e ↦
            let same : (fifo_act c k q).1 ≡ q = rw e refl in
            let none : one_if (not (has_key k q)) ≡ 0 = ap (λ b. one_if (not b)) e in
            record { old = now.old; new = now.new; queue = after ∙ (same ∙ now.queue); among = now.among; misses = omega (arith, count, next, none); fits = now.fits }
        | inr e ↦
            let one : one_if (not (has_key k q)) ≡ 1 = ap (λ b. one_if (not b)) e in
            let out : has_key k (now.old ++ now.new) ≡ false = ap (has_key k) (sym now.queue) ∙ e in
            let kept : AreResidents c q = stands-at (page_machine fifo_page c) t c (page-keeps fifo_page c (keeps c room)) n in
            let once : (x : ℕ) → times x (now.old ++ now.new) ≤ 1 = λ x. (let d : times x q ≤ 1 = kept.distinct x in let same : times x q ≡ times x (now.old ++ now.new) = ap (times x) now.queue in omega (arith, d, same)) in
            let here : has_key k (stretch t i m) ≡ true = in-stretch t i n m h g l in
            let less : length (k ∷ now.new) ≤ length (distinct_keys (stretch t i m)) = once-few (k ∷ now.new) (stretch t i m) (once-more k now.old now.new out once)
            (λ x f. grind (arith, nat_tests, now.among x, cases_eq x k, here)) in
            let end = missed c k now.old now.new out (omega (arith, less, few)) in
            record {
              old = end.0;
              new = now.new ++ k ∷ [];
              queue = after ∙ (ap (λ r. (fifo_act c k r).1) now.queue ∙ end.1);
              among = λ x f. elim (one-of x k now.new f) [ inl s ↦ ap (λ y. has_key y (stretch t i m)) s ∙ here | inr r ↦ now.among x r ];
              misses = omega (arith, count, next, one, length-append now.new (k ∷ []));
              fits = omega (arith, less, few, length-append now.new (k ∷ []));
            }
      ]

  newest-at : (n : ℕ) → i ≤ n → n ≤ m → Newest n
  newest-at zero h g = newest-here zero h (omega (arith, h))
  newest-at (suc n) h g =
      elim (cases_lt i (suc n)) [
        | inl f ↦ newest-next n (omega (arith, f)) (omega (arith, g)) (newest-at n (omega (arith, f)) (omega (arith, g)))
        | inr f ↦ newest-here (suc n) h (omega (arith, h, f))
      ]

pub fifo-conservative : (c : ℕ) (t : List ℕ) → 1 ≤ c → IsConservative c t (strategy_misses t (fifo_queue c t))
fifo-conservative c t room i m h l few = grind (arith, nat_tests, newest-at c t room i m l few m h (omega arith))
