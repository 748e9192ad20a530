-- SIEVE: what it keeps.
use Rattle.std.proofs.Common.{◌≡◌, ℕ, zero, suc, ◌≤◌, false, eqb, nat_lt, List, [], ◌∷◌, ◌++◌, length, ap, sym, ◌∙◌, refl, arith, length-append, append_assoc, append-nil}
use Rattle.std.proofs.lemmas.Bool.{cond_both, ltb-false}
use Rattle.std.proofs.lemmas.Bool.Decides.{nat_tests}
use Rattle.engine_base.specs.Keys.{has_key}
use Rattle.policy_pages.specs.Residents.{Outcome, times, IsAccess, KeepsResidents}
use Rattle.policy_pages.specs.CountedKeys.{CountedKey, uncounted_key, keys_of, AreCounted, total_count, oldest_count}
use Rattle.policy_pages.specs.Sieve.{SieveState, sieve_residents, after_wrap, after_pass, pass_count_within, pass_count, after_passes, sieve_with_key, sieve_eviction, sieve_act, HasAhead, empty_sieve, IsSieve}
use Rattle.policy_pages.proofs.Residents.{hit-stays, miss-joins, miss-replaces, access-keeps, none-held}
use Rattle.policy_pages.proofs.CountedKeys.{keys-append, keys-times, length-keys, joined-times, joined-length, keys-with-both, counted-append, counted-first, counted-second, counted-both, total-append}
use Rattle.policy_pages.proofs.Turns.{oldest-few}

-- ---- what a pass of the hand keeps

abbrev pub whole : SieveState → List CountedKey
whole s = s.passed ++ s.ahead

pub record IsPassed (s t : SieveState) : Type 0 where
  pub keys : keys_of (whole t) ≡ keys_of (whole s)
  pub bits : AreCounted 1 (whole s) → AreCounted 1 (whole t)
  pub hand : HasAhead s.passed s.ahead → HasAhead t.passed t.ahead

pub past : (passed ahead : List CountedKey) → IsPassed record { passed = passed; ahead = ahead } (after_pass passed ahead)
past passed v =
    grind (arith, nat_tests, append-nil, append_assoc, keys-append, counted-second, counted-append, counted-first)

pub passes : (n : ℕ) (s : SieveState) → IsPassed s (after_passes n s)
passes zero s = record { keys = refl; bits = λ h. h; hand = λ h. h }
passes (suc n) s = grind (arith, nat_tests, past s.passed s.ahead, passes n (after_pass s.passed s.ahead))

-- ---- the hand stops at a key whose bit is clear

pub past-total : (passed ahead : List CountedKey) → eqb (oldest_count ahead) 0 ≡ false → suc (total_count (whole (after_pass passed ahead))) ≡ total_count (passed ++ ahead)
past-total passed v h = grind (arith, nat_tests, append-nil, append_assoc, total-append)

passes-settle : (n : ℕ) (s : SieveState) → total_count (whole s) ≤ n → oldest_count (after_passes (pass_count_within n s) s).ahead ≡ 0
passes-settle zero s h = omega (arith, total-append s.passed s.ahead, oldest-few s.ahead)
passes-settle (suc n) s h = search (arith, passes-settle n (after_pass s.passed s.ahead), past-total s.passed s.ahead)

pub passes_suffice : (s : SieveState) → oldest_count (after_passes (pass_count s) s).ahead ≡ 0
passes_suffice s = passes-settle (total_count (whole s)) s (omega arith)

-- ---- its residents, bits and hand

pub joined-whole : (k : ℕ) (s : SieveState) → whole (sieve_with_key k s) ≡ whole s ++ uncounted_key k ∷ []
joined-whole k s = sym (append_assoc s.passed s.ahead (uncounted_key k ∷ []))

joined-ahead : (k : ℕ) (passed ahead : List CountedKey) → HasAhead passed (ahead ++ uncounted_key k ∷ [])
joined-ahead k passed [] = tt
joined-ahead k passed (e ∷ ahead) = tt

-- what an access to k comes to, where these keys were resident
record IsNext (c k : ℕ) (old : List ℕ) (r : Outcome × SieveState) : Type 0 where
  access : IsAccess c k old r.0 (sieve_residents r.1)
  bits : AreCounted 1 (whole r.1)
  hand : HasAhead r.1.passed r.1.ahead

module _ (c k : ℕ) (h : 1 ≤ c) where
  evicts : (old : List ℕ) (passed ahead : List CountedKey) → has_key k old ≡ false → nat_lt (length old) c ≡ false → keys_of (passed ++ ahead) ≡ old → AreCounted 1 (passed ++ ahead) → HasAhead passed ahead → IsNext c k old (sieve_eviction k passed ahead)
  evicts old [] [] e f m b g = absurd (let few : c ≤ length old = ltb-false (length old) c f in let n : 0 ≡ length old = ap length m in omega arith)
  evicts old (p ∷ passed) [] e f m b g = absurd g
  evicts old passed (v ∷ ahead) e f m b g =
      let t : SieveState = after_wrap passed ahead in
      let is : whole (sieve_with_key k t) ≡ (passed ++ ahead) ++ uncounted_key k ∷ [] = joined-whole k t ∙ ap (λ l. l ++ uncounted_key k ∷ []) (grind (arith, nat_tests, append-nil)) in
      record {
        access = rw is (miss-replaces c k v.key old (keys_of ((passed ++ ahead) ++ uncounted_key k ∷ [])) e f
            (λ x. omega (arith, ap (times x) m, joined-times x (uncounted_key k) (passed ++ ahead), keys-times x passed ahead, keys-times x passed (v ∷ ahead)))
            (omega (arith, ap length m, joined-length (uncounted_key k) (passed ++ ahead), length-keys (passed ++ ahead), length-keys (passed ++ v ∷ ahead), length-append passed ahead, length-append passed (v ∷ ahead))));
        bits = rw is (counted-append 1 (passed ++ ahead) (uncounted_key k ∷ []) (counted-append 1 passed ahead (counted-first 1 passed (v ∷ ahead) b) (counted-second 1 passed (v ∷ ahead) b).1) (omega arith, tt));
        hand = joined-ahead k t.passed t.ahead;
      }

  next : (s : SieveState) → AreCounted 1 (whole s) → HasAhead s.passed s.ahead → IsNext c k (sieve_residents s) (sieve_act c k s)
  next s b g =
      let p = passes (pass_count s) s in
      let t : SieveState = after_passes (pass_count s) s in
      cond_both (has_key k (sieve_residents s)) _ _ (IsNext c k (sieve_residents s))
      (λ e. record {
        access = rw (keys-with-both k 1 s.passed s.ahead) (hit-stays c k (sieve_residents s) e);
        bits = counted-both 1 k 1 s.passed s.ahead (omega arith) b;
        hand = (grind (arith, nat_tests));
      })
      (λ e. cond_both (nat_lt (length (sieve_residents s)) c) _ _ (IsNext c k (sieve_residents s))
      (λ f. record {
        access = rw (joined-whole k s) (miss-joins c k (sieve_residents s) (keys_of (whole s ++ uncounted_key k ∷ [])) e f (λ x. joined-times x (uncounted_key k) (whole s)) (joined-length (uncounted_key k) (whole s)));
        bits = rw (joined-whole k s) (counted-append 1 (whole s) (uncounted_key k ∷ []) b (omega arith, tt));
        hand = joined-ahead k s.passed s.ahead;
      })
      (λ f. evicts (sieve_residents s) t.passed t.ahead e f p.keys (p.bits b) (p.hand g)))

pub keeps : (c : ℕ) → 1 ≤ c → KeepsResidents c empty_sieve (sieve_act c) sieve_residents (IsSieve c)
keeps c h = record {
  starts = (record { residents = none-held c; bits = tt; hand = tt }, refl);
  keeps = λ k s i.
      let n = next c k h s i.bits i.hand in
      record { residents = access-keeps c k (sieve_residents s) _ _ n.access i.residents; bits = n.bits; hand = n.hand };
  accesses = λ k s i. (next c k h s i.bits i.hand).access;
  holds = λ s i. i.residents;
}
