-- 2Q: what an access makes of the queues, and that it keeps the invariant.
use Rattle.std.proofs.lemmas.Bool.Decides.{nat_tests}
use Rattle.std.proofs.Common.{Bool, ◌≡◌, ℕ, ◌+◌, ◌≤◌, false, true, cond, ◌==◌, nat_lt, ◌||◌, List, ◌++◌, length, ◌∙◌, refl, arith, inl, inr, length-append}
use Rattle.std.proofs.lemmas.Bool.{cond_both, or_cases, or_parts, ltb-true, ltb-false, eqb-true, eqb-false}
use Rattle.engine_base.specs.Keys.{has_key}
use Rattle.engine_base.specs.Stats.{is_hit, is_eviction, is_rejection}
use Rattle.engine_base.specs.declared.outcome.Outcome.TheVariants.{Hit}
use Rattle.policy_pages.specs.Residents.{Outcome, times, keys_evicted, IsAccess, AreResidents, KeepsResidents}
use Rattle.policy_pages.proofs.Residents.{times-append, access-keeps}
use Rattle.policy_pages.proofs.Ghost.{with-times, with-fits, without-length, still-apart}
use Rattle.policy_pages.specs.TwoQ.{TwoQSizes, TwoQLeaver, TwoQState, two_q_residents, leaver_of_a1in, leaver_of_am, two_q_leaver, two_q_after_recall, two_q_after_eviction, two_q_after_join, two_q_outcome, two_q_act, two_q_after_miss, two_q_after_renewal, IsTwoQ, empty_two_q}
use Rattle.policy_pages.proofs.Weights.{weight, weight-append, weight-push, weight-renewed, hit-moves, miss-moves, has-append}

-- ---- the key comes in

join-weight : (f : ℕ → ℕ) (k : ℕ) (remembered : Bool) (s : TwoQState) → weight f (two_q_residents (two_q_after_join remembered k s)) ≡ weight f (two_q_residents s) + f k
join-weight f k v s = grind (arith, nat_tests, weight-push, weight-append)

join-ghost : (k : ℕ) (remembered : Bool) (s : TwoQState) → (two_q_after_join remembered k s).a1out ≡ s.a1out
join-ghost k v s = grind (arith, nat_tests)

-- ---- room for it

-- the state old has become r.1 with the outcome r.0
record IsRoom (z : TwoQSizes) (c : ℕ) (old : TwoQState) (r : Outcome × TwoQState) : Type 0 where
  weighs : (f : ℕ → ℕ) → weight f (two_q_residents r.1) + weight f (keys_evicted r.0) ≡ weight f (two_q_residents old)
  misses : is_hit r.0 ≡ false
  rejects : is_rejection r.0 ≡ false
  evicts : is_eviction r.0 ≡ cond (nat_lt (length (two_q_residents old)) c) false true
  few : length old.a1out ≤ z.kout → length r.1.a1out ≤ z.kout
  grows : (x : ℕ) → times x r.1.a1out ≤ times x old.a1out + times x (keys_evicted r.0)

abbrev after_leaver : TwoQSizes → TwoQState → TwoQLeaver → Outcome × TwoQState
after_leaver z s v = (two_q_outcome v, two_q_after_eviction z v s)

abbrev made : List ℕ → List ℕ → List ℕ → TwoQState
made a1in a1out am = record { a1in = a1in; a1out = a1out; am = am }

a1in-leaves : (z : TwoQSizes) (c : ℕ) (a1in a1out am : List ℕ) → 1 ≤ length a1in → nat_lt (length (a1in ++ am)) c ≡ false
    → IsRoom z c (made a1in a1out am) (after_leaver z (made a1in a1out am) (leaver_of_a1in a1in))
a1in-leaves z c v a1out am n full = grind (arith, nat_tests, with-fits, with-times)

am-leaves : (z : TwoQSizes) (c : ℕ) (a1in a1out am : List ℕ) → 1 ≤ length am → nat_lt (length (a1in ++ am)) c ≡ false
    → IsRoom z c (made a1in a1out am) (after_leaver z (made a1in a1out am) (leaver_of_am am))
am-leaves z c a1in a1out v n full = grind (arith, nat_tests, weight-append)

room : (z : TwoQSizes) (c : ℕ) (s : TwoQState) → 1 ≤ c → IsRoom z c s (after_leaver z s (two_q_leaver z c s))
room z c s some =
    let P : TwoQLeaver → Type 0 = λ v. IsRoom z c s (after_leaver z s v) in
    cond_both (nat_lt (length (two_q_residents s)) c) _ _ P
    (λ e. record { weighs = λ f. omega arith; misses = refl; rejects = refl; evicts = rw e refl; few = λ h. h; grows = λ x. omega arith })
    (λ e.
    let full : c ≤ length s.a1in + length s.am = omega (arith, ltb-false (length (two_q_residents s)) c e, length-append s.a1in s.am) in
    cond_both (nat_lt z.kin (length s.a1in) || length s.am == 0) _ _ P
    (λ f. a1in-leaves z c s.a1in s.a1out s.am (elim (or_cases (nat_lt z.kin (length s.a1in)) (length s.am == 0) f) [
      | inl many ↦ omega (arith, ltb-true z.kin (length s.a1in) many)
      | inr none ↦ omega (arith, eqb-true (length s.am) 0 none, full, some)
    ]) e)
    (λ f.
    let some_am = eqb-false (length s.am) 0 (or_parts (nat_lt z.kin (length s.a1in)) (length s.am == 0) f).1 in
    am-leaves z c s.a1in s.a1out s.am (omega (arith, some_am)) e))

-- ---- an access

module _ (z : TwoQSizes) (c k : ℕ) (s : TwoQState) (some : 1 ≤ c) (state : IsTwoQ z c s) where
  -- an access with the outcome r.0, after which the state is r.1
  record IsNext (r : Outcome × TwoQState) : Type 0 where
    access : IsAccess c k (two_q_residents s) r.0 (two_q_residents r.1)
    few : length r.1.a1out ≤ z.kout
    apart : (x : ℕ) → times x r.1.a1out + times x (two_q_residents r.1) ≤ 1

  apart-before : (x : ℕ) → times x s.a1out + times x (two_q_residents s) ≤ 1
  apart-before x = omega (arith, state.distinct x, times-append x s.a1in s.am)

  renewed : has_key k s.am ≡ true → IsNext (Hit, two_q_after_renewal k s)
  renewed e =
      let has : has_key k (two_q_residents s) ≡ true = has-append k s.a1in s.am ∙ rw e (cond_both (has_key k s.a1in) _ _ (λ b. b ≡ true) (λ f. refl) (λ f. refl)) in
      let access = hit-moves c k (two_q_residents s) (two_q_residents (two_q_after_renewal k s)) has (λ f. omega (arith, weight-renewed f k s.am (omega (arith, state.distinct k)) e, weight-append f)) in
      record { access = access; few = state.few; apart = λ x. omega (arith, access.moves x, apart-before x) }

  missed : has_key k s.am ≡ false → has_key k s.a1in ≡ false → IsNext (two_q_outcome (two_q_leaver z c s), two_q_after_miss z c k s)
  missed e g =
      let absent : has_key k (two_q_residents s) ≡ false = has-append k s.a1in s.am ∙ rw (g, e) refl in
      let remembered : Bool = has_key k s.a1out in
      let r : Outcome × TwoQState = after_leaver z (two_q_after_recall k s) (two_q_leaver z c s) in
      let made = room z c (two_q_after_recall k s) some in
      let access = miss-moves c k (two_q_residents s) (two_q_residents (two_q_after_join remembered k r.1)) r.0 absent made.misses made.rejects made.evicts (λ f. omega (arith, made.weighs f, join-weight f k remembered r.1)) in
      let ghost = join-ghost k remembered r.1 in
      record {
        access = access;
        few = rw ghost (made.few (omega (arith, state.few, without-length k s.a1out)));
        apart = λ x. rw ghost (still-apart x k s.a1out (two_q_residents s) r.1.a1out (two_q_residents (two_q_after_join remembered k r.1)) r.0 absent (apart-before x) (made.grows x) (access.moves x));
      }

  next : IsNext (two_q_act z c k s)
  next =
      cond_both (has_key k s.am) _ _ IsNext renewed (λ e. cond_both (has_key k s.a1in) _ _ IsNext
      (λ g. record {
        access = hit-moves c k (two_q_residents s) (two_q_residents s) (has-append k s.a1in s.am ∙ rw g refl) (λ f. refl);
        few = state.few;
        apart = apart-before;
      })
      (missed e))

holds : (z : TwoQSizes) (c : ℕ) (s : TwoQState) → IsTwoQ z c s → AreResidents c (two_q_residents s)
holds z c s state = grind (arith, nat_tests, length-append s.a1in s.am, times-append)

pub keeps : (z : TwoQSizes) (c : ℕ) → 1 ≤ c → KeepsResidents c empty_two_q (two_q_act z c) two_q_residents (IsTwoQ z c)
keeps z c h = record {
  starts = (record { fits = omega arith; few = omega arith; distinct = λ x. omega arith }, refl);
  keeps = λ k s state.
      let new : TwoQState = (two_q_act z c k s).1 in
      let a = next z c k s h state in
      let held = access-keeps c k (two_q_residents s) (two_q_act z c k s).0 (two_q_residents new) a.access (holds z c s state) in
      record {
        fits = omega (arith, held.fits, length-append new.a1in new.am);
        few = a.few;
        distinct = λ x. omega (arith, a.apart x, times-append x new.a1in new.am);
      };
  accesses = λ k s state. (next z c k s h state).access;
  holds = λ s state. holds z c s state;
}
