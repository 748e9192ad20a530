-- CAR: what an access makes of the residents, and that it keeps the invariant.
use Rattle.std.proofs.Common.{◌≡◌, ℕ, zero, suc, ◌+◌, ◌*◌, ◌<◌, ◌≤◌, true, false, cond, eqb, max, nat_lt, List, [], ◌∷◌, ◌++◌, length, drop, ap, sym, subst, ◌∙◌, refl, arith, inl, inr, length-append}
use Rattle.std.proofs.lemmas.Bool.{cases_Bool, cases_eq, cases_lt, cond_both, eqb-true, eqb-false, ltb-true, ltb-false, le-ltb}
use Rattle.std.proofs.lemmas.Bool.Decides.{nat_tests}
use Rattle.engine_base.specs.Keys.{has_key, keys_without}
use Rattle.engine_base.specs.Stats.{is_hit, is_eviction, is_rejection, one_if}
use Rattle.engine_base.specs.declared.outcome.Outcome.TheVariants.{Hit, Kept, Evicted}
use Rattle.policy_pages.specs.Residents.{Outcome, times, keys_evicted, IsAccess, KeepsResidents}
use Rattle.policy_pages.specs.CountedKeys.{CountedKey, uncounted_key, keys_of, with_count, AreCounted}
use Rattle.policy_pages.specs.Turns.{after_turn}
use Rattle.policy_pages.proofs.Residents.{times-none, times-some}
use Rattle.policy_pages.proofs.CountedKeys.{length-keys, keys-with, counted-append, counted-with}
use Rattle.policy_pages.proofs.Turns.{turned-counted}
use Rattle.policy_pages.proofs.Weights.{weight, length-weight, times-weight, weight-push, total_weight, length-total, total-append, total-push, total-turned, hit-moves, miss-moves}
use Rattle.policy_pages.proofs.Ghost.{without-length, without-both}
use Rattle.policy_pages.specs.Car.{CarState, empty_car, car_residents, car_total, t2_gives, after_promotion, after_move, is_settled, t1_eviction, t2_eviction, car_departure, car_eviction_within, most_moves, car_eviction, CarGhost, NoGhost, car_ghost, after_history, car_room, after_recall, after_join, car_act, IsCar}

-- ---- weights

-- of the residents, of the ghosts
abbrev pub held : (ℕ → ℕ) → CarState → ℕ
held f s = total_weight f s.t1 + total_weight f s.t2

abbrev pub ghosts : (ℕ → ℕ) → CarState → ℕ
ghosts f s = weight f s.b1 + weight f s.b2

pub held-is : (f : ℕ → ℕ) (s : CarState) → weight f (car_residents s) ≡ held f s
held-is f s = total-append f s.t1 s.t2

pub many : (s : CarState) → length (car_residents s) ≡ length s.t1 + length s.t2
many s = length-keys (s.t1 ++ s.t2) ∙ length-append s.t1 s.t2

abbrev one_of : ℕ → ℕ → ℕ
one_of x = λ y. one_if (eqb x y)

-- the oldest gone
drop-length : (l : List ℕ) → 1 ≤ length l → length (drop 1 l) + 1 ≡ length l
drop-length [] n = absurd (omega (arith, n))
drop-length (v ∷ l) n = omega arith

drop-weight : (f : ℕ → ℕ) (l : List ℕ) → weight f (drop 1 l) ≤ weight f l
drop-weight f [] = omega arith
drop-weight f (v ∷ l) = omega arith

times-few : (k : ℕ) (l : List ℕ) → times k l ≤ length l
times-few k [] = omega arith
times-few k (a ∷ l) = grind (arith, nat_tests, times-few k l)

-- ---- the moves of an eviction

-- they led from s to d
pub record IsMoved (s d : CarState) : Type 0 where
  pub keys : (f : ℕ → ℕ) → held f d ≡ held f s
  pub less : length d.t1 ≤ length s.t1
  pub bits1 : AreCounted 1 d.t1
  pub bits2 : AreCounted 1 d.t2
  pub b1 : d.b1 ≡ s.b1
  pub b2 : d.b2 ≡ s.b2
  pub p : d.p ≡ s.p

pub unmoved : (s : CarState) → AreCounted 1 s.t1 → AreCounted 1 s.t2 → IsMoved s s
unmoved s h g = record { keys = λ f. refl; less = omega arith; bits1 = h; bits2 = g; b1 = refl; b2 = refl; p = refl }

module _ (s : CarState) where
  pub promoted : (l : List CountedKey) (d : CarState) → d.t1 ≡ l → IsMoved s d → IsMoved s (after_promotion l d)
  promoted v d h m = grind (arith, nat_tests, total-push, counted-append)

  turned : (d : CarState) → IsMoved s d → IsMoved s (record d { t2 = after_turn d.t2 })
  turned d m = grind (arith, nat_tests, total-turned, turned-counted)

  moved : (d : CarState) → IsMoved s d → IsMoved s (after_move d)
  moved d m = cond_both (t2_gives d) _ _ (IsMoved s) (λ e. turned d m) (λ e. promoted d.t1 d refl m)

-- ---- a key leaves

-- s became r.1, which a key left for a ghost
pub record HasLeft (s : CarState) (r : Outcome × CarState) : Type 0 where
  pub key : ℕ
  pub outcome : r.0 ≡ Evicted key
  pub keys : (f : ℕ → ℕ) → held f r.1 + f key ≡ held f s
  pub remembers : (f : ℕ → ℕ) → ghosts f r.1 ≡ ghosts f s + f key
  pub l1 : length r.1.t1 + length r.1.b1 ≤ length s.t1 + length s.b1
  pub bits1 : AreCounted 1 r.1.t1
  pub bits2 : AreCounted 1 r.1.t2
  pub p : r.1.p ≡ s.p

module _ (s : CarState) where
  t1-left : (l : List CountedKey) (d : CarState) → d.t1 ≡ l → 1 ≤ length l → IsMoved s d → HasLeft s (t1_eviction l d)
  t1-left [] d h n m = absurd (omega (arith, n))
  t1-left (e ∷ l) d h n m = search (arith, weight-push, length-append)

  t2-left : (l : List CountedKey) (d : CarState) → d.t2 ≡ l → 1 ≤ length l → IsMoved s d → HasLeft s (t2_eviction l d)
  t2-left [] d h n m = absurd (omega (arith, n))
  t2-left (e ∷ l) d h n m = search (arith, weight-push)

  module _ (some : 1 ≤ length s.t1 + length s.t2) (fits : s.p ≤ length s.t1 + length s.t2) where
    departs : (d : CarState) → IsMoved s d → HasLeft s (car_departure d)
    departs d m =
        let same : length d.t1 + length d.t2 ≡ length s.t1 + length s.t2 = omega (arith, m.keys (λ _. 1), length-total) in
        cond_both (t2_gives d) _ _ (HasLeft s)
        (λ e. let low = ltb-true (length d.t1) (max 1 d.p) e in t2-left d.t2 d refl (omega (arith, low, same, some, fits, m.p)) m)
        (λ e. let high = ltb-false (length d.t1) (max 1 d.p) e in t1-left d.t1 d refl (omega (arith, high)) m)

    within : (n : ℕ) (d : CarState) → IsMoved s d → HasLeft s (car_eviction_within n d)
    within zero d m = departs d m
    within (suc n) d m = cond_both (is_settled d) _ _ (HasLeft s) (λ e. departs d m) (λ e. within n (after_move d) (moved s d m))

    pub evicted : AreCounted 1 s.t1 → AreCounted 1 s.t2 → HasLeft s (car_eviction s)
    evicted h g = within (most_moves s) s (unmoved s h g)

-- ---- an access

record IsNext (c k : ℕ) (s : CarState) (r : Outcome × CarState) : Type 0 where
  access : IsAccess c k (car_residents s) r.0 (car_residents r.1)
  state : IsCar c r.1

-- s became r.1, which has room for a new key
record HasRoom (c : ℕ) (s : CarState) (r : Outcome × CarState) : Type 0 where
  misses : is_hit r.0 ≡ false
  keeps : is_rejection r.0 ≡ false
  evicts : is_eviction r.0 ≡ cond (nat_lt (length (car_residents s)) c) false true
  moves : (f : ℕ → ℕ) → held f r.1 + weight f (keys_evicted r.0) ≡ held f s
  grows : (f : ℕ → ℕ) → held f r.1 + ghosts f r.1 ≤ held f s + ghosts f s
  l1_fits : length r.1.t1 + length r.1.b1 + 1 ≤ c
  all_fit : car_total r.1 + 1 ≤ 2 * c
  fits : length r.1.t1 + length r.1.t2 + 1 ≤ c
  full : 1 ≤ length r.1.b1 + length r.1.b2 → length r.1.t1 + length r.1.t2 + 1 ≡ c
  p_fits : r.1.p ≤ c
  bits1 : AreCounted 1 r.1.t1
  bits2 : AreCounted 1 r.1.t2

module _ (c k : ℕ) (some : 1 ≤ c) (s : CarState) (i : IsCar c s) where
  total-times : (x : ℕ) → times x (keys_of s.t1) + times x (keys_of s.t2) + times x s.b1 + times x s.b2 ≡ held (one_of x) s + ghosts (one_of x) s
  total-times x = omega (arith, times-weight)

  -- bits are set, and keys stay where they are
  hit : has_key k (car_residents s) ≡ true → IsNext c k s (Hit, record s { t1 = with_count k 1 s.t1; t2 = with_count k 1 s.t2 })
  hit e =
      let long : (l : List CountedKey) → length (with_count k 1 l) ≡ length l = λ l. sym (length-keys (with_count k 1 l)) ∙ ap (λ (x : List ℕ). length x) (keys-with k 1 l) ∙ length-keys l in
      record {
        access = hit-moves c k (car_residents s) _ e (λ f. held-is f (record s { t1 = with_count k 1 s.t1; t2 = with_count k 1 s.t2 }) ∙ rw (keys-with k 1 s.t1, keys-with k 1 s.t2) (sym (held-is f s)));
        state = grind (arith, nat_tests, long, counted-with, keys-with);
      }

  module _ (absent : has_key k (car_residents s) ≡ false) where
    none : times k (car_residents s) ≡ 0
    none = times-none k (car_residents s) absent

    none-held : held (one_of k) s ≡ 0
    none-held = omega (arith, none, times-weight k (car_residents s), held-is (one_of k) s)

    -- ---- a key that a ghost remembers

    recalled : (r : Outcome × CarState) (p : ℕ) → HasLeft s r → length s.t1 + length s.t2 ≡ c → 1 ≤ times k s.b1 + times k s.b2 → p ≤ c → IsNext c k s (r.0, after_recall p k r.1)
    recalled r p m full there fits =
        let d : CarState = r.1 in
        let distinct : (x : ℕ) → held (one_of x) d + ghosts (one_of x) d ≤ 1 = λ x. omega (arith, m.keys (one_of x), m.remembers (one_of x), i.distinct x, total-times x) in
        let once : times k d.b1 + times k d.b2 ≡ 1 = omega (arith, there, m.remembers (one_of k), distinct k, times-weight) in
        let out : (f : ℕ → ℕ) → weight f (keys_without k d.b1) + weight f (keys_without k d.b2) + f k ≡ ghosts f d = λ f. without-both f k d.b1 d.b2 once in
        let joined : (f : ℕ → ℕ) → held f (after_recall p k d) ≡ held f d + f k = λ f. omega (arith, total-push f d.t2 (uncounted_key k)) in
        let less : length (keys_without k d.b1) ≤ length d.b1 = without-length k d.b1 in
        record {
          access = miss-moves c k (car_residents s) (car_residents (after_recall p k d)) r.0 absent (ap is_hit m.outcome) (ap is_rejection m.outcome)
              (ap is_eviction m.outcome ∙ rw (le-ltb (length (car_residents s)) c (omega (arith, full, many s))) refl)
              (λ f. omega (arith, ap (λ o. weight f (keys_evicted o)) m.outcome, held-is, joined f, m.keys f));
          state = search (arith, joined, out, distinct, without-length, counted-append, length-total, length-weight, times-weight);
        }

    -- ---- a new key

    module _ (no_b1 : has_key k s.b1 ≡ false) (no_b2 : has_key k s.b2 ≡ false) where
      none-anywhere : held (one_of k) s + ghosts (one_of k) s ≡ 0
      none-anywhere = omega (arith, none-held, times-none k s.b1 no_b1, times-none k s.b2 no_b2, times-weight)

      once : (x : ℕ) → held (one_of x) s + ghosts (one_of x) s + one_of x k ≤ 1
      once x =
          let distinct = i.distinct x in
          elim (cases_eq x k) [
            | inl e ↦ subst (λ y. held (one_of y) s + ghosts (one_of y) s + one_of y k ≤ 1) (sym e) (grind (arith, nat_tests, none-anywhere))
            | inr e ↦ grind (arith, nat_tests, total-times)
          ]

      joined : (r : Outcome × CarState) → HasRoom c s r → IsNext c k s (r.0, record r.1 { t1 = r.1.t1 ++ uncounted_key k ∷ [] })
      joined r m =
          let t : CarState = record r.1 { t1 = r.1.t1 ++ uncounted_key k ∷ [] } in
          let more : (f : ℕ → ℕ) → held f t ≡ held f r.1 + f k = λ f. omega (arith, total-push f r.1.t1 (uncounted_key k)) in
          record {
            access = miss-moves c k (car_residents s) (car_residents t) r.0 absent m.misses m.keeps m.evicts (λ f. omega (arith, m.moves f, more f, held-is));
            state = search (arith, more, length-append, counted-append, once, times-weight);
          }

      -- a key left, and ghosts became b1 and b2
      forgotten : (r : Outcome × CarState) (b1 b2 : List ℕ) → HasLeft s r → length s.t1 + length s.t2 ≡ c
          → ((f : ℕ → ℕ) → weight f b1 ≤ weight f r.1.b1) → ((f : ℕ → ℕ) → weight f b2 ≤ weight f r.1.b2)
          → length r.1.t1 + length b1 + 1 ≤ c → length r.1.t1 + length r.1.t2 + length b1 + length b2 + 1 ≤ 2 * c
          → HasRoom c s (r.0, record r.1 { b1 = b1; b2 = b2 })
      forgotten r b1 b2 m full less1 less2 l1 all =
          let gone : length r.1.t1 + length r.1.t2 + 1 ≡ c = omega (arith, m.keys (λ _. 1), length-total, full) in
          search (arith, le-ltb, many)

      history : (r : Outcome × CarState) → HasLeft s r → length s.t1 + length s.t2 ≡ c → HasRoom c s (r.0, after_history c NoGhost r.1)
      history r m full =
          let d : CarState = r.1 in
          let gone : length d.t1 + length d.t2 + 1 ≡ c = omega (arith, m.keys (λ _. 1), length-total, full) in
          let l1 : length d.t1 + length d.b1 ≤ c = omega (arith, m.l1, i.l1_fits) in
          let all : car_total d ≤ 2 * c = omega (arith, m.keys (λ _. 1), m.remembers (λ _. 1), i.all_fit, length-total, length-weight) in
          let P : CarState → Type 0 = λ t. HasRoom c s (r.0, t) in
          cond_both (eqb (length d.t1 + length d.b1) c) _ _ P
          (λ e.
          let same = eqb-true (length d.t1 + length d.b1) c e in
          let less = drop-length d.b1 (omega (arith, same, gone)) in
          forgotten r (drop 1 d.b1) d.b2 m full (λ f. drop-weight f d.b1) (λ f. omega arith) (omega (arith, less, same)) (omega (arith, less, all)))
          (λ e.
          let other = eqb-false (length d.t1 + length d.b1) c e in
          cond_both (eqb (car_total d) (2 * c)) _ _ P
          (λ g.
          let same = eqb-true (car_total d) (2 * c) g in
          let less = drop-length d.b2 (omega (arith, same, gone, l1)) in
          forgotten r d.b1 (drop 1 d.b2) m full (λ f. omega arith) (λ f. drop-weight f d.b2) (omega (arith, l1, other)) (omega (arith, less, all)))
          (λ g.
          let few = eqb-false (car_total d) (2 * c) g in
          forgotten r d.b1 d.b2 m full (λ f. omega arith) (λ f. omega arith) (omega (arith, l1, other)) (omega (arith, all, few))))

    -- ---- a miss

    abbrev IsMissed : CarGhost → Type 0
    IsMissed g = IsNext c k s ((car_room c g s).0, after_join c k g (car_room c g s).1)

    left : length s.t1 + length s.t2 ≡ c → HasLeft s (car_eviction s)
    left full = let p = i.p_fits in evicted s (omega (arith, full, some)) (omega (arith, full, p)) i.bits.0 i.bits.1

    full-room : length s.t1 + length s.t2 ≡ c → nat_lt (length (car_residents s)) c ≡ false
    full-room full = le-ltb _ c (omega (arith, full, many s))

    from-ghost : 1 ≤ times k s.b1 + times k s.b2 → length s.t1 + length s.t2 ≡ c
    from-ghost n = i.full (omega (arith, n, times-few k s.b1, times-few k s.b2))

    no-ghosts : length s.t1 + length s.t2 < c → length s.b1 + length s.b2 < 1
    no-ghosts few = elim (cases_lt 0 (length s.b1 + length s.b2)) [
      | inl n ↦ absurd (let full = i.full (omega (arith, n)) in omega (arith, full, few))
      | inr n ↦ omega (arith, n)
    ]

    miss : IsMissed (car_ghost k s)
    miss =
        elim (cases_Bool (has_key k s.b1)) [
          | inl e ↦
              let there : 1 ≤ times k s.b1 + times k s.b2 = omega (arith, times-some k s.b1 e) in
              let full = from-ghost there in
              rw (e, full-room full) (recalled (car_eviction s) _ (left full) full there (omega arith))
          | inr e ↦ elim (cases_Bool (has_key k s.b2)) [
            | inl g ↦
                let there : 1 ≤ times k s.b1 + times k s.b2 = omega (arith, times-some k s.b2 g) in
                let full = from-ghost there in
                let m = left full in let p = m.p in let fits = i.p_fits in
                rw (e, g, full-room full) (recalled (car_eviction s) _ m full there (omega (arith, p, fits)))
            | inr g ↦ rw (e, g) (elim (cases_Bool (nat_lt (length (car_residents s)) c)) [
              | inl h ↦
                  let low = ltb-true (length (car_residents s)) c h in
                  let few : length s.t1 + length s.t2 < c = omega (arith, low, many s) in
                  let empty : length s.b1 + length s.b2 < 1 = no-ghosts few in
                  rw h (joined e g (Kept, s) (grind (arith, nat_tests)))
              | inr h ↦
                  let high = ltb-false (length (car_residents s)) c h in
                  let fits = i.fits in
                  let full : length s.t1 + length s.t2 ≡ c = omega (arith, high, fits, many s) in
                  rw h (joined e g ((car_eviction s).0, after_history c NoGhost (car_eviction s).1) (history e g (car_eviction s) (left full) full))
            ])
          ]
        ]

  next : IsNext c k s (car_act c k s)
  next =
      elim (cases_Bool (has_key k (car_residents s))) [
        | inl e ↦ rw e (hit e)
        | inr e ↦ rw e (miss e)
      ]

pub keeps : (c : ℕ) → 1 ≤ c → KeepsResidents c empty_car (car_act c) car_residents (IsCar c)
keeps c h = record {
  starts = (record { fits = omega arith; l1_fits = omega arith; all_fit = omega arith; full = λ some. absurd (omega (arith, some)); p_fits = omega arith; bits = (tt, tt); distinct = λ x. omega arith }, refl);
  keeps = λ k s i. (next c k h s i).state;
  accesses = λ k s i. (next c k h s i).access;
  holds = λ s i. let fits = i.fits in record { fits = omega (arith, fits, many s); distinct = λ x. omega (arith, i.distinct x, total-times c 0 h s i x, times-weight x (car_residents s), held-is (one_of x) s) };
}
