-- ARC: what an access makes of the residents, and that it keeps the invariant.
use Rattle.std.proofs.Common.{◌≡◌, ℕ, ◌+◌, ◌*◌, ◌<◌, ◌≤◌, ◌⊎◌, Bool, true, false, cond, eqb, nat_lt, List, [], ◌∷◌, ◌++◌, length, drop, ◌∙◌, refl, arith, inl, inr, length-append}
use Rattle.std.proofs.lemmas.Bool.{cases_Bool, cases_eq, cases_lt, le-ltb, lt-ltb}
use Rattle.std.proofs.lemmas.Bool.Decides.{nat_tests}
use Rattle.engine_base.specs.Keys.{has_key, keys_without}
use Rattle.engine_base.specs.Stats.{is_hit, is_eviction, is_rejection, one_if}
use Rattle.engine_base.specs.declared.outcome.Outcome.TheVariants.{Hit, Evicted}
use Rattle.policy_pages.specs.Residents.{Outcome, times, keys_evicted, IsAccess, AreResidents, KeepsResidents}
use Rattle.policy_pages.specs.Arc.{ArcState, arc_residents, arc_total, arc_target, arc_replace, arc_plan, plan_of_new_key, oldest_forgotten, OfB1, OfB2, oldest_leaver, Dropped, arc_after_recall, arc_after_forgetting, arc_after_eviction, arc_after_join, arc_after_miss, arc_outcome, arc_act, IsArc, ArcForgets, ArcGhost, ArcLeaver, ArcPlan, NoLeaver, InB1, InB2, NoGhost, NoneForgotten, empty_arc}
use Rattle.policy_pages.proofs.Residents.{times-append, times-none, times-some}
use Rattle.policy_pages.proofs.CountedKeys.{by-oldest}
use Rattle.policy_pages.proofs.Weights.{weight, length-weight, times-weight, weight-append, weight-push, weight-first, weight-without, weight-out, weight-renewed, hit-moves, miss-moves, has-append}
use Rattle.policy_pages.proofs.Ghost.{without-none, without-both}
use Rattle.policy_pages.proofs.ArcCases.{new-cases, replace-cases}

-- what the four queues weigh
abbrev weighs : (ℕ → ℕ) → ArcState → ℕ
weighs f s = weight f s.t1 + weight f s.t2 + weight f s.b1 + weight f s.b2

abbrev if_new : ArcGhost → ℕ → ℕ
if_new NoGhost n = n
if_new InB1 n = 0
if_new InB2 n = 0

-- d has room for the key k of a miss, of the ghost g: it was made from s with the outcome o
record HasRoom (c k : ℕ) (g : ArcGhost) (s : ArcState) (o : Outcome) (d : ArcState) : Type 0 where
  misses : is_hit o ≡ false
  keeps : is_rejection o ≡ false
  evicts : is_eviction o ≡ cond (nat_lt (length (arc_residents s)) c) false true
  moves : (f : ℕ → ℕ) → weight f d.t1 + weight f d.t2 + weight f (keys_evicted o) ≡ weight f s.t1 + weight f s.t2
  grows : (f : ℕ → ℕ) → weighs f d + f k ≤ weighs f s + if_new g (f k)
  l1_fits : length d.t1 + length d.b1 + if_new g 1 ≤ c
  all_fit : arc_total d + 1 ≤ 2 * c
  full : 1 ≤ length d.b1 + length d.b2 → length d.t1 + length d.t2 + 1 ≡ c
  p_fits : d.p ≤ c

record IsJoined (f : ℕ → ℕ) (k : ℕ) (g : ArcGhost) (d t : ArcState) : Type 0 where
  t1 : weight f t.t1 ≡ weight f d.t1 + if_new g (f k)
  both : weight f t.t1 + weight f t.t2 ≡ weight f d.t1 + weight f d.t2 + f k
  b1 : t.b1 ≡ d.b1
  b2 : t.b2 ≡ d.b2
  p : t.p ≡ d.p

joining : (f : ℕ → ℕ) (k : ℕ) (g : ArcGhost) (d : ArcState) → IsJoined f k g d (arc_after_join g k d)
joining f k v d = grind (arith, nat_tests, weight-push)

holds : (c : ℕ) (s : ArcState) → IsArc c s → AreResidents c (arc_residents s)
holds c s i = grind (arith, nat_tests, length-append s.t1 s.t2, times-append)

target-fits : (c : ℕ) (g : ArcGhost) (s : ArcState) → s.p ≤ c → arc_target c g s ≤ c
target-fits c v s h = grind (arith, nat_tests)

has-length : (k : ℕ) (l : List ℕ) → has_key k l ≡ true → 1 ≤ length l
has-length k [] h = absurd (cc (h))
has-length k (a ∷ l) h = omega arith

-- ---- an access to k

record IsNext (c k : ℕ) (s : ArcState) (r : Outcome × ArcState) : Type 0 where
  access : IsAccess c k (arc_residents s) r.0 (arc_residents r.1)
  state : IsArc c r.1

module _ (c k : ℕ) (h : 1 ≤ c) (s : ArcState) (i : IsArc c s) where
  -- the residents change their places
  hit : (t1 t2 : List ℕ) → has_key k (arc_residents s) ≡ true → length t1 ≤ length s.t1 → ((f : ℕ → ℕ) → weight f t1 + weight f t2 ≡ weight f s.t1 + weight f s.t2)
      → IsNext c k s (Hit, record s { t1 = t1; t2 = t2 })
  hit t1 t2 e less w = grind (arith, nat_tests, length-weight, hit-moves, weight-append, times-weight)

  module _ (no_t1 : has_key k s.t1 ≡ false) (no_t2 : has_key k s.t2 ≡ false) where
    joined : (g : ArcGhost) (o : Outcome) (d : ArcState) → ((x : ℕ) → times x s.t1 + times x s.t2 + times x s.b1 + times x s.b2 + if_new g (one_if (eqb x k)) ≤ 1)
        → HasRoom c k g s o d → IsNext c k s (o, arc_after_join g k d)
    joined g o d once r =
        search (arith, joining, miss-moves, has-append, weight-append, length-append, length-weight, once, times-weight)

    full-evicts : c ≤ length s.t1 + length s.t2 → true ≡ cond (nat_lt (length (arc_residents s)) c) false true
    full-evicts m = rw (le-ltb (length (arc_residents s)) c (omega (arith, m, length-append s.t1 s.t2))) refl

    -- v left the residents of a full cache
    left : (g : ArcGhost) (v : ℕ) (d : ArcState) → length s.t1 + length s.t2 ≡ c → d.p ≤ c → ((f : ℕ → ℕ) → weight f d.t1 + weight f d.t2 + f v ≡ weight f s.t1 + weight f s.t2)
        → ((f : ℕ → ℕ) → weight f d.b1 + weight f d.b2 + f k ≤ weight f s.b1 + weight f s.b2 + f v + if_new g (f k))
        → length d.t1 + length d.b1 + if_new g 1 ≤ c → length d.b1 + length d.b2 ≤ c → HasRoom c k g s (Evicted v) d
    left g v d full fits from grows l1 ghosts =
        let residents = from (λ _. 1) in
        record {
          misses = refl;
          keeps = refl;
          evicts = full-evicts (omega (arith, full));
          moves = λ f. omega (arith, from f);
          grows = λ f. omega (arith, from f, grows f);
          l1_fits = l1;
          all_fit = omega (arith, full, ghosts, residents, length-weight);
          full = λ some. omega (arith, full, residents, length-weight);
          p_fits = fits;
        }

    -- it left for a ghost; the ghosts were b1 and b2 before that
    replaced : (g : ArcGhost) (in_b2 : Bool) (p : ℕ) (b1 b2 : List ℕ) → length s.t1 + length s.t2 ≡ c → p ≤ c → (in_b2 ≡ true) ⊎ (length s.t1 < c)
        → ((f : ℕ → ℕ) → weight f b1 + weight f b2 + f k ≤ weight f s.b1 + weight f s.b2 + if_new g (f k))
        → length s.t1 + length b1 + if_new g 1 ≤ c → length b1 + length b2 + 1 ≤ c
        → HasRoom c k g s (arc_outcome (arc_replace in_b2 p s)) (arc_after_eviction (arc_replace in_b2 p s) record { t1 = s.t1; t2 = s.t2; b1 = b1; b2 = b2; p = p })
    replaced g in_b2 p b1 b2 full fits case grows l1 ghosts =
        replace-cases in_b2 c p s (λ v. HasRoom c k g s (arc_outcome v) (arc_after_eviction v record { t1 = s.t1; t2 = s.t2; b1 = b1; b2 = b2; p = p })) h full fits case
        (λ v l e.
        let longer = length-append b1 (v ∷ []) in
        left g v _ full fits (λ f. omega (arith, weight-first f s.t1 v l e)) (λ f. omega (arith, weight-push f b1 v, grows f))
        (omega (arith, l1, longer, weight-first (λ _. 1) s.t1 v l e, length-weight)) (omega (arith, ghosts, longer)))
        (λ v l e.
        left g v _ full fits (λ f. omega (arith, weight-first f s.t2 v l e)) (λ f. omega (arith, weight-push f b2 v, grows f)) l1 (omega (arith, ghosts, length-append b2 (v ∷ []))))

    -- a key that a ghost remembers
    recalled : (g : ArcGhost) (in_b2 : Bool) → 1 ≤ length s.b1 + length s.b2 → (in_b2 ≡ true) ⊎ (length s.t1 < c) → ((n : ℕ) → if_new g n ≡ 0)
        → ((f : ℕ → ℕ) → weight f (keys_without k s.b1) + weight f (keys_without k s.b2) + f k ≤ weight f s.b1 + weight f s.b2)
        → IsNext c k s (arc_outcome (arc_replace in_b2 (arc_target c g s) s), arc_after_join g k (arc_after_eviction (arc_replace in_b2 (arc_target c g s) s) (arc_after_recall (arc_target c g s) k s)))
    recalled g in_b2 some case known out =
        let full : length s.t1 + length s.t2 ≡ c = i.full some in
        let l1_fits = i.l1_fits in let all_fit = i.all_fit in
        let few = out (λ _. 1) in
        let less = weight-without (λ _. 1) k s.b1 (omega (arith, i.distinct k)) in
        joined g _ _ (λ x. omega (arith, i.distinct x, known (one_if (eqb x k))))
        (replaced g in_b2 (arc_target c g s) (keys_without k s.b1) (keys_without k s.b2) full (target-fits c g s i.p_fits) case (λ f. omega (arith, out f))
        (omega (arith, l1_fits, less, known 1, length-weight)) (omega (arith, full, all_fit, few, length-weight)))

    module _ (no_b1 : has_key k s.b1 ≡ false) (no_b2 : has_key k s.b2 ≡ false) where
      once : (x : ℕ) → times x s.t1 + times x s.t2 + times x s.b1 + times x s.b2 + one_if (eqb x k) ≤ 1
      once x = grind (arith, nat_tests, cases_eq, times-none)

      abbrev IsNew : ArcPlan → Type 0
      IsNew m = IsNext c k s (arc_outcome m.leaver, arc_after_miss c k m s)

      new-key : (f : ArcForgets) (v : ArcLeaver) → HasRoom c k NoGhost s (arc_outcome v) (arc_after_eviction v (arc_after_forgetting f s))
          → IsNew record { recalls = NoGhost; forgets = f; leaver = v }
      new-key f v r = search (arith, without-none, joined, once)

      -- where as many keys are known as fit, the cache is full
      is-full : c ≤ arc_total s → length s.t1 + length s.t2 ≡ c
      is-full many = grind (arith, nat_tests, cases_lt 0 (length s.b1 + length s.b2))

      new : IsNew (plan_of_new_key c s)
      new =
          let once_fits = i.l1_fits in let all = i.all_fit in let fits = i.fits in
          new-cases c s IsNew
          (λ same low.
          let full : length s.t1 + length s.t2 ≡ c = i.full (omega (arith, same, low)) in
          new-key (oldest_forgotten OfB1 s.b1) (arc_replace false s.p s)
          (by-oldest (λ l. HasRoom c k NoGhost s (arc_outcome (arc_replace false s.p s)) (arc_after_eviction (arc_replace false s.p s) (arc_after_forgetting (oldest_forgotten OfB1 l) s))) s.b1 (omega (arith, same, low)) (λ v l e.
          let less : length (drop 1 s.b1) + 1 ≡ length s.b1 = omega (arith, weight-first (λ _. 1) s.b1 v l e, length-weight) in
          replaced NoGhost false s.p (drop 1 s.b1) s.b2 full i.p_fits (inr low) (λ f. omega (arith, weight-first f s.b1 v l e)) (omega (arith, same, less)) (omega (arith, all, full, less)))))
          (λ same low.
          new-key NoneForgotten (oldest_leaver Dropped s.t1)
          (by-oldest (λ l. HasRoom c k NoGhost s (arc_outcome (oldest_leaver Dropped l)) (arc_after_eviction (oldest_leaver Dropped l) s)) s.t1 (omega (arith, low, h)) (λ v l e.
          left NoGhost v _ (omega (arith, low, fits)) i.p_fits (λ f. omega (arith, weight-first f s.t1 v l e)) (λ f. omega arith)
          (omega (arith, same, weight-first (λ _. 1) s.t1 v l e, length-weight)) (omega (arith, all, low)))))
          (λ other few.
          new-key NoneForgotten NoLeaver record {
            misses = refl;
            keeps = refl;
            evicts = rw (lt-ltb (length (arc_residents s)) c (omega (arith, few, length-append s.t1 s.t2))) refl;
            moves = λ f. omega arith;
            grows = λ f. omega arith;
            l1_fits = omega (arith, few);
            all_fit = omega (arith, few);
            full = λ some. absurd (let full = i.full some in omega (arith, full, few, some));
            p_fits = i.p_fits;
          })
          (λ other many same.
          let full : length s.t1 + length s.t2 ≡ c = is-full many in
          new-key (oldest_forgotten OfB2 s.b2) (arc_replace false s.p s)
          (by-oldest (λ l. HasRoom c k NoGhost s (arc_outcome (arc_replace false s.p s)) (arc_after_eviction (arc_replace false s.p s) (arc_after_forgetting (oldest_forgotten OfB2 l) s))) s.b2 (omega (arith, same, fits, once_fits, other)) (λ v l e.
          let less : length (drop 1 s.b2) + 1 ≡ length s.b2 = omega (arith, weight-first (λ _. 1) s.b2 v l e, length-weight) in
          replaced NoGhost false s.p s.b1 (drop 1 s.b2) full i.p_fits (inr (omega (arith, other, once_fits))) (λ f. omega (arith, weight-first f s.b2 v l e)) (omega (arith, other, once_fits)) (omega (arith, same, full, less)))))
          (λ other many less.
          let full : length s.t1 + length s.t2 ≡ c = is-full many in
          new-key NoneForgotten (arc_replace false s.p s)
          (replaced NoGhost false s.p s.b1 s.b2 full i.p_fits (inr (omega (arith, other, once_fits))) (λ f. omega arith) (omega (arith, other, once_fits)) (omega (arith, full, all, less))))

    miss : IsNext c k s (arc_outcome (arc_plan c k s).leaver, arc_after_miss c k (arc_plan c k s) s)
    miss =
        let d = i.distinct k in let once = i.l1_fits in
        elim (cases_Bool (has_key k s.b1)) as (λ _. IsNext c k s (arc_outcome (arc_plan c k s).leaver, arc_after_miss c k (arc_plan c k s) s)) [
          | inl e ↦
              let some : 1 ≤ length s.b1 = has-length k s.b1 e in
              rw e (recalled InB1 false (omega (arith, some)) (inr (omega (arith, some, once))) (λ n. refl)
              (λ f. omega (arith, without-both f k s.b1 s.b2 (omega (arith, d, times-some k s.b1 e)))))
          | inr e ↦ rw e (elim (cases_Bool (has_key k s.b2)) [
            | inl f ↦
                let some : 1 ≤ length s.b2 = has-length k s.b2 f in
                rw f (recalled InB2 true (omega (arith, some)) (inl refl) (λ n. refl)
                (λ g. omega (arith, without-both g k s.b1 s.b2 (omega (arith, d, times-some k s.b2 f)))))
            | inr f ↦ rw f (new e f)
          ])
        ]

  next : IsNext c k s (arc_act c k s)
  next =
      let d = i.distinct k in
      elim (cases_Bool (has_key k s.t1)) as (λ _. IsNext c k s (arc_act c k s)) [
        | inl e ↦
            rw e (hit (keys_without k s.t1) (s.t2 ++ k ∷ []) (has-append k s.t1 s.t2 ∙ rw e refl) (omega (arith, weight-out (λ _. 1) k s.t1 (omega (arith, d)) e, length-weight))
            (λ f. omega (arith, weight-out f k s.t1 (omega (arith, d)) e, weight-push f s.t2 k)))
        | inr e ↦ rw e (elim (cases_Bool (has_key k s.t2)) [
          | inl g ↦
              rw g (hit s.t1 (keys_without k s.t2 ++ k ∷ []) (has-append k s.t1 s.t2 ∙ rw (e, g) refl) (omega arith)
              (λ f. omega (arith, weight-renewed f k s.t2 (omega (arith, d)) g)))
          | inr g ↦ rw g (miss e g)
        ])
      ]

pub keeps : (c : ℕ) → 1 ≤ c → KeepsResidents c empty_arc (arc_act c) arc_residents (IsArc c)
keeps c h = record {
  starts = (record { fits = omega arith; l1_fits = omega arith; all_fit = omega arith; full = λ some. absurd (omega (arith, some)); p_fits = omega arith; distinct = λ x. omega arith }, refl);
  keeps = λ k s i. (next c k h s i).state;
  accesses = λ k s i. (next c k h s i).access;
  holds = λ s i. holds c s i;
}
