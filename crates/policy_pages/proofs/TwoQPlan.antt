-- 2Q's plan is its definition.
use Rattle.std.proofs.Common.{◌≡◌, ℕ, ◌+◌, ◌<◌, ◌≤◌, Bool, true, false, eqb, nat_lt, ◌||◌, Option, Some, None, List, ◌∷◌, length, drop, ap, ◌∙◌, sym, subst, refl, arith, inl, inr, length-append}
use Rattle.std.proofs.lemmas.Bool.{cases_Bool, cases_eq, eq-eqb, ne_eqb, ltb-false, eqb-false, or_parts}
use Rattle.std.proofs.lemmas.Bool.Decides.{nat_tests}
use Rattle.engine_base.specs.Keys.{has_key, keys_without}
use Rattle.queue_table.specs.Entries.{entry, oldest_of}
use Rattle.queue_table.specs.Queues.{with_queue, QUEUES, Queues, after_send}
use Rattle.policy_pages.specs.TwoQ.{TwoQLeaver, NoLeaver, FromA1in, FromAm, TwoQState, two_q_residents, leaver_of_a1in, leaver_of_am, two_q_after_recall, two_q_after_eviction, two_q_after_join, two_q_outcome, two_q_act, IsTwoQ}
use Rattle.policy_pages.proofs.Ghost.{without-none}
use Rattle.policy_pages.proofs.Weights.{has-append}
use Rattle.queue_table.specs.declared.records.Entry.{Entry}
use Rattle.queue_table.specs.Moves.{item_of, standing, leaving, evicted, outcome_after, stays, goes, own_plan}
use Rattle.queue_table.specs.Tabled.{HasKeys, IsTabled, keys_of, StandsAs}
use Rattle.queue_table.proofs.Tabled.{stands, stands-nowhere}
use Rattle.policy_pages.specs.Plans.{IsPlannedBy, miss_plan}
use Rattle.policy_pages.specs.Leavers.{Leavers, no_leavers, one_leaver, leavers_for_ghost, after_leavers}
use Rattle.policy_pages.specs.TwoQPlan.{TwoQSizes, A1IN, A1OUT, AM, two_q_of, joins, two_q_miss, plan_at, two_q_page}
use Rattle.policy_pages.proofs.Leavers.{leavers-low, after_oldest_sent, ghost_entries, leavers-gone, AreLow, tabled-leavers, oldest-out}
use Rattle.policy_pages.proofs.QueueKeys.{ghost-keys, length-keys, keys-sent, first-of, apart-first, keys-length}
use Rattle.policy_pages.proofs.Plans.{own-low, miss-low, one-of, own-none, miss-full, not-less}
use Rattle.policy_pages.specs.PolicyPage.{LeavesWhere, IsPlannedPage, IsSoundPage}
use Rattle.policy_pages.proofs.TwoQKeeping.{keeps}

-- ---- the state, queue by queue

same-state : {a a2 b b2 m m2 : List ℕ} → a ≡ a2 → b ≡ b2 → m ≡ m2
    → ◌≡◌ {A = TwoQState} record { a1in = a; a1out = b; am = m } record { a1in = a2; a1out = b2; am = m2 }
same-state ea eb em = cc

-- the keys other than k in the queues u are those of d
record Shows (k : ℕ) (u : Queues) (d : TwoQState) : Type 0 where
  a1in : keys_without k (keys_of (u A1IN)) ≡ d.a1in
  a1out : keys_without k (keys_of (u A1OUT)) ≡ d.a1out
  am : keys_without k (keys_of (u AM)) ≡ d.am

joins-low : (r : Bool) → joins r < QUEUES
joins-low v = grind (arith, nat_tests)

-- the key joins
joined : (r : Bool) (k : ℕ) (ghost : List ℕ) (u : Queues) (d : TwoQState) → has_key k ghost ≡ r → HasKeys u → Shows k u d
    → two_q_of (after_send (entry (item_of k) 0) (joins r) u) ≡ two_q_after_join (has_key k ghost) k d
joined v k ghost u d h z at = grind (arith, nat_tests, same-state, keys-sent)

-- ---- a miss

module _ (z : TwoQSizes) (c k x : ℕ) (r : Bool) (s : Queues) (some : 1 ≤ c) (t : IsTabled s) (i : IsTwoQ z c (two_q_of s))
    (no_am : has_key k (keys_of (s AM)) ≡ false) (no_a1in : has_key k (keys_of (s A1IN)) ≡ false)
    (in_a1out : has_key k (keys_of (s A1OUT)) ≡ r) where
  abbrev after : TwoQLeaver → TwoQState
  after v = two_q_after_eviction z v (two_q_after_recall k (two_q_of s))

  abbrev IsMiss : Leavers → TwoQLeaver → Type 0
  IsMiss l v = IsPlannedBy (miss_plan l (goes (joins r) 0) x) k s (λ y. two_q_of) (two_q_outcome v, two_q_after_join (has_key k (keys_of (s A1OUT))) k (after v)) false

  brought : (l : Leavers) (v : TwoQLeaver) → AreLow l → outcome_after l.first s ≡ two_q_outcome v → Shows k (after_leavers l s) (after v) → IsMiss l v
  brought l v low left shows = record {
    outcome = left;
    state = joined r k (keys_of (s A1OUT)) (after_leavers l s) (after v) in_a1out (tabled-leavers l s low t).keys shows;
    hits = refl;
    low = miss-low l (goes (joins r) 0) x low (joins-low r);
  }

  none-leaves : IsMiss no_leavers NoLeaver
  none-leaves = search (arith, brought, without-none)

  -- the keys of a queue once its oldest has left
  rest : (q : ℕ) (e : Entry) (l : List Entry) → s q ≡ e ∷ l → has_key k (keys_of (s q)) ≡ false → keys_without k (keys_of l) ≡ drop 1 (keys_of (s q))
  rest q e l h none = (grind (arith, nat_tests, without-none k (keys_of l))) ∙ ap (λ x. drop 1 (keys_of x)) (sym h)

  am-leaves : (e : Entry) (l : List Entry) → s AM ≡ e ∷ l → IsMiss (one_leaver (leaving AM None)) (leaver_of_am (keys_of (s AM)))
  am-leaves e l h =
      let v : TwoQLeaver = FromAm e.item.key in
      let shows : Shows k (with_queue AM l s) (after v) = record { a1in = without-none k (keys_of (s A1IN)) no_a1in; a1out = refl; am = rest AM e l h no_am } in
      subst (IsMiss (one_leaver (leaving AM None))) (sym (ap (λ x. leaver_of_am (keys_of x)) h))
      (brought (one_leaver (leaving AM None)) v ((omega arith, tt), tt) (ap (λ x. evicted (oldest_of x)) h) (subst (λ u. Shows k u (after v)) (sym (oldest-out s t AM e l h)) shows))

  a1in-leaves : (e : Entry) (l : List Entry) → s A1IN ≡ e ∷ l → IsMiss (leavers_for_ghost A1IN A1OUT z.kout r s) (leaver_of_a1in (keys_of (s A1IN)))
  a1in-leaves e l h =
      let v : TwoQLeaver = FromA1in e.item.key in
      let other = apart-first k e.item.key (keys_of l) (ap (λ x. has_key k (keys_of x)) (sym h) ∙ no_a1in) in
      let gone : Queues = with_queue A1OUT (ghost_entries (r || nat_lt (length (s A1OUT)) z.kout) (after_oldest_sent A1IN A1OUT e l s A1OUT)) (after_oldest_sent A1IN A1OUT e l s) in
      let shows : Shows k gone (after v) = record { a1in = rest A1IN e l h no_a1in; a1out = ghost-keys k z.kout e (s A1OUT) r in_a1out other i.few; am = without-none k (keys_of (s AM)) no_am } in
      subst (IsMiss (leavers_for_ghost A1IN A1OUT z.kout r s)) (sym (ap (λ x. leaver_of_a1in (keys_of x)) h))
      (brought (leavers_for_ghost A1IN A1OUT z.kout r s) v (leavers-low A1IN A1OUT z.kout r s (omega arith) (omega arith)) (ap (λ x. evicted (oldest_of x)) h)
      (subst (λ u. Shows k u (after v)) (sym (leavers-gone s t A1IN A1OUT z.kout r e l h (omega arith) (omega arith))) shows))

  planned-miss : IsPlannedBy (two_q_miss z c r x s) k s (λ y. two_q_of) (two_q_act z c k (two_q_of s)) (has_key k (two_q_residents (two_q_of s)))
  planned-miss =
      let absent : has_key k (two_q_residents (two_q_of s)) ≡ false = has-append k (keys_of (s A1IN)) (keys_of (s AM)) ∙ rw (no_a1in, no_am) refl in
      let a : length (keys_of (s A1IN)) ≡ length (s A1IN) = length-keys (s A1IN) in
      let m : length (keys_of (s AM)) ≡ length (s AM) = length-keys (s AM) in
      let all : length (two_q_residents (two_q_of s)) ≡ length (s A1IN) + length (s AM) = length-append (keys_of (s A1IN)) (keys_of (s AM)) ∙ rw (a, m) refl in
      grind (arith, nat_tests, cases_Bool, none-leaves, first-of, ltb-false, a1in-leaves, eqb-false, or_parts, am-leaves)

-- ---- an access

module _ (z : TwoQSizes) (c k x n : ℕ) (s : Queues) (t : IsTabled s) where
  renewed : StandsAs k AM n s → IsPlannedBy (own_plan true (goes AM 0) x) k s (λ y. two_q_of) (two_q_act z c k (two_q_of s)) (has_key k (two_q_residents (two_q_of s)))
  renewed a = rw a.here record {
    outcome = refl;
    state = same-state (keys-sent k 0 AM s t.keys A1IN ∙ a.off_without A1IN (λ e. omega (arith, e)))
        (keys-sent k 0 AM s t.keys A1OUT ∙ a.off_without A1OUT (λ e. omega (arith, e))) (keys-sent k 0 AM s t.keys AM);
    hits = sym (has-append k (keys_of (s A1IN)) (keys_of (s AM)) ∙ rw (a.off A1IN (λ e. omega (arith, e)), a.here) refl);
    low = own-low (goes AM 0) (omega arith);
  }

  unmoved : StandsAs k A1IN n s → IsPlannedBy (own_plan true stays x) k s (λ y. two_q_of) (two_q_act z c k (two_q_of s)) (has_key k (two_q_residents (two_q_of s)))
  unmoved a = grind (arith, nat_tests, has-append k (keys_of (s A1IN)) (keys_of (s AM)), own-low stays tt)

module _ (z : TwoQSizes) (c k x : ℕ) (s : Queues) (some : 1 ≤ c) (t : IsTabled s) (i : IsTwoQ z c (two_q_of s)) where
  abbrev Planned : Option (ℕ × ℕ) → Type 0
  Planned p = IsPlannedBy (plan_at z c x p s) k s (λ y. two_q_of) (two_q_act z c k (two_q_of s)) (has_key k (two_q_residents (two_q_of s)))

  planned-in : (q n : ℕ) → StandsAs k q n s → Planned (Some (q, n))
  planned-in q n a =
      elim (cases_eq q AM) as (λ _. Planned (Some (q, n))) [
        | inl e ↦ rw (eq-eqb q AM e) (renewed z c k x n s t (subst (λ j. StandsAs k j n s) e a))
        | inr e ↦ rw (ne_eqb q AM e) (elim (cases_eq q A1IN) [
          | inl f ↦ rw (eq-eqb q A1IN f) (unmoved z c k x n s t (subst (λ j. StandsAs k j n s) f a))
          | inr f ↦ rw (ne_eqb q A1IN f)
              (planned-miss z c k x (eqb q A1OUT) s some t i (a.off AM (λ z. e (sym z))) (a.off A1IN (λ z. f (sym z))) (elim (cases_eq q A1OUT) [
                | inl g ↦ rw (eq-eqb q A1OUT g) (subst (λ j. has_key k (keys_of (s j)) ≡ true) g a.here)
                | inr g ↦ rw (ne_eqb q A1OUT g) (a.off A1OUT (λ z. g (sym z)))
              ]))
        ])
      ]

  planned-at : (p : Option (ℕ × ℕ)) → standing (item_of k) s ≡ p → Planned p
  planned-at None h =
      let nowhere = stands-nowhere s t k h in
      planned-miss z c k x false s some t i (nowhere AM).0 (nowhere A1IN).0 (nowhere A1OUT).0
  planned-at (Some p) h = planned-in p.0 p.1 (stands s t k p.0 p.1 h)

planned : (z : TwoQSizes) → IsPlannedPage (two_q_page z)
planned z c k x s some t shown i = (planned-at z c k x s some t i (standing (item_of k) s) refl, tt)

-- ---- keys leave where the cache is full

module _ (z : TwoQSizes) (c x : ℕ) (s : Queues) where
  abbrev IsFull : Type 0
  IsFull = nat_lt (length (two_q_residents (two_q_of s))) c ≡ false

  leaves-at : (at : Option (ℕ × ℕ)) → LeavesWhere IsFull (plan_at z c x at s)
  leaves-at v = grind (arith, nat_tests, miss-full, cases_Bool, not-less, keys-length, one-of, own-none)

pub two-q-sound : (z : TwoQSizes) → IsSoundPage (two_q_page z)
two-q-sound z = grind (arith, nat_tests, keeps, keeps z, planned, planned z, leaves-at)
