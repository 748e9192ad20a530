-- CAR's plan is its definition.
use Rattle.std.proofs.lemmas.Bool.Decides.{nat_tests}
use Rattle.std.proofs.Common.{◌≡◌, ℕ, zero, suc, ◌+◌, ◌-◌, ◌*◌, ◌<◌, ◌≤◌, max, Bool, true, false, cond, eqb, ◌==◌, nat_lt, if◌then◌else◌, Option, Some, None, List, [], ◌∷◌, ◌++◌, length, drop, ap, ◌∙◌, sym, subst, refl, arith, inl, inr, length-append}
use Rattle.std.proofs.lemmas.Bool.{cases_Bool, cond_both, ne_eqb, ltb-true, ltb-false, lt-ltb, le-ltb}
use Rattle.engine_base.specs.Keys.{has_key}
use Rattle.queue_table.specs.Entries.{Item, entry, oldest_of, occurrences, entries_counted}
use Rattle.queue_table.specs.Queues.{QUEUES, Queues, with_queue, queue_holding, after_send}
use Rattle.queue_table.proofs.QueueLists.{IsAbsent, is_absent, absent, queue-few, without-none as entries-none}
use Rattle.queue_table.specs.declared.records.Entry.{Entry}
use Rattle.queue_table.specs.Moves.{item_of, standing, count_or, turns_due, after_turn, after_turns, after_run, Leaving, after_leaving, IsLowLeaving, outcome_after, Own, counts, goes, Plan, own_plan, IsLowOwn, IsLowPlan, after_runs}
use Rattle.queue_table.specs.Tabled.{IsTabled, keys_of, lowered_entry, StandsAs}
use Rattle.queue_table.specs.declared.moves.Left.{Left}
use Rattle.queue_table.specs.Undoing.{outs, IsRun, IsLeft}
use Rattle.queue_table.proofs.Tabled.{keys-append, absent-gone, stands, stands-nowhere, tabled-leaving, tabled-runs, tabled-turn, tabled-turns, turn-is, elsewhere, has-occurs}
use Rattle.policy_pages.specs.Residents.{Outcome}
use Rattle.policy_pages.specs.CountedKeys as counted
use Rattle.policy_pages.specs.CountedKeys.{CountedKey, AreCounted, total_count, oldest_count, uncounted_key, counted_less, with_count}
use Rattle.policy_pages.specs.Turns as page
use Rattle.policy_pages.specs.QueueView.{counted_key, counted_keys}
use Rattle.policy_pages.specs.Plans.{IsPlannedBy, Run}
use Rattle.policy_pages.specs.PolicyPage.{LeavesWhere, IsPlannedPage, IsSoundPage}
use Rattle.policy_pages.proofs.CountedKeys.{total-append, total-few, keys-with}
use Rattle.policy_pages.proofs.Weights.{length-total}
use Rattle.policy_pages.proofs.QueueView.{counted-append, length-counted, oldest-counted, keys-counted, both-counted, counted-with, has-both, turns-are, turns-keep, both-length}
use Rattle.policy_pages.proofs.QueueKeys.{length-keys, without-keys}
use Rattle.policy_pages.proofs.Plans.{nowhere, own-low, held, HitsAlone, own-alone, never, either, one-of, own-none, not-less}
use Rattle.policy_pages.proofs.Leavers.{by-departure, any-out, off-run, off-first, absent-first, still-absent}
use Rattle.policy_pages.specs.Car.{CarState, car_residents, t2_gives, after_promotion, is_settled, t1_eviction, t2_eviction, car_departure, car_eviction_within, most_moves, car_eviction, NoGhost, InB1, InB2, after_history, after_recall, after_join, car_act, IsCar}
use Rattle.policy_pages.specs.CarPlan.{T1, T2, B1, B2, car_of, total, promotions, after_promotions, giver, ghost_of, giver_turns, after_giver_turns, leaver, after_departure, after_replacing, forgotten, target_after, full_plan, new_key_plan, recall_plan, is_resident, plan_at, car_page}
use Rattle.policy_pages.specs.CarStep.{IsReplaced}
use Rattle.policy_pages.specs.declared.car.Replaced.{Replaced}
use Rattle.policy_pages.proofs.CarKeeping as page_of
use Rattle.policy_pages.proofs.CarKeeping.{IsMoved, unmoved, keeps}

-- ---- the state, queue by queue

same-state : {a a2 b b2 : List CountedKey} {x x2 y y2 : List ℕ} {p p2 : ℕ} → a ≡ a2 → b ≡ b2 → x ≡ x2 → y ≡ y2 → p ≡ p2
    → ◌≡◌ {A = CarState} record { t1 = a; t2 = b; b1 = x; b2 = y; p = p } record { t1 = a2; t2 = b2; b1 = x2; b2 = y2; p = p2 }
same-state ea eb ex ey ep = cc

keys-drop : (l : List Entry) → keys_of (drop 1 l) ≡ drop 1 (keys_of l)
keys-drop [] = refl
keys-drop (e ∷ l) = refl

-- ---- an eviction of the definition

-- the same queue gives up a key while t2's turn
t2-turns : (n : ℕ) (d : CarState) → t2_gives d ≡ true → car_eviction_within n d ≡ t2_eviction (page.after_turns (page.turn_count_within n d.t2) d.t2) d
t2-turns zero d g = rw g refl
t2-turns (suc n) d g =
    elim (cases_Bool (eqb (oldest_count d.t2) 0)) [
      | inl e ↦ rw (g, e) refl
      | inr e ↦ rw (g, e) (t2-turns n (record d { t2 = page.after_turn d.t2 }) g ∙ same-rest (page.after_turns (page.turn_count_within n (page.after_turn d.t2)) (page.after_turn d.t2)))
    ]
  where
    same-rest : (l : List CountedKey) → t2_eviction l (record d { t2 = page.after_turn d.t2 }) ≡ t2_eviction l d
    same-rest [] = refl
    same-rest (e ∷ l) = refl

-- ---- the promotions

module _ (c p : ℕ) (v : CarState) (fits : length v.t1 + length v.t2 ≤ c) where
  -- the eviction, once no promotion is left
  abbrev pub last_eviction : Queues → Outcome × CarState
  last_eviction s =
      if t2_gives (car_of p s)
      then t2_eviction (counted_keys (after_giver_turns c T2 s T2)) (car_of p s)
      else t1_eviction (counted_keys (s T1)) (car_of p s)

  -- the queues s, from which n moves may be made, come to the queues a by promotions, after which none is left
  pub record IsPromoted (n : ℕ) (s a : Queues) : Type 0 where
    pub comes : car_eviction_within n (car_of p s) ≡ last_eviction a
    pub moved : IsMoved v (car_of p a)
    pub clear : t2_gives (car_of p a) ≡ false → oldest_count (counted_keys (a T1)) ≡ 0

  settled : (n : ℕ) (d : CarState) → is_settled d ≡ true → car_eviction_within n d ≡ car_departure d
  settled v d h = grind (arith, nat_tests)

  stays : (n : ℕ) (s : Queues) → IsTabled s → IsMoved v (car_of p s) → most_moves (car_of p s) ≤ n → (t2_gives (car_of p s) ≡ false → oldest_count (counted_keys (s T1)) ≡ 0) → IsPromoted n s s
  stays n s t m enough clear = grind (arith, nat_tests, cases_Bool, t2-turns, turns-are, total-few 1, length-counted, length-total, settled)

  one-promoted : (s : Queues) → IsTabled s → (e : Entry) (l : List Entry) → s T1 ≡ e ∷ l → car_of p (after_turn T1 T2 1 s) ≡ after_promotion (counted_keys (s T1)) (car_of p s)
  one-promoted s t e l h = grind (arith, nat_tests, turn-is s t T1 T2 1 e l h, counted-append (s T2) (lowered_entry 1 e ∷ []))

  pub promotes : (m n : ℕ) (s : Queues) (l : List Entry) → IsTabled s → s T1 ≡ l → length (s T1) + 1 - max 1 p ≡ m → most_moves (car_of p s) ≤ n → IsMoved v (car_of p s)
      → IsPromoted n s (after_turns (turns_due m T1 T2 1 1 s) T1 T2 1 s)
  promotes zero n s l t h room enough moved = grind (arith, nat_tests, stays, length-counted, ltb-false)
  promotes (suc m) n s [] t h room enough moved = absurd (grind arith)
  promotes (suc m) zero s (e ∷ l) t h room enough moved =
      elim (cases_Bool (nat_lt (count_or 0 (oldest_of (s T1))) 1)) [
        | inl f ↦ rw f (stays zero s t moved enough (λ g. let low = ltb-true (count_or 0 (oldest_of (s T1))) 1 f in omega (arith, low, oldest-counted (s T1))))
        | inr f ↦ absurd (let high = ltb-false (count_or 0 (oldest_of (s T1))) 1 f in let some = ap (λ (x : List Entry). total_count (counted_keys x)) h in
            let own = ap (λ (x : List Entry). count_or 0 (oldest_of x)) h in omega (arith, some, own, high, enough))
      ]
  promotes (suc m) (suc n) s (e ∷ l) t h room enough moved =
      elim (cases_Bool (nat_lt (count_or 0 (oldest_of (s T1))) 1)) [
        | inl f ↦ rw f (stays (suc n) s t moved enough (λ g. let low = ltb-true (count_or 0 (oldest_of (s T1))) 1 f in omega (arith, low, oldest-counted (s T1))))
        | inr f ↦
            let high = ltb-false (count_or 0 (oldest_of (s T1))) 1 f in
            let own = ap (λ (x : List Entry). count_or 0 (oldest_of x)) h in
            let u : Queues = after_turn T1 T2 1 s in
            let d : CarState = car_of p s in
            let state = one-promoted s t e l h in
            let is = turn-is s t T1 T2 1 e l h in
            let gives : t2_gives d ≡ false = le-ltb (length d.t1) (max 1 p) (omega (arith, room, length-counted (s T1))) in
            let set : eqb (oldest_count d.t1) 0 ≡ false = ne_eqb (oldest_count d.t1) 0 (λ z. omega (arith, z, high, oldest-counted (s T1))) in
            let fewer : suc (most_moves (after_promotion d.t1 d)) ≡ most_moves d =
            subst (λ (x : List Entry). suc (most_moves (after_promotion (counted_keys x) (record d { t1 = counted_keys x }))) ≡ most_moves (record d { t1 = counted_keys x })) (sym h) (omega (arith, high, own, total-append d.t2 (counted_less (counted_key e) ∷ []))) in
            let shorter = ap (λ (w : Queues). length (w T1)) is in
            let before = ap (λ (x : List Entry). length x) h in
            let next = promotes m n u l (tabled-turn s t T1 T2 1 (omega arith)) (ap (λ (w : Queues). w T1) is) (omega (arith, room, shorter, before)) (omega (arith, enough, fewer, ap most_moves state))
            (subst (IsMoved v) (sym state) (page_of.promoted v d.t1 d refl moved)) in
            let step : car_eviction_within (suc n) d ≡ car_eviction_within n (car_of p u) = rw (gives, set) (ap (car_eviction_within n) (sym state)) in
            rw f record { comes = step ∙ next.comes; moved = next.moved; clear = next.clear }
      ]

-- ---- a key leaves

-- queues and an outcome come to an eviction's result
pub record IsGone (p : ℕ) (u : Queues) (o : Outcome) (r : Outcome × CarState) : Type 0 where
  pub outcome : o ≡ r.0
  pub state : car_of p u ≡ r.1

sent-t1 : (p : ℕ) (b : Queues) → IsTabled b → IsGone p (after_leaving (leaver T1) b) (outcome_after (leaver T1) b) (t1_eviction (counted_keys (b T1)) (car_of p b))
sent-t1 p b t =
    by-departure (λ u o x. IsGone p u o (t1_eviction (counted_keys x) (car_of p b))) b t T1 B1
    (λ h. grind (arith, nat_tests, same-state)) (λ e l h. grind (arith, nat_tests, keys-append, same-state))

sent-t2 : (p : ℕ) (b : Queues) → IsTabled b → IsGone p (after_leaving (leaver T2) b) (outcome_after (leaver T2) b) (t2_eviction (counted_keys (b T2)) (car_of p b))
sent-t2 p b t =
    by-departure (λ u o x. IsGone p u o (t2_eviction (counted_keys x) (car_of p b))) b t T2 B2
    (λ h. grind (arith, nat_tests, same-state)) (λ e l h. grind (arith, nat_tests, keys-append, same-state))

-- where the oldest has no count, none turns
no-turn : (n q : ℕ) (s : Queues) → oldest_count (counted_keys (s q)) ≡ 0 → turns_due n q q 1 1 s ≡ 0
no-turn zero q s h = refl
no-turn (suc n) q s h = rw (lt-ltb (count_or 0 (oldest_of (s q))) 1 (omega (arith, h, oldest-counted (s q)))) refl

giver-cases : (P : ℕ → Type 0) (p : ℕ) (s : Queues) → (nat_lt (length (s T1)) (max 1 p) ≡ true → P T2) → (nat_lt (length (s T1)) (max 1 p) ≡ false → P T1) → P (giver p s)
giver-cases P p s f g = cond_both (nat_lt (length (s T1)) (max 1 p)) _ _ P f g

module _ (c p : ℕ) (s : Queues) (t : IsTabled s) (i : IsCar c (car_of p s)) where
  abbrev v : CarState
  v = car_of p s

  abbrev a : Queues
  a = after_promotions p s

  a-tabled : IsTabled a
  a-tabled = tabled-turns s t (promotions p s).times T1 T2 1 (omega arith)

  promoted : IsPromoted c p v i.fits (most_moves v) s a
  promoted = promotes c p v i.fits (length (s T1) + 1 - max 1 p) (most_moves v) s (s T1) t refl refl (omega arith) (unmoved v i.bits.0 i.bits.1)

  gives-is : t2_gives (car_of p a) ≡ nat_lt (length (a T1)) (max 1 p)
  gives-is = ap (λ n. nat_lt n (max 1 p)) (length-counted (a T1))

  abbrev IsGiven : ℕ → Type 0
  IsGiven q = IsGone p (after_departure c q a) (outcome_after (leaver q) (after_giver_turns c q a)) (car_eviction v)

  pub replaced : IsGiven (giver p a)
  replaced =
      giver-cases IsGiven p a
      (λ g.
      let b : Queues = after_giver_turns c T2 a in
      let b-tabled : IsTabled b = tabled-turns a a-tabled (giver_turns c T2 a).times T2 T2 1 (omega arith) in
      let keeps = λ (j : ℕ) (d : j ≡ T2 → ⊥). turns-keep T2 (giver_turns c T2 a).times 1 j a (omega arith) a-tabled d in
      let gone = sent-t2 p b b-tabled in
      let last : car_eviction v ≡ t2_eviction (counted_keys (b T2)) (car_of p a) = promoted.comes ∙ rw (gives-is ∙ g) refl in
      let same = same-eviction (counted_keys (b T2)) (car_of p b) (car_of p a) (ap counted_keys (keeps T1 (λ e. omega (arith, e)))) (ap keys_of (keeps B1 (λ e. omega (arith, e)))) (ap keys_of (keeps B2 (λ e. omega (arith, e)))) refl in
      subst (IsGone p (after_leaving (leaver T2) b) (outcome_after (leaver T2) b)) (same ∙ sym last) gone)
      (λ g.
      let none : turns_due c T1 T1 1 1 a ≡ 0 = no-turn c T1 a (promoted.clear (gives-is ∙ g)) in
      let last : car_eviction v ≡ t1_eviction (counted_keys (a T1)) (car_of p a) = promoted.comes ∙ rw (gives-is ∙ g) refl in
      subst (λ n. IsGone p (after_leaving (leaver T1) (after_turns n T1 T1 1 a)) (outcome_after (leaver T1) (after_turns n T1 T1 1 a)) (car_eviction v)) (sym none)
      (subst (IsGone p (after_leaving (leaver T1) a) (outcome_after (leaver T1) a)) (sym last) (sent-t1 p a a-tabled)))
    where
      same-eviction : (l : List CountedKey) (d e : CarState) → d.t1 ≡ e.t1 → d.b1 ≡ e.b1 → d.b2 ≡ e.b2 → d.p ≡ e.p → t2_eviction l d ≡ t2_eviction l e
      same-eviction [] d e h1 h2 h3 h4 = cc
      same-eviction (y ∷ l) d e h1 h2 h3 h4 = cc

-- ---- once a key left

giver-low : (p : ℕ) (s : Queues) → giver p s < 2
giver-low p s = giver-cases (λ q. q < 2) p s (λ g. omega arith) (λ g. omega arith)

full-low : (c p x : ℕ) (second : Option Leaving) (own : Own) (s : Queues) → IsLowLeaving second → IsLowOwn own → IsLowPlan (full_plan c p second own x s)
full-low c p x second own s w h =
    let q = giver-low p (after_promotions p s) in
    record { early = (omega arith, omega arith); late = (omega (arith, q), omega (arith, q)); first = (omega (arith, q), omega (arith, q)); second = w; own = h }

module _ (c p : ℕ) (s : Queues) where
  -- a plan by which a key leaves
  abbrev some_plan : Plan
  some_plan = full_plan c p None (goes T2 0) p s

  low : IsLowPlan some_plan
  low = full-low c p p None (goes T2 0) s tt (omega arith)

  pub tabled-replaced : IsTabled s → IsTabled (after_replacing c p s)
  tabled-replaced t = tabled-leaving (after_runs some_plan s) (tabled-runs s t some_plan low) some_plan.first low.first

  pub absent-replaced : (i : Item) → IsAbsent i s → IsAbsent i (after_replacing c p s)
  absent-replaced i h = absent-first i some_plan s low h

  -- an item of a ghost stays there
  pub off-replaced : (i : Item) → occurrences i (s T1) ≡ 0 → occurrences i (s T2) ≡ 0 → (j : ℕ) → occurrences i (s j) ≡ 0 → occurrences i (after_replacing c p s j) ≡ 0
  off-replaced i off1 off2 =
      let a : Queues = after_promotions p s in
      let q = giver p a in
      let off : occurrences i (s q) ≡ 0 = giver-cases (λ x. occurrences i (s x) ≡ 0) p a (λ g. off2) (λ g. off1) in
      off-first i (promotions p s) (giver_turns c q a) q (Some (ghost_of q, 0)) s off1 off off

-- ---- what is forgotten

low-forgotten : (c : ℕ) (u : Queues) → IsLowLeaving (forgotten c u)
low-forgotten c u = grind (arith, nat_tests)

history : (c p : ℕ) (u : Queues) → IsTabled u → car_of p (after_leaving (forgotten c u) u) ≡ after_history c NoGhost (car_of p u)
history c p u t = grind (arith, nat_tests, length-counted, length-keys, any-out u t, keys-drop)

-- ---- the accessed key

-- it joins t1
joined : (k p : ℕ) (u : Queues) → IsTabled u → IsAbsent (item_of k) u → car_of p (after_send (entry (item_of k) 0) T1 u) ≡ record (car_of p u) { t1 = counted_keys (u T1) ++ uncounted_key k ∷ [] }
joined k p u t none = ap (λ w. car_of p (with_queue T1 (w T1 ++ entry (item_of k) 0 ∷ []) w)) (absent-gone u t (item_of k) (is_absent (item_of k) u none)) ∙ same-state (counted-append (u T1) (entry (item_of k) 0 ∷ [])) refl refl refl refl

-- it goes from its ghost to t2
recalled : (k p : ℕ) (u : Queues) → IsTabled u → occurrences (item_of k) (u T1) ≡ 0 → occurrences (item_of k) (u T2) ≡ 0 → car_of p (after_send (entry (item_of k) 0) T2 u) ≡ after_recall p k (car_of p u)
recalled k p u t off1 off2 = grind (arith, nat_tests, entries-none, counted-append, without-keys, same-state)

-- ---- an access

module _ (c k p : ℕ) (s : Queues) (t : IsTabled s) (i : IsCar c (car_of p s)) where
  abbrev before : CarState
  before = car_of p s

  abbrev IsPlan : Plan → Type 0
  IsPlan m = IsPlannedBy m k s car_of (car_act c k before) (has_key k (car_residents before))

  abbrev u : Queues
  u = after_replacing c p s

  gone : IsGone p u (outcome_after (leaver (giver p (after_promotions p s))) (after_giver_turns c (giver p (after_promotions p s)) (after_promotions p s))) (car_eviction before)
  gone = replaced c p s t i

  resident : (b1 b2 : Bool) → has_key k (keys_of (s T1)) ≡ b1 → has_key k (keys_of (s T2)) ≡ b2 → has_key k (car_residents before) ≡ cond b1 true b2
  resident b1 b2 h1 h2 = grind (arith, nat_tests, has-both, keys-counted)

  same-count : length (car_residents before) ≡ length (s T1) + length (s T2)
  same-count = both-length (s T1) (s T2)

  -- ---- a hit

  counted-in : (q : ℕ) → q < QUEUES → counted_keys (entries_counted (item_of k) 1 (s q)) ≡ with_count k 1 (counted_keys (s q))
  counted-in q low = counted-with k 1 (s q) (t.keys q) (queue-few q s low t.distinct (item_of k))

  ghost-stays : (q : ℕ) → q < QUEUES → keys_of (entries_counted (item_of k) 1 (s q)) ≡ keys_of (s q)
  ghost-stays q low = sym (keys-counted (entries_counted (item_of k) 1 (s q))) ∙ ap counted.keys_of (counted-in q low) ∙ keys-with k 1 (counted_keys (s q)) ∙ keys-counted (s q)

  hit : has_key k (car_residents before) ≡ true → IsPlan (own_plan true (counts 1) p)
  hit there = grind (arith, nat_tests, same-state, counted-in, ghost-stays, own-low (counts 1) tt)

  -- ---- a new key

  module _ (none : standing (item_of k) s ≡ None) where
    off : (j : ℕ) → has_key k (keys_of (s j)) ≡ false
    off j = (stands-nowhere s t k none j).0

    absent-u : IsAbsent (item_of k) u
    absent-u = absent-replaced c p s (item_of k) (nowhere (item_of k) s none)

    new : IsPlan (new_key_plan c p s)
    new =
        rw (resident false false (off T1) (off T2), off B1, off B2, same-count) (elim (cases_Bool (nat_lt (length (s T1) + length (s T2)) c)) [
          | inl f ↦ rw f record { outcome = refl; state = joined k p s t (nowhere (item_of k) s none); hits = refl; low = own-low (goes T1 0) (omega arith) }
          | inr f ↦ rw f record {
            outcome = gone.outcome;
            state = joined k p (after_leaving (forgotten c u) u) (tabled-leaving u (tabled-replaced c p s t) (forgotten c u) (low-forgotten c u)) (still-absent (item_of k) (forgotten c u) u (low-forgotten c u) absent-u)
                ∙ ap (λ (d : CarState). record d { t1 = d.t1 ++ uncounted_key k ∷ [] }) (history c p u (tabled-replaced c p s t) ∙ ap (after_history c NoGhost) gone.state);
            hits = refl;
            low = full-low c p p (forgotten c u) (goes T1 0) s (low-forgotten c u) (omega arith);
          }
        ])

  -- ---- a key of a ghost

  full-room : length (counted_keys (s T1)) + length (counted_keys (s T2)) ≡ c → nat_lt (length (car_residents before)) c ≡ false
  full-room h = le-ltb _ c (omega (arith, h, same-count, length-counted (s T1), length-counted (s T2)))

  occurs : (q n : ℕ) → StandsAs k q n s → 1 ≤ occurrences (item_of k) (s q)
  occurs q n at = ltb-true 0 _ (sym (has-occurs k (s q) (t.keys q)) ∙ at.here)

  some-key : (q n : ℕ) → StandsAs k q n s → 1 ≤ length (s q)
  some-key q n at = let whole = ap (λ (l : List Entry). length l) at.whole ∙ length-append at.front (entry (item_of k) n ∷ at.back) in omega (arith, whole)

  module _ (q n : ℕ) (at : StandsAs k q n s) (high : 2 ≤ q) where
    off-in : (j : ℕ) → j < 2 → occurrences (item_of k) (s j) ≡ 0
    off-in j w = elsewhere s t q (item_of k) (occurs q n at) j (λ e. omega (arith, e, high, w))

    back : (x : ℕ) → car_of x (after_send (entry (item_of k) 0) T2 u) ≡ after_recall x k (car_of x u)
    back x =
        let off1 = off-in T1 (omega arith) in
        let off2 = off-in T2 (omega arith) in
        recalled k x u (tabled-replaced c p s t) (off-replaced c p s (item_of k) off1 off2 T1 off1) (off-replaced c p s (item_of k) off1 off2 T2 off2)

    not-resident : has_key k (car_residents before) ≡ false
    not-resident = resident false false (at.off T1 (λ e. omega (arith, e, high))) (at.off T2 (λ e. omega (arith, e, high)))

  ghost-full : 1 ≤ length (s B1) + length (s B2) → nat_lt (length (car_residents before)) c ≡ false
  ghost-full n = full-room (i.full (omega (arith, n, length-keys (s B1), length-keys (s B2))))

  recall : (q n : ℕ) → StandsAs k q n s → 2 ≤ q → IsPlan (recall_plan c p (q == B1) s)
  recall zero n at high = absurd (omega (arith, high))
  recall (suc zero) n at high = absurd (omega (arith, high))
  recall (suc (suc zero)) n at high =
      let some_key = some-key B1 n at in
      rw (not-resident B1 n at high, at.here, ghost-full (omega (arith, some_key))) record {
        outcome = gone.outcome;
        state = back B1 n at high (target_after c p true u) ∙ (rw (length-keys (u B1), length-keys (u B2)) refl) ∙ ap (after_join c k InB1) gone.state;
        hits = refl;
        low = full-low c p (target_after c p true u) None (goes T2 0) s tt (omega arith);
      }
  recall (suc (suc (suc zero))) n at high =
      let some_key = some-key B2 n at in
      rw (not-resident B2 n at high, at.off B1 (λ e. omega (arith, e)), at.here, ghost-full (omega (arith, some_key))) record {
        outcome = gone.outcome;
        state = back B2 n at high (target_after c p false u) ∙ (rw (length-keys (u B1), length-keys (u B2)) refl) ∙ ap (after_join c k InB2) gone.state;
        hits = refl;
        low = full-low c p (target_after c p false u) None (goes T2 0) s tt (omega arith);
      }
  recall (suc (suc (suc (suc q)))) n at high = absurd (let low = at.low in omega (arith, low))

  planned-in : (q n : ℕ) → StandsAs k q n s → IsPlan (plan_at c p (Some (q, n)) s)
  planned-in zero n at = hit (resident true (has_key k (keys_of (s T2))) at.here refl)
  planned-in (suc zero) n at = hit (resident false true (at.off T1 (λ e. omega (arith, e))) at.here)
  planned-in (suc (suc zero)) n at = recall B1 n at (omega arith)
  planned-in (suc (suc (suc zero))) n at = recall B2 n at (omega arith)
  planned-in (suc (suc (suc (suc q)))) n at = absurd (let low = at.low in omega (arith, low))

  planned-at : (at : Option (ℕ × ℕ)) → standing (item_of k) s ≡ at → IsPlan (plan_at c p at s)
  planned-at None h = new h
  planned-at (Some at) h = planned-in at.0 at.1 (stands s t k at.0 at.1 h)

  -- ---- keys leave where the cache is full: a ghost has a key only there

  abbrev IsFull : Type 0
  IsFull = nat_lt (length (car_residents before)) c ≡ false

  high-ghost : (q n : ℕ) → StandsAs k q n s → is_resident q ≡ false → IsFull
  high-ghost zero n at f = absurd (cc f)
  high-ghost (suc zero) n at f = absurd (cc f)
  high-ghost (suc (suc zero)) n at f = let some_key = some-key B1 n at in ghost-full (omega (arith, some_key))
  high-ghost (suc (suc (suc zero))) n at f = let some_key = some-key B2 n at in ghost-full (omega (arith, some_key))
  high-ghost (suc (suc (suc (suc q)))) n at f = absurd (let low = at.low in omega (arith, low))

  leaves-at : (at : Option (ℕ × ℕ)) → standing (item_of k) s ≡ at → LeavesWhere IsFull (plan_at c p at s)
  leaves-at None h = one-of IsFull (nat_lt (length (s T1) + length (s T2)) c) _ _ (λ e. own-none IsFull false _ p) (λ e. inr (not-less _ _ c same-count e))
  leaves-at (Some at) h = one-of IsFull (is_resident at.0) _ _ (λ e. own-none IsFull true _ p) (λ e. inr (high-ghost at.0 at.1 (stands s t k at.0 at.1 h) e))

planned : IsPlannedPage car_page
planned c k p s some t shown i = (planned-at c k p s t i (standing (item_of k) s) refl, tt)

alone-at : (c p : ℕ) (s : Queues) (at : Option (ℕ × ℕ)) → HitsAlone (plan_at c p at s)
alone-at c p s v = grind (arith, nat_tests, either, own-alone, never)

pub car-sound : IsSoundPage car_page
car-sound = record {
  keeps = keeps;
  starts = (tt, refl);
  planned = planned;
  residents = λ p s. both-counted (s T1) (s T2);
  hits = λ c k p s. alone-at c p s (standing (item_of k) s);
  leaves = λ c k p s t shown i. leaves-at c k p s t i (standing (item_of k) s) refl;
}

-- ---- what the call owes by which a key leaves

pub is-replaced : (c p q : ℕ) (s a b u : Queues) (early late : Run) (first : Left) → early ≡ promotions p s → IsRun early s a → q ≡ giver p a → late ≡ giver_turns c q a → IsRun late a b
    → IsLeft (leaver q) b u first → outs first.by ≡ 0 → IsReplaced c p s u record { early = early; late = late; first = first }
is-replaced c p q s a b u early late first e ran q_is l ran2 left stays =
    let a_is : a ≡ after_promotions p s = ran.after ∙ ap (λ (r : Run). after_run r s) e in
    let b_is : b ≡ after_giver_turns c q a = ran2.after ∙ ap (λ (r : Run). after_run r a) l in
    record {
      early = e;
      late = l ∙ ap (λ x. giver_turns c x a) q_is ∙ ap (λ (w : Queues). giver_turns c (giver p w) w) a_is;
      made_early = subst (IsRun early s) a_is ran;
      made_late = subst (λ (w : Queues). IsRun late w (after_giver_turns c (giver p w) w)) a_is (subst (λ x. IsRun late a (after_giver_turns c x a)) q_is (subst (IsRun late a) b_is ran2));
      left = subst (λ (w : Queues). IsLeft (leaver (giver p w)) (after_giver_turns c (giver p w) w) u first) a_is (subst (λ x. IsLeft (leaver x) (after_giver_turns c x a) u first) q_is (subst (λ (w : Queues). IsLeft (leaver q) w u first) b_is left));
      stays = stays;
    }

-- an entry of other queues stays where it was

pub at-giver : (P : ℕ → Type 0) (q : ℕ) → q ≤ 1 → P T1 → P T2 → P q
at-giver P zero w h g = h
at-giver P (suc zero) w h g = g
at-giver P (suc (suc q)) w h g = absurd (omega (arith, w))

pub off-both : (i : Item) (r : Run) (s a : Queues) → r.from ≡ T1 → a ≡ after_run r s → occurrences i (s T1) ≡ 0 → occurrences i (s T2) ≡ 0 → (q : ℕ) → q ≤ 1 → occurrences i (a q) ≡ 0
off-both i r s a from after off1 off2 q w = at-giver (λ j. occurrences i (a j) ≡ 0) q w (off-run i r T1 T1 s a from after off1 off1) (off-run i r T1 T2 s a from after off1 off2)

-- ---- what is forgotten

pub forgets-none : (c : ℕ) (s : Queues) → (length (s T1) + length (s B1) ≡ c → ⊥) → (total s ≡ 2 * c → ⊥) → None ≡ forgotten c s
forgets-none c s e g = grind (arith, nat_tests, ne_eqb)

pub replaced-none : (c p : ℕ) (i : Item) (s w : Queues) (r : Replaced) → IsReplaced c p s w r → queue_holding i s ≡ None → queue_holding i w ≡ None
replaced-none c p i s w r h none = is_absent i w (subst (IsAbsent i) (sym h.left.after) (absent-replaced c p s i (absent i s none)))

pub off-ghost : (k q n : ℕ) (s : Queues) → IsTabled s → standing (item_of k) s ≡ Some (q, n) → is_resident q ≡ false → (occurrences (item_of k) (s T1) ≡ 0) × (occurrences (item_of k) (s T2) ≡ 0)
off-ghost k q n s t h f =
    let some = held k s t (q, n) h in
    (elsewhere s t q (item_of k) some T1 (λ e. absurd (apart T1 e refl)), elsewhere s t q (item_of k) some T2 (λ e. absurd (apart T2 e refl)))
  where
    apart : (j : ℕ) → j ≡ q → is_resident j ≡ true → ⊥
    apart j e g = let both : true ≡ false = sym g ∙ ap is_resident e ∙ f in cc both
