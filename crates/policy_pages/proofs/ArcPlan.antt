-- ARC's plan is its definition.
use Rattle.std.proofs.lemmas.Bool.Decides.{nat_tests}
use Rattle.std.proofs.Common.{◌≡◌, ℕ, zero, suc, ◌+◌, ◌-◌, ◌*◌, ◌<◌, ◌≤◌, min, Bool, true, false, cond, eqb, ◌||◌, Option, Some, None, List, [], ◌∷◌, ◌++◌, length, take, drop, append-nil, ap, ◌∙◌, sym, subst, refl, arith, inr, nat_lt, ◌⊎◌, ◌==◌, length-append}
use Rattle.std.proofs.lemmas.Bool.{cond_both, eq-eqb, ne_eqb, lt-ltb, le-ltb, cases_lt, eqb-true, ltb-false}
use Rattle.engine_base.specs.Keys.{has_key, keys_without}
use Rattle.engine_base.specs.declared.outcome.Outcome.TheVariants.{Hit, Evicted}
use Rattle.queue_table.specs.Entries.{entry, oldest_of}
use Rattle.queue_table.specs.Queues.{QUEUES, Queues, after_send}
use Rattle.queue_table.proofs.QueueLists.{IsAbsent, is_absent}
use Rattle.policy_pages.specs.Arc.{Outcome, ArcState, arc_residents, arc_total, oldest_forgotten, OfB1, OfB2, oldest_leaver, ToB1, ToB2, Dropped, arc_replace, plan_of_new_key, arc_after_recall, arc_after_forgetting, arc_after_eviction, arc_after_join, arc_after_miss, arc_outcome, arc_act, IsArc, ArcPlan, ArcLeaver, ArcForgets, NoGhost, InB1, NoneForgotten, NoLeaver}
use Rattle.policy_pages.proofs.Ghost.{without-none}
use Rattle.policy_pages.proofs.ArcCases.{new-cases}
use Rattle.policy_pages.proofs.Weights.{has-append}
use Rattle.queue_table.specs.declared.records.Entry.{Entry}
use Rattle.queue_table.specs.Moves.{item_of, standing, Leaving, leaving, after_leaving, IsLowLeaving, evicted, outcome_after, goes, Plan, own_plan}
use Rattle.queue_table.specs.Tabled.{IsTabled, keys_of, StandsAs}
use Rattle.queue_table.proofs.Tabled.{keys-append, absent-gone, stands, stands-nowhere, tabled-leaving}
use Rattle.policy_pages.specs.Plans.{IsPlannedBy, miss_plan}
use Rattle.policy_pages.specs.Leavers.{Leavers, no_leavers}
use Rattle.policy_pages.specs.ArcPlan.{T1, T2, B1, B2, arc_of, total, step_size, gives_t1, replaced, new_key_leavers, new_key_plan, recall_plan, plan_in, plan_at, arc_page}
use Rattle.policy_pages.proofs.Plans.{nowhere, own-low, miss-low, HitsAlone, own-alone, never, either, one-of, own-none, miss-full, not-less}
use Rattle.policy_pages.proofs.QueueKeys.{length-keys, keys-sent, keys_left, left-keys, without-drop, without-push, apart-first, keys-length}
use Rattle.policy_pages.proofs.Leavers.{AreLow, tabled-leavers, still-absent}
use Rattle.policy_pages.specs.PolicyPage.{LeavesWhere, IsPlannedPage, IsSoundPage}
use Rattle.policy_pages.proofs.ArcKeeping.{keeps}

-- ---- the state, queue by queue

same-state : {a a2 b b2 x x2 y y2 : List ℕ} {p p2 : ℕ} → a ≡ a2 → b ≡ b2 → x ≡ x2 → y ≡ y2 → p ≡ p2
    → ◌≡◌ {A = ArcState} record { t1 = a; t2 = b; b1 = x; b2 = y; p = p } record { t1 = a2; t2 = b2; b1 = x2; b2 = y2; p = p2 }
same-state ea eb ex ey ep = cc

-- once a key has left one of the queues
left-state : (s : Queues) → IsTabled s → (p from : ℕ) (to : Option (ℕ × ℕ)) → (let f : ℕ → List ℕ = keys_left from to (λ j. keys_of (s j)) in
    arc_of p (after_leaving (leaving from to) s) ≡ record { t1 = f T1; t2 = f T2; b1 = f B1; b2 = f B2; p = p })
left-state s t p from to = let at = left-keys s from t to in same-state (at T1) (at T2) (at B1) (at B2) refl

-- ---- what leaves, in the definition

outcomes : (l : List Entry) (leaves : ℕ → ArcLeaver) → ((v : ℕ) → arc_outcome (leaves v) ≡ Evicted v) → evicted (oldest_of l) ≡ arc_outcome (oldest_leaver leaves (keys_of l))
outcomes [] leaves out = refl
outcomes (e ∷ l) leaves out = sym (out e.item.key)

to_b1-state : (l : List ℕ) (d : ArcState) → d.t1 ≡ l → arc_after_eviction (oldest_leaver ToB1 l) d ≡ record d { t1 = drop 1 l; b1 = d.b1 ++ take 1 l }
to_b1-state [] d h = same-state h refl (sym (append-nil d.b1)) refl refl
to_b1-state (v ∷ l) d h = same-state (ap (drop 1) h) refl refl refl refl

to_b2-state : (l : List ℕ) (d : ArcState) → d.t2 ≡ l → arc_after_eviction (oldest_leaver ToB2 l) d ≡ record d { t2 = drop 1 l; b2 = d.b2 ++ take 1 l }
to_b2-state [] d h = same-state refl h refl (sym (append-nil d.b2)) refl
to_b2-state (v ∷ l) d h = same-state refl (ap (drop 1) h) refl refl refl

dropped-state : (l : List ℕ) (d : ArcState) → d.t1 ≡ l → arc_after_eviction (oldest_leaver Dropped l) d ≡ record d { t1 = drop 1 l }
dropped-state [] d h = same-state h refl refl refl refl
dropped-state (v ∷ l) d h = same-state (ap (drop 1) h) refl refl refl refl

-- A ghost that has a key forgets its oldest before a key leaves for it, or after.
abbrev less_b1 : ArcState → ArcState
less_b1 d = record d { b1 = drop 1 d.b1 }

abbrev less_b2 : ArcState → ArcState
less_b2 d = record d { b2 = drop 1 d.b2 }

b1-forgets : (v : ArcLeaver) (l : List ℕ) (d : ArcState) → 1 ≤ length l → less_b1 (arc_after_eviction v (record d { b1 = l })) ≡ arc_after_eviction v (arc_after_forgetting (oldest_forgotten OfB1 l) (record d { b1 = l }))
b1-forgets v [] d n = absurd (omega (arith, n))
b1-forgets NoLeaver (w ∷ l) d n = refl
b1-forgets (ToB1 v) (w ∷ l) d n = refl
b1-forgets (ToB2 v) (w ∷ l) d n = refl
b1-forgets (Dropped v) (w ∷ l) d n = refl

b2-forgets : (v : ArcLeaver) (l : List ℕ) (d : ArcState) → 1 ≤ length l → less_b2 (arc_after_eviction v (record d { b2 = l })) ≡ arc_after_eviction v (arc_after_forgetting (oldest_forgotten OfB2 l) (record d { b2 = l }))
b2-forgets v [] d n = absurd (omega (arith, n))
b2-forgets NoLeaver (w ∷ l) d n = refl
b2-forgets (ToB1 v) (w ∷ l) d n = refl
b2-forgets (ToB2 v) (w ∷ l) d n = refl
b2-forgets (Dropped v) (w ∷ l) d n = refl

-- a ghost that the key leaves, with the oldest key of its queue
with-oldest : (k : ℕ) (ghost queue : List ℕ) → has_key k queue ≡ false → keys_without k (ghost ++ take 1 queue) ≡ keys_without k ghost ++ take 1 queue
with-oldest k ghost [] h = ap (keys_without k) (append-nil ghost) ∙ sym (append-nil (keys_without k ghost))
with-oldest k ghost (v ∷ queue) h = without-push k v ghost (apart-first k v queue h)

-- ---- an eviction

-- g: t1 gives up a key, and not t2
abbrev leaves : Bool → Option Leaving
leaves g = cond g (leaving T1 (Some (B1, 0))) (leaving T2 (Some (B2, 0)))

leaves-low : (g : Bool) → IsLowLeaving (leaves g)
leaves-low true = (omega arith, omega arith)
leaves-low false = (omega arith, omega arith)

pub leaver-low : (in_b2 : Bool) (p : ℕ) (s : Queues) → IsLowLeaving (replaced in_b2 p s)
leaver-low in_b2 p s = leaves-low (gives_t1 in_b2 p s)

module _ (k : ℕ) (s : Queues) (t : IsTabled s) where
  abbrev keys : ℕ → List ℕ
  keys j = keys_of (s j)

  abbrev leaver : Bool → ArcLeaver
  leaver g = cond g (oldest_leaver ToB1 (keys T1)) (oldest_leaver ToB2 (keys T2))

  page-leaver : (in_b2 : Bool) (p x : ℕ) → arc_replace in_b2 p (arc_of x s) ≡ leaver (gives_t1 in_b2 p s)
  page-leaver in_b2 p x = rw (length-keys (s T1)) refl

  leaves-outcome : (g : Bool) → outcome_after (leaves g) s ≡ arc_outcome (leaver g)
  leaves-outcome true = outcomes (s T1) ToB1 (λ v. refl)
  leaves-outcome false = outcomes (s T2) ToB2 (λ v. refl)

  evicted-state : (g : Bool) (p : ℕ) → arc_of p (after_leaving (leaves g) s) ≡ arc_after_eviction (leaver g) (arc_of p s)
  evicted-state true p = left-state s t p T1 (Some (B1, 0)) ∙ sym (to_b1-state (keys T1) (arc_of p s) refl)
  evicted-state false p = left-state s t p T2 (Some (B2, 0)) ∙ sym (to_b2-state (keys T2) (arc_of p s) refl)

  -- the key goes to t2
  sent-state : (p : ℕ) (u : Queues) → IsTabled u → (let f : ℕ → List ℕ = λ j. keys_without k (keys_of (u j)) in
      arc_of p (after_send (entry (item_of k) 0) T2 u) ≡ record { t1 = f T1; t2 = f T2 ++ k ∷ []; b1 = f B1; b2 = f B2; p = p })
  sent-state p u w = let at = keys-sent k 0 T2 u w.keys in same-state (at T1) (at T2) (at B1) (at B2) refl

  module _ (x : ℕ) where
    abbrev old : ArcState
    old = arc_of x s

    abbrev IsAct : Plan → Outcome → ArcState → Type 0
    IsAct m o d = IsPlannedBy m k s arc_of (o, d) (has_key k (arc_residents old))

    hit : (d : ArcState) → has_key k (arc_residents old) ≡ true → arc_of x (after_send (entry (item_of k) 0) T2 s) ≡ d → IsAct (own_plan true (goes T2 0) x) Hit d
    hit d there state = record { outcome = refl; state = state; hits = sym there; low = own-low (goes T2 0) (omega arith) }

    module _ (no_t1 : has_key k (keys T1) ≡ false) (no_t2 : has_key k (keys T2) ≡ false) where
      miss : (l : Leavers) (q p : ℕ) (o : Outcome) (d : ArcState) → AreLow l → q < QUEUES → outcome_after l.first s ≡ o
          → arc_of p (after_send (entry (item_of k) 0) q (after_leaving l.second (after_leaving l.first s))) ≡ d → IsAct (miss_plan l (goes q 0) p) o d
      miss l q p o d low w outcome state =
          grind (arith, nat_tests, has-append k (keys T1) (keys T2), miss-low l (goes q 0) p low w)

      -- ---- a key that a ghost remembers

      recalled-state : (g : Bool) (p : ℕ) → arc_of p (after_send (entry (item_of k) 0) T2 (after_leaving (leaves g) s)) ≡ arc_after_join InB1 k (arc_after_eviction (leaver g) (arc_after_recall p k old))
      recalled-state true p =
          let at = λ (j : ℕ). ap (keys_without k) (left-keys s T1 t (Some (B1, 0)) j) in
          sent-state p _ (tabled-leaving s t (leaves true) (leaves-low true))
          ∙ same-state (at T1 ∙ without-drop k (keys T1) no_t1) (ap (λ l. l ++ k ∷ []) (at T2 ∙ without-none k (keys T2) no_t2)) (at B1 ∙ with-oldest k (keys B1) (keys T1) no_t1) (at B2) refl
          ∙ sym (ap (arc_after_join InB1 k) (to_b1-state (keys T1) (arc_after_recall p k old) refl))
      recalled-state false p =
          let at = λ (j : ℕ). ap (keys_without k) (left-keys s T2 t (Some (B2, 0)) j) in
          sent-state p _ (tabled-leaving s t (leaves false) (leaves-low false))
          ∙ same-state (at T1 ∙ without-none k (keys T1) no_t1) (ap (λ l. l ++ k ∷ []) (at T2 ∙ without-drop k (keys T2) no_t2)) (at B1) (at B2 ∙ with-oldest k (keys B2) (keys T2) no_t2) refl
          ∙ sym (ap (arc_after_join InB1 k) (to_b2-state (keys T2) (arc_after_recall p k old) refl))

      recalled : (in_b2 : Bool) (p : ℕ) → (let v : ArcLeaver = arc_replace in_b2 p old in
          IsAct (recall_plan in_b2 p s) (arc_outcome v) (arc_after_join InB1 k (arc_after_eviction v (arc_after_recall p k old))))
      recalled in_b2 p =
          let g : Bool = gives_t1 in_b2 p s in
          subst (λ v. IsAct (recall_plan in_b2 p s) (arc_outcome v) (arc_after_join InB1 k (arc_after_eviction v (arc_after_recall p k old)))) (sym (page-leaver in_b2 p x))
          (miss record { first = leaves g; second = None } T2 p (arc_outcome (leaver g)) _ (leaves-low g, tt) (omega arith) (leaves-outcome g) (recalled-state g p))

      -- ---- a new key

      module _ (c : ℕ) (some : 1 ≤ c) (i : IsArc c old) (none : standing (item_of k) s ≡ None) where
        abbrev IsNew : ArcPlan → Type 0
        IsNew m = IsAct (new_key_plan c x s) (arc_outcome m.leaver) (arc_after_miss c k m old)

        abbrev page_plan : ArcForgets → ArcLeaver → ArcPlan
        page_plan f v = record { recalls = NoGhost; forgets = f; leaver = v }

        joined : (u : Queues) → IsTabled u → IsAbsent (item_of k) u → arc_of x (after_send (entry (item_of k) 0) T1 u) ≡ arc_after_join NoGhost k (arc_of x u)
        joined u w a = grind (arith, nat_tests, absent-gone, is_absent, same-state, keys-append)

        new-by : (l : Leavers) (f : ArcForgets) (v : ArcLeaver) → new_key_leavers c x s ≡ l → AreLow l → outcome_after l.first s ≡ arc_outcome v
            → arc_of x (after_leaving l.second (after_leaving l.first s)) ≡ arc_after_eviction v (arc_after_forgetting f old) → IsNew (page_plan f v)
        new-by l f v e low outcome shows =
            let u : Queues = after_leaving l.second (after_leaving l.first s) in
            let absent = still-absent (item_of k) l.second (after_leaving l.first s) low.1 (still-absent (item_of k) l.first s low.0 (nowhere (item_of k) s none)) in
            let same : arc_after_recall x k old ≡ old = rw ((stands-nowhere s t k none B1).1, (stands-nowhere s t k none B2).1) refl in
            subst (λ m. IsAct (miss_plan m (goes T1 0) x) (arc_outcome v) (arc_after_miss c k (page_plan f v) old)) (sym e)
            (miss l T1 x (arc_outcome v) (arc_after_miss c k (page_plan f v) old) low (omega arith) outcome (joined u (tabled-leavers l s low t) absent ∙ ap (arc_after_join NoGhost k) shows
            ∙ ap (λ d. arc_after_join NoGhost k (arc_after_eviction v (arc_after_forgetting f d))) (sym same)))

        abbrev g : Bool
        g = gives_t1 false x s

        -- a key leaves for a ghost
        replaced-by : (second : Option Leaving) (f : ArcForgets) → IsLowLeaving second → new_key_leavers c x s ≡ record { first = replaced false x s; second = second }
            → arc_of x (after_leaving second (after_leaving (leaves g) s)) ≡ arc_after_eviction (leaver g) (arc_after_forgetting f old) → IsNew (page_plan f (arc_replace false x old))
        replaced-by second f low e shows =
            subst (λ v. IsNew (page_plan f v)) (sym (page-leaver false x x))
            (new-by record { first = leaves g; second = second } f (leaver g) e (leaves-low g, low) (leaves-outcome g) shows)

        lengths : (j : ℕ) → length (keys j) ≡ length (s j)
        lengths j = length-keys (s j)

        totals : arc_total old ≡ total s
        totals = rw (lengths T1, lengths T2, lengths B1, lengths B2) refl

        at_l1 : length (keys T1) + length (keys B1) ≡ c → eqb (length (s T1) + length (s B1)) c ≡ true
        at_l1 e = eq-eqb (length (s T1) + length (s B1)) c (omega (arith, e, lengths T1, lengths B1))

        off_l1 : (length (keys T1) + length (keys B1) ≡ c → ⊥) → eqb (length (s T1) + length (s B1)) c ≡ false
        off_l1 e = ne_eqb (length (s T1) + length (s B1)) c (λ z. e (omega (arith, z, lengths T1, lengths B1)))

        new : IsNew (plan_of_new_key c old)
        new =
            new-cases c old IsNew
            (λ same low.
            replaced-by (leaving B1 None) (oldest_forgotten OfB1 (keys B1)) (omega arith, tt) (rw (at_l1 same, lt-ltb (length (s T1)) c (omega (arith, low, lengths T1))) refl)
            (left-state _ (tabled-leaving s t (leaves g) (leaves-low g)) x B1 None ∙ ap less_b1 (evicted-state g x) ∙ b1-forgets (leaver g) (keys B1) old (omega (arith, same, low))))
            (λ same low.
            new-by record { first = leaving T1 None; second = None } NoneForgotten (oldest_leaver Dropped (keys T1)) (rw (at_l1 same, le-ltb (length (s T1)) c (omega (arith, low, lengths T1))) refl)
            ((omega arith, tt), tt) (outcomes (s T1) Dropped (λ v. refl)) (left-state s t x T1 None ∙ sym (dropped-state (keys T1) old refl)))
            (λ other few.
            new-by no_leavers NoneForgotten NoLeaver (rw (off_l1 other, lt-ltb (total s) c (omega (arith, few, totals))) refl)
            (tt, tt) refl refl)
            (λ other many same.
            replaced-by (leaving B2 None) (oldest_forgotten OfB2 (keys B2)) (omega arith, tt)
            (rw (off_l1 other, le-ltb (total s) c (omega (arith, many, totals)), eq-eqb (total s) (2 * c) (sym totals ∙ same)) refl)
            (left-state _ (tabled-leaving s t (leaves g) (leaves-low g)) x B2 None ∙ ap less_b2 (evicted-state g x) ∙ b2-forgets (leaver g) (keys B2) old (omega (arith, same, other))))
            (λ other many less.
            replaced-by None NoneForgotten tt
            (rw (off_l1 other, le-ltb (total s) c (omega (arith, many, totals)), ne_eqb (total s) (2 * c) (λ z. less (totals ∙ z))) refl)
            (evicted-state g x))

-- ---- an access

module _ (c k x : ℕ) (s : Queues) (some : 1 ≤ c) (t : IsTabled s) (i : IsArc c (arc_of x s)) where
  abbrev IsPlanned : Plan → Type 0
  IsPlanned m = IsPlannedBy m k s arc_of (arc_act c k (arc_of x s)) (has_key k (arc_residents (arc_of x s)))

  planned-in : (q n : ℕ) → StandsAs k q n s → IsPlanned (plan_in c x q s)
  planned-in zero n a =
      let off = λ (j : ℕ) (e : j ≡ T1 → ⊥). a.off_without j e in
      rw a.here (hit k s t x _ (has-append k (keys_of (s T1)) (keys_of (s T2)) ∙ rw a.here refl)
      (sent-state k s t x s t ∙ same-state refl (ap (λ l. l ++ k ∷ []) (off T2 (λ e. omega (arith, e)))) (off B1 (λ e. omega (arith, e))) (off B2 (λ e. omega (arith, e))) refl))
  planned-in (suc zero) n a =
      let off = λ (j : ℕ) (e : j ≡ T2 → ⊥). a.off_without j e in
      let no_t1 : has_key k (keys_of (s T1)) ≡ false = a.off T1 (λ e. omega (arith, e)) in
      rw (no_t1, a.here) (hit k s t x _ (has-append k (keys_of (s T1)) (keys_of (s T2)) ∙ rw (no_t1, a.here) refl)
      (sent-state k s t x s t ∙ same-state (off T1 (λ e. omega (arith, e))) refl (off B1 (λ e. omega (arith, e))) (off B2 (λ e. omega (arith, e))) refl))
  planned-in (suc (suc zero)) n a =
      let no_t1 = a.off T1 (λ e. omega (arith, e)) in
      let no_t2 = a.off T2 (λ e. omega (arith, e)) in
      rw (no_t1, no_t2, a.here, length-keys (s B2), length-keys (s B1)) (recalled k s t x no_t1 no_t2 false (min c (x + step_size B2 B1 s)))
  planned-in (suc (suc (suc zero))) n a =
      let no_t1 = a.off T1 (λ e. omega (arith, e)) in
      let no_t2 = a.off T2 (λ e. omega (arith, e)) in
      let no_b1 = a.off B1 (λ e. omega (arith, e)) in
      rw (no_t1, no_t2, no_b1, a.here, length-keys (s B1), length-keys (s B2)) (recalled k s t x no_t1 no_t2 true (x - step_size B1 B2 s))
  planned-in (suc (suc (suc (suc q)))) n a = absurd (let low = a.low in omega (arith, low))

  planned-at : (at : Option (ℕ × ℕ)) → standing (item_of k) s ≡ at → IsPlanned (plan_at c x at s)
  planned-at None h =
      let off = λ (j : ℕ). (stands-nowhere s t k h j).0 in
      rw (off T1, off T2, off B1, off B2) (new k s t x (off T1) (off T2) c some i h)
  planned-at (Some at) h = planned-in at.0 at.1 (stands s t k at.0 at.1 h)

planned : IsPlannedPage arc_page
planned c k x s some t shown i = (planned-at c k x s some t i (standing (item_of k) s) refl, tt)

-- ---- the plan of a key that stands in a ghost

-- ---- keys leave where the cache is full: a ghost has a key only there

module _ (c x : ℕ) (s : Queues) (i : IsArc c (arc_of x s)) where
  abbrev IsFull : Type 0
  IsFull = nat_lt (length (arc_residents (arc_of x s))) c ≡ false

  is-full : c ≤ length (s T1) + length (s T2) → IsFull
  is-full h = not-less _ _ c (keys-length (s T1) (s T2)) (le-ltb _ c h)

  ghost-full : 1 ≤ length (s B1) + length (s B2) → IsFull
  ghost-full h =
      grind (arith, nat_tests, is-full, length-keys (s B1), length-keys (s B2), length-keys (s T1), length-keys (s T2))

  abbrev IsNoneOrFull : Leavers → Type 0
  IsNoneOrFull l = ((l.first ≡ None) × (l.second ≡ None)) ⊎ IsFull

  leaves-of-new : IsNoneOrFull (new_key_leavers c x s)
  leaves-of-new = grind (arith, nat_tests, cond_both, cases_lt, ghost-full, is-full, eqb-true, ltb-false)

  leaves-at : IsTabled s → (k : ℕ) (at : Option (ℕ × ℕ)) → standing (item_of k) s ≡ at → LeavesWhere IsFull (plan_at c x at s)
  leaves-at t k None h = miss-full IsFull (new_key_leavers c x s) _ x leaves-of-new
  leaves-at t k (Some p) h =
      one-of IsFull (p.0 == T1 || p.0 == T2) _ _ (λ e. own-none IsFull true _ x)
      (λ e. one-of IsFull (p.0 == B1) _ _ (λ f. inr (ghost-full (remembered B1 f (λ n. omega (arith, n)))))
      (λ f. one-of IsFull (p.0 == B2) _ _ (λ g. inr (ghost-full (remembered B2 g (λ n. omega (arith, n))))) (λ g. miss-full IsFull (new_key_leavers c x s) _ x leaves-of-new)))
    where
      -- the key stands in that queue
      remembered : (q : ℕ) → (p.0 == q) ≡ true → (1 ≤ length (s q) → 1 ≤ length (s B1) + length (s B2)) → 1 ≤ length (s B1) + length (s B2)
      remembered q f within =
          let a : StandsAs k p.0 p.1 s = stands s t k p.0 p.1 h in
          let at_q = ap (λ y. length (s y)) (eqb-true p.0 q f) in
          let whole = ap length a.whole ∙ length-append a.front _ in
          within (omega (arith, at_q, whole))

module _ (c x : ℕ) (s : Queues) where
  alone-at : (at : Option (ℕ × ℕ)) → HitsAlone (plan_at c x at s)
  alone-at None = never _ refl
  alone-at (Some p) = grind (arith, nat_tests, either, own-alone, never)

pub arc-sound : IsSoundPage arc_page
arc-sound = record {
  keeps = keeps;
  starts = (tt, refl);
  planned = planned;
  residents = λ x s. refl;
  hits = λ c k x s. alone-at c x s (standing (item_of k) s);
  leaves = λ c k x s t shown i. leaves-at c x s i t k (standing (item_of k) s) refl;
}
