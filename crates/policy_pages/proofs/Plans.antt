-- Plans of accesses: which queues they name, by which of them keys leave, and that they are a definition's accesses.
use Rattle.std.proofs.lemmas.Bool.Decides.{nat_tests}
use Rattle.std.proofs.Common.{◌≡◌, ℕ, zero, suc, ◌-◌, ◌<◌, false, Option, Some, None, ap, sym, subst, ◌∙◌, refl, arith, ◌⊎◌, Bool, true, nat_lt, if◌then◌else◌, inl, ◌≤◌, inr}
use Rattle.std.proofs.lemmas.Bool.{lt-ltb, ltb-true, cases_lt, cases_Bool, cases_eq, le-ltb}
use Rattle.engine_base.specs.declared.outcome.Outcome.TheVariants.{Kept, Hit}
use Rattle.queue_table.specs.Entries.{Item, entry, occurrences, oldest_of, entries_without, entries_counted}
use Rattle.queue_table.specs.Queues.{QUEUES, Queues, queue_holding, after_send, after_removal, after_count, times_below}
use Rattle.queue_table.proofs.QueueLists.{IsAbsent, absent, with-queue-other}
use Rattle.queue_table.specs.declared.records.Entry.{Entry}
use Rattle.queue_table.specs.Moves.{Outcome, turned, after_turn, after_turns, departed, leaving, after_leaving, IsLowPlan, Own, Plan, own_plan, item_of, IsLowOwn, standing, after_own, goes, standing_at}
use Rattle.queue_table.specs.Tabled.{IsTabled}
use Rattle.queue_table.proofs.Tabled.{nowhere-standing, has-occurs, stands}
use Rattle.queue_table.specs.declared.moves.Accessed.{Accessed}
use Rattle.queue_table.specs.Undoing.{IsAccessed}
use Rattle.policy_pages.specs.Plans.{resident_plan, miss_plan, IsWithin, IsPlannedWithin}
use Rattle.policy_pages.specs.Leavers.{Leavers}
use Rattle.policy_pages.specs.PolicyPage.{LeavesNone, LeavesWhere}
use Rattle.policy_pages.proofs.Leavers.{AreLow}

-- ---- which queues a plan names

pub own-low : (o : Own) → IsLowOwn o → {hits : Bool} {x : ℕ} → IsLowPlan (own_plan hits o x)
own-low o h = record { early = (omega arith, omega arith); late = (omega arith, omega arith); first = tt; second = tt; own = h }

pub miss-low : (l : Leavers) (o : Own) (x : ℕ) → AreLow l → IsLowOwn o → IsLowPlan (miss_plan l o x)
miss-low l o x w h = record { early = (omega arith, omega arith); late = (omega arith, omega arith); first = w.0; second = w.1; own = h }

-- ---- by a hit no key leaves

abbrev pub HitsAlone : Plan → Type 0
HitsAlone p = p.hits ≡ true → LeavesNone p

pub own-alone : (b : Bool) (o : Own) (x : ℕ) → HitsAlone (own_plan b o x)
own-alone b o x h = record { first = refl; second = refl }

pub never : (p : Plan) → p.hits ≡ false → HitsAlone p
never p f h = absurd (let no : false ≡ true = sym f ∙ h in cc no)

pub either : (b : Bool) (p q : Plan) → HitsAlone p → HitsAlone q → HitsAlone (if b then p else q)
either v p q f g = grind (arith, nat_tests)

pub resident-alone : (at : Option (ℕ × ℕ)) (room : Bool) (hit join : Own) (x : ℕ) (full : Plan) → full.hits ≡ false → HitsAlone (resident_plan at room hit join x full)
resident-alone v room hit join x full f = grind (arith, nat_tests, own-alone, either, never)

-- ---- by a miss keys leave where the cache is full

module _ (full : Type 0) where
  pub one-of : (b : Bool) (p q : Plan) → (b ≡ true → LeavesWhere full p) → (b ≡ false → LeavesWhere full q) → LeavesWhere full (if b then p else q)
  one-of v p q f g = grind (arith, nat_tests)

  pub own-none : (b : Bool) (o : Own) (x : ℕ) → LeavesWhere full (own_plan b o x)
  own-none b o x = inl (record { first = refl; second = refl })

  pub resident-full : (at : Option (ℕ × ℕ)) (room : Bool) (hit join : Own) (x : ℕ) (p : Plan) → (room ≡ false → full) → LeavesWhere full (resident_plan at room hit join x p)
  resident-full v room hit join x p f = grind (arith, nat_tests, own-none, one-of)

  -- a miss without runs
  pub miss-full : (l : Leavers) (o : Own) (x : ℕ) → (l.first ≡ None) × (l.second ≡ None) ⊎ full → LeavesWhere full (miss_plan l o x)
  miss-full l o x v = grind (arith, nat_tests)

pub not-less : (n m c : ℕ) → n ≡ m → nat_lt m c ≡ false → nat_lt n c ≡ false
not-less n m c e h = ap (λ y. nat_lt y c) e ∙ h

-- ---- the queues from n on stay empty

first-removal : (n : ℕ) (i : Item) (s : Queues) → IsWithin n s → IsWithin n (after_removal i s)
first-removal n i s h q w = ap (entries_without i) (h q w)

pub first-count : (n : ℕ) (i : Item) (m : ℕ) (s : Queues) → IsWithin n s → IsWithin n (after_count i m s)
first-count n i m s h q w = ap (entries_counted i m) (h q w)

pub first-send : (n : ℕ) (e : Entry) (to : ℕ) (s : Queues) → to < n → IsWithin n s → IsWithin n (after_send e to s)
first-send n e to s low h q w = with-queue-other to q _ (after_removal e.item s) (λ z. omega (arith, z)) ∙ first-removal n e.item s h q w

first-turned : (n to less : ℕ) (o : Option Entry) (s : Queues) → to < n → IsWithin n s → IsWithin n (turned to less o s)
first-turned n to less None s low h = h
first-turned n to less (Some e) s low h = first-send n (entry e.item (e.count - less)) to s low h

pub first-turns : (n m from to less : ℕ) (s : Queues) → to < n → IsWithin n s → IsWithin n (after_turns m from to less s)
first-turns n zero from to less s low h = h
first-turns n (suc m) from to less s low h = first-turns n m from to less (after_turn from to less s) low (first-turned n to less (oldest_of (s from)) s low h)

first-departed : (n : ℕ) (o : Option Entry) (s : Queues) → IsWithin n s → IsWithin n (departed None o s)
first-departed n None s h = h
first-departed n (Some e) s h = first-removal n e.item s h

pub first-out : (n from : ℕ) (s : Queues) → IsWithin n s → IsWithin n (after_leaving (leaving from None) s)
first-out n from s h = first-departed n (oldest_of (s from)) s h

-- ---- a key that stands nowhere

pub nowhere : (i : Item) (s : Queues) → standing i s ≡ None → IsAbsent i s
nowhere i s h = absent i s (nowhere-standing i s h)

-- ---- a key that stands in a queue

pub held : (k : ℕ) (s : Queues) → IsTabled s → (at : ℕ × ℕ) → standing (item_of k) s ≡ Some at → 1 ≤ occurrences (item_of k) (s at.0)
held k s t at h = ltb-true 0 _ (sym (has-occurs k (s at.0) (t.keys at.0)) ∙ (stands s t k at.0 at.1 h).here)

-- it is one of the first n queues
pub held-first : (n k : ℕ) (s : Queues) → IsTabled s → (at : ℕ × ℕ) → IsWithin n s → standing (item_of k) s ≡ Some at → at.0 < n
held-first n k s t at first h = grind (arith, nat_tests, held k s t at h, cases_lt at.0 n)

-- ---- the plan of a policy that keeps each missed key is its definition

some-below : (n q : ℕ) (i : Item) (s : Queues) → q < n → 1 ≤ occurrences i (s q) → 1 ≤ times_below n i s
some-below zero q i s w h = absurd (omega (arith, w))
some-below (suc n) q i s w h = grind (arith, nat_tests, cases_eq q n, some-below n q i s)

none-below : (n : ℕ) (i : Item) (s : Queues) → n ≤ QUEUES → IsAbsent i s → times_below n i s ≡ 0
none-below zero i s w h = refl
none-below (suc n) i s w h = grind (arith, nat_tests, h n, none-below n i s)

-- k joins the queue q, of n, with the count m; has: it is resident; room: there is room, as the definition says and the plan
module _ (S : Type 0) (n k x q m : ℕ) (s : Queues) (view : ℕ → Queues → S) (has room planned_room : Bool) (hit kept : S) (leaves : Outcome × S) (full : Plan) where
  abbrev IsPlan : Plan → Type 0
  IsPlan p = IsPlannedWithin n p k s view (if has then (Hit, hit) else if room then (Kept, kept) else leaves) has

  pub resident-planned : (own : Own) → IsLowOwn own → IsWithin n (after_own own (item_of k) s)
      → IsTabled s → n ≤ QUEUES → q < n → IsWithin n s → room ≡ planned_room → has ≡ nat_lt 0 (times_below n (item_of k) s)
      → view x (after_own own (item_of k) s) ≡ hit
      → (IsAbsent (item_of k) s → view x (after_send (entry (item_of k) m) q s) ≡ kept)
      → (IsAbsent (item_of k) s → planned_room ≡ false → IsPlannedWithin n full k s view leaves false)
      → IsPlan (resident_plan (standing (item_of k) s) planned_room own (goes q m) x full)
  resident-planned own own_low own_first t few low first same key hits joins evicts = at (standing (item_of k) s) refl
    where
      at : (o : Option (ℕ × ℕ)) → standing (item_of k) s ≡ o → IsPlan (resident_plan o planned_room own (goes q m) x full)
      at (Some w) h =
          let there : has ≡ true = key ∙ lt-ltb 0 _ (some-below n w.0 (item_of k) s (held-first n k s t w first h) (held k s t w h)) in
          rw there (record { outcome = refl; state = hits; hits = refl; low = own-low own own_low }, own_first)
      at None h =
          let absent = nowhere (item_of k) s h in
          let gone : has ≡ false = key ∙ le-ltb 0 _ (let z = none-below n (item_of k) s few absent in omega (arith, z)) in
          elim (cases_Bool planned_room) [
            | inl f ↦ rw (gone, same, f) (
              record { outcome = refl; state = joins absent; hits = refl; low = own-low (goes q m) (omega (arith, few, low)) },
              first-send n (entry (item_of k) m) q s low first,
            )
            | inr f ↦ rw (gone, same, f) (evicts absent f)
          ]

-- ---- which plan it is, once room is reserved and the queues are as before

pub by-plan : (plan : Queues → Plan) (p : Plan) (i : Item) (x : ℕ) (s t u : Queues) (r : Accessed) → t ≡ s → p ≡ plan t → IsAccessed p i x t u r → IsAccessed (plan s) i x s u r
by-plan plan p i x s t u r same is h = subst (λ v. IsAccessed (plan v) i x v u r) same (subst (λ q. IsAccessed q i x t u r) is h)

pub still-none : (i : Item) (s t : Queues) → t ≡ s → queue_holding i s ≡ None → queue_holding i t ≡ None
still-none i s t same none = subst (λ v. queue_holding i v ≡ None) (sym same) none

-- by where it stands
pub found-accessed : (plan : Option (ℕ × ℕ) → Plan) (i : Item) (x : ℕ) (s u : Queues) (r : Accessed) (at : Option (ℕ × ℕ)) → standing i s ≡ at → IsAccessed (plan at) i x s u r → IsAccessed (plan (standing i s)) i x s u r
found-accessed plan i x s u r at h = subst (λ o. IsAccessed (plan o) i x s u r) (sym h)

pub new-accessed : (plan : Option (ℕ × ℕ) → Queues → Plan) (i : Item) (x : ℕ) (s t u : Queues) (r : Accessed) → t ≡ s → queue_holding i s ≡ None → IsAccessed (plan None t) i x t u r → IsAccessed (plan (standing i s) s) i x s u r
new-accessed plan i x s t u r same none h =
    by-plan (λ v. plan (standing i v) v) (plan None t) i x s t u r same (ap (λ o. plan (standing_at i o t) t) (sym (still-none i s t same none))) h

module _ (i : Item) (s : Queues) (room : Bool) (hit join : Own) (x : ℕ) (full : Plan) where
  abbrev plan : Option (ℕ × ℕ) → Plan
  plan o = resident_plan o room hit join x full

  pub hit-plan : (at : ℕ × ℕ) → standing i s ≡ Some at → own_plan true hit x ≡ plan (standing i s)
  hit-plan at h = ap plan (sym h)

  absent-plan : queue_holding i s ≡ None → plan None ≡ plan (standing i s)
  absent-plan none = ap (λ h. plan (standing_at i h s)) (sym none)

  pub join-plan : queue_holding i s ≡ None → room ≡ true → own_plan false join x ≡ plan (standing i s)
  join-plan none h = ap (λ b. if b then own_plan false join x else full) (sym h) ∙ absent-plan none

  pub full-plan : queue_holding i s ≡ None → room ≡ false → full ≡ plan (standing i s)
  full-plan none h = ap (λ b. if b then own_plan false join x else full) (sym h) ∙ absent-plan none
