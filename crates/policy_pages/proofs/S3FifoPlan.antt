-- The plan of an access to an S3-FIFO cache comes to what the definition says.
use Rattle.std.proofs.Common.{◌≡◌, ℕ, zero, suc, ◌+◌, ◌-◌, ◌*◌, ◌≤◌, true, false, if◌then◌else◌, eqb, ◌||◌, nat_lt, Bool, Some, List, [], ◌∷◌, ◌++◌, length, ap, sym, subst, ◌∙◌, refl, arith, inl, inr, length-append, ◌<◌, ◌==◌, Option, None}
use Rattle.std.proofs.lemmas.Bool.{cases_Bool, ltb-false, le-ltb, or_parts, cond_both, eqb-true, eqb-false}
use Rattle.std.proofs.lemmas.Bool.Decides.{nat_tests}
use Rattle.engine_base.specs.Keys.{has_key, keys_without}
use Rattle.queue_table.specs.Entries.{oldest_of, entry, entries_counted}
use Rattle.queue_table.specs.Queues.{Queues, with_queue, QUEUES, after_send}
use Rattle.policy_pages.specs.CountedKeys.{CountedKey, AreCounted, total_count, oldest_count, uncounted_key, count_of, with_count}
use Rattle.policy_pages.specs.Turns.{after_turn, turn_count_within, after_turns}
use Rattle.policy_pages.specs.S3Fifo.{S3FifoState, s3_fifo_residents, main_gives, after_promotion, is_settled, main_eviction, small_eviction, s3_fifo_departure, s3_fifo_eviction_within, most_moves, without_ghost_key, s3_fifo_main_size, IsS3Fifo, s3_fifo_room, s3_fifo_with_key, hit_count, s3_fifo_act}
use Rattle.policy_pages.proofs.CountedKeys.{length-keys, total-append, total-few, keys-times, count-append, keys-with}
use Rattle.policy_pages.proofs.S3FifoKeeping as page
use Rattle.policy_pages.proofs.S3FifoKeeping.{made, IsMoved, unmoved, join-times, room-made, keeps}
use Rattle.policy_pages.proofs.Turns.{turned-length}
use Rattle.queue_table.specs.declared.records.Entry.{Entry}
use Rattle.queue_table.specs.Moves.{count_or, turns_due, leaving, after_leaving, evicted, outcome_after, after_run, Plan, item_of, standing, no_run, counts, goes, own_plan, after_runs, IsLowRun, IsLowOwn, IsLowPlan}
use Rattle.queue_table.specs.Moves as moves
use Rattle.queue_table.specs.Tabled.{IsTabled, keys_of, lowered_entry, StandsAs, HasKeys}
use Rattle.queue_table.proofs.Tabled.{tabled-turn, turn-is, stands, stands-nowhere, tabled-turns, tabled-runs, has-occurs}
use Rattle.policy_pages.specs.QueueView.{counted_keys}
use Rattle.policy_pages.specs.Plans.{Run, run_plan, IsPlannedBy}
use Rattle.policy_pages.specs.Leavers.{after_leavers, leavers_for_ghost, Leavers, no_leavers, one_leaver}
use Rattle.policy_pages.specs.S3FifoPlan.{SMALL, MAIN, GHOST, s3_fifo_of, gives_main, main_turns, promotions, joins, s3_fifo_miss, plan_at, is_resident, s3_fifo_page}
use Rattle.policy_pages.proofs.QueueView.{counted-append, length-counted, oldest-counted, turns-are, keys-counted, counted-with, both-counted, has-both, its-count, turns-keep, both-length}
use Rattle.policy_pages.proofs.Leavers.{after_oldest_sent, ghost_entries, leavers-gone, leavers-low, AreLow, tabled-leavers, any-out}
use Rattle.policy_pages.proofs.QueueKeys.{ghost-keys, first-of, apart-first, without-keys}
use Rattle.policy_pages.proofs.Plans.{own-low, HitsAlone, own-alone, never, either, one-of, own-none, not-less}
use Rattle.engine_base.specs.declared.outcome.Outcome.TheVariants as outcome
use Rattle.queue_table.proofs.QueueLists.{queue-few, without-none}
use Rattle.policy_pages.specs.Residents.{Outcome, times}
use Rattle.policy_pages.specs.CountedKeys as counted
use Rattle.policy_pages.proofs.Residents.{times-none, no-times, brought-few}
use Rattle.policy_pages.specs.PolicyPage.{LeavesWhere, IsSoundPage}

-- ---- what each move of an eviction by S3-FIFO makes of the queues

-- Main only grows by promotions, and no turn changes how many keys it has: once it is over its size or the small queue
-- is empty, this stays so until a key left. So all promotions come before the first turn.

-- the state that the queues show, once the key k is out of the ghost
abbrev pub state_without : ℕ → Queues → S3FifoState
state_without k s = without_ghost_key k (s3_fifo_of s)

pub resident-count : (s : Queues) → length (s3_fifo_residents (s3_fifo_of s)) ≡ length (s SMALL) + length (s MAIN)
resident-count s = omega (arith, length-keys (counted_keys (s SMALL) ++ counted_keys (s MAIN)), length-append (counted_keys (s SMALL)) (counted_keys (s MAIN)), length-counted (s SMALL), length-counted (s MAIN))

-- ---- main gives up a key

turns : (n size : ℕ) (small main : List CountedKey) (ghost : List ℕ) → main_gives size (made small main ghost) ≡ true → s3_fifo_eviction_within n size (made small main ghost) ≡ main_eviction small (after_turns (turn_count_within n main) main) ghost
turns zero size small main ghost g = rw g refl
turns (suc n) size small main ghost g =
    grind (arith, nat_tests, turned-length, turns n size small (after_turn main) ghost)

-- ---- the promotions

-- the eviction, once no promotion is left
abbrev pub last_eviction : ℕ → ℕ → Queues → Outcome × S3FifoState
last_eviction size k s =
    if gives_main size s
    then main_eviction (counted_keys (s SMALL)) (counted_keys (moves.after_run (main_turns s) s MAIN)) (keys_without k (keys_of (s GHOST)))
    else small_eviction size (counted_keys (s SMALL)) (counted_keys (s MAIN)) (keys_without k (keys_of (s GHOST)))

within-settled : (n size : ℕ) (s : S3FifoState) → is_settled size s ≡ true → s3_fifo_eviction_within n size s ≡ s3_fifo_departure size s
within-settled v size s h = grind (arith, nat_tests)

module _ (size k : ℕ) (residents remembered : List ℕ) where
  -- the queues s, from which n moves may be made, come to the queues a by promotions, after which none is left
  pub record IsPromoted (n : ℕ) (s a : Queues) : Type 0 where
    pub comes : s3_fifo_eviction_within n size (state_without k s) ≡ last_eviction size k a
    pub moved : IsMoved residents remembered (state_without k a)
    pub ghost : a GHOST ≡ s GHOST

  one-promoted : (s : Queues) → IsTabled s → (e : Entry) (l : List Entry) → s SMALL ≡ e ∷ l →
      state_without k (moves.after_turn SMALL MAIN 0 s) ≡ after_promotion (counted_keys (s SMALL)) (counted_keys (s MAIN)) (keys_without k (keys_of (s GHOST)))
  one-promoted s t e l h = grind (arith, nat_tests, turn-is s t SMALL MAIN 0 e l h, counted-append (s MAIN) (e ∷ []))

  pub promotes : (m n : ℕ) (s : Queues) (small : List Entry) → IsTabled s → s SMALL ≡ small → size + 1 - length (s MAIN) ≡ m → most_moves (state_without k s) ≤ n → IsMoved residents remembered (state_without k s)
      → IsPromoted n s (moves.after_turns (turns_due m SMALL MAIN 0 2 s) SMALL MAIN 0 s)
  promotes zero n s small t h room many moved = grind (arith, nat_tests, cases_Bool, turns, turns-are, total-few 3, length-counted, within-settled, ltb-false, or_parts)
  promotes (suc m) n s [] t h room many moved = grind (arith, nat_tests, cases_Bool, turns, turns-are, total-few 3, length-counted, within-settled)
  promotes (suc m) zero s (e ∷ l) t h room many moved = absurd (let some = ap (λ x. length (counted_keys x)) h in omega (arith, some, many))
  promotes (suc m) (suc n) s (e ∷ l) t h room many moved =
      elim (cases_Bool (nat_lt (count_or 0 (oldest_of (s SMALL))) 2)) [
        | inl f ↦ rw f (grind (arith, nat_tests, cases_Bool, turns, turns-are, total-few 3, length-counted, within-settled))
        | inr f ↦
            let u : Queues = moves.after_turn SMALL MAIN 0 s in
            let main : List CountedKey = counted_keys (s MAIN) in
            let out : List ℕ = keys_without k (keys_of (s GHOST)) in
            let is = turn-is s t SMALL MAIN 0 e l h in
            let state = one-promoted s t e l h in
            let gives : main_gives size (state_without k s) ≡ false =
            ap (λ x. main_gives size (made (counted_keys x) main out)) h ∙ le-ltb size (length main) (omega (arith, room, length-counted (s MAIN))) in
            let keeps : nat_lt (oldest_count (counted_keys (s SMALL))) 2 ≡ false = ap (λ x. nat_lt x 2) (oldest-counted (s SMALL)) ∙ f in
            let fewer : suc (most_moves (after_promotion (counted_keys (s SMALL)) main out)) ≡ most_moves (state_without k s) =
            subst (λ x. suc (most_moves (after_promotion (counted_keys x) main out)) ≡ most_moves (made (counted_keys x) main out)) (sym h) (omega (arith, total-append main (counted_keys (e ∷ [])))) in
            let longer = ap (λ (v : Queues). length (v MAIN)) is ∙ length-append (s MAIN) (lowered_entry 0 e ∷ []) in
            let next = promotes m n u l (tabled-turn s t SMALL MAIN 0 (omega arith)) (ap (λ (v : Queues). v SMALL) is) (omega (arith, room, longer)) (omega (arith, many, fewer, ap most_moves state))
            (subst (IsMoved residents remembered) (sym state) (page.promoted residents remembered (counted_keys (s SMALL)) main out moved)) in
            let step : s3_fifo_eviction_within (suc n) size (state_without k s) ≡ s3_fifo_eviction_within n size (state_without k u) =
            rw (gives, keeps) (ap (s3_fifo_eviction_within n size) (sym state)) in
            rw f record { comes = step ∙ next.comes; moved = next.moved; ghost = next.ghost ∙ ap (λ (v : Queues). v GHOST) is }
      ]

-- ---- a key leaves

-- queues and an outcome come to an eviction's result, once the key k is out of the ghost
pub record IsLeft (k : ℕ) (u : Queues) (o : Outcome) (r : Outcome × S3FifoState) : Type 0 where
  pub outcome : o ≡ r.0
  pub small : counted_keys (u SMALL) ≡ r.1.small
  pub main : counted_keys (u MAIN) ≡ r.1.main
  pub ghost : keys_without k (keys_of (u GHOST)) ≡ r.1.ghost

pub small-left : (size k : ℕ) (s : Queues) (r : Bool) (e : Entry) (l : List Entry) → IsTabled s → s SMALL ≡ e ∷ l → has_key k (keys_of (s GHOST)) ≡ r → eqb k e.item.key ≡ false → length (keys_of (s GHOST)) ≤ size
    → IsLeft k (after_leavers (leavers_for_ghost SMALL GHOST size r s) s) (outcome_after (leaving SMALL (Some (GHOST, 0))) s) (small_eviction size (counted_keys (s SMALL)) (counted_keys (s MAIN)) (keys_without k (keys_of (s GHOST))))
small-left size k s r e l t h is other few =
    let P : Queues → List Entry → Type 0 = λ u x. IsLeft k u (evicted (oldest_of x)) (small_eviction size (counted_keys x) (counted_keys (s MAIN)) (keys_without k (keys_of (s GHOST)))) in
    let gone : Queues = with_queue GHOST (ghost_entries (r || nat_lt (length (s GHOST)) size) (after_oldest_sent SMALL GHOST e l s GHOST)) (after_oldest_sent SMALL GHOST e l s) in
    let at : P gone (e ∷ l) = record { outcome = refl; small = refl; main = refl; ghost = ghost-keys k size e (s GHOST) r is other few } in
    subst (P _) (sym h) (subst (λ u. P u (e ∷ l)) (sym (leavers-gone s t SMALL GHOST size r e l h (omega arith) (omega arith))) at)

-- ---- what the step owes

-- once the promotions are made
module _ (part c : ℕ) (s a : Queues) (early : Run) (is : early ≡ promotions (s3_fifo_main_size part c) s) (after : a ≡ after_run early s) where
  abbrev size : ℕ
  size = s3_fifo_main_size part c

  pub main-few : IsTabled s → IsS3Fifo part c (s3_fifo_of s) → length (a MAIN) ≤ c
  main-few t state =
      let w : S3FifoState = state_without 0 s in
      let many = (promotes size 0 (s3_fifo_residents w) w.ghost (size + 1 - length (s MAIN)) (most_moves w) s (s SMALL) t refl refl (omega arith) (unmoved w state.counts)).moved.many in
      let same = ap (λ (u : Queues). length (u MAIN)) (after ∙ ap (λ e. after_run e s) is) in
      omega (arith, many, state.residents.fits, same, resident-count (after_run (promotions size s) s))

-- ---- the key comes in

joined : (r : Bool) (k : ℕ) (ghost : List ℕ) (u : Queues) (o : Outcome) (e : Outcome × S3FifoState) → has_key k ghost ≡ r → HasKeys u → has_key k (keys_of (u SMALL)) ≡ false → has_key k (keys_of (u MAIN)) ≡ false → IsLeft k u o e
    → s3_fifo_of (after_send (entry (item_of k) 0) (joins r) u) ≡ s3_fifo_with_key (has_key k ghost) k e.1
joined true k ghost u o e is z small main left = grind (arith, nat_tests, ltb-false, has-occurs, without-none, counted-append, without-keys)
joined false k ghost u o e is z small main left = search (arith, counted-append, ltb-false, has-occurs, without-none, without-keys)

-- ---- which queues the plan names

low-own : (r : Bool) → IsLowOwn (goes (joins r) 0)
low-own v = grind (arith, nat_tests)

-- ---- a miss

module _ (part c k x : ℕ) (r : Bool) (s : Queues) (t : IsTabled s) (some : 1 ≤ c) (state : IsS3Fifo part c (s3_fifo_of s)) (absent : has_key k (s3_fifo_residents (s3_fifo_of s)) ≡ false) (is : has_key k (keys_of (s GHOST)) ≡ r) where
  abbrev v : S3FifoState
  v = s3_fifo_of s

  abbrev w : S3FifoState
  w = state_without k s

  abbrev main-size : ℕ
  main-size = s3_fifo_main_size part c

  abbrev room : Outcome × S3FifoState
  room = s3_fifo_room part c w

  -- the key is in neither queue once room is made
  none-after : times k (counted.keys_of (room.1.small ++ room.1.main)) ≤ 0
  none-after =
      let moves = (room-made part c k (has_key k v.ghost) w some absent state.counts).access.moves k in
      let before : times k (s3_fifo_residents w) ≡ 0 = times-none k (s3_fifo_residents w) absent in
      omega (arith, moves, before, brought-few k k room.0, join-times k k (has_key k v.ghost) room.1)

  none-in : (l : List Entry) (m : List CountedKey) → counted_keys l ≡ m → times k (counted.keys_of m) ≤ 0 → has_key k (keys_of l) ≡ false
  none-in l m h n = ap (has_key k) (sym (keys-counted l) ∙ ap counted.keys_of h) ∙ no-times k (counted.keys_of m) n

  abbrev IsMiss : Plan → Type 0
  IsMiss p = IsPlannedBy p k s (λ x. s3_fifo_of) (room.0, s3_fifo_with_key (has_key k v.ghost) k room.1) false

  -- a miss by the plan, once the queues that it leaves and its outcome are those of the definition
  brought : (early late : Run) (l : Leavers) (e : Outcome × S3FifoState) → IsLowRun early → IsLowRun late → AreLow l → room ≡ e
      → IsLeft k (after_leavers l (after_run late (after_run early s))) (outcome_after l.first (after_run late (after_run early s))) e → IsMiss (run_plan early late l (goes (joins r) 0) x)
  brought early late l e low_early low_late low_leavers same came =
      let p : Plan = run_plan early late l (goes (joins r) 0) x in
      let low : IsLowPlan p = record { early = low_early; late = low_late; first = low_leavers.0; second = low_leavers.1; own = low-own r } in
      let q : Queues = after_leavers l (after_runs p s) in
      let left : IsLeft k q (outcome_after l.first (after_runs p s)) room = subst (IsLeft k q (outcome_after l.first (after_runs p s))) (sym same) came in
      let both = keys-times k room.1.small room.1.main in
      record {
        outcome = left.outcome;
        state = joined r k v.ghost q _ room is (tabled-leavers l (after_runs p s) low_leavers (tabled-runs s t p low)).keys
            (none-in (q SMALL) room.1.small left.small (omega (arith, none-after, both))) (none-in (q MAIN) room.1.main left.main (omega (arith, none-after, both))) left;
        hits = refl;
        low = low;
      }

  -- where there is room
  fits : nat_lt (length (s SMALL) + length (s MAIN)) c ≡ true → IsMiss (own_plan false (goes (joins r) 0) x)
  fits f =
      brought no_run no_run no_leavers (outcome.Kept, w) (omega arith, omega arith) (omega arith, omega arith) (tt, tt) (rw (ap (λ n. nat_lt n c) (resident-count s) ∙ f) refl)
      record { outcome = refl; small = refl; main = refl; ghost = refl }

  -- where there is none: once the promotions are made
  abbrev a : Queues
  a = after_run (promotions main-size s) s

  a-tabled : IsTabled a
  a-tabled = tabled-turns s t (promotions main-size s).times SMALL MAIN 0 (omega arith)

  promoted : IsPromoted main-size k (s3_fifo_residents w) w.ghost (most_moves w) s a
  promoted = promotes main-size k (s3_fifo_residents w) w.ghost (main-size + 1 - length (s MAIN)) (most_moves w) s (s SMALL) t refl refl (omega arith) (unmoved w state.counts)

  module _ (f : nat_lt (length (s SMALL) + length (s MAIN)) c ≡ false) where
    full : room ≡ last_eviction main-size k a
    full = rw (ap (λ n. nat_lt n c) (resident-count s) ∙ f) promoted.comes

    main-evicts : gives_main main-size a ≡ true → IsMiss (run_plan (promotions main-size s) (main_turns a) (one_leaver (leaving MAIN None)) (goes (joins r) 0) x)
    main-evicts g =
        let b : Queues = after_run (main_turns a) a in
        let same : (j : ℕ) → (j ≡ MAIN → ⊥) → b j ≡ a j = λ j d. turns-keep MAIN (main_turns a).times 1 j a (omega arith) a-tabled d in
        let leaves : last_eviction main-size k a ≡ main_eviction (counted_keys (a SMALL)) (counted_keys (b MAIN)) (keys_without k (keys_of (a GHOST))) = rw g refl in
        brought (promotions main-size s) (main_turns a) (one_leaver (leaving MAIN None)) _ (omega arith, omega arith) (omega arith, omega arith) ((omega arith, tt), tt) (full ∙ leaves)
        (grind (arith, nat_tests, any-out b (tabled-turns a a-tabled (main_turns a).times MAIN MAIN 1 (omega arith)) MAIN))

    small-evicts : gives_main main-size a ≡ false → IsMiss (run_plan (promotions main-size s) no_run (leavers_for_ghost SMALL GHOST main-size r a) (goes (joins r) 0) x)
    small-evicts g =
        let empty = eqb-false (length (a SMALL)) 0 (or_parts (length (a SMALL) == 0) (nat_lt main-size (length (a MAIN))) g).0 in
        let first = first-of (a SMALL) (omega (arith, empty)) in
        let e : Entry = first.0 in
        let none : has_key k (keys_of (a SMALL)) ≡ false = none-in (a SMALL) (counted_keys (a SMALL)) refl
        (omega (arith, promoted.moved.keys k, times-none k (s3_fifo_residents v) absent, keys-times k (counted_keys (a SMALL)) (counted_keys (a MAIN)))) in
        let ghost : keys_of (a GHOST) ≡ keys_of (s GHOST) = ap keys_of promoted.ghost in
        let leaves : last_eviction main-size k a ≡ small_eviction main-size (counted_keys (a SMALL)) (counted_keys (a MAIN)) (keys_without k (keys_of (a GHOST))) = rw g refl in
        brought (promotions main-size s) no_run (leavers_for_ghost SMALL GHOST main-size r a) _ (omega arith, omega arith) (omega arith, omega arith) (leavers-low SMALL GHOST main-size r a (omega arith) (omega arith)) (full ∙ leaves)
        (small-left main-size k a r e first.1.0 a-tabled first.1.1 (ap (has_key k) ghost ∙ is) (apart-first k e.item.key (keys_of first.1.0) (ap (λ l. has_key k (keys_of l)) (sym first.1.1) ∙ none))
        (subst (λ l. length l ≤ main-size) (sym ghost) state.ghost_fits))

  missed : IsPlannedBy (s3_fifo_miss part c r x s) k s (λ x. s3_fifo_of) (s3_fifo_act part c k v) (has_key k (s3_fifo_residents v))
  missed = grind (arith, nat_tests, cond_both, fits, main-evicts, small-evicts)

-- ---- an access

-- an access to the key k of the queues s
module _ (part c k x : ℕ) (s : Queues) (some : 1 ≤ c) (w : IsTabled s) (state : IsS3Fifo part c (s3_fifo_of s)) where
  abbrev IsPlan : Plan → Type 0
  IsPlan p = IsPlannedBy p k s (λ x. s3_fifo_of) (s3_fifo_act part c k (s3_fifo_of s)) (has_key k (s3_fifo_residents (s3_fifo_of s)))

  has-in : (q : ℕ) (b : Bool) → has_key k (keys_of (s q)) ≡ b → has_key k (counted.keys_of (counted_keys (s q))) ≡ b
  has-in q b h = ap (has_key k) (keys-counted (s q)) ∙ h

  recounted-in : (q m : ℕ) → q < QUEUES → counted_keys (entries_counted (item_of k) m (s q)) ≡ with_count k m (counted_keys (s q))
  recounted-in q m low = counted-with k m (s q) (w.keys q) (queue-few q s low w.distinct (item_of k))

  hit : (n : ℕ) → has_key k (s3_fifo_residents (s3_fifo_of s)) ≡ true → count_of k (counted_keys (s SMALL) ++ counted_keys (s MAIN)) ≡ n → IsPlan (own_plan true (counts (hit_count n)) x)
  hit n there count =
      let m : ℕ = hit_count n in
      let ghost : keys_of (entries_counted (item_of k) m (s GHOST)) ≡ keys_of (s GHOST) =
      sym (keys-counted (entries_counted (item_of k) m (s GHOST))) ∙ ap counted.keys_of (recounted-in GHOST m (omega arith)) ∙ keys-with k m (counted_keys (s GHOST)) ∙ keys-counted (s GHOST) in
      rw (there, count) record {
        outcome = refl;
        state = rw (recounted-in SMALL m (omega arith), recounted-in MAIN m (omega arith), ghost) refl;
        hits = refl;
        low = own-low (counts m) tt;
      }

  miss : (r : Bool) → has_key k (keys_of (s SMALL)) ≡ false → has_key k (keys_of (s MAIN)) ≡ false → has_key k (keys_of (s GHOST)) ≡ r → IsPlan (s3_fifo_miss part c r x s)
  miss r small main is =
      missed part c k x r s w some state (has-both k (counted_keys (s SMALL)) (counted_keys (s MAIN)) ∙ rw (has-in SMALL false small, has-in MAIN false main) refl) is

  standing-in : (q n : ℕ) → StandsAs k q n s → IsPlan (plan_at part c x (Some (q, n)) s)
  standing-in q n t =
      let both = has-both k (counted_keys (s SMALL)) (counted_keys (s MAIN)) in
      let count = count-append k (counted_keys (s SMALL)) (counted_keys (s MAIN)) in
      let off : (j : ℕ) → eqb q j ≡ false → has_key k (keys_of (s j)) ≡ false = λ j e. t.off j (λ h. eqb-false q j e (sym h)) in
      elim (cases_Bool (q == SMALL)) [
        | inl e ↦
            let own : StandsAs k SMALL n s = subst (λ j. StandsAs k j n s) (eqb-true q SMALL e) t in
            let here = has-in SMALL true own.here in
            rw e (hit n (both ∙ rw here refl) (count ∙ rw here (its-count k SMALL n s own)))
        | inr e ↦ elim (cases_Bool (q == MAIN)) [
          | inl f ↦
              let own : StandsAs k MAIN n s = subst (λ j. StandsAs k j n s) (eqb-true q MAIN f) t in
              let other = has-in SMALL false (off SMALL e) in
              rw (e, f) (hit n (both ∙ rw (other, has-in MAIN true own.here) refl) (count ∙ rw other (its-count k MAIN n s own)))
          | inr f ↦ elim (cases_Bool (q == GHOST)) [
            | inl g ↦ rw (e, f, g) (miss true (off SMALL e) (off MAIN f) (subst (λ j. has_key k (keys_of (s j)) ≡ true) (eqb-true q GHOST g) t.here))
            | inr g ↦ rw (e, f, g) (miss false (off SMALL e) (off MAIN f) (off GHOST g))
          ]
        ]
      ]

  standing-at : (at : Option (ℕ × ℕ)) → standing (item_of k) s ≡ at → IsPlan (plan_at part c x at s)
  standing-at None h = miss false (stands-nowhere s w k h SMALL).0 (stands-nowhere s w k h MAIN).0 (stands-nowhere s w k h GHOST).0
  standing-at (Some p) h = standing-in p.0 p.1 (stands s w k p.0 p.1 h)

-- ---- keys leave where the cache is full

module _ (part c x : ℕ) (s : Queues) where
  abbrev IsFull : Type 0
  IsFull = nat_lt (length (s3_fifo_residents (s3_fifo_of s))) c ≡ false

  leaves-of-miss : (r : Bool) → LeavesWhere IsFull (s3_fifo_miss part c r x s)
  leaves-of-miss r = grind (arith, nat_tests, one-of, own-none, not-less, both-length (s SMALL) (s MAIN))

  leaves-at : (at : Option (ℕ × ℕ)) → LeavesWhere IsFull (plan_at part c x at s)
  leaves-at None = leaves-of-miss false
  leaves-at (Some p) = one-of IsFull (is_resident p.0) _ _ (λ e. own-none IsFull true _ x) (λ e. leaves-of-miss _)

  alone-of-miss : (r : Bool) → HitsAlone (s3_fifo_miss part c r x s)
  alone-of-miss r = grind (arith, nat_tests, either, own-alone, never)

  alone-at : (at : Option (ℕ × ℕ)) → HitsAlone (plan_at part c x at s)
  alone-at v = grind (arith, nat_tests, alone-of-miss, either, own-alone)

pub s3-fifo-sound : (part : ℕ) → IsSoundPage (s3_fifo_page part)
s3-fifo-sound part = search (arith, keeps, keeps part, standing-at, both-counted, alone-at, leaves-at)
