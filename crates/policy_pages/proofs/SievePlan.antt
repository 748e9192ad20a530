-- SIEVE's plan is its definition.
use Rattle.std.proofs.Common.{◌≡◌, ℕ, zero, suc, ◌+◌, ◌-◌, ◌≤◌, ◌⊎◌, true, false, eqb, nat_lt, List, [], ◌∷◌, ◌++◌, length, ap, ◌∙◌, sym, subst, refl, arith, inl, inr, length-append, if◌then◌else◌, Option, None, Bool, ◌<◌}
use Rattle.std.proofs.lemmas.Bool.{cases_lt, lt-ltb, le-ltb, eq-eqb, ne_eqb, ltb-false}
use Rattle.std.proofs.lemmas.Bool.Decides.{nat_tests}
use Rattle.queue_table.specs.Entries.{entry, oldest_of, Item, occurrences}
use Rattle.queue_table.specs.Queues.{Queues, with_queue, after_removal, after_send, times_below, after_count}
use Rattle.queue_table.proofs.QueueLists.{with-queue-same, with-queue-other, IsAbsent, still-absent, queue-few, without-none}
use Rattle.policy_pages.specs.CountedKeys.{AreCounted, total_count, oldest_count}
use Rattle.policy_pages.specs.Sieve.{SieveState, after_wrap, after_pass, pass_count_within, pass_count, after_passes, Outcome, sieve_residents, sieve_with_key, sieve_eviction, HasAhead, IsSieve, sieve_with_count}
use Rattle.policy_pages.proofs.SieveKeeping.{whole, past-total, keeps}
use Rattle.queue_table.specs.declared.records.Entry.{Entry}
use Rattle.queue_table.specs.Moves.{count_or, after_turn, after_turns, turns_due, item_of, standing, evicted, departed, counts, goes, leaving, Plan, after_run, after_leaving}
use Rattle.queue_table.specs.Tabled.{IsTabled}
use Rattle.queue_table.proofs.Tabled.{tabled-turn, turn-is, oldest-gone, tabled-turns}
use Rattle.policy_pages.specs.SievePlan.{passed_queue, sieve_of, queue_ahead, pass_run, after_early, ahead_late, after_late, after_leaver, ahead_new, sieve_eviction_plan, sieve_page, Run}
use Rattle.policy_pages.specs.QueueView.{counted_keys}
use Rattle.policy_pages.proofs.QueueView.{counted-append, length-counted, oldest-counted, key-both, counted-with, both-counted, both-length as shown-length}
use Rattle.std.proofs.lemmas.Grind.{common_steps}
use Rattle.engine_base.specs.Keys.{has_key}
use Rattle.policy_pages.specs.Queues.{is_empty}
use Rattle.policy_pages.proofs.CountedKeys.{by-oldest, length-keys, counted-second}
use Rattle.policy_pages.specs.Plans.{IsWithin, resident_plan, IsPlannedWithin, leaver_plan}
use Rattle.policy_pages.specs.PolicyPage.{IsPlannedPage, IsSoundPage}
use Rattle.policy_pages.proofs.Plans.{resident-alone, resident-full, not-less, resident-planned, first-count, first-send, first-turns, first-out}
use Rattle.policy_pages.proofs.Leavers.{absent-turns, any-out}
use Rattle.queue_table.proofs.Runs.{turns-stop}

-- ---- the hand of SIEVE by runs from the queue ahead of it to the other one

-- ---- the definition's passes, one by one

-- the hand stands at a key whose bit is clear
abbrev pub stopped : SieveState → SieveState
stopped s = after_passes (pass_count s) s

pub no-pass : (n : ℕ) (s : SieveState) → oldest_count s.ahead ≡ 0 → after_passes (pass_count_within n s) s ≡ s
no-pass v s h = grind (arith, nat_tests, eq-eqb)

pass-within : (n : ℕ) (s : SieveState) → n ≡ total_count (whole s) → eqb (oldest_count s.ahead) 0 ≡ false → after_passes (pass_count_within n s) s ≡ stopped (after_pass s.passed s.ahead)
pass-within v s e h = grind (arith, nat_tests, past-total)

-- ---- bits

-- there is an oldest key, and its bit is clear
abbrev pub IsClear : List Entry → Type 0
IsClear l = (1 ≤ length l) × (count_or 0 (oldest_of l) ≡ 0)

-- some key's bit is clear
abbrev pub HasClear : List Entry → Type 0
HasClear [] = ⊥
HasClear (e ∷ l) = (e.count ≡ 0) ⊎ HasClear l

clear-last : (l : List Entry) (e : Entry) → e.count ≡ 0 → HasClear (l ++ e ∷ [])
clear-last [] e h = inl h
clear-last (x ∷ l) e h = inr (clear-last l e h)

-- some key's bit is clear, and there are at most n keys
abbrev pub Waits : ℕ → List Entry → Type 0
Waits n l = HasClear l × (length l ≤ n)

-- ---- the hand passes keys from the queue x to the other one

pub apart : (x : ℕ) → x ≤ 1 → x ≡ passed_queue x → ⊥
apart x low e = omega (arith, low, e)

module _ (x : ℕ) (low : x ≤ 1) where
  -- the state, once the hand went back where nothing is ahead of it
  abbrev pub at_hand : Queues → SieveState
  at_hand s = after_wrap (counted_keys (s (passed_queue x))) (counted_keys (s x))

  abbrev pub passed : ℕ → Queues → Queues
  passed m s = after_turns (turns_due m x (passed_queue x) 1 1 s) x (passed_queue x) 1 s

  abbrev turned : Queues → Queues
  turned s = after_turn x (passed_queue x) 1 s

  tabled : (s : Queues) → IsTabled s → IsTabled (turned s)
  tabled s t = tabled-turn s t x (passed_queue x) 1 (omega arith)

  turn : (s : Queues) (e : Entry) (l : List Entry) → IsTabled s → s x ≡ e ∷ l → (turned s x ≡ l) × (turned s (passed_queue x) ≡ s (passed_queue x) ++ entry e.item (e.count - 1) ∷ [])
  turn s e l t h =
      let is = turn-is s t x (passed_queue x) 1 e l h in grind (arith, nat_tests, with-queue-other, apart x low, with-queue-same x l s, with-queue-same, apart)

  -- a turn is a pass
  pass : (l : List Entry) (s : Queues) → IsTabled s → s x ≡ l → nat_lt (count_or 0 (oldest_of l)) 1 ≡ false → stopped (at_hand s) ≡ stopped (at_hand (turned s))
  pass [] s t h g = absurd (cc g)
  pass (e ∷ l) s t h g =
      let u = turn s e l t h in
      let lowered = ap counted_keys u.1 ∙ counted-append (s (passed_queue x)) (entry e.item (e.count - 1) ∷ []) in
      let set : eqb e.count 0 ≡ false = ne_eqb e.count 0 (λ z. let no : true ≡ false = sym (lt-ltb e.count 1 (omega (arith, z))) ∙ g in cc no) in
      grind (arith, nat_tests, pass-within)

  pub passes : (m : ℕ) (s : Queues) → IsTabled s → stopped (at_hand s) ≡ stopped (at_hand (passed m s))
  passes zero s t = refl
  passes (suc m) s t = grind (arith, nat_tests, pass (s x) s t refl, passes m (turned s) (tabled s t))

  -- a run ends at a clear bit, where there is one
  pub ends : (m : ℕ) (l : List Entry) (s : Queues) → IsTabled s → s x ≡ l → Waits m l → IsClear (passed m s x)
  ends m [] s t h w = absurd w.0
  ends zero (e ∷ l) s t h w = absurd (let few = w.1 in omega (arith, few))
  ends (suc m) (e ∷ l) s t h w =
      let bit = ap (λ v. nat_lt (count_or 0 (oldest_of v)) 1) h in
      let few = w.1 in
      elim (cases_lt e.count 1) [
        | inl g ↦ let clear = bit ∙ lt-ltb e.count 1 g in rw clear (subst IsClear (sym h) (omega arith, omega (arith, g)))
        | inr g ↦
            let set = bit ∙ le-ltb e.count 1 g in
            let rest : HasClear l = elim w.0 [ inl z ↦ absurd (omega (arith, z, g)) | inr r ↦ r ] in
            rw set (ends m l (turned s) (tabled s t) (turn s e l t h).0 (rest, omega (arith, few)))
      ]

  -- it ends there, or all keys were passed, the last of which has its bit cleared
  pub stops : (n m : ℕ) (l : List Entry) (s : Queues) → IsTabled s → s x ≡ l → AreCounted 1 (counted_keys l) → (l ≡ [] → HasClear (s (passed_queue x))) → length l ≤ m → length l + length (s (passed_queue x)) ≤ n
      → Waits n (passed m s x) ⊎ ((passed m s x ≡ []) × Waits n (passed m s (passed_queue x)))
  stops n zero [] s t h bits has few all = inr (h, (has refl, omega (arith, all)))
  stops n (suc m) [] s t h bits has few all = let bit = ap (λ v. nat_lt (count_or 0 (oldest_of v)) 1) h in rw bit (inr (h, (has refl, omega (arith, all))))
  stops n zero (e ∷ l) s t h bits has few all = absurd (omega (arith, few))
  stops n (suc m) (e ∷ l) s t h bits has few all =
      let bit = ap (λ v. nat_lt (count_or 0 (oldest_of v)) 1) h in
      elim (cases_lt e.count 1) [
        | inl g ↦ let clear = bit ∙ lt-ltb e.count 1 g in rw clear (inl (subst (Waits n) (sym h) (inl (omega (arith, g)), omega (arith, all))))
        | inr g ↦
            let set = bit ∙ le-ltb e.count 1 g in
            let one = bits.0 in
            let came = (turn s e l t h).1 in
            let longer = ap length came ∙ length-append (s (passed_queue x)) (entry e.item (e.count - 1) ∷ []) in
            let last : HasClear (turned s (passed_queue x)) = subst HasClear (sym came) (clear-last (s (passed_queue x)) (entry e.item (e.count - 1)) (omega (arith, one))) in
            rw set (stops n m l (turned s) (tabled s t) (turn s e l t h).0 bits.1 (λ z. last) (omega (arith, few)) (omega (arith, all, longer)))
      ]

-- ---- the two roles

wrapped-low : (x : ℕ) (l : List Entry) → x ≤ 1 → (if is_empty l then passed_queue x else x) ≤ 1
wrapped-low x v h = grind (arith, nat_tests)

-- the roles after the hand went back where nothing is ahead of it
wrapped-at : (x : ℕ) (s : Queues) (l : List Entry) → x ≤ 1 → s x ≡ l → sieve_of (if is_empty l then passed_queue x else x) s ≡ after_wrap (counted_keys (s (passed_queue x))) (counted_keys l)
wrapped-at x s v low h = grind (arith, nat_tests)

sieve-wrapped : (x : ℕ) (s : Queues) → x ≤ 1 → sieve_of (queue_ahead x s) s ≡ after_wrap (counted_keys (s (passed_queue x))) (counted_keys (s x))
sieve-wrapped x s low = wrapped-at x s (s x) low refl

-- a key is ahead of the hand
abbrev IsAhead : List Entry → Type 0
IsAhead l = 1 ≤ length l

not-wrapped : (x : ℕ) (s : Queues) → IsAhead (s x) → after_wrap (counted_keys (s (passed_queue x))) (counted_keys (s x)) ≡ sieve_of x s
not-wrapped x s some = grind (arith, common_steps, by-oldest, some)

clear-ahead : (l : List Entry) → HasClear l → IsAhead l
clear-ahead [] h = absurd h
clear-ahead (e ∷ l) h = omega arith

wrapped-clear : (n x : ℕ) (u : Queues) (l : List Entry) → u x ≡ l → Waits n (u x) ⊎ ((u x ≡ []) × Waits n (u (passed_queue x))) → Waits n (u (if is_empty l then passed_queue x else x))
wrapped-clear n x u v h w = grind (arith, nat_tests)

both : (i : Item) (x : ℕ) (s : Queues) → x ≤ 1
    → (occurrences i (s (passed_queue x)) + occurrences i (s x) ≡ times_below 2 i s) × (length (s x) + length (s (passed_queue x)) ≡ length (s 0) + length (s 1))
both i v s h = grind (arith, nat_tests)

-- ---- the key joins, and one leaves

module _ (k : ℕ) where
  abbrev new : Entry
  new = entry (item_of k) 0

  joined : (x : ℕ) (w : Queues) → x ≤ 1 → IsAbsent (item_of k) w → sieve_of x (after_send new x w) ≡ sieve_with_key k (sieve_of x w)
  joined x w low none = grind (arith, nat_tests, without-none, with-queue-same, with-queue-other, apart, counted-append)

  left : (h : ℕ) (l : List Entry) (v : Queues) → h ≤ 1 → IsTabled v → IsAbsent (item_of k) v → v h ≡ l → IsClear l
      → (evicted (oldest_of l) ≡ (sieve_eviction k (counted_keys (v (passed_queue h))) (counted_keys l)).0)
      × (sieve_of (queue_ahead h (departed None (oldest_of l) v)) (after_send new (queue_ahead h (departed None (oldest_of l) v)) (departed None (oldest_of l) v))
      ≡ (sieve_eviction k (counted_keys (v (passed_queue h))) (counted_keys l)).1)
  left h [] v low t none e clear = absurd (let some = clear.0 in omega (arith, some))
  left h (x ∷ l) v low t none e clear =
      let w : Queues = after_removal x.item v in
      let is : w ≡ with_queue h l v = oldest-gone v t h x l e in
      let ahead : w h ≡ l = ap (λ (q : Queues). q h) is ∙ with-queue-same h l v in
      let passed : w (passed_queue h) ≡ v (passed_queue h) = ap (λ (q : Queues). q (passed_queue h)) is ∙ with-queue-other h (passed_queue h) l v (λ z. apart h low (sym z)) in (
        refl,
        joined (queue_ahead h w) w (wrapped-low h (w h) low) (still-absent (item_of k) x.item v none)
            ∙ ap (sieve_with_key k) (sieve-wrapped h w low
            ∙ ap (λ q. after_wrap (counted_keys q) (counted_keys (w h))) passed ∙ ap (λ q. after_wrap (counted_keys (v (passed_queue h))) (counted_keys q)) ahead),
      )

-- ---- an access

full-ahead : (a b : List Entry) (c : ℕ) → HasAhead (counted_keys b) (counted_keys a) → 1 ≤ c → c ≤ length a + length b → IsAhead a
full-ahead [] [] c hand some full = absurd (omega (arith, some, full))
full-ahead [] (e ∷ b) c hand some full = absurd hand
full-ahead (e ∷ a) b c hand some full = omega arith

module _ (c k x : ℕ) (s : Queues) (c_some : 1 ≤ c) (t : IsTabled s) (first : IsWithin 2 s) (low : x ≤ 1) (state : IsSieve c (sieve_of x s)) where
  size : length (sieve_residents (sieve_of x s)) ≡ length (s 0) + length (s 1)
  size = grind (arith, nat_tests, both, length-keys, length-append, length-counted)

  key : has_key k (sieve_residents (sieve_of x s)) ≡ nat_lt 0 (times_below 2 (item_of k) s)
  key = key-both k (s (passed_queue x)) (s x) (t.keys (passed_queue x)) (t.keys x) ∙ ap (nat_lt 0) (both (item_of k) x s low).0

  hit : sieve_of x (after_count (item_of k) 1 s) ≡ sieve_with_count k 1 (sieve_of x s)
  hit = grind (arith, nat_tests, counted-with, queue-few)

  module _ (none : IsAbsent (item_of k) s) (f : nat_lt (length (s 0) + length (s 1)) c ≡ false) where
    abbrev early : Queues
    early = after_early c x s

    abbrev mid : ℕ
    mid = ahead_late c x s

    abbrev late : Queues
    late = after_late c x s

    mid_low : mid ≤ 1
    mid_low = wrapped-low x (early x) low

    new_low : ahead_new c x s ≤ 1
    new_low = wrapped-low mid (after_leaver c x s mid) mid_low

    t-early : IsTabled early
    t-early = tabled-turns s t (pass_run c x s).times x (passed_queue x) 1 (omega arith)

    some : IsAhead (s x)
    some = full-ahead (s x) (s (passed_queue x)) c state.hand c_some (let full = ltb-false _ c f in let all = (both (item_of k) x s low).1 in omega (arith, all, full))

    waits : Waits c (early mid)
    waits =
        let all = (both (item_of k) x s low).1 in
        wrapped-clear c x early (early x) refl (stops x low c c (s x) s t refl (counted-second 1 (counted_keys (s (passed_queue x))) (counted_keys (s x)) state.bits)
        (λ z. absurd (let empty = ap length z in let a = some in omega (arith, a, empty))) (omega (arith, size, all)) (omega (arith, size, all)))

    clear : IsClear (late mid)
    clear = ends mid mid_low c (early mid) early t-early refl waits

    stop : stopped (sieve_of x s) ≡ sieve_of mid late
    stop =
        ap stopped (sym (not-wrapped x s some))
        ∙ passes x low c s t
        ∙ ap stopped (sym (sieve-wrapped x early low) ∙ sym (not-wrapped mid early (clear-ahead (early mid) waits.0)))
        ∙ passes mid mid_low c early t-early
        ∙ ap stopped (not-wrapped mid late clear.0)
        ∙ no-pass _ (sieve_of mid late) (oldest-counted (late mid) ∙ clear.1)

    abbrev leaves : SieveState → Outcome × SieveState
    leaves v = sieve_eviction k v.passed v.ahead

    evict : IsPlannedWithin 2 (sieve_eviction_plan c x s) k s sieve_of (leaves (stopped (sieve_of x s))) false
    evict =
        let n1 : ℕ = (pass_run c x s).times in
        let n2 : ℕ = (pass_run c mid early).times in
        let t-late = tabled-turns early t-early n2 mid (passed_queue mid) 1 (omega arith) in
        let absent = absent-turns (item_of k) n2 mid (passed_queue mid) 1 early (let m = mid_low in omega arith) (absent-turns (item_of k) n1 x (passed_queue x) 1 s (omega (arith, low)) none) in
        let within = first-turns 2 n2 mid (passed_queue mid) 1 early (omega arith) (first-turns 2 n1 x (passed_queue x) 1 s (omega arith) first) in
        let r = left k mid (late mid) late mid_low t-late absent refl clear in
        let n = new_low in grind (arith, nat_tests, stop, first-send 2 (new k) (ahead_new c x s) (after_leaver c x s) (omega (arith, n)) (first-out 2 mid late within), first-out 2 mid late within)

  number : (o : Option (ℕ × ℕ)) (room : Bool) → (resident_plan o room (counts 1) (goes x 0) x (sieve_eviction_plan c x s)).own_number ≤ 1
  number v room = grind (arith, nat_tests, wrapped-low)

planned : IsPlannedPage sieve_page
planned c k x s some t shown state =
    let first = shown.0 in
    let low = shown.1 in
    let plan = resident-planned SieveState 2 k x x 0 s sieve_of (has_key k (sieve_residents (sieve_of x s))) (nat_lt (length (sieve_residents (sieve_of x s))) c) (nat_lt (length (s 0) + length (s 1)) c)
    (sieve_with_count k 1 (sieve_of x s)) (sieve_with_key k (sieve_of x s)) (sieve_eviction k (stopped (sieve_of x s)).passed (stopped (sieve_of x s)).ahead) (sieve_eviction_plan c x s)
    (counts 1) tt (first-count 2 (item_of k) 1 s first) t (omega arith) (omega (arith, low)) first (ap (λ n. nat_lt n c) (size c k x s some t first low state)) (key c k x s some t first low state) (hit c k x s some t first low state)
    (joined k x s low) (evict c k x s some t first low state) in
    (plan.0, (plan.1, number c k x s some t first low state (standing (item_of k) s) (nat_lt (length (s 0) + length (s 1)) c)))

pub sieve-sound : IsSoundPage sieve_page
sieve-sound = record {
  keeps = keeps;
  starts = ((λ q w. refl, omega arith), refl);
  planned = planned;
  residents = λ x s. both-counted (s (passed_queue x)) (s x);
  hits = λ c k x s. resident-alone (standing (item_of k) s) _ _ _ x _ refl;
  leaves = λ c k x s t shown state. resident-full _ (standing (item_of k) s) _ _ _ x _ (λ e. not-less _ _ c (shown-length (s (passed_queue x)) (s x) ∙ (let all = (both (item_of k) x s shown.1).1 in omega (arith, all))) e);
}

-- ---- the plan of a miss of a full cache by SIEVE, from what the calls that carry it out ensure

module _ (c x : ℕ) (s a b d : Queues) (early late : Run) (mid new y : ℕ) where
  abbrev plan : Queues → ℕ → ℕ → ℕ → Plan
  plan a mid new y = leaver_plan (pass_run c x s) (pass_run c mid a) (leaving mid None) (goes new 0) y

  pub eviction : a ≡ after_run early s → early ≡ pass_run c x s → mid ≡ queue_ahead x a → b ≡ after_run late a → late ≡ pass_run c mid a → d ≡ after_leaving (leaving mid None) b → new ≡ queue_ahead mid d → y ≡ new
      → plan a mid new y ≡ sieve_eviction_plan c x s
  eviction ha he hm hb hl hd hn hy = cc

pub pass-stops : (c x : ℕ) (s a : Queues) (early : Run) → early ≡ pass_run c x s → a ≡ after_run early s → 1 ≤ length (a x) → early.times < c
    → nat_lt (count_or 0 (oldest_of (a (queue_ahead x a)))) 1 ≡ true
pass-stops c x s a early he ha some few = grind (arith, nat_tests, by-oldest, turns-stop)

-- whether a queue is empty once its oldest key has left
pub left-empty : (q : ℕ) (s : Queues) → IsTabled s → is_empty (after_leaving (leaving q None) s q) ≡ nat_lt (length (s q)) 2
left-empty q s t = grind (arith, nat_tests, any-out, with-queue-same, le-ltb)
