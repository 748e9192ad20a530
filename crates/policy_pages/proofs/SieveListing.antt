-- SIEVE by two lists beside its listing.
use Rattle.std.proofs.lemmas.Bool.Decides.{nat_tests}
use Rattle.std.proofs.Common.{◌≡◌, ℕ, zero, suc, ◌<◌, ◌≤◌, eqb, Option, Some, None, List, [], ◌∷◌, ◌++◌, length, ap, sym, ◌∙◌, refl, arith, inl, inr, append-nil, append_assoc}
use Rattle.std.proofs.lemmas.Bool.{cases_Bool, eq-eqb, ltb-false, eqb-false}
use Rattle.engine_base.specs.Keys.{has_key}
use Rattle.engine_base.specs.Machine.{outcomes_of_all}
use Rattle.policy_pages.specs.Residents.{Outcome, times}
use Rattle.queue_table.specs.Items.{oldest_of}
use Rattle.policy_pages.specs.CountedKeys.{CountedKey, uncounted_key, keys_of, count_of, with_count, AreCounted, counted_less}
use Rattle.policy_pages.specs.Sieve.{SieveState, empty_sieve, after_wrap, after_pass, pass_count_within, after_passes, sieve_eviction, sieve_act, HasAhead, IsSieve}
use Rattle.policy_pages.specs.SieveListing.{empty_listing, SieveListing, newer_than, key_or_oldest, scan_within, queue_without, listing_eviction, listing_act}
use Rattle.policy_pages.proofs.CountedKeys.{keys-times, with-append, counted-second}
use Rattle.policy_pages.proofs.SieveKeeping.{whole, past, passes, joined-whole, keeps}

-- ---- a key that stands once, and those before it

record IsFound (p : List CountedKey) (e : CountedKey) (a : List CountedKey) : Type 0 where
  count : count_of e.key (p ++ e ∷ a) ≡ e.count
  cleared : with_count e.key 0 (p ++ e ∷ a) ≡ p ++ uncounted_key e.key ∷ a
  newer : newer_than e.key (p ++ e ∷ a) ≡ oldest_of (keys_of a)
  without : queue_without e.key (p ++ e ∷ a) ≡ p ++ a

found : (p : List CountedKey) (e : CountedKey) (a : List CountedKey) → times e.key (keys_of (p ++ e ∷ a)) ≤ 1 → IsFound p e a
found [] e a d = grind (arith, nat_tests, eq-eqb e.key e.key refl)
found (f ∷ p) e a d = grind (arith, nat_tests, eq-eqb, cases_Bool, keys-times, found p e a (omega (arith, d)))

-- ---- the scan

abbrev head_key : List CountedKey → ℕ
head_key l = key_or_oldest None l

-- the key that is looked at next
next-key : (p : List CountedKey) (e : CountedKey) (a : List CountedKey) → key_or_oldest (oldest_of (keys_of a)) (p ++ e ∷ a) ≡ head_key (after_pass p (e ∷ a)).ahead
next-key [] e [] = refl
next-key (f ∷ p) e [] = refl
next-key p e (g ∷ a) = refl

-- the scan ends where the hand stops
scan-same : (n : ℕ) (p a : List CountedKey) → HasAhead p a → ((x : ℕ) → times x (keys_of (p ++ a)) ≤ 1) → AreCounted 1 (p ++ a) → scan_within n (head_key a) (p ++ a) ≡ (head_key (after_passes (pass_count_within n record { passed = p; ahead = a }) record { passed = p; ahead = a }).ahead, whole (after_passes (pass_count_within n record { passed = p; ahead = a }) record { passed = p; ahead = a }))
scan-same zero p a h d m = refl
scan-same (suc n) [] [] h d m = refl
scan-same (suc n) (f ∷ p) [] h d m = absurd h
scan-same (suc n) p (e ∷ a) h d m =
    let s : SieveState = after_pass p (e ∷ a) in
    let at = found p e a (d e.key) in
    let few = (counted-second 1 p (e ∷ a) m).0 in
    elim (cases_Bool (eqb e.count 0)) [
      | inl g ↦ rw (at.count, g) refl
      | inr g ↦
          let kept = past p (e ∷ a) in
          let some : 0 < e.count = (let apart = eqb-false e.count 0 g in omega arith) in
          let key : key_or_oldest (newer_than e.key (p ++ e ∷ a)) (p ++ e ∷ a) ≡ head_key s.ahead = ap (λ o. key_or_oldest o (p ++ e ∷ a)) at.newer ∙ next-key p e a in
          let queue : with_count e.key 0 (p ++ e ∷ a) ≡ whole s =
          at.cleared ∙ ap (λ c. p ++ record { key = e.key; count = c } ∷ a) (omega (arith, some, few)) ∙ sym ((grind (arith, nat_tests, append-nil)) ∙ append_assoc p (counted_less e ∷ []) a) in
          rw (at.count, g) (ap (λ k. scan_within n k (with_count e.key 0 (p ++ e ∷ a))) key
          ∙ ap (scan_within n (head_key s.ahead)) queue
          ∙ scan-same n s.passed s.ahead (kept.hand h) (λ x. omega (arith, d x, ap (times x) kept.keys)) (kept.bits m))
    ]

-- ---- where the hand points

-- at the oldest key ahead, or nowhere where none is passed
abbrev PointsAt : Option ℕ → List CountedKey → List CountedKey → Type 0
PointsAt None p a = p ≡ []
PointsAt (Some k) p a = oldest_of (keys_of a) ≡ Some k

points-head : (h : Option ℕ) (p a : List CountedKey) → PointsAt h p a → key_or_oldest h (p ++ a) ≡ head_key a
points-head v p a w = grind (arith, nat_tests)

-- ---- an access

abbrev listed : SieveState → Option ℕ → SieveListing
listed s h = record { queue = whole s; hand = h }

record IsSame (x : Outcome × SieveListing) (y : Outcome × SieveState) : Type 0 where
  outcome : x.0 ≡ y.0
  queue : x.1.queue ≡ whole y.1
  hand : PointsAt x.1.hand y.1.passed y.1.ahead

evicts-same : (k : ℕ) (p a : List CountedKey) → HasAhead p a → 1 ≤ length (keys_of (p ++ a)) → ((x : ℕ) → times x (keys_of (p ++ a)) ≤ 1) → IsSame (listing_eviction k (head_key a) (p ++ a)) (sieve_eviction k p a)
evicts-same k [] [] h n d = absurd (omega arith)
evicts-same k (f ∷ p) [] h n d = absurd h
evicts-same k p (e ∷ a) h n d =
    let at = found p e a (d e.key) in
    grind (arith, nat_tests, append-nil, joined-whole k (after_wrap p a))

step : (c k : ℕ) (s : SieveState) (h : Option ℕ) → 1 ≤ c → IsSieve c s → PointsAt h s.passed s.ahead → IsSame (listing_act c k (listed s h)) (sieve_act c k s)
step c k s h one kept w =
    grind (arith, nat_tests, cases_Bool (has_key k (keys_of (whole s))), cases_Bool, with-append, joined-whole, passes, ltb-false, points-head, scan-same, evicts-same)

run : (c : ℕ) (keys : List ℕ) (s : SieveState) (h : Option ℕ) → 1 ≤ c → IsSieve c s → PointsAt h s.passed s.ahead → outcomes_of_all (sieve_act c) s keys ≡ outcomes_of_all (listing_act c) (listed s h) keys
run c [] s h one kept w = refl
run c (k ∷ keys) s h one kept w =
    let same : IsSame (listing_act c k (listed s h)) (sieve_act c k s) = step c k s h one kept w in
    let next : SieveState = (sieve_act c k s).1 in
    let hand : Option ℕ = (listing_act c k (listed s h)).1.hand in
    let rest = run c keys next hand one ((keeps c one).keeps k s kept) same.hand in
    let shown : (listing_act c k (listed s h)).1 ≡ listed next hand = ap (λ q. record { queue = q; hand = hand }) same.queue in
    cc (same.outcome, shown, rest)

pub is_its_listing : (c : ℕ) (keys : List ℕ) → 1 ≤ c → outcomes_of_all (sieve_act c) empty_sieve keys ≡ outcomes_of_all (listing_act c) empty_listing keys
is_its_listing c keys one = run c keys empty_sieve None one (keeps c one).starts.0 refl
