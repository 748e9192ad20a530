-- Stretches of a trace, their distinct keys, and the misses in them.
use Rattle.std.proofs.Common.{◌≡◌, ◌⊎◌, ℕ, zero, suc, ◌<◌, ◌≤◌, Bool, true, List, [], ◌∷◌, ◌++◌, length, take, drop, get_or, ap, ◌∙◌, sym, refl, arith, length-drop, ◌+◌, ◌-◌, ◌*◌, not}
use Rattle.std.proofs.lemmas.Bool.Decides.{nat_tests}
use Rattle.std.proofs.lemmas.Bool.{cases_Bool, cases_eq}
use Rattle.std.proofs.lemmas.List.{take_more, drop-append-le, length-take-le}
use Rattle.std.proofs.Math.Seq.{drop-length, take-suc}
use Rattle.engine_base.specs.Keys.{has_key}
use Rattle.queue_cache.specs.Lru.{distinct_keys}
use Rattle.replacement.proofs.Residents.{has-append}
use Rattle.policy_laws.proofs.Optimal.{count_keys, count-short, count-subset, head-has}
use Rattle.policy_pages.specs.Residents.{times}
use Rattle.policy_pages.proofs.Residents.{no-times}
use Rattle.conservative_laws.specs.Conservative.{stretch, IsConservative}
use Rattle.std.proofs.Math.Nat.{add-mul, mul-add, mul-le-mul_right, le_of_mul-le-mul_left}
use Rattle.engine_base.specs.Stats.{one_if}
use Rattle.step_record.specs.declared.job.Policy.TheVariants.{Lru}
use Rattle.engine_base.specs.Machine.{Machine, after, KeepsKeys}
use Rattle.engine_base.proofs.Counting.{hits-misses}
use Rattle.engine_base.proofs.Machine.{next, stands}
use Rattle.queue_cache.specs.Lru.{lru}
use Rattle.policies.specs.Design.{Job, queue_setup}
use Rattle.policies.specs.AnyPolicy.{outcomes_on, stats_on}
use Rattle.policies.specs.Theorems.{AnyCoversTrace}
use Rattle.queue_cache.specs.Theorems.{LruStepLaw}
use Rattle.policy_laws.specs.Strategy.{strategy_hits, strategy_misses}
use Rattle.policy_laws.proofs.Strategies.{IsOnline, hits-are}
use Rattle.policy_laws.proofs.Lru.{queue_residents, lru-online, lru_at, hits-agree, lru-kept}

-- ---- keys

abbrev any : ℕ → Bool
any x = true

distinct-counted : (xs : List ℕ) → length (distinct_keys xs) ≡ count_keys any xs
distinct-counted [] = refl
distinct-counted (a ∷ xs) = grind (arith, nat_tests, distinct-counted xs)

-- a list that has all keys of xs is no shorter than its distinct keys
pub distinct-few : (xs l : List ℕ) → ((x : ℕ) → has_key x xs ≡ true → has_key x l ≡ true) → length (distinct_keys xs) ≤ length l
distinct-few xs l h = omega (arith, distinct-counted xs, count-subset any xs l h, count-short any l)

pub distinct-subset : (xs ys : List ℕ) → ((x : ℕ) → has_key x xs ≡ true → has_key x ys ≡ true) → length (distinct_keys xs) ≤ length (distinct_keys ys)
distinct-subset xs ys h = omega (arith, distinct-counted xs, distinct-counted ys, count-subset any xs ys h)

-- a list that has each of its keys once, all of them keys of xs, is no longer than the distinct keys of xs
once-counted : (l : List ℕ) → ((x : ℕ) → times x l ≤ 1) → count_keys any l ≡ length l
once-counted [] d = refl
once-counted (a ∷ l) d =
    let rest = once-counted l (λ x. let n = d x in omega (arith, n)) in
    grind (arith, nat_tests, no-times a l, rest, d a)

pub once-few : (l xs : List ℕ) → ((x : ℕ) → times x l ≤ 1) → ((x : ℕ) → has_key x l ≡ true → has_key x xs ≡ true) → length l ≤ length (distinct_keys xs)
once-few l xs d h = omega (arith, once-counted l d, distinct-counted xs, count-subset any l xs h)

pub has-some : (x : ℕ) (l : List ℕ) → has_key x l ≡ true → 1 ≤ length l
has-some x [] h = absurd (cc (h))
has-some x (a ∷ l) h = omega arith

-- ---- stretches

pub stretch-none : (t : List ℕ) (i : ℕ) → i ≤ length t → stretch t i i ≡ []
stretch-none t i h = ap (λ n. drop n (take i t)) (sym (length-take-le i t h)) ∙ drop-length (take i t)

pub stretch-next : (t : List ℕ) (i n : ℕ) → i ≤ n → n < length t → stretch t i (suc n) ≡ stretch t i n ++ get_or t n 0 ∷ []
stretch-next t i n h l = search (arith, length-take-le n t (omega (arith, l)), take_more t n 0 l, drop-append-le)

pub one-of : (x k : ℕ) (xs : List ℕ) → has_key x (xs ++ k ∷ []) ≡ true → (x ≡ k) ⊎ (has_key x xs ≡ true)
one-of x k xs h = grind (arith, nat_tests, has-append x xs (k ∷ []))

pub has-last : (k : ℕ) (xs : List ℕ) → has_key k (xs ++ k ∷ []) ≡ true
has-last k xs = grind (arith, nat_tests, has-append k xs (k ∷ []), cases_Bool (has_key k xs), head-has k)

pub in-stretch : (t : List ℕ) (i n m : ℕ) → i ≤ n → n < m → m ≤ length t → has_key (get_or t n 0) (stretch t i m) ≡ true
in-stretch t i n zero h g l = absurd (omega (arith, g))
in-stretch t i n (suc m) h g l =
    let more : stretch t i (suc m) ≡ stretch t i m ++ get_or t m 0 ∷ [] = stretch-next t i m (omega (arith, h, g)) (omega (arith, l)) in
    let rest = λ (f : n < m). in-stretch t i n m h f (omega (arith, l)) in
    let parts = has-append (get_or t n 0) (stretch t i m) (get_or t m 0 ∷ []) in
    rw more (grind (arith, nat_tests, rest, parts, cases_eq n m))

-- ---- without room

none-distinct : (xs : List ℕ) → length (distinct_keys xs) ≤ 0 → length xs ≤ 0
none-distinct [] h = omega arith
none-distinct (a ∷ xs) h = grind (arith, nat_tests, none-distinct xs, has-some a xs)

-- no stretch has no key
pub empty-conservative : (t : List ℕ) (misses : ℕ → ℕ) → IsConservative 0 t misses
empty-conservative t misses i n h l few =
    grind (arith, nat_tests, none-distinct (stretch t i n) few, length-take-le n t l, length-drop i (take n t))

-- ---- the misses of a strategy and of a job

-- ---- of a strategy

pub hits-few : (t : List ℕ) (residents : ℕ → List ℕ) (i : ℕ) → strategy_hits t residents i ≤ i
hits-few t residents zero = omega arith
hits-few t residents (suc i) = grind (arith, nat_tests, hits-few t residents i)

pub misses-next : (t : List ℕ) (residents : ℕ → List ℕ) (i : ℕ) → strategy_misses t residents (suc i) ≡ strategy_misses t residents i + one_if (not (has_key (get_or t i 0) (residents i)))
misses-next t residents i = grind (arith, nat_tests, hits-few t residents i)

-- without residents each access is a miss
pub none-hit : (t : List ℕ) (n : ℕ) → strategy_misses t (λ i. []) n ≡ n
none-hit t zero = refl
none-hit t (suc n) = let rest = none-hit t n in omega (arith, rest, misses-next t (λ i. []) n)

-- with twice the capacity the factor is at most two
pub at-most-twice : (c h m k : ℕ) → 2 * h ≤ c + 1 → (c + 1 - h) * m ≤ (c + 1) * k → m ≤ 2 * k
at-most-twice c h m k wide most = grind (arith, nat_tests, mul-le-mul_right, add-mul, mul-add, le_of_mul-le-mul_left)

-- ---- a machine at the places of a trace

module _ (m : Machine) (t : List ℕ) where
  -- before the access at each place
  abbrev pub state_at : ℕ → m.State
  state_at n = after m (take n t)

  pub next-is : (n : ℕ) → n < length t → state_at (suc n) ≡ (m.access (get_or t n 0) (state_at n)).1
  next-is n h = ap (after m) (take-suc t n 0 h) ∙ next m (take n t) (get_or t n 0)

  pub stands-at : (c : ℕ) → KeepsKeys c m → (n : ℕ) → m.IsState (state_at n)
  stands-at c all n = stands c m all (take n t)

-- ---- of a job

pub stats-misses : AnyCoversTrace → (j : Job) (keys : List ℕ) → (stats_on j keys).misses ≡ length keys - (stats_on j keys).hits
unfolding stats_on
stats-misses covers j keys = omega (arith, hits-misses (outcomes_on j keys), covers j keys)

pub misses-by : (t : List ℕ) (r : ℕ → List ℕ) (n m k : ℕ) → k ≡ n - m → strategy_hits t r n ≡ m → k ≡ strategy_misses t r n
misses-by t r n m k e h = e ∙ ap (λ x. n - x) (sym h)

pub online-misses : AnyCoversTrace → (j : Job) (held : List ℕ → List ℕ) → IsOnline j.config.capacity held (λ keys. (stats_on j keys).hits)
    → (trace : List ℕ) (n : ℕ) → n ≤ length trace → (stats_on j (take n trace)).misses ≡ strategy_misses trace (λ i. held (take i trace)) n
online-misses covers j held online trace n l =
    omega (arith, stats-misses covers j (take n trace), hits-are j.config.capacity held _ online trace n l, length-take-le n trace l)

pub lru-misses : LruStepLaw → AnyCoversTrace → (j : Job) (trace : List ℕ) (n : ℕ) → j.policy ≡ Lru → n ≤ length trace
    → (stats_on j (take n trace)).misses ≡ strategy_misses trace (lru_at j.config.capacity trace) n
lru-misses law covers j trace n is l =
    let held : List ℕ → List ℕ = queue_residents (queue_setup lru j) in
    online-misses covers j held (lru-online j is) trace n l
    ∙ ap (λ m. n - m) (hits-agree trace (λ i. held (take i trace)) (lru_at j.config.capacity trace) n (λ i. lru-kept law (queue_setup lru j) (take i trace) refl))
