-- A trace that misses always, whatever the cache: each access is to a key that is not resident, of one more than fit.
use Rattle.std.proofs.Common.{◌≡◌, ℕ, zero, suc, ◌+◌, ◌≤◌, true, false, cond, eqb, List, [], ◌∷◌, ◌++◌, length, take, get_or, ap, ◌∙◌, sym, refl, arith, length-append, ◌-◌, ◌*◌, ◌<◌, nat_lt, inl, inr}
use Rattle.std.proofs.Math.ListN.{get_or-append}
use Rattle.std.proofs.Math.Seq.{get_or-append_seam, take-append_seam}
use Rattle.std.proofs.lemmas.Bool.{cases_eq, cases_Bool, lt-ltb, le-ltb}
use Rattle.std.proofs.lemmas.List.{take_more, take-append-le, take_all}
use Rattle.std.proofs.lemmas.Bool.Decides.{nat_tests}
use Rattle.engine_base.specs.Keys.{has_key}
use Rattle.engine_base.specs.Stats.{one_if}
use Rattle.queue_cache.proofs.Recency.{IsDistinct}
use Rattle.policy_pages.specs.Residents.{times}
use Rattle.policy_pages.proofs.Residents.{times-none, times-some}
use Rattle.policy_laws.specs.Strategy.{IsStrategy, strategy_hits, strategy_misses}
use Rattle.std.proofs.Math.Nat.{mul-add, add-mul, mul-le-mul_left}
use Rattle.policies.specs.AnyPolicy.{Job, stats_on}
use Rattle.conservative_laws.specs.Conservative.{misses_on}
use Rattle.conservative_laws.specs.Theorems.{IsWorstFor, NoFactorIsSmaller}
use Rattle.conservative_laws.proofs.Stretches.{hits-few, once-few, distinct-few, online-misses}
use Rattle.conservative_laws.proofs.Loads.{load, load-none, load-next, Heaviest, heaviest}
use Rattle.policies.specs.Theorems.{AnyCoversTrace}
use Rattle.policies.proofs.Machines.{HasMachine, any_keeps}
use Rattle.policy_laws.proofs.Beaten.{held_by, online}

-- ---- hits of a cache that is a function of the accesses before

abbrev pub hits_of : (List ℕ → List ℕ) → List ℕ → ℕ
hits_of f xs = strategy_hits xs (λ i. f (take i xs)) (length xs)

hits-within : (f : List ℕ → List ℕ) (xs ys : List ℕ) (n : ℕ) → n ≤ length xs → strategy_hits (xs ++ ys) (λ i. f (take i (xs ++ ys))) n ≡ strategy_hits xs (λ i. f (take i xs)) n
hits-within f xs ys zero h = refl
hits-within f xs ys (suc n) h = search (arith, hits-within f xs ys n (omega (arith, h)), get_or-append, take-append-le)

pub hits-more : (f : List ℕ → List ℕ) (xs : List ℕ) (k : ℕ) → hits_of f (xs ++ k ∷ []) ≡ hits_of f xs + one_if (has_key k (f xs))
hits-more f xs k =
    let all : List ℕ = xs ++ k ∷ [] in
    let long : length all ≡ suc (length xs) = omega (arith, length-append xs (k ∷ [])) in
    grind (arith, nat_tests, hits-within f xs (k ∷ []) (length xs) (omega arith), get_or-append_seam xs k, take-append_seam xs (k ∷ []))

-- ---- a strategy that keeps some keys for good, from their first access on

abbrev pub hold : List ℕ → List ℕ → List ℕ
hold [] xs = []
hold (a ∷ ks) xs = cond (has_key a xs) (a ∷ hold ks xs) (hold ks xs)

pub hold-none : (ks : List ℕ) → hold ks [] ≡ []
hold-none [] = refl
hold-none (a ∷ ks) = hold-none ks

pub hold-length : (ks xs : List ℕ) → length (hold ks xs) ≤ length ks
hold-length [] xs = omega arith
hold-length (a ∷ ks) xs = grind (arith, nat_tests, hold-length ks xs)

has-hold : (x : ℕ) (ks xs : List ℕ) → has_key x (hold ks xs) ≡ cond (has_key x ks) (has_key x xs) false
has-hold x [] xs = refl
has-hold x (a ∷ ks) xs = grind (arith, nat_tests, has-hold x ks xs, cases_eq x a)

has-more : (x k : ℕ) (xs : List ℕ) → has_key x (xs ++ k ∷ []) ≡ cond (eqb x k) true (has_key x xs)
has-more x k [] = refl
has-more x k (a ∷ xs) = grind (arith, nat_tests, has-more x k xs)

pub hold-strategy : (ks t : List ℕ) → IsStrategy (length ks) t (λ i. hold ks (take i t))
hold-strategy ks t = record {
  empty = hold-none ks;
  on_demand = λ i x h g. (
      let more : take (suc i) t ≡ take i t ++ get_or t i 0 ∷ [] = (let e : suc i ≡ i + 1 = omega arith in ap (λ n. take n t) e ∙ take_more t i 0 h) in
      let now : cond (has_key x ks) (cond (eqb x (get_or t i 0)) true (has_key x (take i t))) false ≡ true = sym (has-hold x ks (take (suc i) t) ∙ ap (λ b. cond (has_key x ks) b false) (ap (has_key x) more ∙ has-more x (get_or t i 0) (take i t))) ∙ g in
      grind (arith, nat_tests, has-hold));
  fits = λ i h. hold-length ks (take i t);
}

-- each access to one of the keys is a hit, or brings that key in
pub hold-next : (ks xs : List ℕ) (k : ℕ) → IsDistinct ks → length (hold ks (xs ++ k ∷ [])) + one_if (has_key k (hold ks xs)) ≡ length (hold ks xs) + times k ks
hold-next [] xs k d = omega arith
hold-next (a ∷ ks) xs k d = grind (arith, nat_tests, hold-next ks xs k d.1, times-none, has-hold, has-more)

-- ---- the keys below a number

abbrev down : ℕ → List ℕ
down zero = []
down (suc n) = n ∷ down n

has-down : (x n : ℕ) → has_key x (down n) ≡ nat_lt x n
has-down x zero = sym (le-ltb x 0 (omega arith))
has-down x (suc n) = rw (has-down x n) (grind (arith, nat_tests))

down-distinct : (n : ℕ) → IsDistinct (down n)
down-distinct zero = tt
down-distinct (suc n) = (has-down n n ∙ le-ltb n n (omega arith), down-distinct n)

down-length : (n : ℕ) → length (down n) ≡ n
down-length zero = refl
down-length (suc n) = ap suc (down-length n)

down-times : (x n : ℕ) → times x (down n) ≤ 1
down-times x zero = omega arith
down-times x (suc n) = grind (arith, nat_tests, down-times x n, times-none x (down n), has-down x n)

-- the largest of them that is not in the list, and 0 where all are
abbrev free_key : ℕ → List ℕ → ℕ
free_key zero l = 0
free_key (suc n) l = cond (has_key n l) (free_key n l) n

free-below : (n : ℕ) (l : List ℕ) → free_key n l ≤ n - 1
free-below zero l = omega arith
free-below (suc n) l = grind (arith, nat_tests, free-below n l)

all-there : (n : ℕ) (l : List ℕ) → has_key (free_key n l) l ≡ true → (x : ℕ) → has_key x (down n) ≡ true → has_key x l ≡ true
all-there zero l h x g = absurd (cc (g))
all-there (suc n) l h x g =
    let rest = λ (f : has_key (free_key n l) l ≡ true). all-there n l f x in
    grind (arith, nat_tests, rest, cases_eq x n)

-- not all of them are in a shorter list
free-absent : (n : ℕ) (l : List ℕ) → length l < n → has_key (free_key n l) l ≡ false
free-absent n l less =
    elim (cases_Bool (has_key (free_key n l) l)) [
      | inl e ↦ absurd (
          let few = once-few (down n) (down n) (λ x. down-times x n) (λ x g. g) in
          let most = distinct-few (down n) l (all-there n l e) in
          omega (arith, few, most, less, down-length n))
      | inr e ↦ e
    ]

-- ---- the trace

module _ (c : ℕ) (held : List ℕ → List ℕ) (fits : (keys : List ℕ) → length (held keys) ≤ c) where
  -- n accesses, each to a key below c + 1 that is not resident
  abbrev pub trace_of : ℕ → List ℕ
  trace_of zero = []
  trace_of (suc n) = trace_of n ++ free_key (suc c) (held (trace_of n)) ∷ []

  trace-length : (n : ℕ) → length (trace_of n) ≡ n
  trace-length zero = refl
  trace-length (suc n) = omega (arith, length-append (trace_of n) (free_key (suc c) (held (trace_of n)) ∷ []), trace-length n)

  no-hits : (n : ℕ) → hits_of held (trace_of n) ≡ 0
  no-hits zero = refl
  no-hits (suc n) = search (arith, free-absent (suc c) (held (trace_of n)) (omega arith), hits-more, no-hits n)

  -- each access is to one of those keys
  one-time : (n : ℕ) → times (free_key (suc c) (held (trace_of n))) (down (suc c)) ≡ 1
  one-time n =
      let k : ℕ = free_key (suc c) (held (trace_of n)) in
      let below : k ≤ suc c - 1 = free-below (suc c) (held (trace_of n)) in
      let there : has_key k (down (suc c)) ≡ true = has-down k (suc c) ∙ lt-ltb k (suc c) (omega (arith, below)) in
      omega (arith, times-some k (down (suc c)) there, down-times k (suc c))

  full-load : (n : ℕ) → load (down (suc c)) (trace_of n) ≡ n
  full-load zero = load-none (down (suc c))
  full-load (suc n) = omega (arith, load-next (down (suc c)) (trace_of n) (free_key (suc c) (held (trace_of n))), full-load n, one-time n)

  -- a strategy that keeps some keys for good hits all their accesses but the first
  kept-hits : (ks : List ℕ) → IsDistinct ks → (n : ℕ) → hits_of (hold ks) (trace_of n) + length (hold ks (trace_of n)) ≡ load ks (trace_of n)
  kept-hits ks d zero = let none : length (hold ks []) ≡ 0 = ap length (hold-none ks) in omega (arith, none, load-none ks)
  kept-hits ks d (suc n) = grind (arith, nat_tests, hits-more, hold-next, load-next, kept-hits ks d n)

-- ---- the bound

few-misses : (c h n kept hits : ℕ) → h ≤ c + 1 → h * n ≤ (c + 1) * kept → kept ≤ hits + h → hits ≤ n → (c + 1) * (n - hits) ≤ (c + 1 - h) * n + (c + 1) * (c + 1)
few-misses c h n kept hits le share most within =
    let w : ℕ = c + 1 in
    let up : w * kept ≤ w * (hits + h) = mul-le-mul_left w most in
    let up_is : w * (hits + h) ≡ w * hits + w * h = mul-add w hits h in
    let all : w * n ≡ w * (n - hits) + w * hits = (let e : n ≡ (n - hits) + hits = omega (arith, within) in ap (λ x. w * x) e ∙ mul-add w (n - hits) hits) in
    let parts : w * n ≡ (w - h) * n + h * n = (let e : w ≡ (w - h) + h = omega (arith, le) in ap (λ x. x * n) e ∙ add-mul (w - h) h n) in
    let room : w * h ≤ w * w = mul-le-mul_left w le in
    omega (arith, share, up, up_is, all, parts, room)

-- a job whose cache holds these keys after the accesses
pub worst : (j : Job) (held : List ℕ → List ℕ) (fits : (keys : List ℕ) → length (held keys) ≤ j.config.capacity)
    → ((t : List ℕ) (n : ℕ) → n ≤ length t → misses_on j t n ≡ strategy_misses t (λ i. held (take i t)) n) → (h n : ℕ) → h ≤ j.config.capacity + 1
    → (trace : List ℕ) × (residents : ℕ → List ℕ) × IsWorstFor j h n trace residents
worst j held fits counts h n le =
    let c : ℕ = j.config.capacity in
    let t : List ℕ = trace_of c held fits n in
    let long : length t ≡ n = trace-length c held fits n in
    let size : length (down (suc c)) ≡ suc c = down-length (suc c) in
    let best : Heaviest t (down (suc c)) h = heaviest t h (suc c - h) (down (suc c)) (down-distinct (suc c)) (omega (arith, size, le)) in
    let ks : List ℕ = best.keys in
    let kept : length ks ≡ h = best.size in
    let residents : ℕ → List ℕ = λ i. hold ks (take i t) in
    let share : h * load (down (suc c)) t ≤ length (down (suc c)) * load ks t = best.share in
    let whole : h * load (down (suc c)) t ≡ h * n = ap (λ x. h * x) (full-load c held fits n) in
    let wide : length (down (suc c)) * load ks t ≡ (c + 1) * load ks t = (let e : length (down (suc c)) ≡ c + 1 = omega (arith, size) in ap (λ x. x * load ks t) e) in
    let hits : hits_of (hold ks) t + length (hold ks t) ≡ load ks t = kept-hits c held fits ks best.distinct n in
    let within : hits_of (hold ks) t ≤ length t = hits-few t residents (length t) in
    let misses : (stats_on j t).misses ≡ n = ap (λ l. (stats_on j l).misses) (sym (take_all (length t) t (omega arith))) ∙ (counts t (length t) (omega arith) ∙ (ap (λ m. length t - m) (no-hits c held fits n) ∙ omega (arith, long))) in
    let few = few-misses c h n (load ks t) (hits_of (hold ks) t) le (omega (arith, share, whole, wide)) (omega (arith, hits, hold-length ks t, kept)) (omega (arith, within, long)) in grind (arith, nat_tests, hold-strategy ks t)

-- ---- no policy that does not know the trace competes by a smaller factor

pub no_factor_is_smaller : AnyCoversTrace → NoFactorIsSmaller
no_factor_is_smaller covers j h n is le =
    let a : HasMachine j = any_keeps j is in
    worst j (held_by j a) (online j a).fits (online-misses covers j (held_by j a) (online j a)) h n le
