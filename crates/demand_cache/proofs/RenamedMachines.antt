-- A machine ignores names where each access to a renamed key, in a renamed state, is the access renamed.
use Rattle.std.proofs.Common.{◌≡◌, ℕ, ◌+◌, ◌<◌, ◌≤◌, suc, Bool, true, cond, List, [], ◌∷◌, map, count_by, ap, ◌∙◌, sym, refl, arith}
use Rattle.std.proofs.lemmas.Bool.{cases_Bool}
use Rattle.std.proofs.lemmas.Bool.Decides.{nat_tests}
use Rattle.std.proofs.lemmas.List.{length-map}
use Rattle.engine_base.specs.Keys.{has_key}
use Rattle.engine_base.specs.declared.outcome.Outcome.{Outcome}
use Rattle.engine_base.specs.Machine.{Machine, outcomes_of_all, outcomes}
use Rattle.engine_base.specs.declared.outcome.Outcome.TheVariants.{Hit, Kept, Evicted, Rejected}
use Rattle.engine_base.specs.declared.stats.Stats.{Stats}
use Rattle.engine_base.specs.Stats.{is_hit, is_miss, is_eviction, is_rejection, one_if, stats_of, stats_with}
use Rattle.engine_base.proofs.Counting.{count-cons}
use Rattle.demand_cache.specs.Names.{IsRenaming, renamed_outcome, IgnoresNames}

-- no two numbers get the same name
abbrev pub IsInjective : (ℕ → ℕ) → Type 0
IsInjective f = (a b : ℕ) → f a ≡ f b → a ≡ b

-- ---- a renaming of the keys of a trace as one of all keys

-- more than the name of each key
abbrev names_end : (ℕ → ℕ) → List ℕ → ℕ
names_end f [] = 0
names_end f (k ∷ keys) = suc (f k) + names_end f keys

-- f on the keys, and numbers from n on elsewhere
abbrev extended : ℕ → (ℕ → ℕ) → List ℕ → ℕ → ℕ
extended n f keys k = cond (has_key k keys) (f k) (n + k)

named-below : (f : ℕ → ℕ) (keys : List ℕ) (k : ℕ) → has_key k keys ≡ true → f k < names_end f keys
named-below f [] k h = absurd (cc)
named-below f (a ∷ keys) k h = grind (arith, nat_tests, named-below f keys k)

extended-injective : (n : ℕ) (f : ℕ → ℕ) (keys : List ℕ) → IsRenaming f keys → names_end f keys ≤ n → IsInjective (extended n f keys)
extended-injective n f keys r h a b e =
    grind (arith, nat_tests, named-below f keys a, named-below f keys b, r a b, cases_Bool (has_key a keys), cases_Bool (has_key b keys))

map-same : (f g : ℕ → ℕ) (keys : List ℕ) → ((k : ℕ) → has_key k keys ≡ true → f k ≡ g k) → map f keys ≡ map g keys
map-same f g [] h = refl
map-same f g (a ∷ keys) h =
    let rest = map-same f g keys (λ k i. h k (grind (arith, nat_tests))) in
    let here = h a (grind (arith, nat_tests)) in
    cc

-- outcomes that two renamings rename alike have no keys but those at which the two agree
outcomes-same : (f g h : ℕ → ℕ) (os : List Outcome) → ((k : ℕ) → g k ≡ h k → g k ≡ f k) → map (renamed_outcome g) os ≡ map (renamed_outcome h) os
    → map (renamed_outcome g) os ≡ map (renamed_outcome f) os
outcomes-same f g h [] same e = refl
outcomes-same f g h (o ∷ os) same e = grind (arith, nat_tests, outcomes-same f g h os same)

-- ---- counts

count-renamed : (f : ℕ → ℕ) (p : Outcome → Bool) → ((o : Outcome) → p (renamed_outcome f o) ≡ p o) → (os : List Outcome) → count_by p (map (renamed_outcome f) os) ≡ count_by p os
count-renamed f p same [] = refl
count-renamed f p same (o ∷ os) =
    let here = ap one_if (same o) in
    omega (arith, here, count-renamed f p same os, count-cons p (renamed_outcome f o) (map (renamed_outcome f) os), count-cons p o os)

pub stats-renamed : (f : ℕ → ℕ) (os : List Outcome) → stats_of (map (renamed_outcome f) os) ≡ stats_of os
stats-renamed f os =
    rw (
      length-map os (renamed_outcome f),
      count-renamed f is_hit (λ o. grind (arith, nat_tests)) os,
      count-renamed f is_miss (λ o. grind (arith, nat_tests)) os,
      count-renamed f is_eviction (λ o. grind (arith, nat_tests)) os,
      count-renamed f is_rejection (λ o. grind (arith, nat_tests)) os,
    ) refl

pub stats-with-renamed : (f : ℕ → ℕ) (o : Outcome) (stats : Stats) → stats_with (renamed_outcome f o) stats ≡ stats_with o stats
stats-with-renamed f Hit stats = refl
stats-with-renamed f Kept stats = refl
stats-with-renamed f (Evicted k) stats = refl
stats-with-renamed f (Rejected k) stats = refl

-- ---- a machine

-- its states renamed, the first among them, and an access in them, where this holds of each state
pub record IsRenamed (m : Machine) (Holds : m.State → Type 0) (renamed : (ℕ → ℕ) → m.State → m.State) : Type 0 where
  pub starts : Holds m.start
  pub keeps : (k : ℕ) (s : m.State) → Holds s → Holds (m.access k s).1
  pub start : (f : ℕ → ℕ) → renamed f m.start ≡ m.start
  pub access : (f : ℕ → ℕ) → IsInjective f → (k : ℕ) (s : m.State) → Holds s
      → m.access (f k) (renamed f s) ≡ (renamed_outcome f (m.access k s).0, renamed f (m.access k s).1)

module _ (m : Machine) (Holds : m.State → Type 0) (renamed : (ℕ → ℕ) → m.State → m.State) (is : IsRenamed m Holds renamed) where
  run-renamed : (f : ℕ → ℕ) → IsInjective f → (keys : List ℕ) (s : m.State) → Holds s
      → outcomes_of_all m.access (renamed f s) (map f keys) ≡ map (renamed_outcome f) (outcomes_of_all m.access s keys)
  run-renamed f i [] s h = refl
  run-renamed f i (k ∷ keys) s h =
      ap (λ (a : Outcome × m.State). a.0 ∷ outcomes_of_all m.access a.1 (map f keys)) (is.access f i k s h)
      ∙ ap (λ (l : List Outcome). renamed_outcome f (m.access k s).0 ∷ l) (run-renamed f i keys (m.access k s).1 (is.keeps k s h))

  -- by each renaming of all keys that agrees with f on the trace
  module _ (f : ℕ → ℕ) (trace : List ℕ) (r : IsRenaming f trace) where
    by-extended : (n : ℕ) → names_end f trace ≤ n → outcomes m (map f trace) ≡ map (renamed_outcome (extended n f trace)) (outcomes m trace)
    by-extended n h =
        let g : ℕ → ℕ = extended n f trace in
        ap (outcomes m) (map-same f g trace (λ k i. rw i refl))
        ∙ ap (λ (s : m.State). outcomes_of_all m.access s (map g trace)) (sym (is.start g))
        ∙ run-renamed g (extended-injective n f trace r h) trace m.start is.starts

    outcomes-renamed : outcomes m (map f trace) ≡ map (renamed_outcome f) (outcomes m trace)
    outcomes-renamed =
        let n : ℕ = names_end f trace in
        let one = by-extended n (omega arith) in
        let two = by-extended (suc n) (omega arith) in
        one ∙ outcomes-same f (extended n f trace) (extended (suc n) f trace) (outcomes m trace) (λ k e. grind (arith, nat_tests, cases_Bool (has_key k trace))) (sym one ∙ two)

  pub ignores-names : IgnoresNames m
  ignores-names = record {
    renames = outcomes-renamed;
    counts = λ f trace r. ap stats_of (outcomes-renamed f trace r) ∙ stats-renamed f (outcomes m trace);
  }
