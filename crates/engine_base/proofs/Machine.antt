-- What every machine over keys shows after a list of accesses.
use Rattle.std.proofs.Common.{◌≡◌, ℕ, zero, suc, ◌+◌, ◌≤◌, List, [], ◌∷◌, ◌++◌, length, take, get_or, count_by, ap, ◌∙◌, sym, refl, arith, append-nil, append_assoc}
use Rattle.engine_base.specs.Stats.{is_miss, is_eviction, stats_of, stats_with}
use Rattle.engine_base.specs.Machine.{Outcome, Stats, state_after_all, outcomes_of_all, Machine, after, outcomes, IsCounting, KeepsKeys, CountsResidents}
use Rattle.engine_base.proofs.Counting.{stats-snoc, count-cons}

-- ---- any accesses over lists

module _ {S : Type 0} (act : ℕ → S → Outcome × S) where
  pub state-append : (s : S) (keys more : List ℕ) → state_after_all act s (keys ++ more) ≡ state_after_all act (state_after_all act s keys) more
  state-append s [] more = refl
  state-append s (k ∷ keys) more = state-append (act k s).1 keys more

  pub outcomes-append : (s : S) (keys more : List ℕ) → outcomes_of_all act s (keys ++ more) ≡ outcomes_of_all act s keys ++ outcomes_of_all act (state_after_all act s keys) more
  outcomes-append s [] more = refl
  outcomes-append s (k ∷ keys) more = ap (λ l. (act k s).0 ∷ l) (outcomes-append (act k s).1 keys more)

  pub outcomes-long : (s : S) (keys : List ℕ) → length (outcomes_of_all act s keys) ≡ length keys
  outcomes-long s [] = refl
  outcomes-long s (a ∷ keys) = ap suc (outcomes-long (act a s).1 keys)

  pub outcomes-at : (s : S) (keys rest : List ℕ) (k : ℕ) (x : Outcome) → get_or (outcomes_of_all act s (keys ++ k ∷ rest)) (length keys) x ≡ (act k (state_after_all act s keys)).0
  outcomes-at s [] rest k x = refl
  outcomes-at s (a ∷ keys) rest k x = outcomes-at (act a s).1 keys rest k x

  pub outcomes-first : (s : S) (n : ℕ) (keys : List ℕ) → outcomes_of_all act s (take n keys) ≡ take n (outcomes_of_all act s keys)
  outcomes-first s zero keys = refl
  outcomes-first s (suc n) [] = refl
  outcomes-first s (suc n) (a ∷ keys) = ap (λ l. (act a s).0 ∷ l) (outcomes-first (act a s).1 n keys)

  -- what each access keeps
  module _ (Holds : S → Type 0) (keeps : (k : ℕ) (s : S) → Holds s → Holds (act k s).1) where
    pub kept-from : (s : S) (keys : List ℕ) → Holds s → Holds (state_after_all act s keys)
    kept-from s [] h = h
    kept-from s (k ∷ keys) h = kept-from (act k s).1 keys (keeps k s h)

-- ---- a machine

module _ (m : Machine) where
  -- one access more
  pub next : (keys : List ℕ) (k : ℕ) → after m (keys ++ k ∷ []) ≡ (m.access k (after m keys)).1
  next keys k = state-append m.access m.start keys (k ∷ [])

  pub answered : (keys rest : List ℕ) (k : ℕ) (x : Outcome) → get_or (outcomes m (keys ++ k ∷ rest)) (length keys) x ≡ (m.access k (after m keys)).0
  answered keys rest k x = outcomes-at m.access m.start keys rest k x

-- what it counts is what is counted of its outcomes
module _ (m : Machine) (stats : m.State → Stats) (c : IsCounting m stats) where
  counts-from : (s : m.State) (os : List Outcome) (keys : List ℕ) → stats s ≡ stats_of os
      → stats (state_after_all m.access s keys) ≡ stats_of (os ++ outcomes_of_all m.access s keys)
  counts-from s os [] h = h ∙ ap stats_of (sym (append-nil os))
  counts-from s os (k ∷ keys) h =
      let o : Outcome = (m.access k s).0 in
      counts-from (m.access k s).1 (os ++ o ∷ []) keys (c.counts k s ∙ ap (stats_with o) h ∙ sym (stats-snoc os o))
      ∙ ap stats_of (append_assoc os (o ∷ []) (outcomes_of_all m.access (m.access k s).1 keys))

  pub counted : (keys : List ℕ) → stats (after m keys) ≡ stats_of (outcomes m keys)
  counted keys = counts-from m.start [] keys c.starts

  pub made : (keys : List ℕ) → (stats (after m keys)).accesses ≡ length keys
  made keys = ap (λ (s : Stats). s.accesses) (counted keys) ∙ outcomes-long m.access m.start keys

  pub first-counted : (n : ℕ) (trace : List ℕ) → stats (after m (take n trace)) ≡ stats_of (take n (outcomes m trace))
  first-counted n trace = counted (take n trace) ∙ ap stats_of (outcomes-first m.access m.start n trace)

module _ (c : ℕ) (m : Machine) (all : KeepsKeys c m) where
  pub stands : (keys : List ℕ) → m.IsState (after m keys)
  stands keys = kept-from m.access m.IsState all.keeps m.start keys all.starts

  residents-from : (s : m.State) → m.IsState s → (keys : List ℕ) → length (m.residents (state_after_all m.access s keys)) + count_by is_eviction (outcomes_of_all m.access s keys)
      ≡ length (m.residents s) + count_by is_miss (outcomes_of_all m.access s keys)
  residents-from s h [] = refl
  residents-from s h (k ∷ keys) =
      let o : Outcome = (m.access k s).0 in
      let os : List Outcome = outcomes_of_all m.access (m.access k s).1 keys in
      let rest = residents-from (m.access k s).1 (all.keeps k s h) keys in
      omega (arith, rest, (all.accesses k s h).counts, count-cons is_eviction o os, count-cons is_miss o os)

  pub residents-counted : CountsResidents m
  residents-counted keys = let none = ap length all.empty in omega (arith, residents-from m.start all.starts keys, none)

  pub residents-fit : (keys : List ℕ) → length (m.residents (after m keys)) ≤ c
  residents-fit keys = all.fits (after m keys) (stands keys)

  pub misses-fit : (keys : List ℕ) → count_by is_miss (outcomes m keys) ≤ count_by is_eviction (outcomes m keys) + c
  misses-fit keys = omega (arith, residents-fit keys, residents-counted keys)
