-- A cache as a machine over keys: its states, what an access to a key does, and what it comes to over a list of accesses.
use Rattle.std.specs.Prelude.{◌≡◌, ◌⊎◌, ℕ, ◌+◌, ◌≤◌, true, List, [], ◌∷◌, ◌++◌, length, eqb, count_by}
use Rattle.engine_base.specs.Keys.{has_key}
use Rattle.engine_base.specs.Stats.{is_hit, is_miss, is_eviction, one_if, stats_of, stats_with}
pub use Rattle.engine_base.specs.declared.outcome.Outcome.{Outcome}
pub use Rattle.engine_base.specs.declared.stats.Stats.{Stats}

-- the state after accesses to the keys
abbrev pub state_after_all : {S : Type 0} → (ℕ → S → Outcome × S) → S → List ℕ → S
state_after_all act s [] = s
state_after_all act s (k ∷ keys) = state_after_all act (act k s).1 keys

-- their outcomes
abbrev pub outcomes_of_all : {S : Type 0} → (ℕ → S → Outcome × S) → S → List ℕ → List Outcome
outcomes_of_all act s [] = []
outcomes_of_all act s (k ∷ keys) = (act k s).0 ∷ outcomes_of_all act (act k s).1 keys

-- The state before the first access, an access to a key, which keys are resident in a state, and what holds of each state
-- that the machine can be in.
pub record Machine : Type 1 where
  pub State : Type 0
  pub start : State
  pub access : ℕ → State → Outcome × State
  pub residents : State → List ℕ
  pub IsState : State → Type 0

-- the state after accesses to the keys, from the start
abbrev pub after : (m : Machine) → List ℕ → m.State
after m keys = state_after_all m.access m.start keys

-- their outcomes
abbrev pub outcomes : Machine → List ℕ → List Outcome
outcomes m keys = outcomes_of_all m.access m.start keys

-- Its states show what is counted of the outcomes so far.
pub record IsCounting (m : Machine) (stats : m.State → Stats) : Type 0 where
  pub starts : stats m.start ≡ stats_of []
  pub counts : (k : ℕ) (s : m.State) → stats (m.access k s).1 ≡ stats_with (m.access k s).0 (stats s)

-- An access to k, whose outcome is o, took the residents from old to new. It is a hit exactly where k is resident, and no
-- key came in but k.
pub record IsServed (k : ℕ) (old : List ℕ) (o : Outcome) (new : List ℕ) : Type 0 where
  pub hits : is_hit o ≡ has_key k old
  pub counts : length new + one_if (is_eviction o) ≡ length old + one_if (is_miss o)
  pub came : (x : ℕ) → has_key x new ≡ true → (x ≡ k) ⊎ (has_key x old ≡ true)

-- It keeps its residents: they are none at the start, each access serves its key, and they fit the capacity c, each once.
pub record KeepsKeys (c : ℕ) (m : Machine) : Type 0 where
  pub empty : m.residents m.start ≡ []
  pub starts : m.IsState m.start
  pub keeps : (k : ℕ) (s : m.State) → m.IsState s → m.IsState (m.access k s).1
  pub accesses : (k : ℕ) (s : m.State) → m.IsState s
      → IsServed k (m.residents s) (m.access k s).0 (m.residents (m.access k s).1)
  pub fits : (s : m.State) → m.IsState s → length (m.residents s) ≤ c
  pub distinct : (s : m.State) (k : ℕ) → m.IsState s → count_by (eqb k) (m.residents s) ≤ 1

-- After any accesses the residents are the misses minus the evictions.
abbrev pub CountsResidents : Machine → Type 0
CountsResidents m = (keys : List ℕ) →
    length (m.residents (after m keys)) + count_by is_eviction (outcomes m keys) ≡ count_by is_miss (outcomes m keys)

-- Accesses to the keys stopped in a state: some first ones of them are made, and the one behind these may ask for memory.
pub record StopsWithin {S : Type 0} (IsAfter : List ℕ → S → Type 0) (may_ask : S → ℕ → Type 0) (keys : List ℕ) (s : S) : Type 0 where
  pub made : List ℕ
  pub next : ℕ
  pub later : List ℕ
  pub split : keys ≡ made ++ next ∷ later
  pub stands : IsAfter made s
  pub asks : may_ask s next
