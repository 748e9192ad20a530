-- 2Q, the full version (Johnson and Shasha, VLDB 1994): a new key joins a1in, a first-in first-out queue. A key that
-- leaves it is remembered in a1out, and joins am, which is in order of last access, when it comes again.
use Rattle.std.specs.Prelude.{Bool, true, false, ℕ, ◌+◌, ◌≤◌, nat_lt, ◌==◌, ◌||◌, if◌then◌else◌}
use Rattle.std.specs.Prelude.{List, [], ◌∷◌, ◌++◌, length, drop}
use Rattle.engine_base.specs.Keys.{has_key, keys_without}
use Rattle.engine_base.specs.declared.outcome.Outcome.TheVariants.{Hit, Kept, Evicted}
use Rattle.policy_pages.specs.Residents.{Outcome, times}
use Rattle.policy_pages.specs.Ghost.{ghost_with}
pub use Rattle.policy_pages.specs.declared.two_q.TwoQSizes.{TwoQSizes}

-- the queues, oldest first
pub record TwoQState : Type 0 where
  pub a1in : List ℕ
  pub a1out : List ℕ
  pub am : List ℕ

abbrev pub empty_two_q : TwoQState
empty_two_q = record { a1in = []; a1out = []; am = [] }

abbrev pub two_q_residents : TwoQState → List ℕ
two_q_residents s = s.a1in ++ s.am

-- a1in is to have z.kin keys, and a1out remembers z.kout (the paper: a quarter of the capacity, and half of it)

-- ---- which key leaves

pub data TwoQLeaver : Type 0 where
  -- there was room
  NoLeaver : TwoQLeaver
  -- the oldest of a1in, which a1out remembers
  FromA1in : ℕ → TwoQLeaver
  -- the oldest of am
  FromAm : ℕ → TwoQLeaver

abbrev pub leaver_of_a1in : List ℕ → TwoQLeaver
leaver_of_a1in [] = NoLeaver
leaver_of_a1in (v ∷ queue) = FromA1in v

abbrev pub leaver_of_am : List ℕ → TwoQLeaver
leaver_of_am [] = NoLeaver
leaver_of_am (v ∷ queue) = FromAm v

-- In a full cache the oldest of a1in leaves where that is over its size or am is empty, else the oldest of am.
abbrev pub two_q_leaver : TwoQSizes → ℕ → TwoQState → TwoQLeaver
two_q_leaver z c s =
    if nat_lt (length (two_q_residents s)) c
    then NoLeaver
    else if nat_lt z.kin (length s.a1in) || length s.am == 0 then leaver_of_a1in s.a1in else leaver_of_am s.am

-- ---- an access

abbrev pub two_q_after_renewal : ℕ → TwoQState → TwoQState
two_q_after_renewal k s = record s { am = keys_without k s.am ++ k ∷ [] }

-- the key is no longer remembered
abbrev pub two_q_after_recall : ℕ → TwoQState → TwoQState
two_q_after_recall k s = record s { a1out = keys_without k s.a1out }

-- a key that leaves a1in is remembered
abbrev pub two_q_after_eviction : TwoQSizes → TwoQLeaver → TwoQState → TwoQState
two_q_after_eviction z NoLeaver s = s
two_q_after_eviction z (FromA1in v) s =
    record { a1in = drop 1 s.a1in; a1out = ghost_with z.kout v s.a1out; am = s.am }
two_q_after_eviction z (FromAm v) s = record s { am = drop 1 s.am }

-- the key joins am where it was remembered, else a1in
abbrev pub two_q_after_join : Bool → ℕ → TwoQState → TwoQState
two_q_after_join false k s = record s { a1in = s.a1in ++ k ∷ [] }
two_q_after_join true k s = record s { am = s.am ++ k ∷ [] }

abbrev pub two_q_after_miss : TwoQSizes → ℕ → ℕ → TwoQState → TwoQState
two_q_after_miss z c k s =
    two_q_after_join (has_key k s.a1out) k (two_q_after_eviction z (two_q_leaver z c s) (two_q_after_recall k s))

abbrev pub two_q_outcome : TwoQLeaver → Outcome
two_q_outcome NoLeaver = Kept
two_q_outcome (FromA1in v) = Evicted v
two_q_outcome (FromAm v) = Evicted v

-- an access to k at capacity c with the sizes z: its outcome, and the state after it
abbrev pub two_q_act : TwoQSizes → ℕ → ℕ → TwoQState → Outcome × TwoQState
two_q_act z c k s =
    if has_key k s.am
    then (Hit, two_q_after_renewal k s)
    else if has_key k s.a1in then (Hit, s) else (two_q_outcome (two_q_leaver z c s), two_q_after_miss z c k s)

-- ---- a state of a cache of capacity c

pub record IsTwoQ (z : TwoQSizes) (c : ℕ) (s : TwoQState) : Type 0 where
  pub fits : length s.a1in + length s.am ≤ c
  pub few : length s.a1out ≤ z.kout
  pub distinct : (x : ℕ) → times x s.a1in + times x s.a1out + times x s.am ≤ 1
