-- CAR, "clock with adaptive replacement" (Bansal and Modha, FAST 2004, figure 2), in whole numbers. A new key joins t1,
-- and one that a ghost remembers t2; a hit sets its key's bit. In a full cache the oldest of t1 leaves for the ghost b1
-- where t1 has p keys or more, else the oldest of t2 for b2; one whose bit is set goes to the recent end of t2 in place
-- of that, with its bit cleared, and so on until a key left. p grows where a key of b1 comes again, and shrinks for one
-- of b2. A bit is a count of 0 or 1.
use Rattle.std.specs.Prelude.{◌≡◌, ℕ, zero, suc, ◌+◌, ◌-◌, ◌*◌, ◌/◌, ◌≤◌, min, max, nat_lt, eqb, ◌==◌, Bool}
use Rattle.std.specs.Prelude.{if◌then◌else◌, List, [], ◌∷◌, ◌++◌, length, drop}
use Rattle.engine_base.specs.Keys.{has_key, keys_without}
pub use Rattle.engine_base.specs.declared.outcome.Outcome.{Outcome}
use Rattle.engine_base.specs.declared.outcome.Outcome.TheVariants.{Hit, Kept, Evicted}
use Rattle.policy_pages.specs.Residents.{times}
use Rattle.policy_pages.specs.CountedKeys.{CountedKey, uncounted_key, counted_less, keys_of, with_count}
use Rattle.policy_pages.specs.CountedKeys.{AreCounted, total_count, oldest_count}
use Rattle.policy_pages.specs.Turns.{after_turn}

-- the queues, oldest first
pub record CarState : Type 0 where
  pub t1 : List CountedKey
  pub t2 : List CountedKey
  pub b1 : List ℕ
  pub b2 : List ℕ
  pub p : ℕ

abbrev pub empty_car : CarState
empty_car = record { t1 = []; t2 = []; b1 = []; b2 = []; p = 0 }

abbrev pub car_residents : CarState → List ℕ
car_residents s = keys_of (s.t1 ++ s.t2)

-- how many keys are resident or remembered
abbrev pub car_total : CarState → ℕ
car_total s = length s.t1 + length s.t2 + length s.b1 + length s.b2

-- ---- the paper's replace(): moves, again and again, until a key leaves

-- t2 gives up a key, and not t1
abbrev pub t2_gives : CarState → Bool
t2_gives s = nat_lt (length s.t1) (max 1 s.p)

-- the oldest key of t1 goes to t2, with its bit cleared
abbrev pub after_promotion : List CountedKey → CarState → CarState
after_promotion [] s = s
after_promotion (e ∷ t1) s = record s { t1 = t1; t2 = s.t2 ++ counted_less e ∷ [] }

abbrev pub after_move : CarState → CarState
after_move s = if t2_gives s then record s { t2 = after_turn s.t2 } else after_promotion s.t1 s

-- no move is left: the bit of the oldest key is clear
abbrev pub is_settled : CarState → Bool
is_settled s = eqb (if t2_gives s then oldest_count s.t2 else oldest_count s.t1) 0

abbrev pub t1_eviction : List CountedKey → CarState → Outcome × CarState
t1_eviction [] s = (Kept, record s { t1 = [] })
t1_eviction (e ∷ t1) s = (Evicted e.key, record s { t1 = t1; b1 = s.b1 ++ e.key ∷ [] })

abbrev pub t2_eviction : List CountedKey → CarState → Outcome × CarState
t2_eviction [] s = (Kept, record s { t2 = [] })
t2_eviction (e ∷ t2) s = (Evicted e.key, record s { t2 = t2; b2 = s.b2 ++ e.key ∷ [] })

abbrev pub car_departure : CarState → Outcome × CarState
car_departure s = if t2_gives s then t2_eviction s.t2 s else t1_eviction s.t1 s

-- at most n moves, and then a key leaves
abbrev pub car_eviction_within : ℕ → CarState → Outcome × CarState
car_eviction_within zero s = car_departure s
car_eviction_within (suc n) s = if is_settled s then car_departure s else car_eviction_within n (after_move s)

-- there are no more moves than this: each clears a bit
abbrev pub most_moves : CarState → ℕ
most_moves s = total_count s.t1 + total_count s.t2

abbrev pub car_eviction : CarState → Outcome × CarState
car_eviction s = car_eviction_within (most_moves s) s

-- ---- a miss

-- the ghost that remembers the missed key
pub data CarGhost : Type 0 where
  NoGhost : CarGhost
  InB1 : CarGhost
  InB2 : CarGhost

abbrev pub car_ghost : ℕ → CarState → CarGhost
car_ghost k s = if has_key k s.b1 then InB1 else if has_key k s.b2 then InB2 else NoGhost

-- For a key that no ghost remembers, b1 forgets its oldest where t1 and b1 have c keys, and else b2 where all have 2 c.
abbrev pub after_history : ℕ → CarGhost → CarState → CarState
after_history c NoGhost s =
    if length s.t1 + length s.b1 == c
    then record s { b1 = drop 1 s.b1 }
    else if car_total s == 2 * c then record s { b2 = drop 1 s.b2 } else s
after_history c InB1 s = s
after_history c InB2 s = s

-- room for the key is made
abbrev pub car_room : ℕ → CarGhost → CarState → Outcome × CarState
car_room c g s =
    if nat_lt (length (car_residents s)) c
    then (Kept, s)
    else ((car_eviction s).0, after_history c g (car_eviction s).1)

-- the key leaves its ghost for t2, and p is the given one
abbrev pub after_recall : ℕ → ℕ → CarState → CarState
after_recall p k s = record {
  t1 = s.t1;
  t2 = s.t2 ++ uncounted_key k ∷ [];
  b1 = keys_without k s.b1;
  b2 = keys_without k s.b2;
  p = p;
}

-- a key that no ghost remembers joins t1; for one of b1 p goes up by b2 / b1, at least one, and for one of b2 down by
-- b1 / b2
abbrev pub after_join : ℕ → ℕ → CarGhost → CarState → CarState
after_join c k NoGhost s = record s { t1 = s.t1 ++ uncounted_key k ∷ [] }
after_join c k InB1 s = after_recall (min c (s.p + max 1 (length s.b2 / length s.b1))) k s
after_join c k InB2 s = after_recall (s.p - max 1 (length s.b1 / length s.b2)) k s

-- ---- an access

-- to k at capacity c: its outcome, and the state after it
abbrev pub car_act : ℕ → ℕ → CarState → Outcome × CarState
car_act c k s =
    if has_key k (car_residents s)
    then (Hit, record s { t1 = with_count k 1 s.t1; t2 = with_count k 1 s.t2 })
    else ((car_room c (car_ghost k s) s).0, after_join c k (car_ghost k s) (car_room c (car_ghost k s) s).1)

-- ---- a state of a cache of capacity c

-- A ghost has a key only where the cache is full.
pub record IsCar (c : ℕ) (s : CarState) : Type 0 where
  pub fits : length s.t1 + length s.t2 ≤ c
  -- the paper's L1
  pub l1_fits : length s.t1 + length s.b1 ≤ c
  pub all_fit : car_total s ≤ 2 * c
  pub full : 1 ≤ length s.b1 + length s.b2 → length s.t1 + length s.t2 ≡ c
  pub p_fits : s.p ≤ c
  pub bits : AreCounted 1 s.t1 × AreCounted 1 s.t2
  pub distinct : (x : ℕ) → times x (keys_of s.t1) + times x (keys_of s.t2) + times x s.b1 + times x s.b2 ≤ 1
