-- S3-FIFO (Yang and others, SOSP 2023): a new key joins the small queue, or the main queue where the ghost remembers
-- it. Hits are counted up to 3. In a full cache, where main is over its size or the small queue is empty, the oldest of
-- main goes to its recent end with its count less 1, or leaves where that is 0. Else the oldest of the small queue goes
-- to main where its count is 2 or 3, or leaves for the ghost. This goes on until a key left.
use Rattle.std.specs.Prelude.{ℕ, zero, suc, ◌+◌, ◌-◌, ◌≤◌, nat_lt, eqb, Bool, true, false, if◌then◌else◌}
use Rattle.std.specs.Prelude.{List, [], ◌∷◌, ◌++◌, length}
use Rattle.engine_base.specs.Keys.{has_key, keys_without}
pub use Rattle.engine_base.specs.declared.outcome.Outcome.{Outcome}
use Rattle.engine_base.specs.declared.outcome.Outcome.TheVariants as outcome
use Rattle.policy_pages.specs.Residents.{times, AreResidents}
use Rattle.policy_pages.specs.Queues.{is_empty}
use Rattle.policy_pages.specs.CountedKeys.{CountedKey, uncounted_key, keys_of, count_of, with_count}
use Rattle.policy_pages.specs.CountedKeys.{AreCounted, total_count, oldest_count}
use Rattle.policy_pages.specs.Turns.{after_turn}
use Rattle.policy_pages.specs.Ghost.{ghost_with}

pub record S3FifoState : Type 0 where
  pub small : List CountedKey
  pub main : List CountedKey
  pub ghost : List ℕ

abbrev pub empty_s3_fifo : S3FifoState
empty_s3_fifo = record { small = []; main = []; ghost = [] }

abbrev pub s3_fifo_residents : S3FifoState → List ℕ
s3_fifo_residents s = keys_of (s.small ++ s.main)

-- The small queue is to have `part` keys of the capacity c, and main the others; the ghost remembers as many as main has.
-- (The paper's part is a tenth.)
abbrev pub s3_fifo_main_size : ℕ → ℕ → ℕ
s3_fifo_main_size part c = c - part

-- ---- an eviction: moves, again and again, until a key leaves; m is the size that main is to have

-- main gives up a key, and not the small queue
abbrev pub main_gives : ℕ → S3FifoState → Bool
main_gives m s = if is_empty s.small then true else nat_lt m (length s.main)

-- the oldest key of the small queue goes to main's recent end
abbrev pub after_promotion : List CountedKey → List CountedKey → List ℕ → S3FifoState
after_promotion [] main ghost = record { small = []; main = main; ghost = ghost }
after_promotion (e ∷ small) main ghost = record { small = small; main = main ++ e ∷ []; ghost = ghost }

-- where main gives up a key, its oldest turns, and else the oldest of the small queue is promoted
abbrev pub after_move : ℕ → S3FifoState → S3FifoState
after_move m s =
    if main_gives m s
    then record { small = s.small; main = after_turn s.main; ghost = s.ghost }
    else after_promotion s.small s.main s.ghost

-- no move is left: the oldest key of main has no count, or that of the small queue has less than 2
abbrev pub is_settled : ℕ → S3FifoState → Bool
is_settled m s = if main_gives m s then eqb (oldest_count s.main) 0 else nat_lt (oldest_count s.small) 2

-- the oldest key of main leaves
abbrev pub main_eviction : List CountedKey → List CountedKey → List ℕ → Outcome × S3FifoState
main_eviction small [] ghost = (outcome.Kept, record { small = small; main = []; ghost = ghost })
main_eviction small (e ∷ main) ghost =
    (outcome.Evicted e.key, record { small = small; main = main; ghost = ghost })

-- the oldest key of the small queue leaves for the ghost
abbrev pub small_eviction : ℕ → List CountedKey → List CountedKey → List ℕ → Outcome × S3FifoState
small_eviction m [] main ghost = (outcome.Kept, record { small = []; main = main; ghost = ghost })
small_eviction m (e ∷ small) main ghost =
    (outcome.Evicted e.key, record { small = small; main = main; ghost = ghost_with m e.key ghost })

abbrev pub s3_fifo_departure : ℕ → S3FifoState → Outcome × S3FifoState
s3_fifo_departure m s =
    if main_gives m s
    then main_eviction s.small s.main s.ghost
    else small_eviction m s.small s.main s.ghost

-- at most n moves, and then a key leaves
abbrev pub s3_fifo_eviction_within : ℕ → ℕ → S3FifoState → Outcome × S3FifoState
s3_fifo_eviction_within zero m s = s3_fifo_departure m s
s3_fifo_eviction_within (suc n) m s =
    if is_settled m s then s3_fifo_departure m s else s3_fifo_eviction_within n m (after_move m s)

-- there are no more moves than this: each takes 1 from a count, or a key from the small queue
abbrev pub most_moves : S3FifoState → ℕ
most_moves s = total_count s.small + total_count s.main + length s.small

-- ---- an access

-- room for a key is made
abbrev pub s3_fifo_room : ℕ → ℕ → S3FifoState → Outcome × S3FifoState
s3_fifo_room part c s =
    if nat_lt (length (s3_fifo_residents s)) c
    then (outcome.Kept, s)
    else s3_fifo_eviction_within (most_moves s) (s3_fifo_main_size part c) s

abbrev pub without_ghost_key : ℕ → S3FifoState → S3FifoState
without_ghost_key k s = record { small = s.small; main = s.main; ghost = keys_without k s.ghost }

-- the key joins main where the ghost remembered it, else the small queue
abbrev pub s3_fifo_with_key : Bool → ℕ → S3FifoState → S3FifoState
s3_fifo_with_key false k s =
    record { small = s.small ++ uncounted_key k ∷ []; main = s.main; ghost = s.ghost }
s3_fifo_with_key true k s =
    record { small = s.small; main = s.main ++ uncounted_key k ∷ []; ghost = s.ghost }

-- one hit more, up to 3
abbrev pub hit_count : ℕ → ℕ
hit_count n = if nat_lt n 3 then n + 1 else 3

abbrev pub s3_fifo_with_count : ℕ → ℕ → S3FifoState → S3FifoState
s3_fifo_with_count k n s =
    record { small = with_count k n s.small; main = with_count k n s.main; ghost = s.ghost }

-- an access to k at capacity c, of which the small queue is to have `part`: its outcome, and the state after it
abbrev pub s3_fifo_act : ℕ → ℕ → ℕ → S3FifoState → Outcome × S3FifoState
s3_fifo_act part c k s =
    if has_key k (s3_fifo_residents s)
    then (outcome.Hit, s3_fifo_with_count k (hit_count (count_of k (s.small ++ s.main))) s)
    else (
      (s3_fifo_room part c (without_ghost_key k s)).0,
      s3_fifo_with_key (has_key k s.ghost) k (s3_fifo_room part c (without_ghost_key k s)).1,
    )

-- ---- what holds of it

-- a state of a cache of capacity c: a key is resident or in the ghost, and once
pub record IsS3Fifo (part c : ℕ) (s : S3FifoState) : Type 0 where
  pub residents : AreResidents c (s3_fifo_residents s)
  pub counts : AreCounted 3 (s.small ++ s.main)
  pub ghost_fits : length s.ghost ≤ s3_fifo_main_size part c
  pub apart : (k : ℕ) → times k s.ghost + times k (s3_fifo_residents s) ≤ 1
