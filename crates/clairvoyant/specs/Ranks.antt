-- When a key of a trace is used next or was used last, as one number.
use Rattle.std.specs.Prelude.{ℕ, suc, ◌-◌, ◌*◌, nat_lt, cond, Option, Some, None, List, length, slice_index}
use Rattle.trace_index.specs.Uses.{next_from, last_below}

-- a place, or 0 for none
abbrev pub place_in : Option ℕ → ℕ
place_in None = 0
place_in (Some p) = p

-- the place of the last access to k, of those below i, or 0
abbrev pub last_before : List ℕ → ℕ → ℕ → ℕ
last_before t i k = place_in (last_below t i k)

-- the place of the last access to k, of those up to i
abbrev pub last_use : List ℕ → ℕ → ℕ → ℕ
last_use t i k = last_before t (suc i) k

-- A rank says when a key is used next, so that the key whose next use is farthest ranks least: past the trace's
-- length one that is used again, by that place from the end, and below it one that is not, by its last access.
abbrev pub rank_by : ℕ → Option ℕ → ℕ → ℕ
rank_by n None p = p
rank_by n (Some m) p = 2 * n - 1 - m

-- the rank of k once the accesses below i are made
abbrev pub rank : List ℕ → ℕ → ℕ → ℕ
rank t i k = rank_by (length t) (next_from t i k) (last_before t i k)

-- the key that a rank is of
abbrev pub key_at : List ℕ → ℕ → ℕ
key_at t q = cond (nat_lt q (length t)) (slice_index t q) (slice_index t (2 * length t - 1 - q))
