-- Where the accesses of a lump stand.
use Rattle.std.specs.Int.{div_ceil}
use Rattle.std.specs.Prelude.{◌≡◌, ℕ, ◌+◌, ◌<◌, Bool, true, false, List, length, max, take, drop}

-- these keys stand at a place of all that is fed, and nothing follows them where they are its end
pub record AreAt (all : List ℕ) (place : ℕ) (is_end : Bool) (keys : List ℕ) : Type 0 where
  pub piece : keys ≡ take (length keys) (drop place all)
  pub at_end : is_end ≡ true → keys ≡ drop place all
  pub before_end : is_end ≡ false → 0 < length keys → place + length keys < length all

-- how many batches of this size so many accesses make: the last may be shorter, and no accesses make one empty batch
abbrev pub batches_of : ℕ → ℕ → ℕ
batches_of accesses size = max (div_ceil accesses size) 1
