-- The residents as the set of their ranks.
use Rattle.std.specs.Prelude.{◌≡◌, ℕ, ◌*◌, ◌<◌, Bool, eqb, ◌&&◌, List, length}
use Rattle.clairvoyant.specs.Bits.{is_in_set}
use Rattle.engine_base.specs.Keys.{has_key}
use Rattle.clairvoyant.specs.Ranks.{rank, key_at}

-- q is the rank of one of the keys r, once the accesses below place i are made
abbrev pub is_ranked : List ℕ → ℕ → List ℕ → ℕ → Bool
is_ranked t i r q = has_key (key_at t q) r && eqb (rank t i (key_at t q)) q

-- the numbers held are the ranks of the keys r
pub record IsTied (t : List ℕ) (i : ℕ) (r : List ℕ) (h : List Bool) : Type 0 where
  pub size : length h ≡ 2 * length t
  pub ranks : (q : ℕ) → q < 2 * length t → is_in_set h q ≡ is_ranked t i r q
