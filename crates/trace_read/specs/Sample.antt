-- A sample of accesses: all accesses to some blocks.
use Rattle.std.specs.Prelude.{◌==◌, ℕ, List, take}
use Rattle.std.specs.List.{filter}
use Rattle.std.specs.Set.{distinct_count}
use Rattle.trace_read.specs.Hash.{is_sampled}

-- the accesses to the blocks that a sample has, in order
abbrev pub sample_of : ℕ → ℕ → List ℕ → List ℕ
sample_of inverse seed keys = filter (is_sampled inverse seed) keys

-- of the first so many accesses
abbrev pub sample_up_to : ℕ → ℕ → ℕ → List ℕ → List ℕ
sample_up_to inverse seed count keys = sample_of inverse seed (take count keys)

-- how many blocks these accesses are to
abbrev pub block_count : List ℕ → ℕ
block_count keys = distinct_count (λ a b. a == b) keys
