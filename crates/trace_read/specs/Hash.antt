-- Which blocks a sample has: those whose hash is below a limit.
use Rattle.std.specs.Prelude.{ℕ, ◌+◌, ◌*◌, ◌/◌, ◌^◌, Bool, nat_lt}
use Rattle.sketch.specs.Columns.{mix, wrap}

-- the hash of a block, another one for each seed (defined by this project)
abbrev pub block_hash : ℕ → ℕ → ℕ
block_hash seed block = mix (wrap (block + wrap ((seed + 1) * 0x9E3779B97F4A7C15)))

-- whether the sample has a block: on average it has one in `inverse`
abbrev pub is_sampled : ℕ → ℕ → ℕ → Bool
is_sampled inverse seed block = nat_lt (block_hash seed block) (2 ^ 64 / inverse)
