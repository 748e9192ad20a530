-- Keys that fit half the bytes.
use Rattle.std.specs.Prelude.{ℕ, ◌<◌, ◌^◌}

abbrev pub IsNarrow : ℕ → Type 0
IsNarrow k = k < 2 ^ 32
