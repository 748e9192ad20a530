-- How large a part of a cache is whose size is a choice.
use Rattle.std.specs.Prelude.{ℕ, ◌*◌, ◌/◌, max}

-- a part of so many percent of the capacity c
abbrev pub part_size : ℕ → ℕ → ℕ
part_size percent c = max 1 (c * percent / 100)
