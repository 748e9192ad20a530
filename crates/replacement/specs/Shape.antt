-- How large the tables of a configuration's frequency are.
use Rattle.std.specs.Prelude.{ℕ, zero, suc, ◌*◌, max, nat_le, if◌then◌else◌}
pub use Rattle.engine_base.specs.declared.config.Config.{Config}
use Rattle.admission.specs.Shape.{Shape}

-- p, doubled until it is at least n, but only so many times
abbrev pub doubled : ℕ → ℕ → ℕ → ℕ
doubled zero p n = p
doubled (suc times) p n = if nat_le n p then p else doubled times (2 * p) n

-- the least power of two that is at least n
unfoldable pub least_power : ℕ → ℕ
least_power n = doubled n 1 n

-- without a doorkeeper, and with so many columns for each entry
abbrev pub open_shape_of : ℕ → Config → Shape
open_shape_of columns c = record {
  capacity = c.capacity;
  spread = c.spread;
  width = columns * least_power (max 16 c.capacity);
  size = 0;
}

-- the least powers of two for 16 columns and 64 bits at least, and a column and eight bits for each item
abbrev pub shape_of : Config → Shape
shape_of c = record {
  capacity = c.capacity;
  spread = c.spread;
  width = least_power (max 16 c.capacity);
  size = least_power (max 64 (8 * c.capacity));
}
