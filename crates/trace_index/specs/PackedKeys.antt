-- The keys that a packed list stands for.
use Rattle.std.specs.Prelude.{ℕ, List}
use Rattle.trace_index.specs.declared.packed_keys.PackedKeys.{PackedKeys}
use Rattle.trace_index.specs.declared.packed_keys.PackedKeys.TheVariants.{Short, Long}

-- the keys, whichever number of bytes each takes
abbrev pub unpacked : PackedKeys → List ℕ
unpacked (Short keys) = keys.items
unpacked (Long keys) = keys.items
