-- The numbers of keys.
use Rattle.std.specs.Prelude.{ℕ, List, Option, Some, None}
use Rattle.std.specs.BTreeMap.{BTreeMap, get}
use Rattle.std.specs.Ordering.{nat_cmp}
use Rattle.trace_index.specs.KeyCells.{number_or, number_among}
use Rattle.trace_index.specs.declared.key_numbers.KeyNumbers.{KeyNumbers}

-- the number kept in the tree, or 0
abbrev pub number_in : Option ℕ → ℕ
number_in None = 0
number_in (Some n) = n

-- the number of k: the table's, where it has one for k, else the tree's
abbrev pub number_in_both : List ℕ × List ℕ → BTreeMap ℕ ℕ → ℕ → ℕ
number_in_both cells rest k = number_or (number_among cells k) (number_in (get nat_cmp rest k))

abbrev pub number_of_any : KeyNumbers → ℕ → ℕ
number_of_any n = number_in_both n.cells n.rest
