-- A Fenwick tree: counts by place, as sums over stretches of them.
use Rattle.std.specs.Prelude.{◌≡◌, ℕ, ◌+◌, ◌<◌, ◌≤◌, List, length, slice_index, bit_and}

-- the stretch that ends with the place j begins here
abbrev pub start_of : ℕ → ℕ
start_of j = bit_and j (j + 1)

-- of counts of which `total n` are below the place n, the sum over the stretch that ends at each place
pub record IsFenwickTree (total : ℕ → ℕ) (sums : List ℕ) : Type 0 where
  pub none : total 0 ≡ 0
  pub grows : (m n : ℕ) → m ≤ n → total m ≤ total n
  pub summed : (j : ℕ) → j < length sums → total (start_of j) + slice_index sums j ≡ total (j + 1)
