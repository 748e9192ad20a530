-- A touch's record: what it is, when it fits a table, and what undoing it leaves.
use Rattle.std.specs.Prelude.{◌≡◌, ℕ, ◌-◌, ◌<◌, nat_lt, Bool, true, false, cond, [], ◌∷◌, slice_index_or, ◌||◌}
pub use Rattle.sketch.specs.declared.touch_record.TouchRecord.{TouchRecord}
use Rattle.sketch.specs.Sketch.{Table, counter_of, at_key}

-- the record of a touch, from the table before it: the key, and its rows whose counter has room to rise
abbrev pub touch_record_of : ℕ → Table → TouchRecord
touch_record_of key t =
    let rises = λ (row : ℕ). nat_lt (counter_of key t row) 15 in
    record { key = key; rose = record { row_0 = rises 0; row_1 = rises 1; row_2 = rises 2; row_3 = rises 3 } }

-- whether the counter in a row rose
abbrev pub rose : TouchRecord → ℕ → Bool
rose r row = slice_index_or (r.rose.row_0 ∷ r.rose.row_1 ∷ r.rose.row_2 ∷ r.rose.row_3 ∷ []) row false

-- whether a counter rose
abbrev pub has_risen : TouchRecord → Bool
has_risen r = r.rose.row_0 || r.rose.row_1 || r.rose.row_2 || r.rose.row_3

-- the counters that rose fall by 1, and no other
abbrev pub table_before_touch : TouchRecord → Table → Table
table_before_touch r t = at_key r.key (λ row x. cond (rose r row) (x - 1) x) t

-- the counters that rose are above 0, and the key's others are 15
pub record FitsTouch (r : TouchRecord) (t : Table) : Type 0 where
  pub raised : (row : ℕ) → row < 4 → rose r row ≡ true → 0 < counter_of r.key t row
  pub full : (row : ℕ) → row < 4 → rose r row ≡ false → counter_of r.key t row ≡ 15
