-- A halving's record: what it is, when it fits a table, and what undoing it leaves. It keeps a bit for each counter;
-- the bits of 64 counters fill a word, where those of each sixteen stand four places apart (defined by this project).
use Rattle.std.specs.Prelude.{◌≡◌, ℕ, ◌+◌, ◌*◌, ◌/◌, ◌%◌, ◌<◌, ◌≤◌, false, cond, ◌==◌, length, slice_index}
use Rattle.std.specs.Prelude.{slice_index_or}
use Rattle.engine_base.specs.Places.{by_place}
pub use Rattle.sketch.specs.declared.halve_record.HalveRecord.{HalveRecord}
use Rattle.sketch.specs.Sketch.{Table, changed}

-- the counter whose lost bit is bit p
abbrev pub counter_kept : ℕ → ℕ
counter_kept p = 64 * (p / 64) + 16 * (p % 4) + p % 64 / 4

-- the bit that counter i lost
abbrev pub kept_at : ℕ → ℕ
kept_at i = 64 * (i / 64) + 4 * (i % 16) + i / 16 % 4

-- the record of a halving, from the table before it: a bit is set for each odd counter
abbrev pub halve_record_of : Table → HalveRecord
halve_record_of t = record { lost = by_place (4 * t.width) (λ p. slice_index t.counters (counter_kept p) % 2 == 1) }

-- what counter i lost
abbrev pub lost_by : HalveRecord → ℕ → ℕ
lost_by r i = cond (slice_index_or r.lost (kept_at i) false) 1 0

-- each counter is doubled, and what it lost is added
abbrev pub table_before_halving : HalveRecord → Table → Table
table_before_halving r t = changed t (λ i x. 2 * x + lost_by r i)

-- there is a bit for each counter, and no counter is over 7
pub record FitsHalve (r : HalveRecord) (t : Table) : Type 0 where
  pub whole : length r.lost ≡ 4 * t.width
  pub low : (i : ℕ) → i < 4 * t.width → slice_index t.counters i ≤ 7
