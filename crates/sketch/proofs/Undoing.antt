-- What undoes a touch and a halving, over any table.
use Rattle.std.proofs.Common.{◌≡◌, ◌≢◌, ℕ, suc, zero, ◌+◌, ◌*◌, ◌/◌, ◌%◌, ◌<◌, ◌≤◌, min, Bool, false, cond, eqb, List, get_or, ap, ◌∙◌, refl, subst, arith}
use Rattle.std.proofs.lemmas.Bool.Decides.{nat_tests}
use Rattle.sketch.specs.declared.halve_record.HalveRecord.{HalveRecord}
use Rattle.sketch.specs.Sketch.{Table, counter_of, touched_table, halved_table, least_counter, IsTable}
use Rattle.sketch.specs.Columns.{column}
use Rattle.sketch.specs.TouchRecord.{TouchRecord, touch_record_of, table_before_touch, FitsTouch}
use Rattle.sketch.specs.HalveRecord.{counter_kept, kept_at, halve_record_of, table_before_halving, FitsHalve}
use Rattle.engine_base.proofs.Places.{length-by_place, get_or-by_place, by_place_same, by_place_whole}
use Rattle.sketch.proofs.RowLists.{small_by_place}
use Rattle.sketch.proofs.Tables as tables

one_of : (b : Bool) (x : ℕ) → x ≤ 15 → cond b (min 15 (x + 1)) x ≤ 15
one_of v x h = grind (arith, nat_tests)

-- a number from its half and its lowest bit
twice_and : (x : ℕ) → 2 * (x / 2) + cond (eqb (x % 2) 1) 1 0 ≡ x
twice_and x =
    grind (arith, nat_tests, two_of)
  where
    two_of : (v : ℕ) → v < 2 → v ≢ 1 → v ≡ 0
    two_of zero h n = refl
    two_of (suc zero) h n = absurd (n refl)
    two_of (suc (suc v)) h n = absurd (omega arith)

module _ (t : Table) (is : IsTable t) where
  rebuilt : tables.table t.width t.spread is.some (λ i. get_or t.counters i 0) ≡ t
  rebuilt = ap (λ (cs : List ℕ). let u : Table = record { width = t.width; spread = t.spread; counters = cs } in u) (by_place_whole t.counters (4 * t.width) 0 is.whole)

  pub touch_undone : (key : ℕ) → table_before_touch (touch_record_of key t) (touched_table key t) ≡ t
  touch_undone key =
      let P : Table → Type 0 = λ u. table_before_touch (touch_record_of key u) (touched_table key u) ≡ u in
      subst P rebuilt (tables.touch_undone t.width t.spread is.some key (λ i. get_or t.counters i 0) is.small)

  pub touch_fits : (key : ℕ) → FitsTouch (touch_record_of key t) (touched_table key t)
  touch_fits key =
      let P : Table → Type 0 = λ u. FitsTouch (touch_record_of key u) (touched_table key u) in
      subst P rebuilt (tables.touch_fits t.width t.spread is.some key (λ i. get_or t.counters i 0))

  pub halve_undone : table_before_halving (halve_record_of t) (halved_table t) ≡ t
  halve_undone =
      ap (λ (cs : List ℕ). let u : Table = record { width = t.width; spread = t.spread; counters = cs } in u)
      (by_place_same (4 * t.width) _ (λ i. get_or t.counters i 0) 0 (λ i h.
      let even = is.words in
      let back : counter_kept (kept_at i) ≡ i = omega arith in
      let bit = get_or-by_place (4 * t.width) (λ p. eqb (get_or t.counters (counter_kept p) 0 % 2) 1) (kept_at i) false (omega (arith, even)) in
      rw (get_or-by_place (4 * t.width) (λ i. get_or t.counters i 0 / 2) i 0 h, bit, back) (twice_and (get_or t.counters i 0))))
      ∙ rebuilt

  pub halve_fits : FitsHalve (halve_record_of t) (halved_table t)
  halve_fits = grind (arith, nat_tests, length-by_place, get_or-by_place)

  -- the same of a record and a table that are known by equations
  pub untouched_is : (key : ℕ) (r : TouchRecord) (u : Table) → r ≡ touch_record_of key t → u ≡ touched_table key t → table_before_touch r u ≡ t
  untouched_is key r u e f = rw (e, f) (touch_undone key)

  pub unhalved_is : (r : HalveRecord) (u : Table) → r ≡ halve_record_of t → u ≡ halved_table t → table_before_halving r u ≡ t
  unhalved_is r u e f = rw (e, f) halve_undone

  pub least_small : (key : ℕ) → least_counter key t ≤ 15
  least_small key = let first : counter_of key t 0 ≤ 15 = is.small (0 * t.width + column t.spread key 0 t.width) in omega (arith, first)

  -- what a touch or a halving leaves is a table again
  pub touched_is : (key : ℕ) → IsTable (touched_table key t)
  touched_is key = grind (arith, nat_tests, length-by_place, small_by_place, one_of)

  pub halved_is : IsTable (halved_table t)
  halved_is = grind (arith, nat_tests, length-by_place, small_by_place)
