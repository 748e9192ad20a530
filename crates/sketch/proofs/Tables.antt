-- A table whose counters are given place by place.
use Rattle.std.proofs.Common.{◌≡◌, ℕ, ◌+◌, ◌-◌, ◌*◌, ◌/◌, ◌%◌, ◌<◌, ◌≤◌, min, true, false, cond, eqb, nat_lt, ◌&&◌, List, get_or, refl, ap, ◌∙◌, sym, arith}
use Rattle.std.proofs.lemmas.Nat.{div-mul-add, mod-mul-add, div_below}
use Rattle.std.proofs.lemmas.Bool.{eq-eqb, ltb-false}
use Rattle.std.proofs.lemmas.Bool.Decides.{nat_tests}
use Rattle.sketch.specs.declared.touch_record.RaisedRows.{RaisedRows}
use Rattle.sketch.specs.Columns.{Spread, column, column_below}
use Rattle.engine_base.specs.Places.{by_place}
use Rattle.sketch.specs.Sketch.{Table, counter_of, is_of, at_key, touched_table, least_counter}
use Rattle.sketch.specs.TouchRecord.{TouchRecord, touch_record_of, rose, table_before_touch, FitsTouch}
use Rattle.engine_base.proofs.Places.{get_or-by_place, by_place_same}

-- the least of two counters that rise is the least of the two, risen
up_min : (a b : ℕ) → min (min 15 (a + 1)) (min 15 (b + 1)) ≡ min 15 (min a b + 1)
up_min a b = omega arith

module _ (w : ℕ) (s : Spread) (some : 0 < w) where
  abbrev pub table : (ℕ → ℕ) → Table
  table f = record { width = w; spread = s; counters = by_place (4 * w) f }

  pub in_rows : (i : ℕ) → i < 4 * w → nat_lt (i / w) 4 ≡ true
  in_rows i h = let d : i / w < 4 = div_below i w 4 some h in grind (arith, nat_tests)

  pub place_within : (key row : ℕ) → row < 4 → row * w + column s key row w < 4 * w
  place_within key row h = let c : column s key row w < w = column_below s key row w some in let m : row * w ≤ 3 * w = grind arith in omega arith

  pub own_is : (key row : ℕ) → is_of s w key (row * w + column s key row w) ≡ true
  own_is key row =
      let c : column s key row w < w = column_below s key row w some in
      let b : eqb (column s key row w) (column s key row w) ≡ true = eq-eqb _ _ refl in
      rw (div-mul-add row w (column s key row w) c, mod-mul-add row w (column s key row w) c, b) refl

  -- a key's columns in a list
  module _ (key : ℕ) (cs : List ℕ) (are : cs ≡ by_place 4 (λ row. column s key row w)) where
    pub column_is : (row : ℕ) → row < 4 → get_or cs row 0 ≡ column s key row w
    column_is row h = rw are (get_or-by_place 4 (λ row. column s key row w) row 0 h)

    pub columns_below : (row : ℕ) → row < 4 → get_or cs row 0 < w
    columns_below row h = rw (column_is row h) (column_below s key row w some)

    pub own_column : (i : ℕ) → (nat_lt (i / w) 4 && eqb (get_or cs (i / w) 0) (i % w)) ≡ (nat_lt (i / w) 4 && is_of s w key i)
    own_column i = grind (arith, nat_tests, column_is)

  -- a change of a key's counters, and one that takes it back
  module _ (key : ℕ) (g : ℕ → ℕ → ℕ) (f : ℕ → ℕ) where
    pub keyed : (f' : ℕ → ℕ) → ((i : ℕ) → f' i ≡ cond (nat_lt (i / w) 4 && is_of s w key i) (g (i / w) (f i)) (f i)) → table f' ≡ at_key key g (table f)
    keyed f' after = grind (arith, nat_tests, by_place_same, get_or-by_place, in_rows)

    changed_at : (i : ℕ) → i < 4 * w → get_or (at_key key g (table f)).counters i 0 ≡ cond (is_of s w key i) (g (i / w) (f i)) (f i)
    changed_at i h = get_or-by_place (4 * w) (λ i. cond (is_of s w key i) (g (i / w) (get_or (by_place (4 * w) f) i 0)) (get_or (by_place (4 * w) f) i 0)) i 0 h ∙ rw (get_or-by_place (4 * w) f i 0 h) refl

    pub unkeyed : (h : ℕ → ℕ → ℕ) → ((i : ℕ) → i < 4 * w → is_of s w key i ≡ true → h (i / w) (g (i / w) (f i)) ≡ f i) → at_key key h (at_key key g (table f)) ≡ table f
    unkeyed h back = ap (λ (cs : List ℕ). let t : Table = record { width = w; spread = s; counters = cs } in t)
        (by_place_same (4 * w) _ f 0 (λ i lt. rw (changed_at i lt)
        (grind (arith, nat_tests))))

    pub own_counter : (row : ℕ) → row < 4 → counter_of key (at_key key g (table f)) row ≡ g row (f (row * w + column s key row w))
    own_counter row h =
        let c : column s key row w < w = column_below s key row w some in
        changed_at (row * w + column s key row w) (place_within key row h) ∙ rw (own_is key row, div-mul-add row w (column s key row w) c) refl

  -- a touch's record
  module _ (key : ℕ) (f : ℕ → ℕ) where
    own_before : (row : ℕ) → row < 4 → counter_of key (table f) row ≡ f (row * w + column s key row w)
    own_before row h = get_or-by_place (4 * w) f (row * w + column s key row w) 0 (place_within key row h)

    -- the least of a key rises with its counters
    pub touched_least : least_counter key (touched_table key (table f)) ≡ min 15 (least_counter key (table f) + 1)
    touched_least = grind (arith, nat_tests, own_counter, own_before, up_min)

    -- the counters that a touch met at the key's columns, and what is kept of them
    module _ (cs : List ℕ) (columns_are : cs ≡ by_place 4 (λ row. column s key row w)) (were : List ℕ) (were_are : were ≡ by_place 4 (λ row. f (row * w + get_or cs row 0))) where
      met : were ≡ by_place 4 (counter_of key (table f))
      met = grind (arith, nat_tests, by_place_same, column_is, own_before)

      pub flags_are : ◌≡◌ {A = RaisedRows} record {
        row_0 = nat_lt (get_or were 0 0) 15;
        row_1 = nat_lt (get_or were 1 0) 15;
        row_2 = nat_lt (get_or were 2 0) 15;
        row_3 = nat_lt (get_or were 3 0) 15;
      } (touch_record_of key (table f)).rose
      flags_are = rw met refl

      least_before : min (min (get_or were 0 0) (get_or were 1 0)) (min (get_or were 2 0) (get_or were 3 0)) ≡ least_counter key (table f)
      least_before = rw met refl

      pub kept_is : (t : Table) (n : ℕ) → t ≡ touched_table key (table f)
          → n ≡ min (min (min (get_or were 0 0) (get_or were 1 0)) (min (get_or were 2 0) (get_or were 3 0))) 14 + 1 → n ≡ least_counter key t
      kept_is t n e m = rw (e, touched_least, m, least_before) (omega arith)

    flag : (row : ℕ) → row < 4 → rose (touch_record_of key (table f)) row ≡ nat_lt (f (row * w + column s key row w)) 15
    flag row h = get_or-by_place 4 (λ row. nat_lt (counter_of key (table f) row) 15) row false h ∙ ap (λ x. nat_lt x 15) (own_before row h)

    pub touch_undone : ((i : ℕ) → f i ≤ 15) → table_before_touch (touch_record_of key (table f)) (touched_table key (table f)) ≡ table f
    touch_undone small = unkeyed key (λ row x. min 15 (x + 1)) f (λ row x. cond (rose (touch_record_of key (table f)) row) (x - 1) x) (λ i lt e.
        let d : i / w < 4 = div_below i w 4 some lt in
        rw (flag (i / w) d) (grind (arith, nat_tests)))

    pub touch_fits : FitsTouch (touch_record_of key (table f)) (touched_table key (table f))
    touch_fits = record {
      raised = λ row h e. rw (own_counter key (λ row x. min 15 (x + 1)) f row h) (omega arith);
      full = λ row h e.
          let ge15 : 15 ≤ f (row * w + column s key row w) = ltb-false _ _ (sym (flag row h) ∙ e) in
          rw (own_counter key (λ row x. min 15 (x + 1)) f row h) (omega arith);
    }

  pub fits_some : (r : TouchRecord) (f : ℕ → ℕ) → FitsTouch r (table f) → (row : ℕ) → row < 4 → rose r row ≡ true → 0 < f (row * w + column s r.key row w)
  fits_some r f fit row h e = grind (arith, nat_tests, get_or-by_place, place_within)

pub cell_within : (w row col : ℕ) → row < 4 → col < w → row * w + col < 4 * w
cell_within w row col r c = let m : row * w ≤ 3 * w = grind arith in omega arith
