-- What a table of keys has for a key, and what putting one changes.
use Rattle.std.proofs.Common.{◌≡◌, ◌≢◌, min, ◌∙◌, ℕ, zero, suc, ◌+◌, ◌*◌, ◌/◌, ◌^◌, ◌<◌, ◌≤◌, false, cond, eqb, List, [], ◌∷◌, set, get_or, length, replicate, ap, sym, refl, subst, arith, inl, inr, get_or-set_other, get_or-set_same}
use mir.Val.{bool_byte}
use Rattle.std.proofs.Math.Nat.{min-le_left, min-le_right}
use Rattle.std.proofs.lemmas.Bool.{cases_eq, cases_lt, cases_Bool, eqb-true, ne_eqb}
use Rattle.std.proofs.lemmas.Bool.Decides.{nat_tests}
use Rattle.std.proofs.lemmas.List.{length-set, length-replicate}
use Rattle.trace_index.specs.declared.key_cells.TheConstants.{WINDOW, MAX_HOMES}
use Rattle.trace_index.specs.KeyCells.{number_or, number_at, number_below, home, taken, IsTable, AreCells, IsPlace}

pub zeros : (n q : ℕ) → get_or {A = ℕ} (replicate n 0) q 0 ≡ 0
zeros zero q = refl
zeros (suc n) zero = refl
zeros (suc n) (suc q) = zeros n q

within : (xs : List ℕ) (q : ℕ) → get_or xs q 0 ≢ 0 → q < length xs
within [] q ne = absurd (ne refl)
within (x ∷ xs) zero ne = omega arith
within (x ∷ xs) (suc q) ne = omega (arith, within xs q ne)

-- ---- how many cells are taken

taken-few : (ns : List ℕ) → taken ns ≤ length ns
taken-few [] = omega arith
taken-few (zero ∷ ns) = omega (arith, taken-few ns)
taken-few (suc n ∷ ns) = omega (arith, taken-few ns)

-- a number comes into a cell, one that is empty or one that is taken
taken-set : (ns : List ℕ) (p n : ℕ) → p < length ns → n ≢ 0 → taken (set ns p n) ≡ taken ns + bool_byte (eqb (get_or ns p 0) 0)
taken-set [] p n lt some = absurd (omega (arith, lt))
taken-set (x ∷ ns) p zero lt some = absurd (some refl)
taken-set (zero ∷ ns) zero (suc n) lt some = omega arith
taken-set (suc x ∷ ns) zero (suc n) lt some = let e : eqb (suc x) 0 ≡ false = ne_eqb (suc x) 0 (λ e. absurd (cc e)) in rw e (omega arith)
taken-set (zero ∷ ns) (suc p) n lt some = taken-set ns p n (omega (arith, lt)) some
taken-set (suc x ∷ ns) (suc p) n lt some = omega (arith, taken-set ns p n (omega (arith, lt)) some)

-- the count after a number came into a cell, which fits 32 bits
pub taken-after : (homes count before : ℕ) (keys ns : List ℕ) (p n : ℕ) → AreCells homes count keys ns → p < length ns → n ≢ 0
    → before ≡ get_or ns p 0 → count + bool_byte (eqb before 0) ≡ taken (set ns p n)
taken-after homes count before keys ns p n cells lt some is = grind (arith, nat_tests, taken-set ns p n lt some)

pub count-fits : (homes count before : ℕ) (keys ns : List ℕ) (p n : ℕ) → AreCells homes count keys ns → p < length ns → n ≢ 0
    → before ≡ get_or ns p 0 → count + bool_byte (eqb before 0) < 2 ^ 32
count-fits homes count before keys ns p n cells lt some is = search (arith, taken-after, before, taken-few, length-set)

taken-zeros : (n : ℕ) → taken (replicate n 0) ≡ 0
taken-zeros zero = refl
taken-zeros (suc n) = taken-zeros n

-- empty cells
pub cells-empty : (homes len : ℕ) (keys numbers : List ℕ) → keys ≡ replicate len 0 → numbers ≡ replicate len 0 → len ≡ homes + WINDOW
    → homes ≤ MAX_HOMES / 9 * 10 → AreCells homes 0 keys numbers
cells-empty homes len keys numbers k n l few =
    let none : (p : ℕ) → get_or numbers p 0 ≡ 0 = λ p. ap (λ xs. get_or xs p 0) n ∙ zeros len p in
    record {
      table = record {
        each = ap length n ∙ sym (ap length k);
        behind = λ p ne. absurd (ne (none p));
        near = λ p ne. absurd (ne (none p));
        joined = λ p q ne. absurd (ne (none p));
        once = λ p q ne. absurd (ne (none p));
      };
      long = omega (arith, l, ap length n, length-replicate {A = ℕ} len 0);
      few = few;
      counted = sym (ap taken n ∙ taken-zeros len);
    }

-- ---- what the first cells have

-- no cell has a number for the key
pub none-below : (keys numbers : List ℕ) (n k : ℕ) → ((q : ℕ) → get_or numbers q 0 ≢ 0 → get_or keys q 0 ≢ k) → number_below keys numbers n k ≡ 0
none-below keys numbers zero k h = refl
none-below keys numbers (suc n) k h = grind (arith, nat_tests, none-below keys numbers n k h)

-- a cell has it, and no other cell has the key
pub one-below : (keys numbers : List ℕ) (n k p : ℕ) → p < n → get_or numbers p 0 ≢ 0 → get_or keys p 0 ≡ k
    → ((q : ℕ) → get_or numbers q 0 ≢ 0 → get_or keys q 0 ≡ k → q ≡ p) → number_below keys numbers n k ≡ get_or numbers p 0
one-below keys numbers zero k p lt some there once = absurd (omega (arith, lt))
one-below keys numbers (suc n) k p lt some there once =
    let rest : p < n → number_below keys numbers n k ≡ get_or numbers p 0 =
    λ l. one-below keys numbers n k p l some there once in
    grind (arith, nat_tests, rest, once n, some, there, lt, cases_eq p n)

-- two tables whose cells have the same number for the key
same-below : (keys numbers keys2 numbers2 : List ℕ) (n k : ℕ) → ((q : ℕ) → number_at keys2 numbers2 q k ≡ number_at keys numbers q k)
    → number_below keys2 numbers2 n k ≡ number_below keys numbers n k
same-below keys numbers keys2 numbers2 zero k h = refl
same-below keys numbers keys2 numbers2 (suc n) k h = λ i. number_or (h n i) (same-below keys numbers keys2 numbers2 n k h i)

-- a cell more was moved to another table
pub moved-on : (keys numbers : List ℕ) (p k key n new old rest : ℕ) → key ≡ get_or keys p 0 → n ≡ get_or numbers p 0
    → new ≡ number_or (cond (eqb key k) n 0) old → old ≡ number_or (number_below keys numbers p k) rest
    → new ≡ number_or (number_below keys numbers (p + 1) k) rest
moved-on keys numbers p k key n new old rest its number is before = grind (arith, nat_tests, before)

-- ---- where a search ends

-- a search for a key that ended at a place
pub record IsSearched (homes : ℕ) (keys numbers : List ℕ) (key end place : ℕ) : Type 0 where
  pub ends : end ≡ min (length keys) (home homes key + WINDOW)
  pub found : IsPlace keys numbers (home homes key) end key place

module _ (homes : ℕ) (keys numbers : List ℕ) (key end place : ℕ) (t : IsTable homes keys numbers) (s : IsSearched homes keys numbers key end place) where
  -- the key is in no cell, where the search ended at an empty one or at the end
  pub absent : (place < end → get_or numbers place 0 ≡ 0) → (q : ℕ) → get_or numbers q 0 ≢ 0 → get_or keys q 0 ≢ key
  absent empty q ne e = grind (arith, nat_tests, within numbers q ne, cases_lt q place, cases_eq q place)

-- ---- a key is put where the search ended

module _ (homes : ℕ) (keys numbers : List ℕ) (key number end place : ℕ) (t : IsTable homes keys numbers)
    (s : IsSearched homes keys numbers key end place) (here : place < end) where
  g : IsPlace keys numbers (home homes key) end key place
  g = s.found

  long : end ≤ length keys
  long = subst (λ x. x ≤ length keys) (sym s.ends) (min-le_left _ _)

  near : end ≤ home homes key + WINDOW
  near = subst (λ x. x ≤ home homes key + WINDOW) (sym s.ends) (min-le_right _ _)

  pub in-numbers : place < length numbers
  in-numbers = omega (arith, here, long, t.each)

  its-key : get_or (set keys place key) place 0 ≡ key
  its-key = get_or-set_same keys place key 0 (omega (arith, here, long))

  its-number : get_or (set numbers place number) place 0 ≡ number
  its-number = get_or-set_same numbers place number 0 (omega (arith, here, long, t.each))

  other-number : (q : ℕ) → q ≢ place → get_or (set numbers place number) q 0 ≡ get_or numbers q 0
  other-number q ne = get_or-set_other numbers place q number 0 ne

  -- a cell with the key, before
  alone : (q : ℕ) → get_or numbers q 0 ≢ 0 → get_or keys q 0 ≡ key → q ≡ place
  alone q ne e = search (arith, absent homes keys numbers key end place t s, cases_eq (get_or numbers place 0) 0)

  pub before : number_below keys numbers (length keys) key ≡ get_or numbers place 0
  before = grind (arith, nat_tests, cases_eq (get_or numbers place 0) 0, none-below, absent, one-below, long, alone)

  taken-still : (q : ℕ) → number ≢ 0 → get_or numbers q 0 ≢ 0 → get_or (set numbers place number) q 0 ≢ 0
  taken-still q some ne e = grind (arith, nat_tests, its-number, other-number q, some, ne, e, cases_eq q place)

  -- the cell is that of the key, or was taken before
  data Was (q : ℕ) : Type 0 where
    its : q ≡ place → get_or (set keys place key) q 0 ≡ key → Was q
    old : q ≢ place → get_or (set keys place key) q 0 ≡ get_or keys q 0 → get_or numbers q 0 ≢ 0 → Was q

  was : (q : ℕ) → get_or (set numbers place number) q 0 ≢ 0 → Was q
  was q ne = grind (arith, nat_tests, cases_eq q place, its-key, get_or-set_other, other-number)

  near2 : (q : ℕ) → Was q → q < home homes (get_or (set keys place key) q 0) + WINDOW
  near2 q v = grind (arith, nat_tests, near)

  joined2 : (q r : ℕ) → number ≢ 0 → Was q → home homes (get_or (set keys place key) q 0) ≤ r → r < q → get_or (set numbers place number) r 0 ≢ 0
  joined2 q r some (its same k) from less =
      taken-still r some (g.taken r (subst (λ x. home homes x ≤ r) k from) (omega (arith, less, same)))
  joined2 q r some (old other k ne) from less =
      taken-still r some (t.joined q r ne (subst (λ x. home homes x ≤ r) k from) less)

  once2 : (q r : ℕ) → Was q → Was r → get_or (set keys place key) q 0 ≡ get_or (set keys place key) r 0 → q ≡ r
  once2 q r v w e = grind (arith, nat_tests, alone)

  pub put-table : number ≢ 0 → IsTable homes (set keys place key) (set numbers place number)
  put-table some = grind (arith, nat_tests, length-set, was, near, near2, joined2, once2)

  at-other : (k : ℕ) → eqb key k ≡ false → (q : ℕ) → number_at (set keys place key) (set numbers place number) q k ≡ number_at keys numbers q k
  at-other k apart q = grind (arith, nat_tests, its-key, its-number, get_or-set_other, other-number q, cases_eq q place)

  pub put-updates : number ≢ 0 → (k : ℕ) → number_below (set keys place key) (set numbers place number) (length (set keys place key)) k
      ≡ cond (eqb key k) number (number_below keys numbers (length keys) k)
  put-updates some k =
      let len : length (set keys place key) ≡ length keys = length-set keys place key in
      elim (cases_Bool (eqb key k)) [
        | inl e ↦ grind (arith, nat_tests, eqb-true key k e, put-table some, one-below, long, its-number, its-key)
        | inr e ↦ rw (e, len) (same-below keys numbers (set keys place key) (set numbers place number) (length keys) k (at-other k e))
      ]
