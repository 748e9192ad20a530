-- A pass over a trace that notes the uses of its keys, from its end or from its start.
use Rattle.std.proofs.Math.ListN.{length-set}
use Rattle.std.proofs.Common.{◌≡◌, ◌≢◌, ℕ, suc, ◌+◌, ◌-◌, ◌<◌, Bool, cond, eqb, nat_eq, Option, Some, List, length, set, get_or, ap, ◌∙◌, sym, arith, get_or-set_other, get_or-set_same}
use Rattle.std.proofs.lemmas.Bool.{cases_eq}
use Rattle.std.proofs.lemmas.Bool.Decides.{nat_tests}
use Rattle.trace_index.specs.Uses.{next_from, last_below, number_of}
use Rattle.trace_index.proofs.Uses.{next-step}

-- ---- the list of numbers

pub set-long : (rs : List ℕ) (i r len : ℕ) → length rs ≡ len → length (set rs i r) ≡ len
set-long rs i r len h = simp length-set h

-- what one place is set to, and what each other has
pub set-place : (P : ℕ → ℕ → Type 0) (rs : List ℕ) (place r : ℕ) → place < length rs → P place r → (i : ℕ) → (i ≢ place → P i (get_or rs i 0)) → P i (get_or (set rs place r) i 0)
set-place P rs place r lt p i other = grind (arith, nat_tests, cases_eq i place, get_or-set_same, get_or-set_other)

-- ---- the numbers of the keys

numbered : (b : Bool) (p : ℕ) (o : Option ℕ) → cond b (suc p) (number_of o) ≡ number_of (cond b (Some p) o)
numbered v p o = grind (arith, nat_tests)

pub next-back : (t : List ℕ) (len back k key v w : ℕ) → len ≡ length t → back < len → key ≡ get_or t (len - 1 - back) 0 → v ≡ cond (nat_eq key k) (suc (len - 1 - back)) w → w ≡ number_of (next_from t (len - back) k) → v ≡ number_of (next_from t (len - (back + 1)) k)
next-back t len back k key v w l b e h g =
    let here : len - (back + 1) ≡ len - 1 - back = omega arith in
    let after : len - back ≡ suc (len - 1 - back) = omega arith in
    let flip : nat_eq key k ≡ eqb k (get_or t (len - 1 - back) 0) = rw (← e) (grind (arith, nat_tests)) in
    let in_it : len - 1 - back < length t = omega arith in
    rw (h, here, flip, g, after) (numbered (eqb k (get_or t (len - 1 - back) 0)) (len - 1 - back) (next_from t (suc (len - 1 - back)) k) ∙ ap number_of (sym (next-step t (len - 1 - back) k in_it)))

pub last-onward : (t : List ℕ) (place k key v w : ℕ) → key ≡ get_or t place 0 → v ≡ cond (nat_eq key k) (suc place) w → w ≡ number_of (last_below t place k) → v ≡ number_of (last_below t (place + 1) k)
last-onward t place k key v w e h g = search (arith, numbered (eqb k (get_or t place 0)) place (last_below t place k))
