-- A change in each row of a list by places.
use Rattle.std.proofs.Common.{◌≡◌, ◌≢◌, ℕ, ◌+◌, ◌*◌, ◌/◌, ◌%◌, ◌<◌, ◌≤◌, cond, eqb, nat_lt, ◌&&◌, get_or, arith}
use Rattle.std.proofs.lemmas.Nat.{div-mul-add, mod-mul-add, div-add-mod'}
use Rattle.std.proofs.lemmas.Bool.Decides.{nat_tests}
use Rattle.engine_base.specs.Places.{by_place}
use Rattle.engine_base.proofs.Places.{get_or-by_place, past-by_place}

module _ (w : ℕ) (c : ℕ → ℕ) (g : ℕ → ℕ → ℕ) (f0 f f' : ℕ → ℕ) (r : ℕ) (within : c r < w)
    (before : (i : ℕ) → f i ≡ cond (nat_lt (i / w) r && eqb (c (i / w)) (i % w)) (g (i / w) (f0 i)) (f0 i))
  where
    -- row r is as it was
    pub row_same : f (r * w + c r) ≡ f0 (r * w + c r)
    row_same = grind (arith, nat_tests, div-mul-add r w (c r) within)

    -- one row more
    pub row_more : ((i : ℕ) → i ≢ r * w + c r → f' i ≡ f i) → f' (r * w + c r) ≡ g r (f (r * w + c r)) → (i : ℕ) → f' i ≡ cond (nat_lt (i / w) (r + 1) && eqb (c (i / w)) (i % w)) (g (i / w) (f0 i)) (f0 i)
    row_more same here i = grind (arith, nat_tests, div-mul-add, mod-mul-add, row_same, div-add-mod')

-- numbers of at most 15, and 0 past the end
pub small_by_place : (n : ℕ) (f : ℕ → ℕ) → ((i : ℕ) → i < n → f i ≤ 15) → (i : ℕ) → get_or (by_place n f) i 0 ≤ 15
small_by_place n f h i = grind (arith, nat_tests, get_or-by_place, past-by_place)
