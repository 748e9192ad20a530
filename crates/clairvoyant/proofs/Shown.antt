-- A set that is shown as one test for each number.
use Rattle.std.proofs.Common.{◌≡◌, ◌⊎◌, ℕ, ◌<◌, ◌≤◌, Bool, List, length, false, ap, arith, inl, inr}
use Rattle.std.proofs.lemmas.Bool.{cases_lt}
use Rattle.std.proofs.lemmas.Bool.Decides.{nat_tests}
use Rattle.engine_base.proofs.Places.{length-by_place, get_or-by_place, past-by_place}
use Rattle.engine_base.specs.Places.{by_place}
use Rattle.clairvoyant.specs.Bits.{is_in_set}

-- a number is below the size, and in the set where its test says so, or it is none of the set
pub test-tells : (n : ℕ) (held : ℕ → Bool) (q : ℕ) → ((q < n) × (is_in_set (by_place n held) q ≡ held q)) ⊎ ((n ≤ q) × (is_in_set (by_place n held) q ≡ false))
test-tells n held q = elim (cases_lt q n) [ inl l ↦ inl (l, get_or-by_place n held q false l) | inr g ↦ inr (g, past-by_place n held q false g) ]

pub ruleset shown_tests = (length-by_place, test-tells, nat_tests)

-- below the size the set is what its test says
pub shown_below : (n : ℕ) (held : ℕ → Bool) (tests : List Bool) (q : ℕ) → by_place n held ≡ tests → q < length tests → is_in_set tests q ≡ held q
shown_below n held tests q is below =
    let size = ap length is in
    rw (← is) (get_or-by_place n held q false (omega (arith, size, length-by_place n held)))
