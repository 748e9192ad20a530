-- One bit of a list of words.
use Rattle.std.proofs.Common.{◌≡◌, ◌≢◌, ℕ, suc, zero, ◌*◌, ◌/◌, ◌%◌, ◌^◌, ◌<◌, Bool, true, false, not, cond, eqb, ◌&&◌, ◌||◌, List, length, get_or, set, replicate, bit_and, bit_or, w64, refl, ap, ◌∙◌, arith}
use Rattle.std.specs.Int.{bit_at, bit_not}
use Rattle.std.proofs.lemmas.List.{get_or-set_same, get_or-set_other}
use Rattle.std.proofs.lemmas.Nat.Bits.{bit_at_set_same, bit_at_set_other, bit_at_clear_same, bit_at_clear_other, bit_at-zero}
use Rattle.std.proofs.lemmas.Bool.{cases_eq, eq-eqb, ne_eqb}
use Rattle.std.proofs.lemmas.Bool.Decides.{nat_tests}
use Rattle.engine_base.specs.Bits.{bit_of}

-- a word written in the place of the one that has the bit
written : (ws : List ℕ) (at y i : ℕ) (v : Bool) → at < 64 * length ws → eqb (bit_at y (at % 64)) 1 ≡ v
    → ((m : ℕ) → m < 64 → m ≢ at % 64 → bit_at y m ≡ bit_at (get_or ws (at / 64) 0) m)
    → bit_of (set ws (at / 64) y) i ≡ cond (eqb i at) v (bit_of ws i)
written ws at y i v w here other = grind (arith, nat_tests, cases_eq, eq-eqb, get_or-set_same, ne_eqb, get_or-set_other)

-- by cases, as sets of numbers say it, of a word that was read
pub bit_put : (ws : List ℕ) (at x : ℕ) → at < 64 * length ws → x ≡ get_or ws (at / 64) 0 → (i : ℕ)
    → bit_of (set ws (at / 64) (bit_or x (1 * 2 ^ (at % 64) % 2 ^ 64))) i ≡ cond (eqb i at) true (bit_of ws i)
bit_put ws at x w read i = rw read (written ws at (bit_or (get_or ws (at / 64) 0) (1 * 2 ^ (at % 64) % 2 ^ 64)) i true w
    (ap (λ b. eqb b 1) (bit_at_set_same w64 (get_or ws (at / 64) 0) (at % 64) (omega arith)))
    (λ m l d. bit_at_set_other w64 (get_or ws (at / 64) 0) (at % 64) (omega arith) m d))

pub bit_taken : (ws : List ℕ) (at x : ℕ) → at < 64 * length ws → x ≡ get_or ws (at / 64) 0 → (i : ℕ)
    → bit_of (set ws (at / 64) (bit_and x (bit_not w64 (1 * 2 ^ (at % 64) % 2 ^ 64)))) i ≡ cond (eqb i at) false (bit_of ws i)
bit_taken ws at x w read i = rw read (written ws at (bit_and (get_or ws (at / 64) 0) (bit_not w64 (1 * 2 ^ (at % 64) % 2 ^ 64))) i false w
    (ap (λ b. eqb b 1) (bit_at_clear_same w64 (get_or ws (at / 64) 0) (at % 64) (omega arith)))
    (λ m l d. bit_at_clear_other w64 (get_or ws (at / 64) 0) (at % 64) (omega arith) m l d))

or_as : (at i : ℕ) (b : Bool) → cond (eqb i at) true b ≡ (b || eqb at i)
or_as at i b = grind (arith, nat_tests)

and_as : (at i : ℕ) (b : Bool) → cond (eqb i at) false b ≡ (b && not (eqb at i))
and_as at i b = grind (arith, nat_tests)

-- and by the operators of Bool
pub bit_set : (ws : List ℕ) (at : ℕ) → at < 64 * length ws → (i : ℕ) → bit_of (set ws (at / 64) (bit_or (get_or ws (at / 64) 0) (1 * 2 ^ (at % 64) % 2 ^ 64))) i ≡ (bit_of ws i || eqb at i)
bit_set ws at w i = bit_put ws at (get_or ws (at / 64) 0) w refl i ∙ or_as at i (bit_of ws i)

pub bit_cleared : (ws : List ℕ) (at : ℕ) → at < 64 * length ws → (i : ℕ) → bit_of (set ws (at / 64) (bit_and (get_or ws (at / 64) 0) (bit_not w64 (1 * 2 ^ (at % 64) % 2 ^ 64)))) i ≡ (bit_of ws i && not (eqb at i))
bit_cleared ws at w i = bit_taken ws at (get_or ws (at / 64) 0) w refl i ∙ and_as at i (bit_of ws i)

zeros : (n i : ℕ) → get_or {A = ℕ} (replicate n 0) i 0 ≡ 0
zeros zero i = refl
zeros (suc n) zero = refl
zeros (suc n) (suc i) = zeros n i

pub bit_none : (n i : ℕ) → bit_of (replicate n 0) i ≡ false
bit_none n i = ap (λ x. eqb (bit_at x (i % 64)) 1) (zeros n (i / 64)) ∙ ap (λ b. eqb b 1) (bit_at-zero (i % 64))
