-- A number of one bit is a power of two, which masks a remainder out and has smaller powers as parts.
use Rattle.std.proofs.Common.{◌≡◌, ℕ, zero, suc, ◌+◌, ◌-◌, ◌*◌, ◌/◌, ◌%◌, ◌<◌, ◌≤◌, ◌^◌, bit_and, w32, ap, ◌∙◌, arith, inl, inr}
use Rattle.std.proofs.lemmas.Bool.Decides.{nat_tests}
use Rattle.std.specs.Int.{IsPowerOfTwo, trailing_zeros}
use Rattle.std.specs.Int.RustNames.{count_ones}
use Rattle.std.proofs.lemmas.Nat.{and_mask, pow_pos, pow-add, pow_below, shl-shr, zero_from_ones, ones_le_self}
use Rattle.std.proofs.lemmas.Nat.Bits.{bit_at-trailing_zeros, bit_at-pow_other}
use Rattle.std.proofs.lemmas.Bool.{cases_eq, cases_lt}
use Rattle.std.proofs.Math.Nat.{mul_comm}
use lib.Count.{ones_step}

one_bit : (d n : ℕ) → n ≤ d → count_ones n ≡ 1 → IsPowerOfTwo n
one_bit zero n h e = absurd (omega (arith, ones_le_self n))
one_bit (suc d) n h e =
    let s = ones_step n in
    elim (cases_eq (n % 2) 1) as (λ _. IsPowerOfTwo n) [
      | inl odd ↦ let z : n / 2 ≡ 0 = zero_from_ones (n / 2) (omega arith) in (0, omega arith)
      | inr even ↦
          let p = one_bit d (n / 2) (omega (arith, ones_le_self n)) (omega arith) in
          (suc p.0, omega (arith, p.1))
    ]

pub power_of : (w : ℕ) → count_ones w ≡ 1 → IsPowerOfTwo w
power_of w e = one_bit w w (omega arith) e

pub masked : (n w : ℕ) → IsPowerOfTwo w → bit_and n (w - 1) ≡ n % w
masked n w p = rw p.1 (and_mask n p.0)

-- the number of the zeros below its one bit is its exponent
pub shifted : (n w : ℕ) → IsPowerOfTwo w → w < 2 ^ 32 → n / 2 ^ trailing_zeros w32 w ≡ n / w
shifted n w p f =
    let few : 2 ^ p.0 < 2 ^ 32 = rw p.1 at f in
    let t = bit_at-trailing_zeros w32 (2 ^ p.0) (pow_pos p.0) few in
    rw p.1 (grind (arith, nat_tests, bit_at-pow_other))

-- a power of two is a multiple of each smaller one
pub whole_parts : (j k : ℕ) → 2 ^ j ≤ 2 ^ k → 2 ^ k ≡ 2 ^ j * (2 ^ k / 2 ^ j)
whole_parts j k h =
    elim (cases_lt k j) [
      | inl below ↦ absurd (omega (arith, h, pow_below k j below))
      | inr from ↦
          let e : k ≡ (k - j) + j = omega arith in
          let p : 2 ^ k ≡ 2 ^ (k - j) * 2 ^ j = ap (λ i. 2 ^ i) e ∙ pow-add 2 (k - j) j in
          rw (p, shl-shr (2 ^ (k - j)) j) (mul_comm (2 ^ (k - j)) (2 ^ j))
    ]
