use lib.Count.{count_leading_zeros}
use Rattle.std.proofs.lemmas.Bool.Decides.{nat_tests}
use Rattle.std.proofs.Common.{◌≡◌, ◌<◌, ◌≤◌, ◌+◌, ◌-◌, ◌*◌, ◌%◌, ◌^◌, ◌∙◌, ℕ, ap, inl, inr, refl, arith}
use Rattle.std.proofs.Math.Nat.{pow-le-pow_right}
use Rattle.std.proofs.lemmas.Bool.{cases_lt}
use Rattle.std.proofs.lemmas.Nat.{leading_length, pow-add}
use Rattle.queue_table.proofs.queue_table.bits_for.Goals as goal

-- two buckets for each item, and fewer than four
record IsEnough (items bits : ℕ) : Type 0 where
  pub least : 2 * items ≤ 2 ^ bits
  pub most : 2 ^ bits < 4 * items

twice : (bits : ℕ) → 2 ^ (bits + 1) ≡ 2 * 2 ^ bits
twice bits = ap (λ k. 2 ^ k) (let c : bits + 1 ≡ 1 + bits = omega arith in c) ∙ pow-add 2 1 bits

enough : (items last zeros bits : ℕ) → last ≡ (items + 4294967295) % 4294967296 → zeros ≡ count_leading_zeros 32 last
    → bits ≡ (33 + (4294967296 - zeros)) % 4294967296 → 1 ≤ items → items < 4294967296 → IsEnough items bits
enough items last zeros bits l z b some fits =
    let short : last < 2 ^ 32 = omega arith in
    let found = leading_length 32 last short in
    let few : zeros + found.0 ≡ 32 = ap (λ n. n + found.0) z ∙ found.1 in
    let up : bits ≡ found.0 + 1 = omega (arith, few) in
    let p : 2 ^ bits ≡ 2 * 2 ^ found.0 = ap (λ k. 2 ^ k) up ∙ twice found.0 in
    record { least = omega (arith, p, found.2); most = omega (arith, p, found.3) }

sparse : (items bits : ℕ) → IsEnough items bits → (4 * items ≤ 2 ^ (bits + 1)) × (2 ^ (bits + 1) < 8 * items)
sparse items bits e = (omega (arith, e.least, twice bits), omega (arith, e.most, twice bits))

-- so many items have many bits, and fewer have few
many-bits : (items bits : ℕ) → IsEnough items bits → 2 ^ 18 < 4 * items → 18 ≤ bits
many-bits items bits e many = grind (arith, nat_tests, cases_lt bits 18, pow-le-pow_right)

few-bits : (items bits : ℕ) → IsEnough items bits → 4 * items ≤ 2 ^ 18 → bits < 18
few-bits items bits e few = elim (cases_lt bits 18) [
  | inl less ↦ less
  | inr more ↦
      let p : 2 ^ 18 ≤ 2 ^ bits = pow-le-pow_right (omega arith) more in
      absurd (omega (arith, e.most, few, p))
]

pub returns-then-bits-lt-MAX_SPARSE_BITS-clause-sparse : goal.returns-then-bits-lt-MAX_SPARSE_BITS-clause-sparse
returns-then-bits-lt-MAX_SPARSE_BITS-clause-sparse c some few = sparse _ _ (enough c.args.items _ _ _ refl refl refl some c.ranges.items.fits)

pub returns-then-bits-lt-MAX_SPARSE_BITS-clause-dense : goal.returns-then-bits-lt-MAX_SPARSE_BITS-clause-dense
returns-then-bits-lt-MAX_SPARSE_BITS-clause-dense c many =
    let e = enough c.args.items _ _ _ refl refl refl (omega (arith, many)) c.ranges.items.fits in
    absurd (omega (arith, many-bits _ _ e many, c.if-bits-lt-MAX_SPARSE_BITS.true))

pub returns-else-bits-lt-MAX_SPARSE_BITS-clause-sparse : goal.returns-else-bits-lt-MAX_SPARSE_BITS-clause-sparse
returns-else-bits-lt-MAX_SPARSE_BITS-clause-sparse c some few =
    let e = enough c.args.items _ _ _ refl refl refl some c.ranges.items.fits in
    absurd (omega (arith, few-bits _ _ e few, c.if-bits-lt-MAX_SPARSE_BITS.false))

pub returns-else-bits-lt-MAX_SPARSE_BITS-clause-dense : goal.returns-else-bits-lt-MAX_SPARSE_BITS-clause-dense
returns-else-bits-lt-MAX_SPARSE_BITS-clause-dense c many =
    let e = enough c.args.items _ _ _ refl refl refl (omega (arith, many)) c.ranges.items.fits in
    (e.least, e.most)
