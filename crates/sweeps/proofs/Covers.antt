-- How many pieces of the same length cover a list.
use Rattle.std.proofs.Common.{◌≡◌, ◌∙◌, ◌+◌, ◌*◌, ◌<◌, ◌≤◌, ℕ, zero, suc, inl, inr, arith}
use Rattle.std.specs.Int.{div_ceil}
use Rattle.std.proofs.lemmas.Bool.{cases_lt}
use Rattle.std.proofs.lemmas.Grind.{div_ceil_times}
use Rattle.std.proofs.lemmas.Nat.{mul-le}

pub next-times : (k every : ℕ) → (k + 1) * every ≡ k * every + every
next-times k every = omega arith

-- n pieces cover more than k of them do
more-than : (k n every : ℕ) → k * every < n * every → k < n
more-than k n every less =
    elim (cases_lt k n) [
      | inl below ↦ below
      | inr past ↦ (let back = mul-le n every k every (omega (arith, past)) (omega arith) in absurd (omega (arith, back, less)))
    ]

-- whole pieces and a part of the next one
pub covers-part : (k every used long : ℕ) → 1 ≤ every → 0 < used → used ≤ every → long ≡ k * every + used → div_ceil long every ≡ k + 1
covers-part k every used long some part few is =
    let cover = div_ceil_times long every some in
    let low = cover.0 in
    let high = cover.1 in
    let one = next-times k every in
    let two = next-times (k + 1) every in
    let above : k < div_ceil long every = more-than k (div_ceil long every) every (omega (arith, is, low, part)) in
    let below : div_ceil long every < k + 1 + 1 = more-than (div_ceil long every) (k + 1 + 1) every (omega (arith, is, high, few, one, two)) in
    omega (arith, above, below)

-- whole pieces alone
pub covers-whole : (k every long : ℕ) → 1 ≤ every → long ≡ k * every + 0 → div_ceil long every ≡ k
covers-whole zero every long some is =
    let high = (div_ceil_times long every some).1 in
    let none : 0 * every ≡ 0 = omega arith in
    let one : 1 * every ≡ every = omega arith in
    let below : div_ceil long every < 1 = more-than (div_ceil long every) 1 every (omega (arith, is, high, none, one)) in
    omega (arith, below)
covers-whole (suc k) every long some is =
    let next : suc k * every ≡ k * every + every = omega arith in
    let same : k + 1 ≡ suc k = omega arith in
    covers-part k every every long some some (omega arith) (omega (arith, is, next)) ∙ same
