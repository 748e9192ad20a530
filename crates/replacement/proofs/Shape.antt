-- A configuration's frequency has one shape.
use Rattle.std.proofs.lemmas.Bool.Decides.{nat_tests, leb_tells}
use Rattle.std.proofs.Common.{◌≡◌, ℕ, zero, suc, ◌+◌, ◌*◌, ◌/◌, ◌^◌, ◌≤◌, ◌<◌, inl, inr, max, List, ap, sym, ◌∙◌, refl, arith}
use Rattle.std.proofs.lemmas.Nat.{pow-add}
use Rattle.std.specs.Int.{IsPowerOfTwo, IsNextPowerOfTwo}
use Rattle.admission.specs.Shape.{Spread, Shape, IsShape, IsOpenShape}
use Rattle.admission.specs.Frequency.{FrequencyData, frequency_of, empty_frequency, frequency_from, IsFrequencyOf, IsOpenFrequencyOf}
use Rattle.admission.proofs.Recording.{next_within}
use Rattle.replacement.specs.Shape.{Config, doubled, least_power, shape_of, open_shape_of}

power-next : (k : ℕ) → 2 ^ suc k ≡ 2 * 2 ^ k
power-next k = let q : suc k ≡ 1 + k = omega arith in rw q (pow-add 2 1 k)

doubled-is : (times p n : ℕ) → IsPowerOfTwo p → 1 ≤ p → p / 2 < max 1 n → n ≤ p + times → IsNextPowerOfTwo n (doubled times p n)
doubled-is zero p n pow some half near = (pow, omega arith, half)
doubled-is (suc times) p n pow some half near =
    elim (leb_tells n p) as (λ _. IsNextPowerOfTwo n (doubled (suc times) p n)) [
      | inl a ↦ rw a.0 (pow, a.1, half)
      | inr b ↦ rw b.0 (doubled-is times (2 * p) n (suc pow.0, ap (λ x. 2 * x) pow.1 ∙ sym (power-next pow.0)) (omega arith) (let lt = b.1 in omega arith) (omega arith))
    ]

least : (n : ℕ) → IsNextPowerOfTwo n (least_power n)
unfolding least_power
least n = doubled-is n 1 n (0, refl) (omega arith) (omega arith) (omega arith)

pub shape-is : (c : Config) → 1 ≤ c.capacity → IsShape (shape_of c)
shape-is c some = record { some = some; width = least (max 16 c.capacity); size = least (max 64 (8 * c.capacity)) }

shape_by : ℕ → Spread → ℕ → ℕ → Shape
shape_by c p w d = record { capacity = c; spread = p; width = w; size = d }

shape-one : (c : Config) (s : Shape) → IsShape s → s.capacity ≡ c.capacity → s.spread ≡ c.spread → s ≡ shape_of c
unfolding shape_by
shape-one c s is cap spread = grind (arith, nat_tests, next_within, least, shape_by)

pub own-shape : (c : Config) (keys : List ℕ) (f : FrequencyData) → IsFrequencyOf c.capacity c.spread keys f → f ≡ frequency_of (shape_of c) keys
own-shape c keys f h = h.stands ∙ ap (λ s. frequency_of s keys) (shape-one c h.shape h.is h.capacity_is h.spread_is)

open-shape-one : (columns : ℕ) (c : Config) (s : Shape) → IsOpenShape columns s → s.capacity ≡ c.capacity → s.spread ≡ c.spread → s ≡ open_shape_of columns c
unfolding shape_by
open-shape-one columns c s is cap spread = grind (arith, nat_tests, next_within, least (max 16 c.capacity), shape_by)

pub own-open-shape : (columns : ℕ) (c : Config) (keys : List ℕ) (f : FrequencyData) → IsOpenFrequencyOf columns c.capacity c.spread keys f → f ≡ frequency_from (empty_frequency (open_shape_of columns c)) keys
own-open-shape columns c keys f h = h.stands ∙ ap (λ s. frequency_from (empty_frequency s) keys) (open-shape-one columns c h.shape h.is h.capacity_is h.spread_is)
