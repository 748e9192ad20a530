-- One bit of a layer of words, and the layer above.
use Rattle.std.proofs.Common.{◌≡◌, ℕ, ◌+◌, ◌*◌, ◌%◌, ◌^◌, ◌<◌, Bool, true, false, not, eqb, List, length, get_or, arith, bit_or, w64}
use Rattle.std.specs.Int.{bit_at}
use Rattle.std.proofs.lemmas.Bool.{eq-eqb, ne_eqb}
use Rattle.std.proofs.lemmas.Bool.Decides.{nat_tests}
use Rattle.std.proofs.lemmas.Nat.Bits.{bit_at_set_same, bit_at-zero}
use Rattle.std.proofs.lemmas.List.{get_or_past}
use Rattle.engine_base.specs.Bits.{bit_of}
use Rattle.clairvoyant.specs.Bits.{IsBitLayer}

-- a word with a bit is not 0
pub set-some : (y q : ℕ) → eqb (bit_or y (1 * 2 ^ (q % 64) % 2 ^ 64)) 0 ≡ false
set-some y q = grind (arith, nat_tests, ne_eqb, bit_at_set_same w64 y (q % 64) (omega arith), bit_at-zero (q % 64))

-- where a layer above holds a word, that is not 0; where it holds none, it is
pub above-some : (b : Bool) (x : ℕ) → b ≡ true → b ≡ not (eqb x 0) → 0 < x
above-some b x e f = grind (arith, nat_tests)

module _ (ws : List ℕ) (w x tz : ℕ) (in_it : w < length ws) (read : x ≡ get_or ws w 0) (small : tz < 64) where
  pub least-held : bit_at x tz ≡ 1 → bit_of ws (64 * w + tz) ≡ true
  least-held one = grind (arith, nat_tests, eq-eqb (bit_at x tz) 1 one)

-- where the layer above holds a place, there is a word there
pub word-there : (ws : List ℕ) (n : ℕ) (held : ℕ → Bool) (w : ℕ) → IsBitLayer ws n held → held w ≡ true → w < length ws
word-there ws n held w up h = grind (arith, nat_tests, get_or_past ws w 0)
