-- The ghost before a key joined or left it, and what it holds after.
use Rattle.std.proofs.Common.{◌≡◌, ℕ, ◌+◌, ◌≤◌, false, eqb, List, [], ◌∷◌, length, refl, arith, length-append}
use Rattle.std.proofs.lemmas.Bool.{cases_eq}
use Rattle.std.proofs.lemmas.Bool.Decides.{nat_tests}
use Rattle.engine_base.specs.Keys.{has_key, keys_without}
use Rattle.engine_base.specs.Stats.{one_if}
use Rattle.policy_pages.specs.Residents.{Outcome, times, keys_evicted, keys_brought}
use Rattle.policy_pages.specs.Ghost.{ghost_with}
use Rattle.policy_pages.proofs.Residents.{times-append, times-none, times-some, no-times, brought-few}
use Rattle.policy_pages.proofs.Weights.{weight, weight-without}

-- ---- a key that left is remembered

pub with-times : (x size v : ℕ) (ghost : List ℕ) → times x (ghost_with size v ghost) ≤ times x ghost + times x (v ∷ [])
with-times x size v ghost = grind (arith, nat_tests, times-append x ghost (v ∷ []))

pub with-fits : (size v : ℕ) (ghost : List ℕ) → length ghost ≤ size → length (ghost_with size v ghost) ≤ size
with-fits size v ghost h = grind (arith, nat_tests, length-append ghost (v ∷ []))

-- ---- a key that comes back

without-few : (x k : ℕ) (l : List ℕ) → times x (keys_without k l) ≤ times x l
without-few x k [] = omega arith
without-few x k (a ∷ l) = grind (arith, nat_tests, without-few x k l)

without-own : (k : ℕ) (l : List ℕ) → times k (keys_without k l) ≡ 0
without-own k [] = refl
without-own k (a ∷ l) = grind (arith, nat_tests, without-own k l)

pub without-length : (k : ℕ) (l : List ℕ) → length (keys_without k l) ≤ length l
without-length k [] = omega arith
without-length k (a ∷ l) = grind (arith, nat_tests, without-length k l)

pub without-none : (k : ℕ) (l : List ℕ) → has_key k l ≡ false → keys_without k l ≡ l
without-none k [] h = refl
without-none k (a ∷ l) h = grind (arith, nat_tests, without-none k l)

-- ---- a key is resident or remembered, and once

once : (x k : ℕ) (ghost residents : List ℕ) → has_key k residents ≡ false → times x ghost + times x residents ≤ 1 → times x (keys_without k ghost) + times x residents + one_if (eqb x k) ≤ 1
once x k ghost residents absent h = grind (arith, nat_tests, cases_eq, times-none, without-own, without-few)

-- also once the ghost may have taken the evicted key
pub still-apart : (x k : ℕ) (ghost residents new_ghost new : List ℕ) (o : Outcome) → has_key k residents ≡ false → times x ghost + times x residents ≤ 1
    → times x new_ghost ≤ times x (keys_without k ghost) + times x (keys_evicted o) → times x new + times x (keys_evicted o) ≡ times x residents + times x (keys_brought k o)
    → times x new_ghost + times x new ≤ 1
still-apart x k ghost residents new_ghost new o absent apart grows moves = omega (arith, grows, moves, once x k ghost residents absent apart, brought-few x k o)

-- ---- a key of one of two ghosts leaves it

pub without-both : (f : ℕ → ℕ) (k : ℕ) (a b : List ℕ) → times k a + times k b ≡ 1 → weight f (keys_without k a) + weight f (keys_without k b) + f k ≡ weight f a + weight f b
without-both f k a b h = grind (arith, nat_tests, weight-without f k a, weight-without f k b, times-none, times-some, no-times)
