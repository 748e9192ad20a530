-- How many bits of words are set below a place.
use Rattle.std.proofs.lemmas.Grind.{common_steps}
use Rattle.std.proofs.Common.{◌≡◌, ℕ, suc, zero, ◌+◌, ◌-◌, ◌*◌, ◌/◌, ◌%◌, ◌^◌, ◌<◌, ◌≤◌, true, false, cond, eqb, nat_lt, List, length, get_or, bit_and, ap, ◌∙◌, sym, refl, arith, inl, inr, w64}
use Rattle.std.specs.Int.{bit_at, bit_not, trailing_zeros}
use Rattle.std.specs.Int.Count.{ones}
use Rattle.std.proofs.lemmas.Nat.{ones_cat, and_mask, mod-pow-add, one_shl, mod_below, pow_pos, shr-shr}
use Rattle.std.proofs.lemmas.Bool.{cases_eq, eq-eqb, eqb-true, cases_lt}
use Rattle.std.proofs.lemmas.Bool.Decides.{nat_tests}
use Rattle.engine_base.specs.Bits.{bit_of}
use Rattle.queue_cache.specs.FenwickTree.{IsFenwickTree}
use Rattle.queue_cache.specs.Sums.{sum_below, mark_of, marks_before}
use Rattle.queue_cache.proofs.FenwickTree.{start-low}
use Rattle.std.proofs.lemmas.Nat.Bits.{bit_at-zero, bit_at-lt, bit_at_not, bit_at_above, bit_at-trailing_zeros}
use Rattle.queue_cache.specs.Window.{IsFirstClear}

-- ---- one word

abbrev bit_in : ℕ → ℕ → ℕ
bit_in w r = cond (eqb (bit_at w r) 1) 1 0

one-bit : (b : ℕ) → b < 2 → ones b ≡ cond (eqb b 1) 1 0
unfolding ones
one-bit v h = grind (arith, nat_tests)

ones-none : ones 0 ≡ 0
unfolding ones
ones-none = refl

ones-below : (w k : ℕ) → ones (w % 2 ^ k) ≡ sum_below (bit_in w) k
ones-below w zero = let z : w % 1 ≡ 0 = omega arith in ap ones z ∙ ones-none
ones-below w (suc k) =
    search (arith, mod-pow-add w 1 k, mod_below w (2 ^ k) (pow_pos k), pow_pos k, ones_cat, ones-below w k, one-bit)

-- ---- the words below one, and the low bits of that

sum-in-word : (ws : List ℕ) (v k : ℕ) → k ≤ 64 → sum_below (mark_of ws) (64 * v + k) ≡ sum_below (mark_of ws) (64 * v) + sum_below (bit_in (get_or ws v 0)) k
sum-in-word ws v zero h = let z : 64 * v + 0 ≡ 64 * v = omega arith in rw z (omega arith)
sum-in-word ws v (suc k) h =
    let s : 64 * v + suc k ≡ suc (64 * v + k) = omega arith in
    let word : (64 * v + k) / 64 ≡ v = omega arith in
    let bit : (64 * v + k) % 64 ≡ k = omega arith in
    rw s (omega (arith, sum-in-word ws v k (omega arith), ap (λ n. bit_in (get_or ws n 0) ((64 * v + k) % 64)) word ∙ ap (bit_in (get_or ws v 0)) bit))

pub marks-below : (ws : List ℕ) (p x a : ℕ) → x ≡ get_or ws (p / 64) 0 → a ≡ sum_below (mark_of ws) (64 * (p / 64)) → a + ones (bit_and x (1 * 2 ^ (p % 64) % 2 ^ 64 - 1)) ≡ sum_below (mark_of ws) p
marks-below ws p x a e s = grind (arith, common_steps, one_shl, and_mask, ones-below, sum-in-word)

pub marks-in-word : (ws : List ℕ) (v x : ℕ) → x ≡ get_or ws v 0 → x < 2 ^ 64 → marks_before ws v + ones x ≡ marks_before ws (v + 1)
marks-in-word ws v x e fits =
    let whole : x % 2 ^ 64 ≡ x = omega (arith, fits) in
    let next : 64 * v + 64 ≡ 64 * (v + 1) = omega arith in
    omega (arith, ap ones whole, ones-below x 64, sum-in-word ws v 64 (omega arith), ap (λ y. sum_below (bit_in y) 64) e, ap (sum_below (mark_of ws)) next)

pub sum-grows : (f : ℕ → ℕ) (n m : ℕ) → n ≤ m → sum_below f n ≤ sum_below f m
sum-grows f n zero h = let none : n ≡ 0 = omega (arith, h) in rw none (omega arith)
sum-grows f n (suc m) h = elim (cases_eq n (suc m)) [ inl e ↦ rw e (omega arith) | inr d ↦ omega (arith, sum-grows f n m (omega (arith, h, d))) ]

pub marks-grow : (ws : List ℕ) (m n : ℕ) → m ≤ n → marks_before ws m ≤ marks_before ws n
marks-grow ws m n h = sum-grows (mark_of ws) (64 * m) (64 * n) (omega (arith, h))

-- ---- one mark

module _ (ws vs : List ℕ) (p : ℕ) (free : bit_of ws p ≡ false) (puts : (q : ℕ) → bit_of vs q ≡ cond (eqb q p) true (bit_of ws q)) where
  pub put-marks : (n : ℕ) → sum_below (mark_of vs) n ≡ sum_below (mark_of ws) n + cond (nat_lt p n) 1 0
  put-marks zero = grind (arith, nat_tests)
  put-marks (suc n) = grind (arith, nat_tests, put-marks n)

pub take-marks : (ws vs : List ℕ) (p : ℕ) → bit_of ws p ≡ true → ((q : ℕ) → bit_of vs q ≡ cond (eqb q p) false (bit_of ws q)) → (n : ℕ) → sum_below (mark_of ws) n ≡ sum_below (mark_of vs) n + cond (nat_lt p n) 1 0
take-marks ws vs p marked takes = grind (arith, nat_tests, put-marks, eq-eqb p p refl, eqb-true)

-- ---- the tree over the words

module _ (ws vs sums : List ℕ) (p : ℕ) (more : (n : ℕ) → sum_below (mark_of vs) n ≡ sum_below (mark_of ws) n + cond (nat_lt p n) 1 0) (tree : IsFenwickTree (marks_before ws) sums) (behind : length sums ≡ p / 64) where
  -- a mark in the word behind those of the tree
  pub tree-beside : IsFenwickTree (marks_before vs) sums
  tree-beside = (grind (arith, nat_tests, (marks-grow vs), start-low))

  -- and in its last place
  module _ (last : p % 64 ≡ 63) (x : ℕ) (word : x ≡ get_or vs (p / 64) 0) (fits : x < 2 ^ 64) where
    pub next-word : marks_before vs (length sums + 1) ≡ marks_before vs (length sums) + ones x
    next-word = rw behind (sym (marks-in-word vs (p / 64) x word fits))

    pub few-marks : (b : ℕ) → sum_below (mark_of ws) (p + 1) < b → marks_before vs (length sums) + ones x ≤ b
    few-marks b few = grind (arith, nat_tests, next-word)

module _ (ws vs : List ℕ) (p : ℕ) (more : (n : ℕ) → sum_below (mark_of ws) n ≡ sum_below (mark_of vs) n + cond (nat_lt p n) 1 0) where
  pub one-less : (n : ℕ) → marks_before ws n ≡ marks_before vs n + cond (nat_lt (p / 64) n) 1 0
  one-less n = grind (arith, nat_tests)

  pub some-less : marks_before ws (p / 64) < marks_before ws (p / 64 + 1)
  some-less = grind (arith, nat_tests, one-less, marks-grow)

-- ---- the first bit of words, from a place on, that is not set

-- what is left of the inverse of the word that has a bit, from that bit on
abbrev pub clear_from : ℕ → ℕ → ℕ
clear_from x at = bit_not w64 x / 2 ^ (at % 64)

module _ (ws : List ℕ) (from at x : ℕ) (is : x ≡ get_or ws (at / 64) 0) (fits : x < 2 ^ 64) (order : from ≤ at) (ones : (i : ℕ) → from ≤ i → i < at → bit_of ws i ≡ true) where
  left : (t : ℕ) → bit_at (clear_from x at) t ≡ bit_at (bit_not w64 x) (at % 64 + t)
  left t = ap (λ (y : ℕ). y % 2) (shr-shr (bit_not w64 x) (at % 64) t)

  turned : (t : ℕ) → at % 64 + t < 64 → bit_at (clear_from x at) t ≡ 1 - bit_at x (at % 64 + t)
  turned t h = left t ∙ bit_at_not w64 x (at % 64 + t) fits h

  set-up-to : (n : ℕ) → at % 64 + n ≤ 64 → ((t : ℕ) → t < n → bit_at (clear_from x at) t ≡ 0) → (i : ℕ) → from ≤ i → i < at + n → bit_of ws i ≡ true
  set-up-to n h none i begin end =
      elim (cases_lt i at) [
        | inl less ↦ ones i begin less
        | inr more ↦
            let e : at + (i - at) ≡ i = omega (arith, more) in
            ap (bit_of ws) (sym e) ∙ (grind (arith, nat_tests, turned (i - at) (omega (arith, e, end, h)), bit_at-lt x (at % 64 + (i - at))))
      ]

  pub found : 0 < clear_from x at → IsFirstClear ws from (at + trailing_zeros w64 (clear_from x at))
  found some =
      let t = trailing_zeros w64 (clear_from x at) in
      let inverse : bit_not w64 x < 2 ^ 64 = omega (arith, fits) in
      let low = bit_at-trailing_zeros w64 (clear_from x at) some (omega (arith, inverse)) in
      let within : at % 64 + t < 64 = elim (cases_lt (at % 64 + t) 64) [
        | inl less ↦ less
        | inr more ↦
            absurd (omega (arith, left t ∙ bit_at_above (bit_not w64 x) 64 (at % 64 + t) inverse (omega (arith, more)), low.1))
      ] in
      grind (arith, nat_tests, turned, set-up-to t (omega (arith, within)) low.2)

  pub none-found : clear_from x at ≡ 0 → (i : ℕ) → from ≤ i → i < (at / 64 + 1) * 64 → bit_of ws i ≡ true
  none-found none i begin end =
      set-up-to (64 - at % 64) (omega arith) (λ t h. ap (λ (y : ℕ). bit_at y t) none ∙ bit_at-zero t) i begin (omega (arith, end))
