-- How many counters are odd, word by word.
use Rattle.std.proofs.Common.{◌≡◌, ℕ, zero, suc, ◌+◌, ◌*◌, ◌/◌, ◌%◌, ◌<◌, ◌≤◌, ◌^◌, cond, List, length, get_or, count_by, ap, ◌∙◌, refl, arith}
use Rattle.std.proofs.lemmas.Bool.Decides.{nat_tests}
use Rattle.std.proofs.lemmas.List.FromFn.{sum_by-map-range_with_len_more}
use Rattle.std.proofs.lemmas.List.Sums.{count_by-le-length}
use Rattle.std.proofs.lemmas.Nat.{and_le_r, ones_le_self}
use Rattle.std.specs.Int.RustNames.{count_ones}
use lib.Count.{ones_step}
use Rattle.engine_base.specs.Places.{by_place}
use Rattle.engine_base.proofs.Places.{length-by_place}
use Rattle.sketch.specs.Counters.{nibble, counter_at}
use Rattle.sketch.specs.Laws.{odd_bits}
use Rattle.sketch.specs.Sketch.{is_odd}
use Rattle.sketch.proofs.Digits.{four_more, nibble_odd}

-- how many of the first n are odd
odd_below : ℕ → (ℕ → ℕ) → ℕ
odd_below n f = count_by is_odd (by_place n f)

one : ℕ → ℕ
one x = cond (is_odd x) 1 0

odd_more : (n : ℕ) (f : ℕ → ℕ) → odd_below (suc n) f ≡ odd_below n f + one (f n)
unfolding one odd_below
odd_more n f =
    let q : suc n ≡ n + 1 = omega arith in
    let e : odd_below (suc n) f ≡ odd_below (n + 1) f = ap (λ m. odd_below m f) q in
    let a = sum_by-map-range_with_len_more (λ x. cond {A = ℕ} (is_odd x) 1 0) f 0 n n (omega arith) in
    e ∙ a

odd_none : (f : ℕ → ℕ) → odd_below 0 f ≡ 0
unfolding odd_below
odd_none f = refl

-- the first digit, and the others
odd_first : (k x : ℕ) → odd_below (suc k) (nibble x) ≡ one (x % 16) + odd_below k (nibble (x / 16))
unfolding nibble
odd_first zero x = let a = odd_more 0 (nibble x) in let b = odd_none (nibble x) in let c = odd_none (nibble (x / 16)) in omega (arith, a, b, c)
odd_first (suc k) x =
    let a : odd_below (suc (suc k)) (nibble x) ≡ odd_below (suc k) (nibble x) + one (nibble (x / 16) k) = odd_more (suc k) (nibble x) in
    let b = odd_first k x in
    let c = odd_more k (nibble (x / 16)) in
    omega (arith, a, b, c)

-- a word whose digits are at most 1 has as many bits set
digit_ones : (y : ℕ) → y % 16 ≤ 1 → count_ones y ≡ y % 16 + count_ones (y / 16)
digit_ones y h =
    let a = ones_step y in
    let b = ones_step (y / 2) in
    let c = ones_step (y / 2 / 2) in
    let d = ones_step (y / 2 / 2 / 2) in
    let e : y / 2 / 2 / 2 / 2 ≡ y / 16 = omega arith in
    let f : count_ones (y / 2 / 2 / 2 / 2) ≡ count_ones (y / 16) = ap count_ones e in
    omega (arith, a, b, c, d, f, h)

one_is : (x : ℕ) → x ≤ 1 → one x ≡ x
unfolding one
one_is x h = grind (arith, nat_tests)

ones_are : (k y : ℕ) → y < 2 ^ (4 * k) → ((n : ℕ) → n < k → nibble y n ≤ 1) → count_ones y ≡ odd_below k (nibble y)
unfolding nibble
ones_are zero y lt low = let z : y ≡ 0 = omega arith in let a = odd_none (nibble y) in let b = ones_le_self y in omega (arith, a, b, z)
ones_are (suc k) y lt low =
    let lt' : y < 16 * 2 ^ (4 * k) = rw (four_more k) at lt in
    let first : y % 16 ≤ 1 = low 0 (omega arith) in
    let rest : count_ones (y / 16) ≡ odd_below k (nibble (y / 16)) = ones_are k (y / 16) (omega arith) (λ n h. low (suc n) (omega arith)) in
    let a = digit_ones y first in
    let b = odd_first k y in
    let c = one_is (y % 16) first in
    omega (arith, rest, a, b, c)

-- the lowest bits of a word's digits are odd where these are
one_of_rest : (x : ℕ) → one (x % 2) ≡ one x
unfolding one
one_of_rest x = let e : x % 2 % 2 ≡ x % 2 = omega arith in rw e refl

odd_same : (k x : ℕ) → k ≤ 16 → odd_below k (nibble (odd_bits x)) ≡ odd_below k (nibble x)
odd_same zero x h = let a = odd_none (nibble (odd_bits x)) in let b = odd_none (nibble x) in omega (arith, a, b)
odd_same (suc k) x h =
    let a = odd_more k (nibble (odd_bits x)) in
    let b = odd_more k (nibble x) in
    let c : one (nibble (odd_bits x) k) ≡ one (nibble x k) = ap one (nibble_odd k x (omega arith)) ∙ one_of_rest (nibble x k) in
    let d = odd_same k x (omega arith) in
    omega (arith, a, b, c, d)

bits_low : (x n : ℕ) → n < 16 → nibble (odd_bits x) n ≤ 1
bits_low x n h = let e = nibble_odd n x h in omega (arith, e)

-- a word's odd counters
word_ones : (x : ℕ) → count_ones (odd_bits x) ≡ odd_below 16 (nibble x)
word_ones x =
    let few : odd_bits x ≤ 1229782938247303441 = and_le_r x 1229782938247303441 in
    ones_are 16 (odd_bits x) (omega (arith, few)) (bits_low x) ∙ odd_same 16 x (omega arith)

odd_part : (ws : List ℕ) (j m : ℕ) → m ≤ 16 → odd_below (16 * j + m) (counter_at ws) ≡ odd_below (16 * j) (counter_at ws) + odd_below m (nibble (get_or ws j 0))
odd_part ws j zero h =
    let e : odd_below (16 * j + 0) (counter_at ws) ≡ odd_below (16 * j) (counter_at ws) = ap (λ n. odd_below n (counter_at ws)) (omega arith) in
    let z = odd_none (nibble (get_or ws j 0)) in
    omega (arith, e, z)
odd_part ws j (suc m) h =
    let e : odd_below (16 * j + suc m) (counter_at ws) ≡ odd_below (suc (16 * j + m)) (counter_at ws) = ap (λ n. odd_below n (counter_at ws)) (omega arith) in
    let a = odd_more (16 * j + m) (counter_at ws) in
    let b = odd_more m (nibble (get_or ws j 0)) in
    let d : (16 * j + m) / 16 ≡ j = omega arith in
    let r : (16 * j + m) % 16 ≡ m = omega arith in
    let c : one (counter_at ws (16 * j + m)) ≡ one (nibble (get_or ws j 0) m) = rw (d, r) refl in
    let before = odd_part ws j m (omega arith) in
    omega (arith, e, a, b, c, before)

odd_words : (ws : List ℕ) (j : ℕ) → odd_below (16 * (j + 1)) (counter_at ws) ≡ odd_below (16 * j) (counter_at ws) + count_ones (odd_bits (get_or ws j 0))
odd_words ws j =
    let e : odd_below (16 * (j + 1)) (counter_at ws) ≡ odd_below (16 * j + 16) (counter_at ws) = ap (λ n. odd_below n (counter_at ws)) (omega arith) in
    let a = odd_part ws j 16 (omega arith) in
    let b = word_ones (get_or ws j 0) in
    omega (arith, e, a, b)

-- one word more
pub odd_word : (ws : List ℕ) (j : ℕ) → count_by is_odd (by_place (16 * (j + 1)) (counter_at ws)) ≡ count_by is_odd (by_place (16 * j) (counter_at ws)) + count_ones (odd_bits (get_or ws j 0))
unfolding odd_below
odd_word ws j = odd_words ws j

pub odd_few : (n : ℕ) (f : ℕ → ℕ) → count_by is_odd (by_place n f) ≤ n
odd_few n f = let a = count_by-le-length is_odd (by_place n f) in let b : length (by_place n f) ≡ n = length-by_place n f in omega (arith, a, b)
