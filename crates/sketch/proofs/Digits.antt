-- One digit of a word.
use Rattle.std.proofs.Common.{◌≡◌, ◌≢◌, ℕ, suc, zero, ◌+◌, ◌-◌, ◌*◌, ◌/◌, ◌%◌, ◌<◌, ◌≤◌, ◌^◌, List, length, get_or, set, replicate, bit_and, refl, ap, ◌∙◌, arith, bit_or}
use Rattle.std.proofs.lemmas.Bool.Decides.{nat_tests}
use Rattle.std.proofs.lemmas.Nat.{shr-shr, pow-add, one_shl, and_mask, and_shr, and_mod, or_shr, or_mod, or_comm, or_shifted, mul-le}
use Rattle.std.proofs.lemmas.List.{get_or-set_same, get_or-set_other}
use Rattle.sketch.specs.Counters.{nibble}
use Rattle.std.proofs.Math.Nat.{add-mul}
use Rattle.sketch.specs.Laws.{halved_word, odd_bits, lost_word}

pub four_more : (n : ℕ) → 2 ^ (4 * suc n) ≡ 16 * 2 ^ (4 * n)
four_more n = grind (arith, nat_tests, pow-add 2 4 (4 * n))

pub nibble_is : (n x : ℕ) → x / 2 ^ (4 * n) % 16 ≡ nibble x n
unfolding nibble
nibble_is zero x = let e : x / 1 ≡ x = omega arith in ap (λ y. y % 16) e
nibble_is (suc n) x = grind (arith, nat_tests, shr-shr x 4 (4 * n), nibble_is n (x / 16))

-- as it is read
pub seen : (n x : ℕ) → bit_and (x / 2 ^ (4 * n)) 15 ≡ nibble x n
seen n x = and_mask (x / 2 ^ (4 * n)) 4 ∙ nibble_is n x

pub nibble_lt : (n x : ℕ) → nibble x n < 16
unfolding nibble
nibble_lt zero x = omega arith
nibble_lt (suc n) x = nibble_lt n (x / 16)

pub add_same : (n x : ℕ) → nibble x n < 15 → nibble (x + 2 ^ (4 * n)) n ≡ nibble x n + 1
unfolding nibble
add_same zero x h = omega arith
add_same (suc n) x h = grind (arith, nat_tests, four_more n, add_same n (x / 16) h)

pub add_other : (n m x : ℕ) → nibble x n < 15 → m ≢ n → nibble (x + 2 ^ (4 * n)) m ≡ nibble x m
unfolding nibble
add_other zero zero x h d = absurd (d refl)
add_other zero (suc m) x h d = let e : (x + 1) / 16 ≡ x / 16 = omega arith in ap (λ y. nibble y m) e
add_other (suc n) zero x h d = rw (four_more n) (omega arith)
add_other (suc n) (suc m) x h d =
    let e : (x + 2 ^ (4 * suc n)) / 16 ≡ x / 16 + 2 ^ (4 * n) = rw (four_more n) (omega arith) in
    rw e (add_other n m (x / 16) h (λ q. d (ap suc q)))

-- where digit n is not 0, its unit can be taken off
pub some_le : (n x : ℕ) → 0 < nibble x n → 2 ^ (4 * n) ≤ x
unfolding nibble
some_le zero x h = omega arith
some_le (suc n) x h = rw (four_more n) (let r : 2 ^ (4 * n) ≤ x / 16 = some_le n (x / 16) h in omega arith)

pub sub_same : (n x : ℕ) → 0 < nibble x n → nibble (x - 2 ^ (4 * n)) n ≡ nibble x n - 1
unfolding nibble
sub_same zero x h = omega arith
sub_same (suc n) x h = grind (arith, nat_tests, some_le n (x / 16) h, four_more n, sub_same n (x / 16) h)

pub sub_other : (n m x : ℕ) → 0 < nibble x n → m ≢ n → nibble (x - 2 ^ (4 * n)) m ≡ nibble x m
unfolding nibble
sub_other zero zero x h d = absurd (d refl)
sub_other zero (suc m) x h d = let e : (x - 1) / 16 ≡ x / 16 = omega arith in ap (λ y. nibble y m) e
sub_other (suc n) zero x h d = grind (arith, nat_tests, some_le n (x / 16) h, four_more n)
sub_other (suc n) (suc m) x h d =
    let r : 2 ^ (4 * n) ≤ x / 16 = some_le n (x / 16) h in
    let e : (x - 2 ^ (4 * suc n)) / 16 ≡ x / 16 - 2 ^ (4 * n) = rw (four_more n) (omega arith) in
    rw e (sub_other n m (x / 16) h (λ q. d (ap suc q)))

-- a digit below 15 leaves room for its unit
pub fits_more : (k n x : ℕ) → n < k → x < 2 ^ (4 * k) → nibble x n < 15 → x + 2 ^ (4 * n) < 2 ^ (4 * k)
unfolding nibble
fits_more zero n x w f h = absurd (omega arith)
fits_more (suc k) zero x w f h = let f' : x < 16 * 2 ^ (4 * k) = rw (four_more k) at f in rw (four_more k) (omega arith)
fits_more (suc k) (suc n) x w f h =
    let f' : x < 16 * 2 ^ (4 * k) = rw (four_more k) at f in
    let r : x / 16 + 2 ^ (4 * n) < 2 ^ (4 * k) = fits_more k n (x / 16) (omega arith) (omega arith) h in
    rw (four_more k, four_more n) (omega arith)

pub unit : (at : ℕ) → 1 * 2 ^ (4 * (at % 16)) % 2 ^ 64 ≡ 2 ^ (4 * (at % 16))
unit at = one_shl (4 * (at % 16)) 64 (omega arith)

module _ (ws : List ℕ) (at : ℕ) (within : at < 16 * length ws) where
  pub word_within : at / 16 < length ws
  word_within = omega arith

  -- a word written
  pub set_here : (y : ℕ) → nibble (get_or (set ws (at / 16) y) (at / 16) 0) (at % 16) ≡ nibble y (at % 16)
  set_here y = let w : at / 16 < length ws = word_within in rw get_or-set_same refl

  pub set_other : (y : ℕ) → ((m : ℕ) → m ≢ at % 16 → nibble y m ≡ nibble (get_or ws (at / 16) 0) m) → (i : ℕ) → i ≢ at → nibble (get_or (set ws (at / 16) y) (i / 16) 0) (i % 16) ≡ nibble (get_or ws (i / 16) 0) (i % 16)
  set_other y h i d = grind (arith, nat_tests, word_within, get_or-set_same, get_or-set_other)

  module _ (some : 0 < nibble (get_or ws (at / 16) 0) (at % 16)) where
    pub lowered_here : nibble (get_or (set ws (at / 16) (get_or ws (at / 16) 0 - 1 * 2 ^ (4 * (at % 16)) % 2 ^ 64)) (at / 16) 0) (at % 16) ≡ nibble (get_or ws (at / 16) 0) (at % 16) - 1
    lowered_here = set_here _ ∙ rw (unit at) (sub_same (at % 16) (get_or ws (at / 16) 0) some)

    pub lowered_other : (i : ℕ) → i ≢ at → nibble (get_or (set ws (at / 16) (get_or ws (at / 16) 0 - 1 * 2 ^ (4 * (at % 16)) % 2 ^ 64)) (i / 16) 0) (i % 16) ≡ nibble (get_or ws (i / 16) 0) (i % 16)
    lowered_other = set_other _ (λ m d. rw (unit at) (sub_other (at % 16) m (get_or ws (at / 16) 0) some d))

  module _ (room : nibble (get_or ws (at / 16) 0) (at % 16) < 15) where
    pub raised_here : nibble (get_or (set ws (at / 16) (get_or ws (at / 16) 0 + 1 * 2 ^ (4 * (at % 16)) % 2 ^ 64)) (at / 16) 0) (at % 16) ≡ nibble (get_or ws (at / 16) 0) (at % 16) + 1
    raised_here = set_here _ ∙ rw (unit at) (add_same (at % 16) (get_or ws (at / 16) 0) room)

    pub raised_other : (i : ℕ) → i ≢ at → nibble (get_or (set ws (at / 16) (get_or ws (at / 16) 0 + 1 * 2 ^ (4 * (at % 16)) % 2 ^ 64)) (i / 16) 0) (i % 16) ≡ nibble (get_or ws (i / 16) 0) (i % 16)
    raised_other = set_other _ (λ m d. rw (unit at) (add_other (at % 16) m (get_or ws (at / 16) 0) room d))

pub zero_nibble : (n : ℕ) → nibble 0 n ≡ 0
unfolding nibble
zero_nibble zero = refl
zero_nibble (suc n) = zero_nibble n

zeros : (n i : ℕ) → get_or {A = ℕ} (replicate n 0) i 0 ≡ 0
zeros zero i = refl
zeros (suc n) zero = refl
zeros (suc n) (suc i) = zeros n i

-- a counter of words that are all 0
pub nibble_zero : (n i : ℕ) → nibble (get_or {A = ℕ} (replicate n 0) (i / 16) 0) (i % 16) ≡ 0
nibble_zero n i = rw (zeros n (i / 16)) (zero_nibble (i % 16))

-- words of the same digits
pub same_digits : (k x y : ℕ) → x < 2 ^ (4 * k) → y < 2 ^ (4 * k) → ((n : ℕ) → n < k → nibble x n ≡ nibble y n) → x ≡ y
unfolding nibble
same_digits zero x y f g h = omega arith
same_digits (suc k) x y f g h =
    let f' : x < 16 * 2 ^ (4 * k) = rw (four_more k) at f in
    let g' : y < 16 * 2 ^ (4 * k) = rw (four_more k) at g in
    let low : x % 16 ≡ y % 16 = h 0 (omega arith) in
    let high : x / 16 ≡ y / 16 = same_digits k (x / 16) (y / 16) (omega arith) (omega arith) (λ n v. h (suc n) (omega arith)) in
    omega (arith, low, high)

-- ---- what a halving does to a word's digits

-- ---- the operators, digit by digit

and_digit : (n x y : ℕ) → nibble (bit_and x y) n ≡ bit_and (nibble x n) (nibble y n)
unfolding nibble
and_digit zero x y = and_mod x y 4
and_digit (suc n) x y = ap (λ z. nibble z n) (and_shr x y 4) ∙ and_digit n (x / 16) (y / 16)

or_digit : (n x y : ℕ) → nibble (bit_or x y) n ≡ bit_or (nibble x n) (nibble y n)
unfolding nibble
or_digit zero x y = or_mod x y 4
or_digit (suc n) x y = ap (λ z. nibble z n) (or_shr x y 4) ∙ or_digit n (x / 16) (y / 16)

-- a word moved right by t below 4 has bit t of each digit lowest
shifted : (n t x : ℕ) → t < 4 → nibble (x / 2 ^ t) n % 2 ≡ nibble x n / 2 ^ t % 2
unfolding nibble
shifted zero zero x h = omega arith
shifted zero (suc zero) x h = omega arith
shifted zero (suc (suc zero)) x h = omega arith
shifted zero (suc (suc (suc zero))) x h = omega arith
shifted zero (suc (suc (suc (suc t)))) x h = absurd (omega arith)
shifted (suc n) t x h = grind (arith, nat_tests, shr-shr x t 4, shr-shr x 4 t, shifted n t (x / 16) h)

-- ---- masks that are the same in each digit

mask : ℕ → ℕ → ℕ
mask d zero = 0
mask d (suc k) = mask d k * 16 + d

mask_digit : (d k n : ℕ) → d < 16 → n < k → nibble (mask d k) n ≡ d
unfolding nibble mask
mask_digit d zero n h w = absurd (omega arith)
mask_digit d (suc k) zero h w = omega arith
mask_digit d (suc k) (suc n) h w = grind (arith, nat_tests, mask d k, mask_digit d k n h (omega arith))

halved : (n x : ℕ) → nibble (x / 2) n % 8 ≡ nibble x n / 2
unfolding nibble
halved zero x = omega arith
halved (suc n) x = let e : x / 2 / 16 ≡ x / 16 / 2 = omega arith in rw e (halved n (x / 16))

pub nibble_halved : (n x : ℕ) → n < 16 → nibble (halved_word x) n ≡ nibble x n / 2
unfolding mask
nibble_halved n x w =
    and_digit n (x / 2) (mask 7 16) ∙ ap (bit_and (nibble (x / 2) n)) (mask_digit 7 16 n (omega arith) w) ∙ and_mask (nibble (x / 2) n) 3 ∙ halved n x

pub nibble_odd : (n x : ℕ) → n < 16 → nibble (odd_bits x) n ≡ nibble x n % 2
unfolding mask
nibble_odd n x w = and_digit n x (mask 1 16) ∙ ap (bit_and (nibble x n)) (mask_digit 1 16 n (omega arith) w) ∙ and_mask (nibble x n) 1

-- ---- doubled words

-- a word whose digits are all below 8
pub low_word : (k x : ℕ) → ((n : ℕ) → n < k → nibble x n ≤ 7) → x < 2 ^ (4 * k) → 15 * x + 7 ≤ 7 * 2 ^ (4 * k)
unfolding nibble
low_word zero x h w = omega arith
low_word (suc k) x h w =
    let w' : x < 16 * 2 ^ (4 * k) = rw (four_more k) at w in
    let r : x % 16 ≤ 7 = h 0 (omega arith) in
    let ih : 15 * (x / 16) + 7 ≤ 7 * 2 ^ (4 * k) = low_word k (x / 16) (λ n v. h (suc n) (omega arith)) (omega arith) in
    rw (four_more k) (omega arith)

pub nibble_doubled : (k n x b : ℕ) → n < k → ((m : ℕ) → m < k → nibble x m ≤ 7) → ((m : ℕ) → m < k → nibble b m ≤ 1) → nibble (2 * x + b) n ≡ 2 * nibble x n + nibble b n
unfolding nibble
nibble_doubled zero n x b w h g = absurd (omega arith)
nibble_doubled (suc k) zero x b w h g = let p : x % 16 ≤ 7 = h 0 (omega arith) in let q : b % 16 ≤ 1 = g 0 (omega arith) in omega arith
nibble_doubled (suc k) (suc n) x b w h g =
    let p : x % 16 ≤ 7 = h 0 (omega arith) in
    let q : b % 16 ≤ 1 = g 0 (omega arith) in
    let e : (2 * x + b) / 16 ≡ 2 * (x / 16) + b / 16 = omega arith in
    rw e (nibble_doubled k n (x / 16) (b / 16) (omega arith) (λ m v. h (suc m) (omega arith)) (λ m v. g (suc m) (omega arith)))

-- ---- the lost bits of four words in one

-- a word whose digits are one bit, moved left within them
parts : (x p : ℕ) → x % 16 ≤ 1 → p ≤ 8 → (x * p % 16 ≡ x % 16 * p) × (x * p / 16 ≡ x / 16 * p)
parts x p b h = grind (arith, nat_tests, mul-le (x % 16) p 1 8 b h, add-mul (x / 16 * 16) (x % 16) p)

moved : (k n p x : ℕ) → n < k → p ≤ 8 → ((m : ℕ) → m < k → nibble x m ≤ 1) → nibble (x * p) n ≡ nibble x n * p
unfolding nibble
moved zero n p x w h b = absurd (omega arith)
moved (suc k) zero p x w h b = (parts x p (b 0 (omega arith)) h).0
moved (suc k) (suc n) p x w h b = rw ((parts x p (b 0 (omega arith)) h).1) (moved k n p (x / 16) (omega arith) h (λ m v. b (suc m) (omega arith)))

union_low : (a b c d : ℕ) → a < 2 → b < 2 → c < 2 → d < 2 → bit_or (bit_or (bit_or a (b * 2)) (c * 4)) (d * 8) ≡ a + 2 * b + 4 * c + 8 * d
union_low a b c d p q r s = search (arith, or_comm, or_shifted)

module _ (ws : List ℕ) (j n : ℕ) (w : n < 16) where
  -- what one of the four words loses in a digit
  abbrev lost : ℕ → ℕ
  lost t = nibble (get_or ws (4 * j + t) 0) n % 2

  moved_bit : (t p : ℕ) → p ≤ 8 → nibble (odd_bits (get_or ws (4 * j + t) 0) * p) n ≡ lost t * p
  moved_bit t p h = grind (arith, nat_tests, moved, nibble_odd)

  all_lost : nibble (lost_word ws j) n ≡ lost 0 + 2 * lost 1 + 4 * lost 2 + 8 * lost 3
  all_lost = grind (arith, nat_tests, or_digit, nibble_odd, moved_bit, union_low)

  picked : (t : ℕ) → t < 4 → (lost 0 + 2 * lost 1 + 4 * lost 2 + 8 * lost 3) / 2 ^ t % 2 ≡ lost t
  picked v h = grind (arith, nat_tests)

  -- what the lost words keep of a digit of word 4j+t
  pub lost_digit : (t : ℕ) → t < 4 → nibble (odd_bits (lost_word ws j / 2 ^ t)) n ≡ nibble (get_or ws (4 * j + t) 0) n % 2
  lost_digit t h = nibble_odd n (lost_word ws j / 2 ^ t) w ∙ shifted n t (lost_word ws j) h ∙ rw all_lost (picked t h)
