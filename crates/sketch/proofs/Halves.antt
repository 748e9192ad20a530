-- A halving of a whole table, and its undoing.
use Rattle.std.proofs.Common.{◌≡◌, ℕ, ◌+◌, ◌*◌, ◌/◌, ◌%◌, ◌<◌, ◌≤◌, ◌^◌, false, cond, eqb, List, length, get_or, map, refl, ap, ◌∙◌, sym, arith, [], ◌∷◌, ◌-◌, nat_lt, set, bit_or}
use Rattle.std.proofs.lemmas.Bool.Decides.{nat_tests}
use Rattle.std.proofs.lemmas.List.{get_or-map, get_or_past, length-map, get_or-set_same, get_or-set_other, length-set}
use Rattle.std.specs.Int.{bit_at}
use Rattle.engine_base.specs.Bits.{bit_of, bits_of}
use Rattle.sketch.specs.Counters.{nibble, counter_at}
use Rattle.sketch.specs.Laws.{halved_word, odd_bits, lost_word, lost_of_word, unhalved_words, lost_bit}
use Rattle.engine_base.specs.Places.{by_place}
use Rattle.sketch.specs.HalveRecord.{HalveRecord, counter_kept, kept_at, halve_record_of, table_before_halving}
use Rattle.sketch.specs.Sketch.{Spread, Table, halved_table, IsTable}
use Rattle.std.proofs.lemmas.Nat.{and_le_r, shr-shr, mul-le}
use Rattle.sketch.proofs.Digits.{same_digits, nibble_is, nibble_lt, zero_nibble, nibble_halved, nibble_odd, lost_digit, nibble_doubled, low_word}
use Rattle.engine_base.proofs.Places.{length-by_place, get_or-by_place, by_place_same, by_place_whole}
use Rattle.sketch.proofs.RowLists.{small_by_place}
use Rattle.sketch.proofs.Tables.{table}
use Rattle.std.proofs.lemmas.List.FromFn.{fill_by_all}
use Rattle.std.proofs.lemmas.Simd.{get_or-put_chunk_at, get_or-put_chunk_above, length-chunk, get_or-chunk}
use lib.Lanes.{chunk, put_chunk}

module _ (ws : List ℕ) where
  pub halved_at : (i : ℕ) → i < 16 * length ws → counter_at (map halved_word ws) i ≡ counter_at ws i / 2
  halved_at i h = grind (arith, nat_tests, get_or-map, nibble_halved (i % 16) (get_or ws (i / 16) 0) (omega arith))

-- bit t of digit n of a word
bit_digit : (n t x : ℕ) → bit_at x (4 * n + t) ≡ nibble (x / 2 ^ t) n % 2
bit_digit n t x = grind (arith, nat_tests, shr-shr x t (4 * n), nibble_is n (x / 2 ^ t))

one_or_none : (v : ℕ) → v < 2 → v ≡ cond (eqb v 1) 1 0
one_or_none v h = grind (arith, nat_tests)

-- the lost bit of a counter is a bit of the lost words
bit_kept : (lost : List ℕ) (i : ℕ) → lost_bit lost i ≡ cond (bit_of lost (kept_at i)) 1 0
bit_kept lost i =
    let a : kept_at i / 64 ≡ i / 16 / 4 = omega arith in
    let b : kept_at i % 64 ≡ 4 * (i % 16) + i / 16 % 4 = omega arith in
    let x = get_or lost (i / 16 / 4) 0 in
    let d : bit_at x (4 * (i % 16) + i / 16 % 4) ≡ nibble (x / 2 ^ (i / 16 % 4)) (i % 16) % 2 = bit_digit (i % 16) (i / 16 % 4) x in
    let o : lost_bit lost i ≡ nibble (x / 2 ^ (i / 16 % 4)) (i % 16) % 2 = nibble_odd (i % 16) (x / 2 ^ (i / 16 % 4)) (omega arith) in
    o ∙ one_or_none _ (omega arith) ∙ ap (λ v. cond (eqb v 1) 1 0) (sym d) ∙ sym (ap (λ k. cond (eqb (bit_at (get_or lost k 0) (kept_at i % 64)) 1) 1 0) a ∙ ap (λ k. cond (eqb (bit_at x k) 1) 1 0) b)

-- and a bit of the lost words is the lost bit of a counter
bit_lost : (ws : List ℕ) (n p : ℕ) → 4 * n ≡ length ws → p < 16 * length ws → bit_at (get_or (by_place n (lost_word ws)) (p / 64) 0) (p % 64) ≡ counter_at ws (counter_kept p) % 2
bit_lost ws n p e h =
    let w : p / 64 < n = omega (arith, e) in
    let b : p % 64 ≡ 4 * (p % 64 / 4) + p % 4 = omega arith in
    let x = lost_word ws (p / 64) in
    let c : counter_kept p / 16 ≡ 4 * (p / 64) + p % 4 = omega arith in
    let d : counter_kept p % 16 ≡ p % 64 / 4 = omega arith in
    ap (λ y. bit_at y (p % 64)) (get_or-by_place n (lost_word ws) (p / 64) 0 w)
    ∙ ap (bit_at x) b
    ∙ bit_digit (p % 64 / 4) (p % 4) x
    ∙ sym (nibble_odd (p % 64 / 4) (x / 2 ^ (p % 4)) (omega arith))
    ∙ lost_digit ws (p / 64) (p % 64 / 4) (omega arith) (p % 4) (omega arith)
    ∙ sym (ap (λ k. nibble (get_or ws k 0) (counter_kept p % 16) % 2) c ∙ ap (λ k. nibble (get_or ws (4 * (p / 64) + p % 4) 0) k % 2) d)

pub low_past : (ws : List ℕ) (i : ℕ) → length ws ≤ i / 16 → counter_at ws i ≡ 0
low_past ws i h = ap (λ x. nibble x (i % 16)) (get_or_past ws (i / 16) 0 h) ∙ zero_nibble (i % 16)

pub low_everywhere : (ws : List ℕ) (w : ℕ) → w ≡ 4 * length ws → ((i : ℕ) → i < 4 * w → counter_at ws i ≤ 7) → (i : ℕ) → counter_at ws i ≤ 7
low_everywhere ws w e h i = grind (arith, nat_tests, low_past)

-- digit n of a word of digits below 8, from the digits of all the words
pub low_digit : (ws : List ℕ) (j n : ℕ) → n < 16 → ((i : ℕ) → counter_at ws i ≤ 7) → nibble (get_or ws j 0) n ≤ 7
low_digit ws j n w h =
    let d : (16 * j + n) / 16 ≡ j = omega arith in
    let m : (16 * j + n) % 16 ≡ n = omega arith in
    let a = h (16 * j + n) in rw (d, m) at a

module _ (w : ℕ) (s : Spread) (some : 0 < w) (ws : List ℕ) (whole : w ≡ 4 * length ws) where
  pub halve_after : table w s some (counter_at (map halved_word ws)) ≡ halved_table (table w s some (counter_at ws))
  halve_after = grind (arith, nat_tests, by_place_same, halved_at, get_or-by_place)

  -- the bits of the lost words are the halving's record
  pub lost_is : (n : ℕ) → 4 * n ≡ length ws → ◌≡◌ {A = HalveRecord} record { lost = bits_of (by_place n (lost_word ws)) } (halve_record_of (table w s some (counter_at ws)))
  lost_is n few = grind (arith, nat_tests, length-by_place n (lost_word ws), by_place_same, bit_lost, get_or-by_place)

  pub unhalve_after : (lost : List ℕ) → ((i : ℕ) → counter_at ws i ≤ 7) → length ws ≡ 4 * length lost
      → table w s some (counter_at (by_place (length ws) (λ i. 2 * get_or ws i 0 + lost_of_word lost i))) ≡ table_before_halving record { lost = bits_of lost } (table w s some (counter_at ws))
  unhalve_after lost low few = ap (λ (cs : List ℕ). let t : Table = record { width = w; spread = s; counters = cs } in t)
      (by_place_same (4 * w) _ _ 0 (λ i h.
      let v : i / 16 < length ws = omega (arith, whole) in
      rw (
        get_or-by_place (length ws) (λ i. 2 * get_or ws i 0 + lost_of_word lost i) (i / 16) 0 v,
        get_or-by_place (4 * w) (counter_at ws) i 0 h,
        get_or-by_place (64 * length lost) (bit_of lost) (kept_at i) false (omega (arith, whole, few)),
      )
      (nibble_doubled 16 (i % 16) (get_or ws (i / 16) 0) (lost_of_word lost (i / 16)) (omega arith) (λ m b. low_digit ws (i / 16) m b low)
      (λ m b. let o = nibble_odd m (get_or lost (i / 16 / 4) 0 / 2 ^ (i / 16 % 4)) b in omega (arith, o))
      ∙ ap (λ b. 2 * counter_at ws i + b) (bit_kept lost i))))

-- the counters of any words make a table
pub table_is : (w : ℕ) (s : Spread) (ws : List ℕ) → 16 ≤ w → w ≡ 16 * (w / 16) → IsTable record { width = w; spread = s; counters = by_place (4 * w) (counter_at ws) }
table_is w s ws wide even = grind (arith, nat_tests, length-by_place (4 * w) (counter_at ws), small_by_place, nibble_lt)

-- no counter is over 7 once it is halved
pub low_halved : (ws : List ℕ) (i : ℕ) → counter_at (map halved_word ws) i ≤ 7
low_halved ws i = grind (arith, nat_tests, halved_at, nibble_lt, low_past, length-map)

-- a word halved, and unhalved by the bits that it lost
word_undone : (ws : List ℕ) (m i : ℕ) → i / 4 < m → get_or ws i 0 < 2 ^ 64 → 2 * halved_word (get_or ws i 0) + lost_of_word (by_place m (lost_word ws)) i ≡ get_or ws i 0
word_undone ws m i w lt =
    let x = get_or ws i 0 in
    let h = halved_word x in
    let b = lost_of_word (by_place m (lost_word ws)) i in
    let q : 4 * (i / 4) + i % 4 ≡ i = omega arith in
    let bits : (n : ℕ) → n < 16 → nibble b n ≡ nibble x n % 2 = λ n v.
    ap (λ y. nibble (odd_bits (y / 2 ^ (i % 4))) n) (get_or-by_place m (lost_word ws) (i / 4) 0 w)
    ∙ lost_digit ws (i / 4) n v (i % 4) (omega arith)
    ∙ ap (λ j. nibble (get_or ws j 0) n % 2) q in
    let halves : (n : ℕ) → n < 16 → nibble h n ≡ nibble x n / 2 = λ n v. nibble_halved n x v in
    let low : (n : ℕ) → n < 16 → nibble h n ≤ 7 = λ n v. let e = halves n v in let l = nibble_lt n x in omega (arith, e, l) in
    let few : (n : ℕ) → n < 16 → nibble b n ≤ 1 = λ n v. let e = bits n v in omega (arith, e) in
    let hb : h ≤ 8608480567731124087 = and_le_r (x / 2) 8608480567731124087 in
    let bb : b ≤ 1229782938247303441 = and_le_r (get_or (by_place m (lost_word ws)) (i / 4) 0 / 2 ^ (i % 4)) 1229782938247303441 in
    same_digits 16 (2 * h + b) x (omega (arith, hb, bb)) lt (λ n v.
    nibble_doubled 16 n h b v low few ∙ rw (halves n v, bits n v) (omega arith))

pub words_undone : (ws new lost : List ℕ) (m : ℕ) → m ≡ (length ws + 3) / 4 → new ≡ map halved_word ws → lost ≡ by_place m (lost_word ws) → ((i : ℕ) → i < length ws → get_or ws i 0 < 2 ^ 64)
    → unhalved_words new lost ≡ ws
words_undone ws new lost m few e f fits =
    let n : length (map halved_word ws) ≡ length ws = length-map ws halved_word in
    grind (arith, nat_tests, by_place_same, get_or-map, word_undone, by_place_whole ws (length ws) 0 refl)

-- ---- eight words of counters among the others

-- the eight words, one by one
pub eight : (ws : List ℕ) (at : ℕ) → at + 8 ≤ length ws → chunk at 8 ws ≡ by_place 8 (λ t. get_or ws (at + t) 0)
eight ws at h = fill_by_all (λ t. get_or ws (at + t) 0) (chunk at 8 ws) 8 0 (length-chunk at 8 ws h) (λ t w. get_or-chunk at 8 ws t 0 w)

-- a lane moved left by less than 4 loses no bit
lane : (x p : ℕ) → p ≤ 8 → odd_bits x * p % 2 ^ 64 ≡ odd_bits x * p
lane x p h = let l : odd_bits x ≤ 1229782938247303441 = and_le_r x 1229782938247303441 in let m : odd_bits x * p ≤ 1229782938247303441 * 8 = mul-le (odd_bits x) p 1229782938247303441 8 l h in omega (arith, m)

pub quad : (a b c d : ℕ) → bit_or (bit_or (bit_or (odd_bits a * 1 % 2 ^ 64) (odd_bits b * 2 % 2 ^ 64)) (odd_bits c * 4 % 2 ^ 64)) (odd_bits d * 8 % 2 ^ 64) ≡ bit_or (bit_or (bit_or (odd_bits a) (odd_bits b * 2)) (odd_bits c * 4)) (odd_bits d * 8)
quad a b c d =
    search (arith, lane a 1 (omega arith), lane b 2 (omega arith), lane c 4 (omega arith), lane d 8 (omega arith))

pub two_same : (a b c d : ℕ) → a ≡ c → b ≡ d → ◌≡◌ {A = List ℕ} (a ∷ b ∷ []) (c ∷ d ∷ [])
two_same a b c d p q = rw (p, q) refl

-- the words with eight of them halved
pub block_at : (ws : List ℕ) (at k : ℕ) → at + 8 ≤ length ws → at ≤ k → k < at + 8 → get_or (put_chunk at ws (map halved_word (chunk at 8 ws))) k 0 ≡ halved_word (get_or ws k 0)
block_at ws at k w lo hi =
    let n : length (chunk at 8 ws) ≡ 8 = length-chunk at 8 ws w in
    let m : length (map halved_word (chunk at 8 ws)) ≡ 8 = length-map (chunk at 8 ws) halved_word ∙ n in
    let e : k ≡ at + (k - at) = omega arith in
    ap (λ i. get_or (put_chunk at ws (map halved_word (chunk at 8 ws))) i 0) e
    ∙ get_or-put_chunk_at at ws (map halved_word (chunk at 8 ws)) (k - at) 0 (omega (arith, m)) (omega (arith, m))
    ∙ get_or-map halved_word (chunk at 8 ws) (k - at) 0 0 (omega (arith, n))
    ∙ ap halved_word (get_or-chunk at 8 ws (k - at) 0 (omega arith) ∙ ap (λ i. get_or ws i 0) (sym e))

pub block_past : (ws : List ℕ) (at k : ℕ) → at + 8 ≤ length ws → at + 8 ≤ k → get_or (put_chunk at ws (map halved_word (chunk at 8 ws))) k 0 ≡ get_or ws k 0
block_past ws at k w hi =
    grind (arith, nat_tests, length-map (chunk at 8 ws) halved_word, length-chunk at 8 ws w, get_or-put_chunk_above)

-- the lost words depend on four words alone
pub lost_same : (ws vs : List ℕ) (j : ℕ) → ((k : ℕ) → 4 * j ≤ k → get_or ws k 0 ≡ get_or vs k 0) → lost_word ws j ≡ lost_word vs j
lost_same ws vs j h = rw (h (4 * j + 0) (omega arith), h (4 * j + 1) (omega arith), h (4 * j + 2) (omega arith), h (4 * j + 3) (omega arith)) refl

-- a lane of counters of at most 7, doubled, has room for its lost bits
pub lane_doubled : (x b : ℕ) → x < 2 ^ 64 → ((n : ℕ) → n < 16 → nibble x n ≤ 7) → (x * 2 % 2 ^ 64 + odd_bits b) % 2 ^ 64 ≡ 2 * x + odd_bits b
lane_doubled x b lt low = grind (arith, nat_tests, low_word 16 x low lt, and_le_r b 1229782938247303441)

-- where the lost bits of a word of a block are
pub lost_in_block : (lost : List ℕ) (b t : ℕ) → t < 8 → odd_bits (cond (nat_lt t 4) (get_or lost (2 * b) 0) (get_or lost (2 * b + 1) 0) / 2 ^ (t % 4)) ≡ lost_of_word lost (8 * b + t)
lost_in_block lost b t h = grind (arith, nat_tests)

-- two words written side by side
pub two_more : (f : ℕ → ℕ) (xs : List ℕ) (at a b : ℕ) → at + 1 < length xs → ((j : ℕ) → j < at → get_or xs j 0 ≡ f j) → a ≡ f at → b ≡ f (at + 1)
    → (j : ℕ) → j < at + 2 → get_or (set (set xs at a) (at + 1) b) j 0 ≡ f j
two_more f xs at a b w before here next j h =
    grind (arith, nat_tests, length-set xs at a, get_or-set_same, get_or-set_other)

-- eight words doubled, with the lost bits of the first four and of the others
abbrev pub doubled_eight : List ℕ → ℕ → ℕ → ℕ → List ℕ
doubled_eight ws at low high = by_place 8 (λ t. (get_or ws (at + t) 0 * 2 % 2 ^ 64 + odd_bits (cond (nat_lt t 4) low high / 2 ^ (t % 4))) % 2 ^ 64)

pub doubled_at : (ws : List ℕ) (at low high : ℕ) → ((k : ℕ) → get_or ws k 0 < 2 ^ 64) → ((t : ℕ) → t < 8 → (n : ℕ) → n < 16 → nibble (get_or ws (at + t) 0) n ≤ 7)
    → (t : ℕ) → t < 8 → get_or (doubled_eight ws at low high) t 0 ≡ 2 * get_or ws (at + t) 0 + odd_bits (cond (nat_lt t 4) low high / 2 ^ (t % 4))
doubled_at ws at low high fits small t h = search (arith, get_or-by_place, lane_doubled)
