-- Words of counters, halved all at once, and the bits that are lost (defined by this project).
use Rattle.std.specs.Prelude.{ℕ, ◌+◌, ◌*◌, ◌/◌, ◌%◌, ◌^◌, List, length, slice_index, bit_and, bit_or}
use Rattle.sketch.specs.Counters.{nibble}
use Rattle.engine_base.specs.Places.{by_place}

-- each of a word's counters floored to its half: the bit that comes from the counter above is masked out
abbrev pub halved_word : ℕ → ℕ
halved_word x = bit_and (x / 2) 0x7777777777777777

-- the lowest bit of each of a word's counters, 1 where the counter is odd
abbrev pub odd_bits : ℕ → ℕ
odd_bits x = bit_and x 0x1111111111111111

-- the lost bits of words 4j to 4j+3 fill one word, each a place further; a missing word counts as 0
abbrev pub lost_word : List ℕ → ℕ → ℕ
lost_word words j =
    let lost = λ (t : ℕ). odd_bits (slice_index words (4 * j + t)) in
    bit_or (bit_or (bit_or (lost 0) (lost 1 * 2)) (lost 2 * 4)) (lost 3 * 8)

-- the lost bits of word i
abbrev pub lost_of_word : List ℕ → ℕ → ℕ
lost_of_word lost i = odd_bits (slice_index lost (i / 4) / 2 ^ (i % 4))

-- each word doubled, with its lost bits added
abbrev pub unhalved_words : List ℕ → List ℕ → List ℕ
unhalved_words words lost = by_place (length words) (λ i. 2 * slice_index words i + lost_of_word lost i)

-- the lost bit of counter i
abbrev pub lost_bit : List ℕ → ℕ → ℕ
lost_bit lost i = nibble (lost_of_word lost (i / 16)) (i % 16)
