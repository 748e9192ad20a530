-- The stretches of a Fenwick tree.
use Rattle.std.proofs.Common.{◌≡◌, ◌≢◌, ℕ, ◌+◌, ◌-◌, ◌*◌, ◌/◌, ◌%◌, ◌<◌, ◌≤◌, bit_and, bit_or, cond, nat_lt, List, [], ◌∷◌, ◌++◌, length, get_or, set, refl, ap, ◌∙◌, arith, inl, inr, get_or-set_other}
use lib.Arith.{bin_ind}
use lib.Bits.{and_step, or_step, and_self, or_self, and_le_l}
use Rattle.std.proofs.Math.ListN.{length-set}
use Rattle.std.proofs.lemmas.Nat.{le_or_r, and_comm}
use Rattle.std.proofs.lemmas.Bool.{cases_eq, cases_lt}
use Rattle.std.proofs.lemmas.Bool.Decides.{nat_tests}
use Rattle.std.proofs.lemmas.Grind.{get_or-set_at}
use Rattle.std.proofs.lemmas.List.{length_push, get_or_append_left, get_or_push}
use Rattle.queue_cache.specs.FenwickTree.{start_of, IsFenwickTree}

-- the next stretch that has a place j as well, where one ends with it
abbrev pub next_of : ℕ → ℕ
next_of j = bit_or j (j + 1)

-- ---- by halves

start-even : (j : ℕ) → j % 2 ≡ 0 → start_of j ≡ j
start-even j e =
    let half : (j + 1) / 2 ≡ j / 2 = omega (arith, e) in
    omega (arith, and_step j (j + 1), ap (bit_and (j / 2)) half ∙ and_self (j / 2), e)

start-odd : (j : ℕ) → j % 2 ≡ 1 → start_of j ≡ 2 * start_of (j / 2)
start-odd j e =
    let half : (j + 1) / 2 ≡ j / 2 + 1 = omega (arith, e) in
    omega (arith, and_step j (j + 1), ap (bit_and (j / 2)) half, e)

next-even : (j : ℕ) → j % 2 ≡ 0 → next_of j ≡ j + 1
next-even j e =
    let half : (j + 1) / 2 ≡ j / 2 = omega (arith, e) in
    omega (arith, or_step j (j + 1), ap (bit_or (j / 2)) half ∙ or_self (j / 2), e)

next-odd : (j : ℕ) → j % 2 ≡ 1 → next_of j ≡ 2 * next_of (j / 2) + 1
next-odd j e =
    let half : (j + 1) / 2 ≡ j / 2 + 1 = omega (arith, e) in
    omega (arith, or_step j (j + 1), ap (bit_or (j / 2)) half, e)

-- ---- the stretches are nested

pub start-low : (j : ℕ) → start_of j ≤ j
start-low j = and_le_l j (j + 1)

pub next-high : (j : ℕ) → j < next_of j
next-high j = omega (arith, le_or_r j (j + 1))

start-above : (j m : ℕ) → j ≡ 2 * m + 1 → start_of j ≡ 2 * start_of m
start-above j m e = let half : j / 2 ≡ m = omega (arith, e) in start-odd j (omega (arith, e)) ∙ ap (λ n. 2 * start_of n) half

-- the next stretch begins no later, and one that ends between the two begins behind the first
abbrev IsNested : ℕ → Type 0
IsNested j = (start_of (next_of j) ≤ start_of j) × ((k : ℕ) → j < k → k < next_of j → j < start_of k)

nested-even : (j : ℕ) → j % 2 ≡ 0 → IsNested j
nested-even j e =
    (omega (arith, start-above (next_of j) (j / 2) (omega (arith, next-even j e, e)), start-low (j / 2), start-even j e, e), λ k more less. absurd (omega (arith, next-even j e, more, less)))

pub nested : (j : ℕ) → IsNested j
nested = bin_ind IsNested (nested-even 0 (omega arith)) (λ j half. elim (cases_eq (j % 2) 0) [
  | inl e ↦ nested-even j e
  | inr n ↦ (grind (arith, nat_tests, start-above, next-odd, start-odd, cases_eq, start-even))
])

-- ---- sums

module _ (total : ℕ → ℕ) (sums : List ℕ) (tree : IsFenwickTree total sums) where
  -- what is below a place, by the stretch that ends there
  pub down : (end : ℕ) → 0 < end → end ≤ length sums → total (bit_and end (end - 1)) + get_or sums (end - 1) 0 ≡ total end
  down end some within = grind (arith, nat_tests, and_comm (end - 1) end)

  pub pushed : (s : ℕ) → s + total (start_of (length sums)) ≡ total (length sums + 1) → IsFenwickTree total (sums ++ s ∷ [])
  pushed s is = record {
    none = tree.none;
    grows = tree.grows;
    summed = λ j within. grind (arith, nat_tests, cases_lt j (length sums), get_or_append_left, length_push sums s, get_or_push sums s 0 (length sums) refl);
  }

-- ---- one less

-- of the sums over stretches that have the place, those that end before `at` are one less
pub record IsTaken (place : ℕ) (before sums : List ℕ) (at : ℕ) : Type 0 where
  pub long : length sums ≡ length before
  pub from : start_of at ≤ place
  pub behind : place ≤ at
  pub taken : (j : ℕ) → j < at → j < length before → start_of j ≤ place → place ≤ j → get_or sums j 0 + 1 ≡ get_or before j 0
  pub past : (j : ℕ) → place < start_of j → get_or sums j 0 ≡ get_or before j 0
  pub low : (j : ℕ) → j < place → get_or sums j 0 ≡ get_or before j 0
  pub left : (j : ℕ) → at ≤ j → get_or sums j 0 ≡ get_or before j 0

module _ (place : ℕ) (before sums : List ℕ) (at : ℕ) (h : IsTaken place before sums at) where
  pub next-taken : (y : ℕ) → at < length before → y + 1 ≡ get_or sums at 0 → IsTaken place before (set sums at y) (next_of at)
  next-taken y within one = record {
    long = length-set sums at y ∙ h.long;
    from = omega (arith, (nested at).0, h.from);
    behind = omega (arith, next-high at, h.behind);
    taken = λ j less in_it from behind. elim (cases_eq j at) [
      | inl same ↦ omega (arith, get_or-set_at sums at j y 0 same (omega (arith, within, h.long)), one, h.left at (omega arith), ap (λ n. get_or before n 0) same)
      | inr other ↦ elim (cases_lt j at) [
        | inl lower ↦ omega (arith, there y j other, h.taken j lower in_it from behind)
        | inr higher ↦ absurd (omega (arith, (nested at).1 j (omega (arith, higher, other)) less, from, h.behind))
      ]
    ];
    past = λ j later. there y j (λ same. omega (arith, ap start_of same, later, h.from)) ∙ h.past j later;
    low = λ j less. there y j (λ same. omega (arith, same, less, h.behind)) ∙ h.low j less;
    left = λ j more. there y j (λ same. omega (arith, same, more, next-high at)) ∙ h.left j (omega (arith, more, next-high at));
  }
    where
      there : (y j : ℕ) → j ≢ at → get_or (set sums at y) j 0 ≡ get_or sums j 0
      there y j other = get_or-set_other sums at j y 0 other

  module _ (total : ℕ → ℕ) (tree : IsFenwickTree total before) (some : total place < total (place + 1)) where
    -- a stretch that has the place has something to take
    pub some-there : at < length before → 1 ≤ get_or sums at 0
    some-there within = omega (arith, tree.summed at within, h.left at (omega arith), tree.grows (start_of at) place h.from, tree.grows (place + 1) (at + 1) (omega (arith, h.behind)), some)

    module _ (less : ℕ → ℕ) (one : (n : ℕ) → total n ≡ less n + cond (nat_lt place n) 1 0) where
      grows : (m n : ℕ) → m ≤ n → less m ≤ less n
      grows m n order = grind (arith, nat_tests)

      pub all-taken : length before ≤ at → IsFenwickTree less sums
      all-taken end = grind (arith, nat_tests, grows, start-low)
