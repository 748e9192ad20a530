use Rattle.std.proofs.Common.{◌≡◌, ℕ, ◌+◌, ◌*◌, ◌/◌, ◌<◌, ◌≤◌, length, get_or, map, arith, rules, Fits, w64, sym, ◌∙◌, ap, inl, inr}
use Rattle.std.proofs.lemmas.Bool.{cases_lt}
use Rattle.std.proofs.lemmas.List.{ext_get_or, get_or-map, length-map}
use Rattle.std.proofs.lemmas.List.FromFn.{fill_by_all}
use Rattle.std.proofs.lemmas.Simd.{get_or-put_chunk_below}
use lib.Lanes.{chunk, put_chunk}
use Rattle.sketch.specs.Laws.{halved_word, lost_word}
use Rattle.sketch.proofs.Halves.{block_at, block_past, lost_same, two_more, low_halved, words_undone}
use Rattle.sketch.proofs.laws.halve_words.Goals as goal

pub loop-block-preserved : goal.loop-block-preserved
loop-block-preserved c =
    let n : length c.loop-block.words ≡ length c.args.words.now = c.loop-block.auto.words in
    let w : 8 * c.loop-block.block + 8 ≤ length c.loop-block.words = omega (arith, c.loop-block-test.true, n) in
    let m : 2 * c.loop-block.block + 1 < length c.loop-block.lost = omega (arith, w, n, c.loop-block.auto.lost, c.requires) in
    let pair = c.halve_block-bits.ensures.lost (2 * c.loop-block.block) (omega arith) in
    let same : (j : ℕ) → 2 * c.loop-block.block ≤ j → lost_word c.loop-block.words j ≡ lost_word c.args.words.now j = λ j h. lost_same c.loop-block.words c.args.words.now j (λ k v. c.loop-block.invariant.1 k (omega arith)) in (
      λ k h. rw c.halve_block-bits.ensures.words (elim (cases_lt k (8 * c.loop-block.block)) as (λ _. get_or (put_chunk (8 * c.loop-block.block) c.loop-block.words (map halved_word (chunk (8 * c.loop-block.block) 8 c.loop-block.words))) k 0 ≡ halved_word (get_or c.args.words.now k 0)) [
        | inl a ↦ get_or-put_chunk_below (8 * c.loop-block.block) c.loop-block.words (map halved_word (chunk (8 * c.loop-block.block) 8 c.loop-block.words)) k 0 a ∙ c.loop-block.invariant.0 k a
        | inr a ↦ block_at c.loop-block.words (8 * c.loop-block.block) k w a (omega arith) ∙ ap halved_word (c.loop-block.invariant.1 k a)
      ]),
      λ k h. rw c.halve_block-bits.ensures.words (block_past c.loop-block.words (8 * c.loop-block.block) k w (omega arith) ∙ c.loop-block.invariant.1 k (omega arith)),
      λ j h. two_more (lost_word c.args.words.now) c.loop-block.lost (2 * c.loop-block.block) _ _ m c.loop-block.invariant.2
          (ap (λ l. get_or l 0 0) pair ∙ same (2 * c.loop-block.block) (omega arith))
          (ap (λ l. get_or l 1 0) pair ∙ same (2 * c.loop-block.block + 1) (omega arith))
          j (omega arith),
    )

pub returns-clause-words : goal.returns-clause-words
returns-clause-words c =
    let b : c.loop-block.block ≡ length c.args.words.now / 8 = omega (arith, c.loop-block-test.false, c.loop-block.auto.block-end) in
    let n : length c.loop-block.words ≡ length c.args.words.now = c.loop-block.auto.words in
    ext_get_or 0 c.halve_rest.new.words (map halved_word c.args.words.now) (c.halve_rest.auto.words ∙ n ∙ sym (length-map c.args.words.now halved_word)) (λ i h.
    let l : i < length c.args.words.now = omega (arith, h, c.halve_rest.auto.words, n) in
    elim (cases_lt i (8 * (length c.args.words.now / 8))) as (λ _. get_or c.halve_rest.new.words i 0 ≡ get_or (map halved_word c.args.words.now) i 0) [
      | inl a ↦ c.halve_rest.ensures.before i a ∙ c.loop-block.invariant.0 i (omega (arith, b)) ∙ sym (get_or-map halved_word c.args.words.now i 0 0 l)
      | inr a ↦ c.halve_rest.ensures.rest i a (omega (arith, n)) ∙ ap halved_word (c.loop-block.invariant.1 i (omega (arith, b))) ∙ sym (get_or-map halved_word c.args.words.now i 0 0 l)
    ])

pub returns-clause-lost : goal.returns-clause-lost
returns-clause-lost c =
    let b : c.loop-block.block ≡ length c.args.words.now / 8 = omega (arith, c.loop-block-test.false, c.loop-block.auto.block-end) in
    let n : length c.loop-block.lost ≡ length c.args.lost.now = c.loop-block.auto.lost in
    fill_by_all (lost_word c.args.words.now) c.gather_rest.new.lost (length c.args.lost.now) 0 (c.gather_rest.auto.lost ∙ n) (λ j h.
    elim (cases_lt j (2 * (length c.args.words.now / 8))) as (λ _. get_or c.gather_rest.new.lost j 0 ≡ lost_word c.args.words.now j) [
      | inl a ↦ c.gather_rest.ensures.before j a ∙ c.loop-block.invariant.2 j (omega (arith, b))
      | inr a ↦ c.gather_rest.ensures.rest j a (omega (arith, n)) ∙ lost_same c.loop-block.words c.args.words.now j (λ k v. c.loop-block.invariant.1 k (omega (arith, b)))
    ])

pub returns-clause-low : goal.returns-clause-low
returns-clause-low c = λ i. rw (returns-clause-words c) (low_halved c.args.words.now i)

pub returns-clause-undone : goal.returns-clause-undone
returns-clause-undone c =
    words_undone c.args.words.now c.halve_rest.new.words c.gather_rest.new.lost (length c.args.lost.now) c.requires (returns-clause-words c) (returns-clause-lost c) (λ k h. let fit : Fits w64 (get_or c.args.words.now k 0) = search rules in fit.fits)
