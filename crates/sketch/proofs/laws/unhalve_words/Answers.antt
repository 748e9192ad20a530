use Rattle.std.proofs.lemmas.Bool.Decides.{nat_tests}
use Rattle.std.proofs.Common.{◌≡◌, ◌+◌, ◌-◌, ◌*◌, ◌/◌, ◌<◌, length, get_or, arith, ◌∙◌, ap, inl, inr}
use Rattle.std.proofs.lemmas.Bool.{cases_lt}
use Rattle.std.proofs.lemmas.List.FromFn.{fill_by_all}
use Rattle.sketch.specs.Laws.{lost_of_word}
use Rattle.sketch.proofs.Halves.{lost_in_block, low_digit}
use Rattle.sketch.proofs.laws.unhalve_words.Goals as goal

pub unhalve_block-requires-clause-low : goal.unhalve_block-requires-clause-low
unhalve_block-requires-clause-low c = grind (arith, nat_tests, low_digit)

pub loop-block-preserved : goal.loop-block-preserved
loop-block-preserved c = (
  λ k h. elim (cases_lt k (8 * c.loop-block.block)) as (λ _. get_or c.unhalve_block.new.words k 0 ≡ 2 * get_or c.args.words.now k 0 + lost_of_word c.args.lost.now k) [
    | inl a ↦ c.unhalve_block.ensures.below k a ∙ c.loop-block.invariant.0 k a
    | inr a ↦
        let e : 8 * c.loop-block.block + (k - 8 * c.loop-block.block) ≡ k = omega arith in
        let t : k - 8 * c.loop-block.block < 8 = omega arith in
        let here = rw e at (c.unhalve_block.ensures.block (k - 8 * c.loop-block.block) t) in
        let bits = rw e at (lost_in_block c.args.lost.now c.loop-block.block (k - 8 * c.loop-block.block) t) in
        here ∙ rw (c.loop-block.invariant.1 k a) (ap (λ b. 2 * get_or c.args.words.now k 0 + b) bits)
  ],
  λ k h. c.unhalve_block.ensures.above k (omega arith) ∙ c.loop-block.invariant.1 k (omega arith),
)

pub unhalve_rest-requires-clause-low : goal.unhalve_rest-requires-clause-low
unhalve_rest-requires-clause-low c = grind (arith, nat_tests, low_digit)

pub returns : goal.returns
returns c =
    let b : c.loop-block.block ≡ length c.args.words.now / 8 = omega (arith, c.loop-block-test.false, c.loop-block.auto.block-end) in
    let n : length c.loop-block.words ≡ length c.args.words.now = c.loop-block.auto.words in
    fill_by_all (λ i. 2 * get_or c.args.words.now i 0 + lost_of_word c.args.lost.now i) c.unhalve_rest.new.words (length c.args.words.now) 0 (c.unhalve_rest.auto.words ∙ n) (λ k h.
    elim (cases_lt k (8 * (length c.args.words.now / 8))) as (λ _. get_or c.unhalve_rest.new.words k 0 ≡ 2 * get_or c.args.words.now k 0 + lost_of_word c.args.lost.now k) [
      | inl a ↦ c.unhalve_rest.ensures.before k a ∙ c.loop-block.invariant.0 k (omega (arith, b))
      | inr a ↦ c.unhalve_rest.ensures.rest k a (omega (arith, n)) ∙ ap (λ x. 2 * x + lost_of_word c.args.lost.now k) (c.loop-block.invariant.1 k (omega (arith, b)))
    ])
