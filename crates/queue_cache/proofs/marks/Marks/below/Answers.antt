use Rattle.std.proofs.lemmas.Bool.Decides.{nat_tests}
use Rattle.std.proofs.Common.{◌≡◌, ◌+◌, ◌-◌, ◌<◌, ◌/◌, ◌%◌, ◌*◌, ◌^◌, bit_and, length, get_or, arith}
use Rattle.std.specs.Int.Count.{ones}
use Rattle.std.proofs.lemmas.List.{get_or_read}
use Rattle.queue_cache.specs.Sums.{mark_of, marks_before, sum_below}
use Rattle.queue_cache.proofs.Bits.{marks-below, sum-grows}
use Rattle.queue_cache.proofs.marks.Marks.below.Goals as goal
use Rattle.queue_cache.proofs.marks.Marks.below.Goals.{After-below}

pub below-requires-clause-few : goal.below-requires-clause-few
below-requires-clause-few c = grind (arith, nat_tests, sum-grows)

sum : (c : goal.After-below) → c.below.result + ones (bit_and c.index.result.now (1 * 2 ^ (c.args.place % 64) % 2 ^ 64 - 1)) ≡ sum_below (mark_of c.args.self.now.words.items) c.args.place
sum c =
    let ws = c.args.self.now.words.items in let p = c.args.place in
    let within : p / 64 < length ws = omega (arith, c.requires.within) in
    let read : c.index.result.now ≡ get_or ws (p / 64) 0 = get_or_read ws _ _ within c.index.ensures 0 in
    marks-below ws p c.index.result.now c.below.result read (c.below.ensures (marks_before ws) c.args.self.now.counted)

pub overflow_add-result : goal.overflow_add-result
overflow_add-result c = omega (arith, sum (goal.at.overflow_add-result c).After-below, c.requires.few)

pub returns : goal.returns
returns c = sum (goal.at.returns c).After-below
