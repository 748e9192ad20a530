use Rattle.std.proofs.lemmas.Bool.Decides.{nat_tests}
use Rattle.std.proofs.Common.{◌≡◌, ◌/◌, ◌%◌, ◌*◌, ◌^◌, ℕ, List, false, cond, eqb, nat_lt, ◌+◌, set, bit_and, w64, arith}
use Rattle.std.specs.Int.{bit_not}
use Rattle.std.proofs.lemmas.List.{get_or_read}
use Rattle.engine_base.specs.Bits.{bit_of}
use Rattle.engine_base.proofs.OneBit.{bit_taken}
use Rattle.queue_cache.specs.Sums.{mark_of, marks_before, sum_below}
use Rattle.queue_cache.proofs.Bits.{take-marks, one-less, some-less}
use Rattle.queue_cache.proofs.marks.Marks.take.Goals as goal
use Rattle.queue_cache.proofs.marks.Marks.take.Goals.{After-index-old}

abbrev left : (c : goal.After-index-old) → List ℕ
left c = set c.args.self.now.words.items (c.args.place / 64) (bit_and c.index-old.result.now (bit_not w64 (1 * 2 ^ (c.args.place % 64) % 2 ^ 64)))

takes : (c : goal.After-index-old) → (q : ℕ) → bit_of (left c) q ≡ cond (eqb q c.args.place) false (bit_of c.args.self.now.words.items q)
takes c = grind (arith, nat_tests, bit_taken, get_or_read)

fewer : (c : goal.After-index-old) → (n : ℕ) → sum_below (mark_of c.args.self.now.words.items) n ≡ sum_below (mark_of (left c)) n + cond (nat_lt c.args.place n) 1 0
fewer c = take-marks c.args.self.now.words.items (left c) c.args.place c.requires.marked (takes c)

pub take-requires : goal.take-requires
take-requires c =
    let at = (goal.at.take-requires c).After-index-old in let ws = c.args.self.now.words.items in
    (marks_before ws, c.args.self.now.counted, some-less ws (left at) c.args.place (fewer at))

pub returns-clause-takes : goal.returns-clause-takes
returns-clause-takes c = takes (goal.at.returns-clause-takes c).After-index-old

pub invariant_of-self : goal.invariant_of-self
invariant_of-self c =
    let at = (goal.at.invariant_of-self c).After-index-old in let ws = c.args.self.now.words.items in let p = c.args.place in
    record {
      counted = c.take.ensures.tree (marks_before ws) (marks_before (left at)) c.args.self.now.counted (one-less ws (left at) p (fewer at)) (some-less ws (left at) p (fewer at));
    }
