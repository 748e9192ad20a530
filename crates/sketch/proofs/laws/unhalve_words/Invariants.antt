use Rattle.std.proofs.Common.{◌≡◌, ℕ, ◌+◌, ◌*◌, ◌<◌, ◌≤◌, get_or}
use Rattle.sketch.specs.Laws.{lost_of_word}
use Rattle.sketch.proofs.laws.unhalve_words.Given as goal

abbrev pub invariant-loop-block : goal.invariant-loop-block
invariant-loop-block l =
    ((k : ℕ) → k < 8 * l.block → get_or l.words k 0 ≡ 2 * get_or l.fn.words k 0 + lost_of_word l.lost k)
    × ((k : ℕ) → 8 * l.block ≤ k → get_or l.words k 0 ≡ get_or l.fn.words k 0)
