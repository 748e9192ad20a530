use Rattle.std.proofs.Common.{◌≡◌, ℕ, ◌<◌, ◌≤◌, get_or}
use Rattle.sketch.specs.Laws.{lost_word}
use Rattle.sketch.proofs.laws.gather_rest.Given as goal

abbrev pub invariant-loop-j : goal.invariant-loop-j
invariant-loop-j l =
    ((k : ℕ) → k < l.from → get_or l.lost k 0 ≡ get_or l.fn.lost k 0)
    × ((k : ℕ) → l.from ≤ k → k < l.j → get_or l.lost k 0 ≡ lost_word l.words k)
