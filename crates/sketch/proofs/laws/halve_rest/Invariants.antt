use Rattle.std.proofs.Common.{◌≡◌, ℕ, ◌<◌, ◌≤◌, get_or}
use Rattle.sketch.specs.Laws.{halved_word}
use Rattle.sketch.proofs.laws.halve_rest.Given as goal

abbrev pub invariant-loop-i : goal.invariant-loop-i
invariant-loop-i l =
    ((k : ℕ) → k < l.from → get_or l.words k 0 ≡ get_or l.fn.words k 0)
    × ((k : ℕ) → l.from ≤ k → k < l.i → get_or l.words k 0 ≡ halved_word (get_or l.fn.words k 0))
    × ((k : ℕ) → l.i ≤ k → get_or l.words k 0 ≡ get_or l.fn.words k 0)
