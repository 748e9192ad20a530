use Rattle.std.proofs.Common.{◌≡◌, ℕ, ◌*◌, ◌<◌, ◌≤◌, get_or}
use Rattle.sketch.specs.Laws.{halved_word, lost_word}
use Rattle.sketch.proofs.laws.halve_words.Given as goal

abbrev pub invariant-loop-block : goal.invariant-loop-block
invariant-loop-block l =
    ((k : ℕ) → k < 8 * l.block → get_or l.words k 0 ≡ halved_word (get_or l.fn.words k 0))
    × ((k : ℕ) → 8 * l.block ≤ k → get_or l.words k 0 ≡ get_or l.fn.words k 0)
    × ((j : ℕ) → j < 2 * l.block → get_or l.lost j 0 ≡ lost_word l.fn.words j)
