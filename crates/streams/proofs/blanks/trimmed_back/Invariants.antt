use Rattle.std.proofs.Common.{◌≡◌, ◌≤◌, length, take}
use Rattle.streams.specs.Blanks.{without_back}
use Rattle.streams.proofs.blanks.trimmed_back.Given as goal

abbrev pub invariant-back : goal.invariant-back
invariant-back l = (l.end ≤ length l.text) × (without_back (take l.end l.text) ≡ without_back l.text)

abbrev pub decreases-back : goal.decreases-back
decreases-back l = l.end
