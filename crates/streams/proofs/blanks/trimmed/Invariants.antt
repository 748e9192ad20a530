use Rattle.std.proofs.Common.{◌≡◌, length}
use Rattle.streams.specs.Blanks.{without_front}
use Rattle.streams.proofs.blanks.trimmed.Given as goal

abbrev pub invariant-front : goal.invariant-front
invariant-front l = without_front l.rest ≡ without_front l.line

abbrev pub decreases-front : goal.decreases-front
decreases-front l = length l.rest
