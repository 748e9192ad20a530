use Rattle.std.proofs.Common.{◌≡◌, refl, false, List, ℕ}
use Rattle.std.specs.Str.{bytes_eq}
use Rattle.std.proofs.lemmas.Bool.{false_from_ne_true}
use Rattle.std.proofs.lemmas.Slice.Eq.{bytes_eq-Decides}
use Rattle.command_line.proofs.parser.arguments_of.Goals as goal

other : {name word : List ℕ} → (name ≡ word → ⊥) → bytes_eq name word ≡ false
other {name} {word} differs = false_from_ne_true (bytes_eq name word) (λ same. differs ((bytes_eq-Decides name word).0 same))

pub returns-in_default : goal.returns-in_default
returns-in_default c =
    let others = c.in_default in
    rw (
      other others.not-run,
      other others.not-sweep,
      other others.not-intervals,
      other others.not-part,
      other others.not-compare,
      other others.not-footprint,
      other others.not-sample,
      other others.not-drive,
      other others.not-debug,
      other others.not-replay,
    ) refl
