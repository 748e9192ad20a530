-- Text that is written through a buffer.
use Rattle.std.proofs.Common.{◌≡◌, ◌∙◌, ◌++◌, ℕ, Option, List, [], ap, sym, subst, append_assoc}
use Rattle.std.proofs.KnownBytes.{Appends-nil, Appends-trans}
use Rattle.std.specs.Io.KnownBytes.{Appends}
use Rattle.streams.specs.Part.{AppendsPart}
use Rattle.streams.specs.Waiting.{IsTextWritten}
use Rattle.streams.proofs.Parts.{part_behind}

-- at the start nothing was written
pub started : (known : Option (List ℕ)) (waiting bytes : List ℕ) → waiting ≡ bytes → IsTextWritten known known waiting bytes
started known waiting bytes same = ([], sym same, Appends-nil known)

-- more was gathered
pub gathered : (old new : Option (List ℕ)) (waiting now more bytes all : List ℕ) → now ≡ waiting ++ more → all ≡ bytes ++ more
    → IsTextWritten old new waiting bytes → IsTextWritten old new now all
gathered old new waiting now more bytes all n a (sent, is, wrote) =
    (sent, a ∙ ap (λ b. b ++ more) is ∙ append_assoc sent waiting more ∙ ap (λ w. sent ++ w) (sym n), wrote)

-- of what waits some was written, or nothing
pub passed : (old mid new : Option (List ℕ)) (waiting now bytes : List ℕ) → IsTextWritten old mid waiting bytes
    → IsTextWritten mid new now waiting → IsTextWritten old new now bytes
passed old mid new waiting now bytes (first, is, wrote) (more, rest, then) =
    (first ++ more, is ∙ ap (λ w. first ++ w) rest ∙ sym (append_assoc first more now), Appends-trans old mid new first more wrote then)

-- a beginning of what waits was written
pub broken : (old mid new : Option (List ℕ)) (waiting bytes : List ℕ) → IsTextWritten old mid waiting bytes → AppendsPart mid new waiting → AppendsPart old new bytes
broken old mid new waiting bytes (sent, is, wrote) part = subst (AppendsPart old new) (sym is) (part_behind old mid new sent waiting wrote part)

-- all that waits was written
pub finished : (old mid new : Option (List ℕ)) (waiting bytes : List ℕ) → IsTextWritten old mid waiting bytes → Appends mid new waiting → Appends old new bytes
finished old mid new waiting bytes (sent, is, wrote) rest = subst (Appends old new) (sym is) (Appends-trans old mid new sent waiting wrote rest)
