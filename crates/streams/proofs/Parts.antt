-- Text of which a beginning was written.
use Rattle.std.proofs.Common.{◌≤◌, ◌+◌, ◌++◌, ℕ, Option, List, length, take, subst, sym, arith}
use Rattle.std.proofs.KnownBytes.{Appends-nil, Appends-trans}
use Rattle.std.proofs.Math.Seq.{take-append-add}
use Rattle.std.proofs.lemmas.List.{length-append, take-append-le}
use Rattle.std.specs.Io.KnownBytes.{Appends}
use Rattle.streams.specs.Part.{AppendsPart}

-- nothing of it
pub none_sent : (known : Option (List ℕ)) (text : List ℕ) → AppendsPart known known text
none_sent known text = (0, omega arith, Appends-nil known)

-- a beginning of what comes after a text that was written
pub part_behind : (old mid new : Option (List ℕ)) (sent text : List ℕ) → Appends old mid sent → AppendsPart mid new text → AppendsPart old new (sent ++ text)
part_behind old mid new sent text wrote (n, within, part) =
    let few : length sent + n ≤ length (sent ++ text) = omega (within, length-append sent text, arith) in
    (length sent + n, few, subst (Appends old new) (sym (take-append-add sent text n)) (Appends-trans old mid new sent (take n text) wrote part))

-- a beginning of a text is one of more
pub part_of_more : (old new : Option (List ℕ)) (text more : List ℕ) → AppendsPart old new text → AppendsPart old new (text ++ more)
part_of_more old new text more (n, within, part) =
    let few : n ≤ length (text ++ more) = omega (within, length-append text more, arith) in
    (n, few, subst (Appends old new) (sym (take-append-le n text more within)) part)
