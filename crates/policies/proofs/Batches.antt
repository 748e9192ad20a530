-- The batches of a trace, as accesses of a cache.
use Rattle.std.proofs.lemmas.Bool.Decides.{nat_tests}
use Rattle.std.proofs.Common.{◌≡◌, ℕ, ◌+◌, ◌*◌, ◌≤◌, List, ◌++◌, length, take, drop, sym, ap, ◌∙◌, arith, take-append-drop, append_assoc}
use Rattle.std.proofs.Math.Seq.{take-add}
use Rattle.std.proofs.lemmas.List.{take_all, drop-drop}

pub taken-more : (size k : ℕ) (keys piece : List ℕ) → piece ≡ take size (drop (k * size) keys) → take (k * size) keys ++ piece ≡ take ((k + 1) * size) keys
taken-more size k keys piece is = grind (arith, nat_tests, take-add (k * size) size keys)

-- after the last batch the keys are all there
pub all-taken : (size k : ℕ) (keys : List ℕ) → length keys ≤ k * size + size → take ((k + 1) * size) keys ≡ keys
all-taken size k keys h = let e : length keys ≤ (k + 1) * size = omega arith in take_all ((k + 1) * size) keys e

-- what is left behind one more of them
pub next_rest : (keys rest : List ℕ) (size k : ℕ) → rest ≡ drop (k * size) keys → drop size rest ≡ drop ((k + 1) * size) keys
next_rest keys rest size k is = grind (arith, nat_tests, drop-drop size (k * size) keys)

-- what stands behind the first m of the keys begins with the next piece
pub next-piece : (trace done keys rest piece : List ℕ) (m size : ℕ) → piece ≡ take size (drop m keys) → trace ≡ done ++ (keys ++ rest)
    → trace ≡ (done ++ take m keys) ++ (piece ++ (drop size (drop m keys) ++ rest))
next-piece trace done keys rest piece m size is ahead =
    let later = drop size (drop m keys) in
    ahead
    ∙ ap (λ l. done ++ (l ++ rest)) (sym (take-append-drop m keys))
    ∙ ap (λ l. done ++ l) (append_assoc (take m keys) (drop m keys) rest)
    ∙ ap (λ l. done ++ (take m keys ++ (l ++ rest))) (sym (take-append-drop size (drop m keys)) ∙ ap (λ l. l ++ later) (sym is))
    ∙ ap (λ l. done ++ (take m keys ++ l)) (append_assoc piece later rest)
    ∙ sym (append_assoc done (take m keys) (piece ++ (later ++ rest)))
