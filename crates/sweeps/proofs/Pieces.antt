-- Pieces of a list, cut off one after another.
use Rattle.std.proofs.Common.{◌≡◌, ◌∙◌, ◌+◌, ◌*◌, ◌≤◌, ℕ, List, ◌++◌, take, drop, ap, arith, take-add}
use Rattle.std.specs.Int.{div_ceil}
use Rattle.std.proofs.lemmas.Grind.{div_ceil_times}

-- one piece more
pub piece-more : {X : Type 0} (every n : ℕ) (xs : List X) → take ((n + 1) * every) xs ≡ take (n * every) xs ++ take every (drop (n * every) xs)
piece-more every n xs =
    let e : (n + 1) * every ≡ n * every + every = omega arith in
    ap (λ m. take m xs) e ∙ take-add (n * every) every xs

-- the last piece ends the list
pub pieces-cover : (every long : ℕ) → 1 ≤ every → long ≤ div_ceil long every * every
pieces-cover every long some = (div_ceil_times long every some).0
