-- A fold over the first items of a list, one at a time.
use Rattle.std.proofs.Common.{◌≡◌, ◌<◌, ◌+◌, ℕ, List, length, take, get_or}
use Rattle.std.specs.List.{fold}
use Rattle.std.proofs.lemmas.List.Sums.{fold_more}

-- what stands for the first items, and one step more
pub one-more : {A B : Type 0} (f : B → A → B) (b : B) (xs : List A) (i : ℕ) (d : A) → i < length xs → (y z : B)
    → y ≡ fold f b (take i xs) → z ≡ f y (get_or xs i d) → z ≡ fold f b (take (i + 1) xs)
one-more f b xs i d h y z before step = rw (fold_more f b xs i d h, ← before) step
