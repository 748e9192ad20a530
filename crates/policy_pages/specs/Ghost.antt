-- A ghost queue: keys that left the cache, oldest first, of a given size.
use Rattle.std.specs.Prelude.{ℕ, nat_lt, if◌then◌else◌, List, [], ◌∷◌, ◌++◌, length}
use Rattle.policy_pages.specs.Queues.{without_oldest}

-- the ghost with v as its newest key: over its size it forgets its oldest
abbrev pub ghost_with : ℕ → ℕ → List ℕ → List ℕ
ghost_with size v ghost = if nat_lt (length ghost) size then ghost ++ v ∷ [] else without_oldest (ghost ++ v ∷ [])
