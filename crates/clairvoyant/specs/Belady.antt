-- The residents of a cache that knows the whole trace: the key whose next use is farthest leaves (Belady 1966).
use Rattle.std.specs.Prelude.{ℕ, zero, suc, nat_lt, Bool, true, false, cond, eqb, Option, Some, None}
use Rattle.std.specs.Prelude.{List, [], ◌∷◌, ◌++◌, length, slice_index}
pub use Rattle.engine_base.specs.declared.outcome.Outcome.{Outcome}
use Rattle.engine_base.specs.declared.outcome.Outcome.TheVariants.{Hit, Kept, Evicted, Rejected}
use Rattle.engine_base.specs.Keys.{has_key, keys_without}
use Rattle.clairvoyant.specs.Keys.{residents_with}
use Rattle.trace_index.specs.Uses.{next}
use Rattle.clairvoyant.specs.Ranks.{last_use}

-- whether a first next use is farther than a second: none is farther than any, and of two nones the earlier last access
abbrev pub further : Option ℕ → Option ℕ → ℕ → ℕ → Bool
further None None p q = nat_lt p q
further None (Some m) p q = true
further (Some n) None p q = false
further (Some n) (Some m) p q = nat_lt m n

-- after the access at place i: a leaves rather than b
abbrev pub leaves_first : List ℕ → ℕ → ℕ → ℕ → Bool
leaves_first t i a b = further (next t i a) (next t i b) (last_use t i a) (last_use t i b)

-- of b and the keys, the one that leaves
abbrev pub farthest : List ℕ → ℕ → ℕ → List ℕ → ℕ
farthest t i b [] = b
farthest t i b (a ∷ xs) = farthest t i (cond (leaves_first t i a b) a b) xs

-- the residents after an access to k at place i, from those before it
abbrev pub belady_residents_after : ℕ → List ℕ → ℕ → ℕ → List ℕ → List ℕ
belady_residents_after c t i k r =
    cond (has_key k r) r
    (cond (nat_lt (length r) c) (residents_with k r) (keys_without (farthest t i k r) (residents_with k r)))

-- the outcome where k came and v left
abbrev pub belady_departure : ℕ → ℕ → Outcome
belady_departure k v = cond (eqb k v) (Rejected k) (Evicted v)

-- the outcome of an access to k at place i, from the residents before it
abbrev pub belady_answer : ℕ → List ℕ → ℕ → ℕ → List ℕ → Outcome
belady_answer c t i k r =
    cond (has_key k r) Hit (cond (nat_lt (length r) c) Kept (belady_departure k (farthest t i k r)))

-- the residents of a cache of capacity c once the accesses below place i of the trace are made
abbrev pub belady_residents : ℕ → List ℕ → ℕ → List ℕ
belady_residents c t zero = []
belady_residents c t (suc i) = belady_residents_after c t i (slice_index t i) (belady_residents c t i)

-- the outcome of the access at place i of the trace, in a cache of capacity c
abbrev pub belady_outcome : ℕ → List ℕ → ℕ → Outcome
belady_outcome c t i = belady_answer c t i (slice_index t i) (belady_residents c t i)

-- the outcomes of the accesses below place i
abbrev pub belady_outcomes : ℕ → List ℕ → ℕ → List Outcome
belady_outcomes c t zero = []
belady_outcomes c t (suc i) = belady_outcomes c t i ++ belady_outcome c t i ∷ []
