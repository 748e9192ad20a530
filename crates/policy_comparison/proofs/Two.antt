-- What holds of two jobs.
use Rattle.std.proofs.Common.{List, [], ◌∷◌, Result, Ok, Err, OnOk}
use Rattle.policies.specs.AnyPolicy.{Job}
use Rattle.policy_comparison.specs.Pair.{AreTwo}

two-then : (jobs : List Job) (P Q : Job → Job → Type 0) → ((first second : Job) → P first second → Q first second) → AreTwo jobs P → AreTwo jobs Q
two-then [] P Q f h = h
two-then (a ∷ []) P Q f h = h
two-then (a ∷ b ∷ []) P Q f h = f a b h
two-then (a ∷ b ∷ c ∷ rest) P Q f h = h

-- what a call brings about of them
pub two-after : {T E : Type 0} (jobs : List Job) (r : Result T E) (P Q : Job → Job → Type 0) → ((first second : Job) → P first second → OnOk r (Q first second))
    → AreTwo jobs P → OnOk r (AreTwo jobs Q)
two-after jobs (Ok v) P Q f h = two-then jobs P Q f h
two-after jobs (Err e) P Q f h = tt

-- the two of them, with what holds
pub two-held : (jobs : List Job) (P : Job → Job → Type 0) → AreTwo jobs P → (first : Job) × (second : Job) × P first second
two-held [] P h = absurd h
two-held (a ∷ []) P h = absurd h
two-held (a ∷ b ∷ []) P h = (a, b, h)
two-held (a ∷ b ∷ c ∷ rest) P h = absurd h
