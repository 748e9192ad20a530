-- Counts of outcomes, one outcome further.
use Rattle.std.proofs.lemmas.Bool.Decides.{nat_tests}
use Rattle.std.proofs.Common.{◌≡◌, ◌+◌, ◌≤◌, Bool, true, false, cond, List, [], ◌∷◌, ◌++◌, length, count_by, ◌∙◌, arith, refl, length-append}
use Rattle.std.proofs.lemmas.List.Sums.{sum_by-append, sum_by-cons}
use Rattle.engine_base.specs.Stats.{Outcome, is_hit, is_miss, is_eviction, is_rejection, stats_of, one_if, stats_with}

pub one-few : (b : Bool) → one_if b ≤ 1
one-few true = omega arith
one-few false = omega arith

count-snoc : (p : Outcome → Bool) (os : List Outcome) (o : Outcome) → count_by p (os ++ o ∷ []) ≡ count_by p os + one_if (p o)
count-snoc p os o = sum_by-append (λ x. cond (p x) 1 0) os (o ∷ []) ∙ omega arith

-- the counts of a list with one outcome more
pub stats-snoc : (os : List Outcome) (o : Outcome) → stats_of (os ++ o ∷ []) ≡ stats_with o (stats_of os)
stats-snoc os o =
    rw (count-snoc is_hit os o, count-snoc is_miss os o, count-snoc is_eviction os o, count-snoc is_rejection os o, length-append os (o ∷ [])) refl

pub count-cons : {A : Type 0} (p : A → Bool) (x : A) (xs : List A) → count_by p (x ∷ xs) ≡ one_if (p x) + count_by p xs
count-cons p x xs = sum_by-cons (λ y. one_if (p y)) x xs

either : (o : Outcome) → one_if (is_hit o) + one_if (is_miss o) ≡ 1
either v = grind (arith, nat_tests)

-- each outcome is a hit or a miss
pub hits-misses : (os : List Outcome) → count_by is_hit os + count_by is_miss os ≡ length os
hits-misses [] = refl
hits-misses (o ∷ os) =
    let rest = hits-misses os in
    omega (arith, rest, count-cons is_hit o os, count-cons is_miss o os, either o)
