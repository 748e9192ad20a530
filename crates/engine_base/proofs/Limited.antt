-- What an access came to that was accepted, and where it is not.
use Rattle.std.proofs.lemmas.Bool.Decides.{nat_tests}
use Rattle.std.proofs.Common.{arith, ◌≡◌, ℕ, ◌==◌, Bool, true, if◌then◌else◌, Some, None, ap, sym, subst, refl}
use Rattle.std.proofs.lemmas.Bool.{eqb-true, eq-eqb}
use Rattle.engine_base.specs.declared.limits.TheConstants.{MAX_STEPS}
use Rattle.engine_base.specs.Limited.{Outcome, limited, lifted, IsAccepted}

-- ---- by whether it is accepted

pub accepted-where : {D : Type 0} (taken : Bool) (p : Outcome × D) (o : Outcome) (e : D) → (if taken then Some p else None) ≡ Some (o, e) → IsAccepted p o e
accepted-where v p o e h = grind (arith, nat_tests)

accepted-by : {D : Type 0} (refused : Bool) (p : Outcome × D) (o : Outcome) (e : D) → (if refused then None else Some p) ≡ Some (o, e) → IsAccepted p o e
accepted-by v p o e h = grind (arith, nat_tests, accepted-where)

lifted-by : {D E : Type 0} (f : D → E) (refused : Bool) (p : Outcome × D) (o : Outcome) (e : E) → lifted f (if refused then None else Some p) ≡ Some (o, e) → IsAccepted (p.0, f p.1) o e
lifted-by f v p o e h = grind (arith, nat_tests, accepted-by)

refused-by : {D E : Type 0} (f : D → E) (refused : Bool) (p : Outcome × D) → lifted f (if refused then None else Some p) ≡ None → refused ≡ true
refused-by f v p h = grind (arith, nat_tests)

-- ---- of an engine

module _ {D : Type 0} (count : D → ℕ) (access : ℕ → D → Outcome × D) where
  pub accepted : (d : D) (k : ℕ) (o : Outcome) (e : D) → limited count access d k ≡ Some (o, e) → IsAccepted (access k d) o e
  accepted d k o e h = accepted-by (count d == MAX_STEPS) (access k d) o e h

  -- a relation to the data after each access is one to the data after an accepted one
  pub related : (Rel : D → D → Type 0) → ((k : ℕ) (d : D) → Rel d (access k d).1) → (d : D) (k : ℕ) (o : Outcome) (e : D)
      → limited count access d k ≡ Some (o, e) → Rel d e
  related Rel all d k o e h = subst (Rel d) (sym (accepted d k o e h).next) (all k d)

  pub ended : (d : D) (k : ℕ) → count d ≡ MAX_STEPS → limited count access d k ≡ None
  ended d k h = let f : (count d == MAX_STEPS) ≡ true = eq-eqb (count d) MAX_STEPS h in rw f refl

  pub refused : (d : D) (k : ℕ) → limited count access d k ≡ None → count d ≡ MAX_STEPS
  refused d k h = eqb-true (count d) MAX_STEPS (refused-by (λ x. x) (count d == MAX_STEPS) (access k d) (ap (lifted (λ x. x)) h))

  -- ---- as a part of a whole

  module _ {E : Type 0} (f : D → E) where
    pub accepted-in : (d : D) (k : ℕ) (o : Outcome) (e : E) → lifted f (limited count access d k) ≡ Some (o, e)
        → IsAccepted ((access k d).0, f (access k d).1) o e
    accepted-in d k o e h = lifted-by f (count d == MAX_STEPS) (access k d) o e h

    pub refused-in : (d : D) (k : ℕ) → lifted f (limited count access d k) ≡ None → count d ≡ MAX_STEPS
    refused-in d k h = eqb-true (count d) MAX_STEPS (refused-by f (count d == MAX_STEPS) (access k d) h)
