-- What became of the calls of a reader or a writer between two moments, where these are counted.
use Rattle.std.specs.Prelude.{◌≡◌, ◌≢◌, ◌<◌, ◌+◌, ◌⊎◌, ℕ, true, false, MatchResult}
use Rattle.std.specs.declared.result.Result.{Result}
use Rattle.std.specs.IoError.{error_kind}
pub use Rattle.std.specs.declared.io.Error.{Error}
use Rattle.std.specs.declared.io.ErrorKind.TheVariants.{Interrupted}
use Rattle.streams.specs.declared.retry_budget.TheConstants.{INTERRUPTIONS}
pub use Rattle.streams.specs.declared.tally.Tally.{Tally}

abbrev pub no_calls : Tally
no_calls = record { has_failed = false; interruptions = 0 }

-- an interruption is counted, and any other error is a failure
pub record CountsError (error : Error) (old new : Tally) : Type 0 where
  pub interrupted : error_kind error ≡ Interrupted → (new.has_failed ≡ old.has_failed)
      × (new.interruptions ≡ old.interruptions + 1)
  pub failed : error_kind error ≢ Interrupted → new.has_failed ≡ true

-- one call, which counts nothing where it succeeds
abbrev pub Counts : {A : Type 0} → Result A Error → Tally → Tally → Type 0
Counts result old new = MatchResult result (λ _. new ≡ old) (λ error. CountsError error old new)

-- no call failed, and the interruptions took the budget from one number to another
pub record Spends (budget left : ℕ) (old new : Tally) : Type 0 where
  pub unfailed : new.has_failed ≡ old.has_failed
  pub spent : new.interruptions + left ≡ old.interruptions + budget
  pub some_left : 0 < budget → 0 < left

-- a call failed, or the interruptions used up the budget
abbrev pub Exhausts : ℕ → Tally → Tally → Type 0
Exhausts budget old new = (new.has_failed ≡ true) ⊎ (new.interruptions ≡ old.interruptions + budget)

-- no call failed, and fewer than a million were interrupted
pub record IsServed (old new : Tally) : Type 0 where
  pub unfailed : new.has_failed ≡ old.has_failed
  pub few : new.interruptions < old.interruptions + INTERRUPTIONS

-- just where P holds a call failed, or the millionth was interrupted
pub record FailsWhere (P : Type 0) (old new : Tally) : Type 0 where
  pub failing : P → Exhausts INTERRUPTIONS old new
  pub served : (P → ⊥) → IsServed old new
