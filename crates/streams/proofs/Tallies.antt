-- What the last call leaves of a budget.
use Rattle.std.proofs.Common.{arith, ℕ, ◌+◌, ◌<◌, ◌≡◌, ◌∙◌, ◌≢◌, ◌⊎◌, inl, inr, refl}
use Rattle.std.specs.IoError.{error_kind}
use Rattle.std.specs.declared.io.ErrorKind.TheVariants.{Interrupted}
use Rattle.streams.specs.Tally.{Tally, Error, CountsError, Exhausts, IsServed, Spends}
use Rattle.streams.specs.declared.retry_budget.TheConstants.{INTERRUPTIONS}

-- a call that is not made again
pub refused : (budget left : ℕ) (error : Error) (first old new : Tally)
    → Spends budget left first old → CountsError error old new
    → (error_kind error ≢ Interrupted) ⊎ ((error_kind error ≡ Interrupted) × (left ≡ 1)) → Exhausts budget first new
refused budget left error first old new spends counts (inl other) = inl (counts.failed other)
refused budget left error first old new spends counts (inr last) =
    let one : new.interruptions ≡ old.interruptions + 1 = (counts.interrupted last.0).1 in
    let spent : old.interruptions + left ≡ first.interruptions + budget = spends.spent in
    let single : left ≡ 1 = last.1 in
    inr (omega arith)

-- what exhausts the budget that is left exhausts the whole
pub later : (budget left : ℕ) (first old new : Tally)
    → Spends budget left first old → Exhausts left old new → Exhausts budget first new
later budget left first old new spends (inl failed) = inl failed
later budget left first old new spends (inr used) =
    let spent : old.interruptions + left ≡ first.interruptions + budget = spends.spent in
    let all : new.interruptions ≡ old.interruptions + left = used in
    inr (omega arith)

-- what was spent of a budget, and then of what was left
pub further : (budget middle left : ℕ) (first old new : Tally)
    → Spends budget middle first old → Spends middle left old new → Spends budget left first new
further budget middle left first old new before after =
    let spent : old.interruptions + middle ≡ first.interruptions + budget = before.spent in
    let more : new.interruptions + left ≡ old.interruptions + middle = after.spent in
    record {
      unfailed = after.unfailed ∙ before.unfailed;
      spent = omega arith;
      some_left = λ some. after.some_left (before.some_left some);
    }

-- a budget of a whole call that is not used up
pub served : (left : ℕ) (old new : Tally) → Spends INTERRUPTIONS left old new → IsServed old new
served left old new spends =
    let spent : new.interruptions + left ≡ old.interruptions + 1000000 = spends.spent in
    let some : 0 < left = spends.some_left (omega arith) in
    record {
      unfailed = spends.unfailed;
      few = omega arith;
    }

-- where no call was made
pub unspent : (budget : ℕ) (tally : Tally) → Spends budget budget tally tally
unspent budget tally = record {
  unfailed = refl;
  spent = refl;
  some_left = λ some. some;
}

pub uncalled : (tally : Tally) → IsServed tally tally
uncalled tally = served INTERRUPTIONS tally tally (unspent INTERRUPTIONS tally)
