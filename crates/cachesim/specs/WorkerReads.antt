-- Which accesses of a trace each worker reads.
use Rattle.std.specs.Prelude.{◌≡◌, ℕ, ◌+◌, ◌<◌, ◌≤◌, ◌%◌, ◌==◌, List, [], ◌∷◌, length, get_or, if◌then◌else◌}
use Rattle.std.specs.Prelude.{Option, Some, None, IfSome}
use Rattle.engine_base.specs.declared.step.Call.TheVariants.{Read}
use Rattle.engine_base.specs.History.{Entries}
use Rattle.shell_model.specs.Walks.{Call, AreWalks}
use Rattle.shell_model.specs.WorkerEntries.{entries_of}
use Rattle.workers.specs.Runs.{AreWalksUpTo, first_cause, IsCauseIn}
use Rattle.workers.specs.declared.run.Cause.{Cause}

-- The reads of worker w among these accesses, of which the first is number i: each access is read by the worker whose
-- number is its own modulo how many workers there are.
abbrev pub reads_of : ℕ → ℕ → ℕ → List ℕ → List Call
reads_of workers w i [] = []
reads_of workers w i (key ∷ keys) =
    if i % workers == w then Read key ∷ reads_of workers w (i + 1) keys else reads_of workers w (i + 1) keys

-- a piece for each worker: its reads, in the order of the trace
pub record IsDealt (workers : ℕ) (keys : List ℕ) (pieces : List (List Call)) : Type 0 where
  pub many : length pieces ≡ workers
  pub own : (w : ℕ) → w < workers → get_or pieces w [] ≡ reads_of workers w 0 keys

-- the steps of each worker are as `Walks` says of its number and its reads, and nobody else made any
pub record AreOfReads (Walks : ℕ → List Call → Entries → Type 0) (workers : ℕ) (keys : List ℕ) (steps : Entries)
    : Type 0 where
  pub own : (w : ℕ) → w < workers → Walks w (reads_of workers w 0 keys) (entries_of w steps)
  pub no_other : (w : ℕ) → workers ≤ w → entries_of w steps ≡ []

-- they are one walk for each of its reads, in order
abbrev pub AreWalksOfReads : ℕ → ℕ → List ℕ → Entries → Type 0
AreWalksOfReads stripes workers keys steps = AreOfReads (λ w. AreWalks w stripes) workers keys steps

-- The same of workers who were refused steps, of whom the one with the lowest number was refused for this cause: each
-- that was refused has made the first steps of its walks and not all, and each other all of them. The steps show each
-- refusal in a journal of this limit: it is full, or it was not full at a place after which the worker made none.
pub record AreOfReadsUpTo (cause : Cause) (limit stripes workers : ℕ) (keys : List ℕ) (steps : Entries)
    : Type 0 where
  pub refusals : List (Option Cause)
  pub of_each : length refusals ≡ workers
  pub first : Some cause ≡ first_cause refusals
  pub walks : AreOfReads (λ w. AreWalksUpTo (get_or refusals w None) stripes w) workers keys steps
  pub refused : (w : ℕ) → IfSome (get_or refusals w None) (IsCauseIn w [] steps limit)
