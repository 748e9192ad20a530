-- What a run of workers on threads leaves.
use Rattle.std.specs.Prelude.{◌≡◌, ℕ, ◌<◌, ◌≤◌, List, [], ◌∷◌, ◌++◌, Option, Some, None, IfSome, length, get_or}
pub use Rattle.engine_base.specs.declared.step.Call.{Call}
pub use Rattle.engine_base.specs.declared.step.Reply.{Reply}
pub use Rattle.engine_base.specs.declared.step.Step.{Step}
use Rattle.engine_base.specs.History.{Entries, tail_after}
use Rattle.journal.specs.Session.{SessionState}
use Rattle.shell_model.specs.Walks.{AreWalks}
use Rattle.shell_model.specs.WorkerEntries.{entries_of, IsUnfinished}
pub use Rattle.workers.specs.declared.run.Cause.{Cause}
use Rattle.workers.specs.declared.run.Cause.TheVariants.{Memory, JournalFull}

-- Past the old entries, the new session has those that the workers made: those of worker w, in order, are as IsMade
-- says for its calls; and nobody else made any. What was left to redo is left where no step was made, and else
-- nothing is.
pub record IsRun {E D : Type 0} (IsMade : ℕ → List Call → Entries → Type 0) (pieces : List (List Call))
    (old new : SessionState E D Step Reply) : Type 0 where
  pub opening : new.opening ≡ old.opening
  pub limit : new.limit ≡ old.limit
  pub news : Entries
  pub entered : new.kept ≡ old.kept ++ news
  pub tail : new.tail ≡ tail_after news old.tail
  pub made : (w : ℕ) → w < length pieces → IsMade w (get_or pieces w []) (entries_of w news)
  pub no_other : (w : ℕ) → length pieces ≤ w → entries_of w news ≡ []

-- why the first refused worker was refused, of all in order
abbrev pub first_cause : List (Option Cause) → Option Cause
first_cause [] = None
first_cause (None ∷ causes) = first_cause causes
first_cause (Some cause ∷ causes) = Some cause

-- one walk for each call where the worker was not refused a step, and else the first entries of such walks and not all
abbrev pub AreWalksUpTo : Option Cause → ℕ → ℕ → List Call → Entries → Type 0
AreWalksUpTo None n w calls es = AreWalks w n calls es
AreWalksUpTo (Some cause) n w calls es = IsUnfinished (AreWalks w n calls) es

-- What the entries show of a worker's refusal, in a run that made `news` after the old ones. With a full journal as its
-- cause they are as many as the limit. With memory as its cause there is a place where they were fewer and after which
-- the worker made none: it may have been refused there, and a refused step leaves no other trace.
abbrev pub IsCauseIn : ℕ → Entries → Entries → ℕ → Cause → Type 0
IsCauseIn w old news limit JournalFull = length (old ++ news) ≡ limit
IsCauseIn w old news limit Memory =
    (seen later : Entries) × (news ≡ seen ++ later) × (entries_of w later ≡ []) × (length (old ++ seen) < limit)

-- A run in which each worker went on up to its first refused step, or made whole walks where there is none. Its cause
-- is that of the refused worker with the lowest number. A full journal is a cause only where the session is full, and
-- memory only where it was not full after the last entry of the refused worker.
pub record IsRunUpTo {E D : Type 0} (cause : Option Cause) (stripes : ℕ) (pieces : List (List Call))
    (old new : SessionState E D Step Reply) : Type 0 where
  pub refusals : List (Option Cause)
  pub of_each : length refusals ≡ length pieces
  pub first : cause ≡ first_cause refusals
  pub run : IsRun (λ w. AreWalksUpTo (get_or refusals w None) stripes w) pieces old new
  pub refused : (w : ℕ) → IfSome (get_or refusals w None) (IsCauseIn w old.kept run.news old.limit)
