-- What a worker has that walks in turns.
use Rattle.std.specs.Prelude.{◌≡◌, ℕ, ◌<◌, ◌≤◌, ◌++◌, List, Option, length}
use Rattle.engine_base.specs.declared.limits.TheConstants.{MAX_STRIPES}
use Rattle.engine_base.specs.History.{data_after, Entries}
use Rattle.journal.specs.Session.{Entry, SessionState}
use Rattle.turn_book.specs.Passes.{BookState, PassState, id_of}
use Rattle.shell_model.specs.AdmittedSteps.{Step, Reply, Call, AdmitsWalks}
use Rattle.shell_model.specs.Walks.{AreWalks}
use Rattle.shell_model.specs.WorkerEntries.{entries_of}
use Rattle.workers.specs.declared.run.Cause.{Cause}
use Rattle.workers.specs.declared.run.Cause.TheVariants.{Memory, JournalFull}
use Rattle.workers.specs.Draws.{IsWithin}

-- The pass is the worker's, of this book, and the worker stands between two walks. The engine takes each step that its
-- walks ask, from where the session stood, and the pass may draw a turn for each step that the journal has room for.
pub record CanWalk {E D : Type 0} (perform : D → Step → Option (Reply × D)) (count : D → ℕ)
    (book : BookState (SessionState E D Step Reply))
    (pass : PassState (SessionState E D Step Reply) (Entry Step Reply)) (worker stripes : ℕ) : Type 0 where
  pub own : pass.book ≡ id_of book
  pub worker_is : pass.worker ≡ worker
  pub admits : AdmitsWalks perform count worker stripes (data_after perform book.opening.opening book.opening.kept)
  pub walks : (before : List Call) × AreWalks worker stripes before pass.own
  pub stripes_in : (1 ≤ stripes) × (stripes ≤ MAX_STRIPES)
  pub within : IsWithin book.opening.limit pass
  pub turns : book.opening.limit ≤ book.turns

-- Why the pass was refused a step of a session that had these entries before the run. It last saw as many entries as
-- the limit where the journal was full. Else it saw fewer: those, and what the run had made up to there.
abbrev pub WasRefused : {T : Type 0} → Cause → Entries → ℕ → PassState T (Entry Step Reply) → Type 0
WasRefused JournalFull old limit p = length p.last ≡ limit
WasRefused Memory old limit p =
    (seen : Entries) × (p.last ≡ old ++ seen) × (entries_of p.worker seen ≡ p.own) × (length p.last < limit)
