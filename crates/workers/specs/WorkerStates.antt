-- Workers at their places, and what they made there.
use Rattle.std.specs.Prelude.{◌≡◌, ℕ, suc, List, [], ◌∷◌, map, get_or, Option, Some, None, IfSome}
use Rattle.std.specs.Option.{IsSome}
use Rattle.std.specs.Global.{Vec}
use Rattle.std.specs.Vec.{vec_items}
pub use Rattle.engine_base.specs.declared.entry.Entry.{Entry}
pub use Rattle.engine_base.specs.declared.step.Call.{Call}
use Rattle.journal.specs.Session.{SessionState}
use Rattle.turn_book.specs.Passes.{BookId, PassState}
pub use Rattle.workers.specs.declared.run.WorkerState.{WorkerState}
use Rattle.workers.specs.Runs.{Step, Reply, AreWalksUpTo}
use Rattle.workers.specs.Walkers.{WasRefused}
use Rattle.engine_base.specs.History.{data_after, Entries}
use Rattle.shell_model.specs.Shell.{Shell, act}
use Rattle.shell_model.specs.AdmittedSteps.{AdmitsWalks}

-- the calls of each worker, by its number
abbrev pub calls_of : List (Vec Call) → ℕ → List Call
calls_of pieces w = get_or (map (λ p. vec_items p) pieces) w []

abbrev pub ShellSession : Type 0
ShellSession = SessionState Shell Shell Step Reply

-- the worker has its pass of this book
pub record HoldsPass (b : BookId ShellSession) (d : WorkerState) : Type 0 where
  pub has : IsSome d.pass
  pub own : IfSome d.pass (λ p. (p.book ≡ b) × (p.worker ≡ d.worker))

-- the entries that a worker made with its pass
abbrev pub entries_with : Option (PassState ShellSession (Entry Step Reply)) → Entries
entries_with None = []
entries_with (Some p) = p.own

-- It made its walks up to the step that it was refused, where it was, in a run from the session s.
pub record HasWorked (n : ℕ) (s : ShellSession) (calls : ℕ → List Call) (d : WorkerState) : Type 0 where
  pub walks : AreWalksUpTo d.refusal n d.worker (calls d.worker) (entries_with d.pass)
  pub refused : IfSome d.refusal (λ cause. IfSome d.pass (WasRefused cause s.kept s.limit))

-- the workers from lo on, in order
abbrev pub AreNumbered : ℕ → List WorkerState → Type 0
AreNumbered lo [] = Unit {0}
AreNumbered lo (d ∷ ds) = (d.worker ≡ lo) × AreNumbered (suc lo) ds

-- the shell takes each step that the walks of any worker ask, from where the session stood
abbrev pub AdmitsAll : ℕ → ShellSession → Type 0
AdmitsAll n s = (w : ℕ) → AdmitsWalks act (λ x. x.applied) w n (data_after act s.opening s.kept)
