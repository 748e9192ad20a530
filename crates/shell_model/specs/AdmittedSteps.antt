-- When a machine takes each step that walks ask of it.
use Rattle.std.specs.Prelude.{◌≡◌, ◌≢◌, ℕ, ◌<◌, List, ◌∷◌, ◌++◌, Option, None}
use Rattle.engine_base.specs.declared.limits.TheConstants.{MAX_STEPS}
pub use Rattle.engine_base.specs.declared.step.Call.{Call}
pub use Rattle.engine_base.specs.declared.step.Reply.{Reply}
pub use Rattle.engine_base.specs.declared.step.Step.{Step}
use Rattle.engine_base.specs.History.{data_after, IsLegal, Entries}
use Rattle.shell_model.specs.Walks.{Act, step_of, AreWalks}
use Rattle.shell_model.specs.WorkerEntries.{entries_of}

-- after its entries so far, the act may be the next of walks of worker w
pub record MayMake (w n : ℕ) (own : Entries) (a : Act) : Type 0 where
  pub calls : List Call
  pub reply : Reply
  pub rest : Entries
  pub walks : AreWalks w n calls (own ++ record { step = step_of w a; reply = reply } ∷ rest)

-- From x on, whatever the others do meanwhile, each act that may be the next of walks of worker w is taken, as long as
-- the count of applied steps is not at its end.
abbrev pub AdmitsWalks : {D : Type 0} → (D → Step → Option (Reply × D)) → (D → ℕ) → ℕ → ℕ → D → Type 0
AdmitsWalks perform count w n x =
    (es : Entries) → IsLegal perform x es → (a : Act) → MayMake w n (entries_of w es) a
    → count (data_after perform x es) < MAX_STEPS → perform (data_after perform x es) (step_of w a) ≢ None

-- From x on, after any legal entries whose part by this worker is `own`, the machine takes the step.
abbrev pub AdmitsNext : {D : Type 0} → (D → Step → Option (Reply × D)) → (D → ℕ) → D → Entries → Step → Type 0
AdmitsNext perform count x own step =
    (es : Entries) → IsLegal perform x es → entries_of step.worker es ≡ own
    → count (data_after perform x es) < MAX_STEPS
    → perform (data_after perform x es) step ≢ None
