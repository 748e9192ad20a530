-- The walk of worker 0 over one key where a round of maintenance comes after each, whatever the reports were answered.
-- (This project's own: with it the concurrent cache is W-TinyLFU.)
use Rattle.std.specs.Prelude.{◌≡◌, ℕ, List, [], ◌∷◌, ◌++◌, length, map}
pub use Rattle.engine_base.specs.declared.entry.Entry.{Entry}
use Rattle.engine_base.specs.declared.outcome.Outcome.TheVariants.{Kept}
use Rattle.engine_base.specs.declared.step.Call.TheVariants as call
use Rattle.engine_base.specs.declared.step.Reply.TheVariants as reply
use Rattle.engine_base.specs.History.{Entries}
use Rattle.journal.specs.declared.fault.SessionFault.TheVariants as cause
use Rattle.quiet_run.specs.declared.run.QuietFault.{QuietFault}
use Rattle.quiet_run.specs.declared.run.QuietFault.TheVariants as fault
use Rattle.shell_model.specs.Walks.{Step, Reply, IsWalk}
use Rattle.quiet_run.specs.Outcomes.{Outcome, outcome_from}
use Rattle.shell_model.specs.WorkerEntries.{IsUnfinished}
use Rattle.quiet_run.specs.Settle.{ShellSession, AddsSteps, IsRefusalCause}

-- A round follows every report, whatever its reply: its Go is taken for a Drain.
abbrev pub reply_with_round : Reply → Reply
reply_with_round reply.Go = reply.Drain
reply_with_round r = r

abbrev pub entry_with_round : Entry Step Reply → Entry Step Reply
entry_with_round e = record { step = e.step; reply = reply_with_round e.reply }

abbrev pub with_rounds : Entries → Entries
with_rounds es = map entry_with_round es

-- n is the number of stripes
module _ (n : ℕ) where
  -- the walk of one key: that of a read, with a round after its report
  abbrev pub IsQuietWalk : ℕ → Entries → Type 0
  IsQuietWalk key es = IsWalk 0 n (call.Read key) (with_rounds es)

  -- one walk for each key, in order, and what its replies come to
  abbrev pub AreQuietWalks : List ℕ → List Outcome → Entries → Type 0
  AreQuietWalks [] [] es = es ≡ []
  AreQuietWalks (k ∷ ks) (o ∷ os) es =
      (walk : Entries) × (rest : Entries) × (es ≡ walk ++ rest) × IsQuietWalk k walk
      × (o ≡ outcome_from Kept walk) × AreQuietWalks ks os rest
  AreQuietWalks [] (o ∷ os) es = ⊥
  AreQuietWalks (k ∷ ks) [] es = ⊥

-- the entries begin such walks, and are not all of them
abbrev pub BeginQuietWalks : ℕ → List ℕ → Entries → Type 0
BeginQuietWalks n ks es = (os : List Outcome) × IsUnfinished (AreQuietWalks n ks os) es

-- The first steps of the walks, of which the fault says how many they are; none where the maintenance was held.
abbrev pub LeavesQuietFault : ℕ → List ℕ → ShellSession → ShellSession → QuietFault → Type 0
LeavesQuietFault n ks old new (fault.OutOfMemory done) =
    AddsSteps (λ es. BeginQuietWalks n ks es × (done ≡ length es)) old new × IsRefusalCause cause.OutOfMemory new
LeavesQuietFault n ks old new (fault.JournalFull done) =
    AddsSteps (λ es. BeginQuietWalks n ks es × (done ≡ length es)) old new × IsRefusalCause cause.JournalFull new
LeavesQuietFault n ks old new fault.Held = AddsSteps (λ es. es ≡ []) old new
