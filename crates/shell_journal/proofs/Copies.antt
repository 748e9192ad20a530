-- What is written of a reachable session is a journal that a session takes.
use Rattle.std.proofs.Common.{◌≡◌, ◌≤◌, ℕ, List, length, sym, subst, Result, Ok, Err, false}
use Rattle.std.specs.Prelude.{is_err, OnOk}
use Rattle.engine_base.specs.declared.limits.TheConstants.{MAX_JOURNAL_LIMIT}
use Rattle.engine_base.specs.History.{IsLegal, Entries}
use Rattle.shell_model.specs.Shell.{Shell, act}
use Rattle.shell_model.specs.ReachableShell.{IsReachable}
use Rattle.journal_text.specs.Journal.{journal_of, AreLines, IsJournalText}
use Rattle.journal_text.specs.declared.reader.TheConstants.{MAX_JOURNAL_BYTES}
use Rattle.journal_text.specs.declared.version.Version.TheVariants.{Two}
use Rattle.shell_journal.specs.JournalSize.{TextSizeLaw}

pub of_ok : {T E : Type 0} (r : Result T E) (A : Type 0) → is_err r ≡ false → OnOk r A → A
of_ok (Ok x) A e h = h
of_ok (Err x) A e h = absurd (cc e)

pub journal_taken : (x : Shell) (limit : ℕ) (bytes : List ℕ) (es : Entries) → TextSizeLaw → IsReachable x → IsLegal act x es → AreLines Two es
    → length es ≤ MAX_JOURNAL_LIMIT → length es ≤ limit → bytes ≡ journal_of Two es → IsJournalText act x limit bytes es
journal_taken x limit bytes es law reachable legal lines few room text = record {
  whole = record { version = Two; lines = lines; text = text };
  legal = legal;
  room = room;
  size = subst (λ (b : List ℕ). length b ≤ MAX_JOURNAL_BYTES) (sym text) (law x es reachable legal lines few);
}
