-- The text of a concurrent cache's journal fits what a reader takes.
use Rattle.std.specs.Prelude.{◌≤◌, length}
use Rattle.engine_base.specs.declared.limits.TheConstants.{MAX_JOURNAL_LIMIT}
use Rattle.engine_base.specs.History.{IsLegal, Entries}
use Rattle.shell_model.specs.Shell.{Shell, act}
use Rattle.shell_model.specs.ReachableShell.{IsReachable}
use Rattle.journal_text.specs.Journal.{journal_of, AreLines}
use Rattle.journal_text.specs.declared.reader.TheConstants.{MAX_JOURNAL_BYTES}
use Rattle.journal_text.specs.declared.version.Version.TheVariants.{Two}

-- from any reachable state on, as many entries as a session may have make no longer text than a reader takes
abbrev pub TextSizeLaw : Type 0
TextSizeLaw = (x : Shell) (es : Entries) → IsReachable x → IsLegal act x es → AreLines Two es
    → length es ≤ MAX_JOURNAL_LIMIT → length (journal_of Two es) ≤ MAX_JOURNAL_BYTES
