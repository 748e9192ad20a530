-- Why a text is not a journal that a session takes, and which entries the session then holds.
use Rattle.std.specs.Prelude.{◌≡◌, ◌≢◌, ◌<◌, ◌≤◌, ◌+◌, ◌⊎◌, ℕ, Bool, true, false, Option, Some, None, Result, Ok, Err}
use Rattle.std.specs.Prelude.{List, [], ◌∷◌, ◌++◌, length}
use Rattle.journal_text.specs.Journal.{begun, ended_line, header, journal_of, AreLines}
use Rattle.journal_text.specs.Table.{JournalLine, text_of, IsLine}
pub use Rattle.journal_text.specs.declared.fault.JournalFault.{JournalFault}
use Rattle.journal_text.specs.declared.fault.JournalFault.TheVariants as fault
use Rattle.journal_text.specs.declared.line.JournalLine.TheVariants.{Made, Steps}
use Rattle.journal_text.specs.declared.reader.TheConstants.{MAX_JOURNAL_BYTES}
pub use Rattle.journal_text.specs.declared.version.Version.{Version}
use Rattle.journal_text.specs.declared.version.Version.TheVariants.{One, Two}
use Rattle.journal.specs.Session.{SessionState}
use Rattle.engine_base.specs.History.{data_after, Entries, IsLegal}
pub use Rattle.engine_base.specs.declared.entry.Entry.{Entry}
pub use Rattle.engine_base.specs.declared.step.Reply.{Reply}
pub use Rattle.engine_base.specs.declared.step.Step.{Step}
use Rattle.streams.specs.Feeds.{HasNoFeed}

-- Reading leaves where the session was opened, its limit, no undone step where there was none, and applied steps that
-- are legal and within the limit.
pub record KeepsSession {E D S R : Type 0} (act : D → S → Option (R × D))
    (old new : SessionState E D S R) : Type 0 where
  pub opening : new.opening ≡ old.opening
  pub limit : new.limit ≡ old.limit
  pub tail : old.tail ≡ [] → new.tail ≡ []
  pub legal : IsLegal act old.opening new.kept
  pub room : length new.kept ≤ old.limit

-- the text is the line of this entry
abbrev pub IsLineOf : Version → Entry Step Reply → List ℕ → Type 0
IsLineOf v e text = IsLine v (Made e) × (text_of (Made e) ≡ text)

-- the bytes begin with the lines of the entries, if there are any
abbrev pub StandsIn : List ℕ → Entries → Type 0
StandsIn bytes kept = (kept ≡ []) ⊎ ((v : Version) × (more : List ℕ) × (bytes ≡ begun v kept ++ more))

-- a session that was opened on x
module _ {D : Type 0} (act : D → Step → Option (Reply × D)) (x : D) (limit : ℕ) where
  -- What is wrong with the line that stands after the lines of the entries es, and what is kept then.
  abbrev pub IsWrong : JournalFault → Version → Entries → List ℕ → Entries → Type 0
  -- it is no line of the table
  IsWrong (fault.Line n) v es text kept =
      (n ≡ length es + 1) × (kept ≡ es) × ((l : JournalLine) → IsLine v l → text_of l ≡ text → ⊥)
  -- its step is made, and got another reply
  IsWrong (fault.FalseReply n) v es text kept =
      (n ≡ length es + 1) × ((e : Entry Step Reply) × (r : Reply) × IsLineOf v e text
      × (kept ≡ es ++ record { step = e.step; reply = r } ∷ []) × (r ≢ e.reply)
      × ((y : D) × (act (data_after act x es) e.step ≡ Some (r, y))))
  -- its step is not accepted
  IsWrong (fault.NotNow n) v es text kept =
      (n ≡ length es + 1) × (kept ≡ es) × ((e : Entry Step Reply) × IsLineOf v e text
      × (length es ≢ limit) × (act (data_after act x es) e.step ≡ None))
  -- there is no room for its step
  IsWrong (fault.JournalFull n) v es text kept =
      (n ≡ length es + 1) × (kept ≡ es) × ((e : Entry Step Reply) × IsLineOf v e text × (length es ≡ limit))
  -- it is the count of the steps, and they are not so many
  IsWrong fault.Count v es text kept =
      (kept ≡ es) × ((n : ℕ) × IsLine v (Steps n) × (text_of (Steps n) ≡ text) × (n ≢ length es))
  IsWrong fault.OutOfMemory v es text kept = kept ≡ es
  -- these are faults of no line
  IsWrong fault.Header v es text kept = ⊥
  IsWrong fault.Unended v es text kept = ⊥
  IsWrong fault.Read v es text kept = ⊥
  IsWrong fault.TooLarge v es text kept = ⊥

  -- Behind the lines of some entries stands a line that is wrong: the first that is, since the session made those.
  abbrev pub IsAtLine : JournalFault → List ℕ → Entries → Type 0
  IsAtLine f bytes kept = (v : Version) × (es : Entries) × (text : List ℕ) × (more : List ℕ)
      × AreLines v es × (bytes ≡ begun v es ++ (ended_line text ++ more)) × HasNoFeed text × IsWrong f v es text kept

  -- What a fault says of the bytes, and of the entries that are kept then.
  abbrev pub IsFault : JournalFault → List ℕ → Entries → Type 0
  IsFault fault.OutOfMemory bytes kept = StandsIn bytes kept
  -- the first line is no header, or has no line feed
  IsFault fault.Header bytes kept = (kept ≡ [])
      × ((v : Version) (more : List ℕ) → bytes ≢ ended_line (header v) ++ more)
  -- a line is wrong, or there is a line more after the count, which is itself the line after those of the entries
  IsFault (fault.Line n) bytes kept = IsAtLine (fault.Line n) bytes kept
      ⊎ ((n ≡ length kept + 2)
      × ((more : List ℕ) × AreLines Two kept × (0 < length more) × (bytes ≡ journal_of Two kept ++ more)))
  IsFault (fault.FalseReply n) bytes kept = IsAtLine (fault.FalseReply n) bytes kept
  IsFault (fault.NotNow n) bytes kept = IsAtLine (fault.NotNow n) bytes kept
  IsFault (fault.JournalFull n) bytes kept = IsAtLine (fault.JournalFull n) bytes kept
  IsFault fault.Count bytes kept = IsAtLine fault.Count bytes kept
  -- the last line has no line feed, or the count is missing
  IsFault fault.Unended bytes kept = (v : Version) × (rest : List ℕ)
      × AreLines v kept × (bytes ≡ begun v kept ++ rest) × HasNoFeed rest × (v ≡ One → 0 < length rest)
  IsFault fault.Read bytes kept = kept ≡ []
  IsFault fault.TooLarge bytes kept = (kept ≡ []) × (MAX_JOURNAL_BYTES < length bytes)

-- A line was taken: its entry is added, or it is the right count.
abbrev pub TakesLine : Bool → Version → List ℕ → Entries → Entries → Type 0
TakesLine false v text old new =
    (e : Entry Step Reply) × IsLine v (Made e) × (text_of (Made e) ≡ text) × (new ≡ old ++ e ∷ [])
TakesLine true v text old new = (v ≡ Two) × (text_of (Steps (length old)) ≡ text) × (new ≡ old)

-- faults that are found before a step is made
abbrev pub IsUnread : JournalFault → Type 0
IsUnread fault.Header = Unit {0}
IsUnread fault.Read = Unit {0}
IsUnread fault.TooLarge = Unit {0}
IsUnread _ = ⊥

-- The entries of a journal were taken, unless memory or the reader failed.
abbrev pub Accepts : {T : Type 0} → Result T JournalFault → Entries → Entries → Type 0
Accepts (Ok u) kept es = kept ≡ es
Accepts (Err f) kept es = (f ≡ fault.OutOfMemory) ⊎ (f ≡ fault.Read)

-- More bytes were refused than a journal may have, unless memory or the reader failed.
abbrev pub IsRefusedAsLarge : {T : Type 0} → Result T JournalFault → Type 0
IsRefusedAsLarge (Ok u) = ⊥
IsRefusedAsLarge (Err f) = (f ≡ fault.TooLarge) ⊎ ((f ≡ fault.OutOfMemory) ⊎ (f ≡ fault.Read))
