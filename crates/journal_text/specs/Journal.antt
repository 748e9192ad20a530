-- The text of a journal, in a format of this project: a header, a line for each entry, and in version 2 the count of
-- the entries.
use Rattle.std.specs.Prelude.{◌≡◌, ◌≤◌, ℕ, Option, List, [], ◌++◌, length, codes}
use Rattle.std.specs.List.{All, flat_map}
use Rattle.journal_text.specs.Table.{entry_words, text_of, FitWords, IsLine}
use Rattle.journal_text.specs.declared.line.JournalLine.TheVariants.{Made, Steps}
use Rattle.journal_text.specs.declared.reader.TheConstants.{MAX_JOURNAL_BYTES}
pub use Rattle.journal_text.specs.declared.version.Version.{Version}
use Rattle.journal_text.specs.declared.version.Version.TheVariants.{One, Two}
use Rattle.engine_base.specs.History.{IsLegal, Entries}
pub use Rattle.engine_base.specs.declared.entry.Entry.{Entry}
pub use Rattle.engine_base.specs.declared.step.Reply.{Reply}
pub use Rattle.engine_base.specs.declared.step.Step.{Step}

abbrev pub header : Version → List ℕ
header One = codes "cachesim journal 1"
header Two = codes "cachesim journal 2"

-- a line with its line feed
abbrev pub ended_line : List ℕ → List ℕ
ended_line text = text ++ codes "\n"

abbrev pub entry_line : Entry Step Reply → List ℕ
entry_line e = ended_line (text_of (Made e))

-- the header and the lines of the entries
unfoldable pub begun : Version → Entries → List ℕ
begun v es = ended_line (header v) ++ flat_map entry_line es

-- after the entries of version 2, their count
abbrev pub closing_line : Version → ℕ → List ℕ
closing_line One n = []
closing_line Two n = ended_line (text_of (Steps n))

-- the text of a journal of these entries
abbrev pub journal_of : Version → Entries → List ℕ
journal_of v es = begun v es ++ closing_line v (length es)

-- each entry is a line of the table
abbrev pub AreLines : Version → Entries → Type 0
AreLines v es = All (λ e. IsLine v (Made e)) es

-- the numbers of each entry are in their ranges
abbrev pub AreFit : Entries → Type 0
AreFit es = All (λ e. FitWords (entry_words e)) es

-- the bytes are the text of these entries, in either version
pub record IsTextOf (bytes : List ℕ) (es : Entries) : Type 0 where
  pub version : Version
  pub lines : AreLines version es
  pub text : bytes ≡ journal_of version es

-- The journals that a session takes which was opened on x: the text of entries that are legal from
-- there and for which it has room, of at most as many bytes as a journal may have.
pub record IsJournalText {D : Type 0} (act : D → Step → Option (Reply × D)) (x : D) (limit : ℕ)
    (bytes : List ℕ) (es : Entries) : Type 0 where
  pub whole : IsTextOf bytes es
  pub legal : IsLegal act x es
  pub room : length es ≤ limit
  pub size : length bytes ≤ MAX_JOURNAL_BYTES
