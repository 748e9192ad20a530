-- The table of a journal's lines: the words of each act and of each reply, and which replies belong to which act.
use Rattle.std.specs.Prelude.{◌≡◌, ◌<◌, ◌^◌, ℕ, Bool, List, [], ◌∷◌, ◌++◌, ◌&&◌, map, true, false, codes}
use Rattle.std.specs.Fmt.{decimal}
use Rattle.std.specs.List.{AllByRecursion, join_with_byte}
pub use Rattle.journal_text.specs.declared.version.Version.{Version}
use Rattle.journal_text.specs.declared.version.Version.TheVariants.{One, Two}
pub use Rattle.journal_text.specs.declared.line.JournalLine.{JournalLine}
use Rattle.journal_text.specs.declared.line.JournalLine.TheVariants as line
use Rattle.engine_base.specs.Answers.{is_answer}
use Rattle.engine_base.specs.declared.entry.Entry.{Entry}
pub use Rattle.engine_base.specs.declared.item.Item.{Item}
pub use Rattle.engine_base.specs.declared.step.Act.{Act}
use Rattle.engine_base.specs.declared.step.Act.TheVariants as act
use Rattle.engine_base.specs.declared.step.Answer.{Answer}
use Rattle.engine_base.specs.declared.step.Answer.TheVariants as answer
use Rattle.engine_base.specs.declared.step.Reply.{Reply}
use Rattle.engine_base.specs.declared.step.Reply.TheVariants as reply
use Rattle.engine_base.specs.declared.step.Step.{Step}
use Rattle.engine_base.specs.declared.worker.TheConstants.{MAX_WORKERS}

-- a word of a line: a name, or the number of a worker, of a stripe, or of a key, a node or a count
pub data Word : Type 0 where
  Named : List ℕ → Word
  Worker : ℕ → Word
  Stripe : ℕ → Word
  Wide : ℕ → Word

abbrev pub item_words : Item → List Word
item_words i = Wide i.key ∷ Wide i.node ∷ []

abbrev pub reply_words : Reply → List Word
reply_words (reply.Hit node) = Named (codes "hit") ∷ Wide node ∷ []
reply_words reply.Miss = Named (codes "miss") ∷ []
reply_words reply.Kept = Named (codes "kept") ∷ []
reply_words reply.Full = Named (codes "full") ∷ []
reply_words reply.Lost = Named (codes "lost") ∷ []
reply_words (reply.Added node) = Named (codes "added") ∷ Wide node ∷ []
reply_words (reply.Present node) = Named (codes "present") ∷ Wide node ∷ []
reply_words reply.WritesFull = Named (codes "writesfull") ∷ []
reply_words (reply.Removed node) = Named (codes "removed") ∷ Wide node ∷ []
reply_words reply.Absent = Named (codes "absent") ∷ []
reply_words reply.Go = Named (codes "go") ∷ []
reply_words reply.Drain = Named (codes "drain") ∷ []
reply_words reply.Began = Named (codes "began") ∷ []
reply_words reply.Busy = Named (codes "busy") ∷ []
reply_words (reply.Drained item) = Named (codes "drained") ∷ item_words item
reply_words reply.Empty = Named (codes "empty") ∷ []
reply_words (reply.Applied item) = Named (codes "applied") ∷ item_words item
reply_words (reply.Cleared item) = Named (codes "cleared") ∷ item_words item
reply_words reply.Enough = Named (codes "enough") ∷ []
reply_words (reply.Shifted item) = Named (codes "shifted") ∷ item_words item
reply_words (reply.Evicted item) = Named (codes "evicted") ∷ item_words item
reply_words (reply.Rejected item) = Named (codes "rejected") ∷ item_words item
reply_words reply.Fits = Named (codes "fits") ∷ []
reply_words reply.Idle = Named (codes "idle") ∷ []
reply_words reply.Again = Named (codes "again") ∷ []
reply_words reply.NotYet = Named (codes "notyet") ∷ []

-- the name at the front of some words
abbrev pub name_in : List Word → List ℕ
name_in (Named name ∷ words) = name
name_in _ = []

-- the words after it
abbrev pub behind : List Word → List Word
behind [] = []
behind (w ∷ words) = words

abbrev pub reply_word : Reply → List ℕ
reply_word r = name_in (reply_words r)

-- the reply that has the word of an answer to an offer
abbrev pub answer_reply : Answer → Reply
answer_reply answer.Kept = reply.Kept
answer_reply answer.Full = reply.Full
answer_reply answer.Lost = reply.Lost

abbrev pub act_words : Act → List Word
act_words (act.Look key) = Named (codes "look") ∷ Wide key ∷ []
act_words (act.Offer s item) = Named (codes "offer") ∷ Stripe s ∷ item_words item
act_words (act.Lose s item) = Named (codes "lose") ∷ Stripe s ∷ item_words item
act_words (act.Put key) = Named (codes "put") ∷ Wide key ∷ []
act_words (act.Remove key) = Named (codes "remove") ∷ Wide key ∷ []
act_words (act.AfterRead a) = Named (codes "afterread") ∷ Named (reply_word (answer_reply a)) ∷ []
act_words act.AfterWrite = Named (codes "afterwrite") ∷ []
act_words act.Begin = Named (codes "begin") ∷ []
act_words (act.DrainRead s) = Named (codes "drainread") ∷ Stripe s ∷ []
act_words act.DrainWrite = Named (codes "drainwrite") ∷ []
act_words act.Evict = Named (codes "evict") ∷ []
act_words act.End = Named (codes "end") ∷ []

abbrev pub act_word : Act → List ℕ
act_word a = name_in (act_words a)

-- whether a version has such an entry: version 1 is from before keys could be removed
abbrev pub is_in_version : Version → Act → Reply → Bool
is_in_version One (act.Remove key) r = false
is_in_version One a (reply.Cleared item) = false
is_in_version v a r = true

abbrev pub entry_words : Entry Step Reply → List Word
entry_words e = Worker e.step.worker ∷ (act_words e.step.act ++ (Named (codes "=") ∷ reply_words e.reply))

abbrev pub count_words : ℕ → List Word
count_words n = Named (codes "steps") ∷ Wide n ∷ []

-- how a word is spelled: numbers in decimal, without leading zeros
abbrev pub word_text : Word → List ℕ
word_text (Named name) = name
word_text (Worker n) = decimal n
word_text (Stripe n) = decimal n
word_text (Wide n) = decimal n

-- words with single spaces (32) between them
abbrev pub spaced_words : List Word → List ℕ
spaced_words words = join_with_byte 32 (map word_text words)

-- words, each with a space before it
unfoldable pub spaced : List Word → List ℕ
spaced [] = []
spaced (w ∷ ws) = 32 ∷ (word_text w ++ spaced ws)

abbrev pub FitsWord : Word → Type 0
FitsWord (Named n) = Unit {0}
FitsWord (Worker n) = n < MAX_WORKERS
FitsWord (Stripe n) = n < 256
FitsWord (Wide n) = n < 2 ^ 64

abbrev pub FitWords : List Word → Type 0
FitWords words = AllByRecursion FitsWord words

abbrev pub line_words : JournalLine → List Word
line_words (line.Made e) = entry_words e
line_words (line.Steps n) = count_words n

-- the one text of a line, without its line feed
unfoldable pub text_of : JournalLine → List ℕ
text_of line = spaced_words (line_words line)

-- whether a version has such a line: an entry whose reply belongs to its act, and in version 2 the count of the steps
abbrev pub is_line_in : Version → JournalLine → Bool
is_line_in v (line.Made e) = is_in_version v e.step.act e.reply && is_answer e.step.act e.reply
is_line_in One (line.Steps n) = false
is_line_in Two (line.Steps n) = true

-- a line of the table
unfoldable pub IsLine : Version → JournalLine → Type 0
IsLine v l = FitWords (line_words l) × (is_line_in v l ≡ true)
