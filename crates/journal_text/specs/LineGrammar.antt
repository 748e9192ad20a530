-- How a line is read, word by word. What callers see is the table; the laws say that this reads each of its lines.
-- Spaces and leading zeros too many, and more words, are read over: the line is then printed, and compared with the text.
use Rattle.std.specs.Prelude.{ℕ, List, [], ◌∷◌, Option, Some, None, codes, nat_lt, if◌then◌else◌}
use Rattle.std.specs.Str.{bytes_eq}
use Rattle.journal_text.specs.Table.{act_word, reply_word}
pub use Rattle.journal_text.specs.declared.line.JournalLine.{JournalLine}
use Rattle.journal_text.specs.declared.line.JournalLine.TheVariants as line
use Rattle.journal_text.specs.declared.table.TheConstants.{ACTS, REPLIES}
pub use Rattle.engine_base.specs.declared.entry.Entry.{Entry}
pub use Rattle.engine_base.specs.declared.item.Item.{Item}
pub use Rattle.engine_base.specs.declared.step.Act.{Act}
use Rattle.engine_base.specs.declared.step.Act.TheVariants as act
pub use Rattle.engine_base.specs.declared.step.Answer.{Answer}
use Rattle.engine_base.specs.declared.step.Answer.TheVariants as answer
pub use Rattle.engine_base.specs.declared.step.Reply.{Reply}
use Rattle.engine_base.specs.declared.step.Reply.TheVariants as reply
pub use Rattle.engine_base.specs.declared.step.Step.{Step}
use Rattle.engine_base.specs.declared.worker.TheConstants.{MAX_WORKERS}
use Rattle.streams.specs.Reads.{◌>>=◌, first_named, with_rest, Reads}
use Rattle.streams.specs.Words.{number_at, words_in}

-- one of these values, whose word stands next
unfoldable pub named_at : {A : Type 0} → (A → List ℕ) → List A → Reads A
named_at word values [] = None
named_at word values (w ∷ ws) = with_rest ws (first_named word values w)

-- a word that must stand there
unfoldable pub only_at : List ℕ → Reads (Unit {0})
only_at word [] = None
only_at word (w ∷ ws) = if bytes_eq w word then Some (tt, ws) else None

-- a number below a small limit
unfoldable pub small_at : ℕ → Reads ℕ
small_at limit ws = number_at ws >>= λ n. if nat_lt n.0 limit then Some n else None

unfoldable pub item_at : Reads Item
item_at ws = number_at ws >>= λ k. (number_at k.1 >>= λ n. Some (record { key = k.0; node = n.0 }, n.1))

abbrev pub answer_of : Reply → Option Answer
answer_of reply.Kept = Some answer.Kept
answer_of reply.Full = Some answer.Full
answer_of reply.Lost = Some answer.Lost
answer_of _ = None

unfoldable pub answer_at : Reads Answer
answer_at ws = named_at reply_word REPLIES ws >>= λ r. with_rest r.1 (answer_of r.0)

-- an act, with the numbers that follow its word
abbrev pub act_with_numbers : Act → Reads Act
act_with_numbers (act.Look _) ws = number_at ws >>= λ k. Some (act.Look k.0, k.1)
act_with_numbers (act.Offer _ _) ws = small_at 256 ws >>= λ s. (item_at s.1 >>= λ i. Some (act.Offer s.0 i.0, i.1))
act_with_numbers (act.Lose _ _) ws = small_at 256 ws >>= λ s. (item_at s.1 >>= λ i. Some (act.Lose s.0 i.0, i.1))
act_with_numbers (act.Put _) ws = number_at ws >>= λ k. Some (act.Put k.0, k.1)
act_with_numbers (act.Remove _) ws = number_at ws >>= λ k. Some (act.Remove k.0, k.1)
act_with_numbers (act.AfterRead _) ws = answer_at ws >>= λ a. Some (act.AfterRead a.0, a.1)
act_with_numbers (act.DrainRead _) ws = small_at 256 ws >>= λ s. Some (act.DrainRead s.0, s.1)
act_with_numbers a ws = Some (a, ws)

unfoldable pub act_at : Reads Act
act_at ws = named_at act_word ACTS ws >>= λ a. act_with_numbers a.0 a.1

-- a reply, with the numbers that follow its word
abbrev pub reply_with_numbers : Reply → Reads Reply
reply_with_numbers (reply.Hit _) ws = number_at ws >>= λ n. Some (reply.Hit n.0, n.1)
reply_with_numbers (reply.Added _) ws = number_at ws >>= λ n. Some (reply.Added n.0, n.1)
reply_with_numbers (reply.Present _) ws = number_at ws >>= λ n. Some (reply.Present n.0, n.1)
reply_with_numbers (reply.Removed _) ws = number_at ws >>= λ n. Some (reply.Removed n.0, n.1)
reply_with_numbers (reply.Drained _) ws = item_at ws >>= λ i. Some (reply.Drained i.0, i.1)
reply_with_numbers (reply.Applied _) ws = item_at ws >>= λ i. Some (reply.Applied i.0, i.1)
reply_with_numbers (reply.Cleared _) ws = item_at ws >>= λ i. Some (reply.Cleared i.0, i.1)
reply_with_numbers (reply.Shifted _) ws = item_at ws >>= λ i. Some (reply.Shifted i.0, i.1)
reply_with_numbers (reply.Evicted _) ws = item_at ws >>= λ i. Some (reply.Evicted i.0, i.1)
reply_with_numbers (reply.Rejected _) ws = item_at ws >>= λ i. Some (reply.Rejected i.0, i.1)
reply_with_numbers r ws = Some (r, ws)

unfoldable pub reply_at : Reads Reply
reply_at ws = named_at reply_word REPLIES ws >>= λ r. reply_with_numbers r.0 r.1

unfoldable pub entry_in : List (List ℕ) → Option (Entry Step Reply)
entry_in ws = small_at MAX_WORKERS ws >>= λ w. (act_at w.1 >>= λ a. (only_at (codes "=") a.1 >>= λ e.
    (reply_at e.1 >>= λ r. Some (record { step = record { worker = w.0; act = a.0 }; reply = r.0 }))))

unfoldable pub count_in : List (List ℕ) → Option ℕ
count_in ws = only_at (codes "steps") ws >>= λ s. (number_at s.1 >>= λ n. Some n.0)

-- an entry, or else the count of the steps
abbrev pub or_count : Option (Entry Step Reply) → Option ℕ → Option JournalLine
or_count (Some e) other = Some (line.Made e)
or_count None (Some n) = Some (line.Steps n)
or_count None None = None

unfoldable pub line_in : List ℕ → Option JournalLine
line_in text = or_count (entry_in (words_in text)) (count_in (words_in text))
