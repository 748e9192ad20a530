-- What was written is read.
use Rattle.std.proofs.Common.{◌≡◌, [], ◌∷◌, Option, true}
use Rattle.std.proofs.lemmas.List.Elements.{All-cons, All-head, All-nil, All-tail}
use Rattle.journal_text.specs.Journal.{Step, Reply, Entry, AreFit, AreLines}
use Rattle.journal_text.specs.Table.{entry_words, FitWords, IsLine}
use Rattle.journal_text.specs.declared.line.JournalLine.TheVariants.{Made}
use Rattle.journal_text.specs.declared.version.Version.TheVariants.{Two}
use Rattle.engine_base.specs.Answers.{is_answer, AnswersItsActs}
use Rattle.engine_base.specs.History.{next_data, IsLegal, Entries}

-- The entries that an engine made are lines of version 2, where it answers its acts and their numbers fit.
line_of_two : (e : Entry Step Reply) → FitWords (entry_words e) → is_answer e.step.act e.reply ≡ true → IsLine Two (Made e)
unfolding IsLine
line_of_two e fit answer = (fit, answer)

module _ {D : Type 0} (act : D → Step → Option (Reply × D)) where
  pub lines_of_two : (x : D) (es : Entries) → AnswersItsActs act → IsLegal act x es → AreFit es → AreLines Two es
  lines_of_two x [] answers legal fit = All-nil (λ e. IsLine Two (Made e))
  lines_of_two x (e ∷ es) answers legal fit =
      All-cons (λ e. IsLine Two (Made e)) e es
      (line_of_two e (All-head (λ e. FitWords (entry_words e)) e es fit) (answers x (next_data (act x e.step) x) e.step e.reply legal.0))
      (lines_of_two (next_data (act x e.step) x) es answers legal.1 (All-tail (λ e. FitWords (entry_words e)) e es fit))
