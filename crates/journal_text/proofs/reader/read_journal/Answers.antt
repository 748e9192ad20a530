use Rattle.std.proofs.Common.{◌≡◌, ℕ, List, Option, Some, None, sym, subst}
use Rattle.std.specs.Prelude.{IfSome}
use Rattle.engine_base.specs.History.{Entries}
use Rattle.journal_text.specs.Faults.{Accepts}
use Rattle.journal_text.specs.Journal.{IsJournalText}
use Rattle.journal_text.proofs.Accepting.{accepts}
use Rattle.journal_text.proofs.reader.read_journal.Goals as goal

some_is : (P : List ℕ → Type 0) (known : Option (List ℕ)) (bytes : List ℕ) → IfSome known (λ xs. bytes ≡ xs) → P bytes → IfSome known P
some_is P None bytes e p = tt
some_is P (Some xs) bytes e p = subst P e p

pub returns-clause-accepts : goal.returns-clause-accepts
returns-clause-accepts g c =
    let act = g.E.Engine.act in
    let opening = c.args.session.now.opening in
    let limit = c.args.session.now.limit in
    let kept = c.read_text.new.session.kept in
    let known = g.R.CountedRead.remaining c.args.reader.now in
    let bytes = c.as_slice.result.now in
    some_is (λ b. (es : Entries) → IsJournalText act opening limit b es → Accepts c.read_text.result kept es) known bytes
    (subst (λ i. IfSome known (λ xs. i ≡ xs)) (sym c.as_slice.ensures.value) c.in_ok-bytes.ensures.bytes)
    (λ es journal. accepts act opening limit bytes es kept c.read_text.result journal c.read_text.ensures.ok c.read_text.ensures.err)
