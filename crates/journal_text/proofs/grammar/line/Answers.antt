use Rattle.std.proofs.Common.{◌≡◌, ◌∙◌, ◌++◌, Some, ap, sym, true≢false, ℕ, List}
use Rattle.std.proofs.lemmas.Slice.Eq.{bytes_eq-Decides}
use Rattle.std.specs.declared.option.Option.{Option}
use Rattle.journal_text.specs.LineGrammar.{line_in}
use Rattle.journal_text.specs.Table.{JournalLine, Version, text_of, is_line_in, IsLine}
use Rattle.journal_text.proofs.LineLaws.{line_again}
use Rattle.journal_text.proofs.grammar.line.Goals as goal

-- a line of the table was read
read : (v : Version) (text : List ℕ) (o : Option JournalLine) (l : JournalLine) → o ≡ line_in text → IsLine v l → text_of l ≡ text → o ≡ Some l
read v text o l r h e = r ∙ ap line_in (sym e) ∙ line_again v l h

pub returns-in_err-line-clause-only : goal.returns-in_err-line-clause-only
returns-in_err-line-clause-only c l h e =
    c.from_residual.ensures ∙ sym c.in_err-line.was ∙ read c.args.version c.args.text.now c.line_read.result l c.line_read.ensures h e

pub returns-then-not-is_line_in-clause-only : goal.returns-then-not-is_line_in-clause-only
unfolding IsLine
returns-then-not-is_line_in-clause-only c l h e =
    let some = sym c.in_ok-line.was ∙ read c.args.version c.args.text.now c.line_read.result l c.line_read.ensures h e in
    let same : c.in_ok-line.line ≡ l = cc in
    absurd (true≢false (sym h.1 ∙ ap (is_line_in c.args.version) (sym same) ∙ sym c.is_line_in.ensures ∙ c.if-not-is_line_in.true))

pub returns-then-eq-clause-found : goal.returns-then-eq-clause-found
unfolding IsLine
returns-then-eq-clause-found c =
    let equal = (bytes_eq-Decides c.as_slice.result.now c.args.text.now).0 (sym c.eq.ensures ∙ c.if-eq.true) in (
      (c.push_line.ensures.fit, sym c.is_line_in.ensures ∙ c.if-not-is_line_in.false),
      sym (c.push_line.ensures.items ∙ ap (λ t. t ++ text_of c.in_ok-line.line) c.clear.ensures.items) ∙ sym c.as_slice.ensures.value ∙ equal,
    )

pub returns-then-eq-clause-only : goal.returns-then-eq-clause-only
returns-then-eq-clause-only c l h e = sym c.in_ok-line.was ∙ read c.args.version c.args.text.now c.line_read.result l c.line_read.ensures h e

pub returns-clause-only : goal.returns-clause-only
returns-clause-only c l h e =
    let some = sym c.in_ok-line.was ∙ read c.args.version c.args.text.now c.line_read.result l c.line_read.ensures h e in
    let same : c.in_ok-line.line ≡ l = cc in
    let spelled = c.as_slice.ensures.value ∙ c.push_line.ensures.items ∙ ap (λ t. t ++ text_of c.in_ok-line.line) c.clear.ensures.items in
    absurd (true≢false (sym ((bytes_eq-Decides c.as_slice.result.now c.args.text.now).1 (spelled ∙ ap text_of same ∙ e)) ∙ sym c.eq.ensures ∙ c.if-eq.false))
