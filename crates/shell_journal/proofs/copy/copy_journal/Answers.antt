use Rattle.std.proofs.Common.{rules, arith, ◌≡◌, ◌≤◌, ◌∙◌, ◌++◌, [], List, ℕ, length, ap, sym, subst, false}
use Rattle.std.specs.Prelude.{is_err}
use Rattle.engine_base.specs.Answers.{AnswersItsActs}
use Rattle.engine_base.specs.declared.limits.TheConstants.{MAX_JOURNAL_LIMIT}
use Rattle.engine_base.specs.History.{data_after}
use Rattle.shell_model.specs.Shell.{Shell, act}
use Rattle.shell_model.specs.ReachableShell.{IsReachable}
use Rattle.journal_text.specs.Journal.{journal_of, AreLines, IsJournalText}
use Rattle.journal_text.specs.declared.version.Version.TheVariants.{Two}
use Rattle.shell_journal.proofs.Copies.{journal_taken, of_ok}
use Rattle.shell_journal.proofs.copy.copy_journal.Goals as goal

pub returns-clause-taken : goal.returns-clause-taken
returns-clause-taken c =
    let s = c.args.session.now in
    let good : is_err c.write_journal.result ≡ false = sym c.is_err.ensures.value ∙ c.if-is_err.false in
    let lines : AreLines Two s.kept =
    of_ok c.write_journal.result (AnswersItsActs act → AreLines Two s.kept) good c.write_journal.ensures.lines c.replies_belong.ensures in
    let wrote : c.write_journal.new.writer.inner.items ≡ c.new-text.result.inner.items ++ journal_of Two s.kept =
    of_ok c.write_journal.result (c.write_journal.new.writer.inner.items ≡ c.new-text.result.inner.items ++ journal_of Two s.kept) good c.write_journal.ensures.text in
    let empty : c.new-text.result.inner.items ≡ [] = search rules in
    let held : c.as_slice-reader.result.now ≡ c.write_journal.new.writer.inner.items = search rules in
    let text : c.as_slice-reader.result.now ≡ journal_of Two s.kept =
    held ∙ wrote ∙ ap (λ (t : List ℕ). t ++ journal_of Two s.kept) empty in
    let legal = c.sound.ensures.legal in
    let few : length s.kept ≤ MAX_JOURNAL_LIMIT = (let room = c.sound.ensures.room in let small = c.sound.ensures.small in omega (arith, room, small)) in
    let stands = c.engine.ensures in
    let reachable : IsReachable s.opening =
    subst IsReachable (stands.engine ∙ stands.sound.stands ∙ ap (data_after act c.args.copy.now.opening) c.requires.kept ∙ c.requires.alike) c.reachable.ensures in
    c.read_journal.ensures.accepts s.kept
    (subst (λ (x : Shell). IsJournalText act x c.args.copy.now.limit c.as_slice-reader.result.now s.kept) (sym c.requires.alike)
    (journal_taken s.opening c.args.copy.now.limit c.as_slice-reader.result.now s.kept c.text_size.ensures reachable legal lines few c.requires.room text))
