use Rattle.std.proofs.lemmas.Grind.{common_steps}
use Rattle.std.proofs.Common.{◌∙◌, ◌≤◌, ◌++◌, inr, length, ap, sym, refl, subst, arith}
use Rattle.std.proofs.lemmas.List.Elements.{All-nil}
use Rattle.std.proofs.lemmas.Result.{IfErr-weaker}
use Rattle.engine_base.specs.History.{IsLegal}
use Rattle.journal_text.specs.Faults.{IsFault, TakesLine}
use Rattle.journal_text.specs.Journal.{begun, ended_line, header, AreLines}
use Rattle.journal_text.specs.Table.{IsLine}
use Rattle.journal_text.specs.declared.line.JournalLine.TheVariants.{Made}
use Rattle.journal_text.proofs.Fronts.{begun_none, count_gone, line_gone, line_more}
use Rattle.journal_text.proofs.replay.read_lines.Goals as goal

pub lines-init : goal.lines-init
lines-init g c =
    let v = c.args.version in
    let none = sym c.requires.kept in
    record {
      lines = subst (AreLines v) none (All-nil (λ e. IsLine v (Made e)));
      read = ap (λ t. t ++ c.args.lines.now) (ap (begun v) c.requires.kept ∙ begun_none v);
      room = c.requires.room;
      session = record {
        opening = refl;
        limit = refl;
        tail = λ e. e;
        legal = subst (IsLegal g.E.Engine.act c.args.session.now.opening) none tt;
        room = subst (λ k. length k ≤ c.args.session.now.limit) none (omega arith);
      };
    }

pub lines-preserved : goal.lines-preserved
lines-preserved g c =
    let v = c.args.version in
    let old = c.lines.session.kept in
    let new = c.take.new.session.kept in
    let text = c.in-Some.text.now in
    let before = c.lines.invariant in
    record {
      lines = line_more v old new text _ c.if-branch.false c.in_ok-take.ensures.ok before.lines;
      read = line_gone v old new text c.lines.rest.now c.in-Some.behind.now _ _ c.if-branch.false c.in_ok-take.ensures.ok before.read c.in-Some.ensures.1;
      room = c.take.ensures.room;
      session = record {
        opening = c.take.ensures.session.opening ∙ before.session.opening;
        limit = c.take.ensures.session.limit ∙ before.session.limit;
        tail = λ e. c.take.ensures.session.tail (before.session.tail e);
        legal = subst (λ d. IsLegal g.E.Engine.act d new) before.session.opening c.take.ensures.session.legal;
        room = subst (λ n. length new ≤ n) before.session.limit c.take.ensures.session.room;
      };
    }

pub lines-smaller : goal.lines-smaller
lines-smaller g c = grind (arith, common_steps)

pub returns-then-branch-clause-err : goal.returns-then-branch-clause-err
returns-then-branch-clause-err g c =
    let old = c.lines.session.kept in
    let new = c.take.new.session.kept in
    let text = c.in-Some.text.now in
    let whole = ended_line (header c.args.version) ++ c.args.lines.now in
    let before = c.lines.invariant in
    let took = subst (λ b. TakesLine b c.args.version text old new) c.if-branch.true c.in_ok-take.ensures.ok in
    let gone = count_gone c.args.version old new text c.lines.rest.now c.in-Some.behind.now whole took before.lines before.read c.in-Some.ensures.1 in
    IfErr-weaker c.end.result _ _ (λ f e. subst (λ f. IsFault g.E.Engine.act c.args.session.now.opening c.args.session.now.limit f whole new) (sym e.0)
    (inr (refl, (c.in-Some.behind.now, gone.0, e.1, gone.1)))) c.end.ensures.err
