use Rattle.std.proofs.lemmas.Grind.{common_steps}
use Rattle.std.proofs.Common.{◌≡◌, ◌∙◌, Ok, Err, ap, sym, subst, refl, arith}
use Rattle.std.specs.Result.{IsErrAnd}
use Rattle.streams.proofs.Tallies.{further, unspent}
use Rattle.debug_commands.specs.Commands.{command_line_of}
use Rattle.debug_commands.specs.Dialogue.{is_last}
use Rattle.debug_commands.specs.Timeline.{TimelineData}
use Rattle.debug_commands.specs.declared.fault.DebugFault.{DebugFault}
use Rattle.debug_commands.specs.declared.fault.DebugFault.TheVariants.{TooLarge}
use Rattle.debug_commands.proofs.Ahead.{a_round, begins, ends_at_large, ends_here, goes_on, said_is}
use Rattle.debug_commands.proofs.Parts.{appends_known, cut_off, stops_here}
use Rattle.streams.proofs.Results.{on_err}
use Rattle.std.specs.Io.KnownBytes.{append_known}
use Rattle.streams.specs.Part.{AppendsPart}
use Rattle.debug_commands.proofs.dialogue.answer_commands.Goals as goal

pub lines-init : goal.lines-init
lines-init g c = record {
  source = refl;
  usable = c.requires;
  same = refl;
  ahead = begins (g.T.Timeline.timeline c.args.timeline.now) (g.T.Timeline.position c.args.timeline.now) 1048576 c.new-breaks.result.items
      (g.R.CountedRead.remaining c.args.input.now) (g.W.CountedWrite.contents c.args.out.now) c.new-breaks.ensures.items refl;
  reads = rw c.new-reads.ensures (unspent _ _);
  writes = rw c.new-writes.ensures (unspent _ _);
}

pub returns-in_err-ended-clause-large : goal.returns-in_err-ended-clause-large
returns-in_err-ended-clause-large g c e =
    let gives : IsErrAnd {T = Unit {0}} {E = DebugFault} (Err TooLarge) (λ f. f ≡ c.in_err-ended.field-0.0) = subst (λ r. IsErrAnd r (λ f. f ≡ c.in_err-ended.field-0.0)) e c.from_residual.ensures.1 in
    let fault : c.in_err-ended.field-0.0 ≡ TooLarge = sym gives in
    ends_at_large c.lines.invariant.ahead (c.in_err-ended.ensures.large (ap Err fault))

pub returns-then-is_last-clause-done : goal.returns-then-is_last-clause-done
returns-then-is_last-clause-done g c =
    let t : TimelineData = g.T.Timeline.timeline c.args.timeline.now in
    let said : c.line-input_line.result ≡ command_line_of t.dialect c.read_line.new.text.items =
    said_is c.lines.invariant.same c.dialect.ensures c.as_slice.ensures.value c.line-input_line.ensures in
    ends_here
    (a_round (g.R.CountedRead.remaining c.read_line.new.input) (g.W.CountedWrite.contents c.write_all_within.new.writer) c.lines.invariant.ahead c.lines.invariant.same
    c.dialect.ensures c.as_slice.ensures.value c.line-input_line.ensures c.clear-in-lines.ensures.items c.in_ok-answer.ensures.answer
    c.in_ok-ended.ensures.read c.in_ok-ended.ensures.feeds c.in_ok-ended.ensures.room c.as_slice-in-lines.ensures.value c.in_ok-write_all_within.ensures.bytes)
    (sym (c.is_last.ensures ∙ ap (is_last c.in_ok-ended.ended) said) ∙ c.if-is_last.true) (λ none. c.in_ok-ended.ensures.end (ap Ok none))

pub lines-preserved : goal.lines-preserved
lines-preserved g c =
    let t : TimelineData = g.T.Timeline.timeline c.args.timeline.now in
    let said : c.line-input_line.result ≡ command_line_of t.dialect c.read_line.new.text.items =
    said_is c.lines.invariant.same c.dialect.ensures c.as_slice.ensures.value c.line-input_line.ensures in
    record {
      source = c.answer.ensures.source ∙ c.lines.invariant.source;
      usable = c.in_ok-answer.ensures.kept.0;
      same = c.in_ok-answer.ensures.kept.1 ∙ c.lines.invariant.same;
      ahead = goes_on
          (a_round (g.R.CountedRead.remaining c.read_line.new.input) (g.W.CountedWrite.contents c.write_all_within.new.writer) c.lines.invariant.ahead c.lines.invariant.same
          c.dialect.ensures c.as_slice.ensures.value c.line-input_line.ensures c.clear-in-lines.ensures.items c.in_ok-answer.ensures.answer
          c.in_ok-ended.ensures.read c.in_ok-ended.ensures.feeds c.in_ok-ended.ensures.room c.as_slice-in-lines.ensures.value c.in_ok-write_all_within.ensures.bytes)
          (sym (c.is_last.ensures ∙ ap (is_last c.in_ok-ended.ended) said) ∙ c.if-is_last.false);
      reads = further _ _ _ _ _ _ c.lines.invariant.reads (c.in_ok-ended.ensures.spent (λ same. absurd (cc same)));
      writes = further _ _ _ _ _ _ c.lines.invariant.writes c.in_ok-write_all_within.ensures.spent;
    }

pub returns-in_err-answer-clause-reads : goal.returns-in_err-answer-clause-reads
returns-in_err-answer-clause-reads g c = grind (arith, common_steps)

pub returns-in_err-answer-clause-writes : goal.returns-in_err-answer-clause-writes
returns-in_err-answer-clause-writes g c = grind (arith, common_steps)

pub returns-in_err-write_all_within-clause-source : goal.returns-in_err-write_all_within-clause-source
returns-in_err-write_all_within-clause-source g c = c.answer.ensures.source ∙ c.lines.invariant.source

pub returns-in_err-write_all_within-clause-usable : goal.returns-in_err-write_all_within-clause-usable
returns-in_err-write_all_within-clause-usable g c = grind (arith, common_steps)

pub returns-in_err-write_all_within-clause-writes : goal.returns-in_err-write_all_within-clause-writes
returns-in_err-write_all_within-clause-writes g c = grind (arith, common_steps)

pub returns-then-is_last-clause-reads : goal.returns-then-is_last-clause-reads
returns-then-is_last-clause-reads g c = grind (arith, common_steps)

pub returns-then-is_last-clause-source : goal.returns-then-is_last-clause-source
returns-then-is_last-clause-source g c = c.answer.ensures.source ∙ c.lines.invariant.source

pub returns-in_err-ended-clause-part : goal.returns-in_err-ended-clause-part
returns-in_err-ended-clause-part g c = on_err c.from_residual.result (stops_here c.lines.invariant.ahead)

pub returns-in_err-answer-clause-part : goal.returns-in_err-answer-clause-part
returns-in_err-answer-clause-part g c = on_err c.from_residual-in_err-answer.result (stops_here c.lines.invariant.ahead)

pub returns-in_err-write_all_within-clause-part : goal.returns-in_err-write_all_within-clause-part
returns-in_err-write_all_within-clause-part g c =
    let has = g.W.CountedWrite.contents c.lines.out in
    let shown = c.as_slice-in-lines.result.now in
    on_err c.from_residual-in_err-write_all_within.result (cut_off (g.W.CountedWrite.contents c.write_all_within.new.writer) c.in_ok-ended.ended
    (a_round (g.R.CountedRead.remaining c.read_line.new.input) (append_known has shown) c.lines.invariant.ahead c.lines.invariant.same
    c.dialect.ensures c.as_slice.ensures.value c.line-input_line.ensures c.clear-in-lines.ensures.items c.in_ok-answer.ensures.answer
    c.in_ok-ended.ensures.read c.in_ok-ended.ensures.feeds c.in_ok-ended.ensures.room c.as_slice-in-lines.ensures.value (appends_known has shown))
    (λ none. c.in_ok-ended.ensures.end (ap Ok none)) (subst (AppendsPart has (g.W.CountedWrite.contents c.write_all_within.new.writer)) c.as_slice-in-lines.ensures.value c.in_err-write_all_within.ensures.part))
