use Rattle.std.proofs.Common.{◌≤◌, take, vec_capacity}
use Rattle.journal_text.specs.Journal.{begun, AreFit}
use Rattle.journal_text.specs.declared.version.Version.TheVariants.{Two}
use Rattle.journal_text.specs.declared.writer.TheConstants.{BUFFER}
use Rattle.streams.specs.Tally.{Spends}
use Rattle.streams.specs.Waiting.{IsTextWritten}
use Rattle.journal_text.proofs.writer.write_entries.Given as goal

abbrev pub invariant-loop-n : goal.invariant-loop-n
invariant-loop-n g l = record {
  written : IsTextWritten (g.W.CountedWrite.contents l.fn.writer) (g.W.CountedWrite.contents l.writer) l.text.items (begun Two (take l.n l.session.kept));
  room : BUFFER ≤ vec_capacity l.text;
  fit : AreFit (take l.n l.session.kept);
  spent : Spends l.fn.budget l.budget (g.W.CountedWrite.tally l.fn.writer) (g.W.CountedWrite.tally l.writer);
}
