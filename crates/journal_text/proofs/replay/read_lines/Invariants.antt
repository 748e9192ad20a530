use Rattle.std.proofs.Common.{◌≡◌, ◌≤◌, ◌++◌, length, vec_capacity}
use Rattle.journal_text.specs.Journal.{begun, ended_line, header, AreLines}
use Rattle.journal_text.specs.Faults.{KeepsSession}
use Rattle.journal_text.specs.declared.line_text.TheConstants.{MAX_LINE}
use Rattle.journal_text.proofs.replay.read_lines.Given as goal

abbrev pub invariant-lines : goal.invariant-lines
invariant-lines g l = record {
  lines : AreLines l.version l.session.kept;
  read : begun l.version l.session.kept ++ l.rest ≡ ended_line (header l.version) ++ l.lines;
  room : MAX_LINE ≤ vec_capacity l.printed;
  session : KeepsSession g.E.Engine.act l.initial.session l.session;
}

abbrev pub decreases-lines : goal.decreases-lines
decreases-lines g l = length l.rest
