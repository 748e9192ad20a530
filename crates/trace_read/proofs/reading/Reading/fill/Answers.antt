use Rattle.std.proofs.Common.{◌≡◌, ◌≤◌, arith, length, subst, take}
use Rattle.std.proofs.lemmas.Grind.{common_steps}
use Rattle.streams.specs.GivenBytes.{Since}
use Rattle.streams.proofs.Tallies.{further}
use Rattle.trace_read.proofs.Readings.{none_in, piece_read}
use Rattle.trace_read.specs.Reading.{IsAhead}
use Rattle.trace_read.proofs.reading.Reading.fill.Goals as goal

pub returns-clause-reading : goal.returns-clause-reading
returns-clause-reading g c = λ old before r.
    let self = c.args.self.now in
    let count = c.in_ok-count.count in
    let read = c.in_ok-count.ensures in
    let len : length (take count c.next.new.chunk) ≡ count = grind (arith, common_steps) in
    let all : self.end ≤ self.at = omega arith in
    record {
      scan = r.scan;
      none = r.none;
      pending = r.pending;
      place = (omega arith, read.within);
      lines = omega (arith, r.lines, r.place, read.room);
      room = omega (arith, r.room, read.room);
      bytes = r.bytes;
      accesses = r.accesses;
      limit = r.limit;
      since = subst (λ n. Since old (g.R.CountedRead.remaining c.next.new.reader) (IsAhead self.limits self.format self.scan self.run c.next.new.self.room (take n c.next.new.chunk))) {x = count} (omega arith)
          (piece_read self.limits self.format self.scan self.run self.pieces.room c.next.new.self.room _ (take count c.next.new.chunk) old (g.R.CountedRead.remaining c.args.reader.now) (g.R.CountedRead.remaining c.next.new.reader) r.since
          (none_in self.at self.end self.chunk all) read.bytes (omega (arith, len, read.room)));
      spent = further _ _ _ _ _ _ r.spent (read.spent (λ e. absurd (cc e)));
      ended = λ e. absurd (cc (e, c.if-self-2.false));
    }
