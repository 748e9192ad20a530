use Rattle.std.proofs.lemmas.Grind.{common_steps}
use Rattle.std.proofs.Common.{◌≡◌, ◌∙◌, ◌+◌, ℕ, List, length, get_or, ap, arith, length-append}
use Rattle.streams.proofs.Tallies.{further}
use Rattle.debug_commands.proofs.OneByte.{feeds_more, line_more, one_more}
use Rattle.debug_commands.proofs.dialogue.read_line.Goals as goal

pub returns-then-room-eq0-clause-large : goal.returns-then-room-eq0-clause-large
returns-then-room-eq0-clause-large g c _ =
    let chunk : List ℕ = c.read_some.new.chunk in
    let one : length chunk ≡ 1 = omega arith in
    record {
      front = c.bytes.text.items;
      byte = get_or chunk 0 0;
      feeds = c.bytes.invariant.feeds;
      full = omega (arith, c.bytes.invariant.room, c.if-room-eq0.true);
      consumed = one_more _ _ _ c.bytes.text.items chunk c.in_ok-count.count one c.in_ok-count.ensures.within c.if-count-eq0.false
          c.bytes.invariant.read c.in_ok-count.ensures.bytes;
    }

pub bytes-preserved : goal.bytes-preserved
bytes-preserved g c =
    let chunk : List ℕ = c.read_some.new.chunk in
    let text : List ℕ = c.bytes.text.items in
    let now : List ℕ = c.extend_from_slice.new.self.items in
    let one : length chunk ≡ 1 = omega arith in
    let long : length now ≡ length text + length chunk = ap length c.in_ok-extend_from_slice.ensures.items ∙ length-append text chunk in
    record {
      read = line_more _ _ _ text chunk now c.in_ok-count.count one c.in_ok-count.ensures.within c.if-count-eq0.false
          c.in_ok-extend_from_slice.ensures.items c.bytes.invariant.read c.in_ok-count.ensures.bytes;
      feeds = feeds_more text chunk now one c.if-byte-eq10.false c.in_ok-extend_from_slice.ensures.items c.bytes.invariant.feeds;
      room = omega (arith, long, one, c.bytes.invariant.room, c.if-room-eq0.false);
      spent = further _ _ _ _ _ _ c.bytes.invariant.spent c.in_ok-count.ensures.spent;
    }

pub returns-then-byte-eq10-clause-read : goal.returns-then-byte-eq10-clause-read
returns-then-byte-eq10-clause-read g c = grind (arith, common_steps)
