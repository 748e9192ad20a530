use Rattle.std.proofs.Common.{◌≡◌, ◌∙◌, ◌+◌, ◌++◌, Ok, ap, arith, length, length-append, refl, rules, subst, List, ℕ}
use Rattle.sweeps.specs.Taking.{AreNext, Task}
use Rattle.trace_read.proofs.Nexts.{ended, failed, gave_up, kept_on}
use Rattle.long_traces.specs.Feed.{HasBegun, IsFed}
use Rattle.long_traces.proofs.Fed.{AreWaiting, at_end, begun, more, none_wait, ready, taken_some, taken_to_end}
use Rattle.long_traces.proofs.feed.read_taken.Goals.{After-drop-reading-2, After-len}
use Rattle.long_traces.proofs.feed.read_taken.Goals as goal

pub pieces-init : goal.pieces-init
pieces-init g c =
    let has = c.new-reading.ensures.new (g.R.CountedRead.remaining c.args.reader.now) (g.R.CountedRead.tally c.args.reader.now) in
    record {
      place = 0;
      reading = record { same_limits = has.same_limits; same_format = has.same_format; count = omega (arith, has.count, ap length c.new-waiting.ensures.items); reading = has.reading };
      fed = λ task start. begun _ c.args.format _ c.args.taker.now start;
      wait = none_wait c.args.format _ 0 _ c.new-waiting.ensures.items;
    }

pub returns-in_err-next : goal.returns-in_err-next
returns-in_err-next g c =
    let handed = c.from_residual in
    let whole = failed c.pieces.invariant.reading c.in_err-next.ensures.next handed.result handed.ensures.1 in
    record { some = search rules; taken = search rules; read = whole.read; tally = whole.tally }

pub returns-in_err-extend_from_slice : goal.returns-in_err-extend_from_slice
returns-in_err-extend_from_slice g c =
    let next = c.in_ok-next.ensures.next _ _ _ _ _ c.pieces.invariant.reading in
    let handed = c.from_residual-in_err-extend_from_slice in
    let whole = gave_up next.goes_on handed.result handed.ensures.1 in
    record { some = search rules; taken = search rules; read = whole.read; tally = whole.tally }

-- what waits, with what came
joined : (g : _) (c : After-len g) → c.extend_from_slice.new.self.items ≡ c.pieces.waiting.items ++ c.next.new.keys.items
joined g c = c.in_ok-extend_from_slice.ensures.items ∙ ap (λ l. c.pieces.waiting.items ++ l) c.as_slice.ensures.value

longer : (g : _) (c : After-len g) → length c.extend_from_slice.new.self.items ≡ length c.pieces.waiting.items + length c.next.new.keys.items
longer g c = ap length (joined g c) ∙ length-append c.pieces.waiting.items c.next.new.keys.items

all_wait : (g : _) (c : After-len g) → AreWaiting c.args.format (g.R.CountedRead.remaining c.args.reader.now) c.pieces.invariant.place c.extend_from_slice.new.self.items
all_wait g c =
    let i = c.pieces.invariant in
    let next = c.in_ok-next.ensures.next _ _ _ _ _ i.reading in
    kept_on _ c.args.format i.place _ c.pieces.waiting.items c.next.new.keys.items _ refl (joined g c) i.wait next.gives.next

pub take-requires-clause-next : goal.take-requires-clause-next
take-requires-clause-next g c =
    let here = (goal.at.take-requires-clause-next g c).After-len in
    let i = c.pieces.invariant in
    let next = c.in_ok-next.ensures.next _ _ _ _ _ i.reading in
    let some = c.requires.begun in
    record {
      task = some.0;
      can = ready (g.K.Taker.has_taken some.0) c.args.format (g.R.CountedRead.remaining c.args.reader.now) i.place c.as_slice-then-len-ge-AT_A_TIME.result.now c.pieces.taker (i.fed some.0 some.1)
          (omega (arith, next.few, longer g here, ap length c.as_slice-then-len-ge-AT_A_TIME.ensures.value, c.requires.accesses));
    }

pub returns-in_err-take : goal.returns-in_err-take
returns-in_err-take g c =
    let next = c.in_ok-next.ensures.next _ _ _ _ _ c.pieces.invariant.reading in
    let handed = c.from_residual-in_err-take in
    let whole = gave_up next.goes_on handed.result handed.ensures.1 in
    record { some = search rules; taken = search rules; read = whole.read; tally = whole.tally }

pub pieces-preserved-then-len-ge-AT_A_TIME : goal.pieces-preserved-then-len-ge-AT_A_TIME
pieces-preserved-then-len-ge-AT_A_TIME g c =
    let here = (goal.at.pieces-preserved-then-len-ge-AT_A_TIME g c).After-len in
    let i = c.pieces.invariant in
    let first = g.R.CountedRead.remaining c.args.reader.now in
    let next = c.in_ok-next.ensures.next _ _ _ _ _ i.reading in
    let on = next.goes_on in
    let both = c.extend_from_slice.new.self.items in
    record {
      place = i.place + length both;
      reading = record { same_limits = on.same_limits; same_format = on.same_format; count = omega (arith, on.count, longer g here, ap length c.clear.ensures.items); reading = on.reading };
      fed = λ task start. more (g.K.Taker.has_taken task) c.args.format first i.place both c.pieces.taker c.take.new.self (i.fed task start) (all_wait g here)
          (subst (λ (l : List ℕ). (trace : List ℕ) (n : ℕ) → AreNext trace n l → g.K.Taker.has_taken task trace n c.pieces.taker → g.K.Taker.has_taken task trace (n + length l) c.take.new.self)
          c.as_slice-then-len-ge-AT_A_TIME.ensures.value (c.in_ok-take.ensures task));
      wait = none_wait c.args.format first _ _ c.clear.ensures.items;
    }

pub pieces-preserved : goal.pieces-preserved
pieces-preserved g c =
    let here = (goal.at.pieces-preserved g c).After-len in
    let i = c.pieces.invariant in
    let on = (c.in_ok-next.ensures.next _ _ _ _ _ i.reading).goes_on in
    record {
      place = i.place;
      reading = record { same_limits = on.same_limits; same_format = on.same_format; count = omega (arith, on.count, longer g here); reading = on.reading };
      fed = i.fed;
      wait = all_wait g here;
    }

pub take-requires-2-clause-next : goal.take-requires-2-clause-next
take-requires-2-clause-next g c =
    let i = c.pieces.invariant in
    let next = c.in_ok-next.ensures.next _ _ _ _ _ i.reading in
    let some = c.requires.begun in
    record {
      task = some.0;
      can = ready (g.K.Taker.has_taken some.0) c.args.format (g.R.CountedRead.remaining c.args.reader.now) i.place c.as_slice-2.result.now c.pieces.taker (i.fed some.0 some.1)
          (omega (arith, next.few, ap length c.as_slice-2.ensures.value, c.requires.accesses));
    }

pub returns-in_err-take-2 : goal.returns-in_err-take-2
returns-in_err-take-2 g c =
    let next = c.in_ok-next.ensures.next _ _ _ _ _ c.pieces.invariant.reading in
    let handed = c.from_residual-in_err-take-2 in
    let whole = gave_up next.goes_on handed.result handed.ensures.1 in
    record { some = search rules; taken = search rules; read = whole.read; tally = whole.tally }

-- all that came is taken
fed_all : (g : _) (c : After-drop-reading-2 g) (task : Task) → HasBegun (g.K.Taker.has_taken task) c.args.taker.now
    → IsFed (g.K.Taker.has_taken task) c.args.format (g.R.CountedRead.remaining c.args.reader.now) (c.pieces.invariant.place + length c.pieces.waiting.items) c.take-2.new.self
fed_all g c task start =
    let i = c.pieces.invariant in
    more (g.K.Taker.has_taken task) c.args.format (g.R.CountedRead.remaining c.args.reader.now) i.place c.pieces.waiting.items c.pieces.taker c.take-2.new.self (i.fed task start) i.wait
    (subst (λ (l : List ℕ). (trace : List ℕ) (n : ℕ) → AreNext trace n l → g.K.Taker.has_taken task trace n c.pieces.taker → g.K.Taker.has_taken task trace (n + length l) c.take-2.new.self)
    c.as_slice-2.ensures.value (c.in_ok-take-2.ensures task))

pub returns : goal.returns
returns g c =
    let i = c.pieces.invariant in
    let first = g.R.CountedRead.remaining c.args.reader.now in
    let next = c.in_ok-next.ensures.next _ _ _ _ _ i.reading in
    let n = i.place + length c.pieces.waiting.items in
    let whole = ended tt _ c.if-branch.false next in
    record {
      some = λ task start. taken_some (g.K.Taker.has_taken task) c.args.format _ _ c.take-2.new.self (fed_all g c task start);
      taken = taken_to_end g.K.Taker.has_taken c.args.format first n c.args.taker.now c.take-2.new.self
          (at_end c.args.format first n n c.next.new.keys.items _ c.if-branch.false (next.none (ap Ok c.if-branch.false)) refl next.gives) (fed_all g c);
      read = whole.read;
      tally = whole.tally;
    }
