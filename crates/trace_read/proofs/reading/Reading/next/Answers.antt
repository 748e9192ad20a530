use Rattle.std.proofs.Common.{◌≡◌, ◌∙◌, ◌≤◌, ◌+◌, Ok, Err, inl, inr, length, true, ap, sym, subst, refl, append_assoc, arith}
use Rattle.std.proofs.lemmas.Grind.{common_steps}
use Rattle.std.specs.Prelude.{IfSome}
use Rattle.std.specs.Io.KnownBytes.{IsAtEnd}
use Rattle.streams.proofs.Tallies.{unspent}
use Rattle.trace_read.proofs.Given.{all_counted}
use Rattle.trace_read.proofs.Nexts.{fails, filled, gave, gave_all, nothing_left, stopped, unfilled}
use Rattle.trace_read.proofs.Readings.{ahead_ended, ahead_taken, length_in, none_read, rest_behind}
use Rattle.trace_read.specs.Pending.{pending_count}
use Rattle.trace_read.specs.Reading.{rest_of}
use Rattle.trace_read.specs.ScanState.{fault_ahead}
use Rattle.trace_read.specs.TraceText.{IsOfLine}
use Rattle.trace_read.proofs.reading.Reading.next.Goals as goal

pub returns-then-count-gt0-clause-next : goal.returns-then-count-gt0-clause-next
returns-then-count-gt0-clause-next g c = λ limits format old before n has.
    let self = c.args.self.now in
    let r = has.reading in
    let give = c.in_ok-give.ensures in
    gave has self.scan c.give.new.self self.at self.is_at_end c.give.new.keys.items r.scan r.none refl
    (omega (arith, give.count)) r.place.0 r.lines (λ xs at. (refl, rw (give.given, append_assoc) refl)) r.ended

pub returns-in_err-fill-clause-next : goal.returns-in_err-fill-clause-next
returns-in_err-fill-clause-next g c = λ limits format old before n has.
    let fill = c.in_err-fill.ensures in
    unfilled has c.from_residual-in_err-fill.result c.in_err-fill.field-0.0 c.from_residual-in_err-fill.ensures.1
    (fill.read old before has.reading) (fill.tally old before has.reading)

pub returns-then-self-clause-next : goal.returns-then-self-clause-next
returns-then-self-clause-next g c = λ limits format old before n has.
    let fill = c.in_ok-fill.ensures in
    let m = filled has fill.same (fill.reading old before has.reading) in
    gave_all m c.clear.new.self.items c.clear.ensures.items c.if-self.true
    (omega (arith, ap pending_count fill.same.run, c.if-count-gt0.false, c.count.ensures))

pub returns-in_err-self-clause-next : goal.returns-in_err-self-clause-next
returns-in_err-self-clause-next g c = λ limits format old before n has.
    let mid = c.fill.new.self in
    let fill = c.in_ok-fill.ensures in
    let m = filled has fill.same (fill.reading old before has.reading) in
    let end = fill.end (ap Ok c.if-not-branch.true) in
    let handed = c.from_residual-in_err-self in
    stopped m handed.result c.in_err-self.field-0.0 handed.ensures.1 mid.pieces.budget (elim c.in_err-self.ensures.err [
      | inl memory ↦ inl memory
      | inr fault ↦ inr (
        fault.0,
        λ xs at. (
          omega (arith, ap length (subst IsAtEnd at end.0)),
          ap (fault_ahead mid.scan) (nothing_left mid end.0 end.1 at) ∙ fault.1,
        ),
        end.0,
      )
    ]) (none_read mid.pieces.room _) (unspent mid.pieces.budget _)

pub returns-then-not-branch-clause-next : goal.returns-then-not-branch-clause-next
returns-then-not-branch-clause-next g c = λ limits format old before n has.
    let mid = c.fill.new.self in
    let new = c.end.new.self in
    let run = c.in_ok-self.field-0 in
    let keys = c.end.new.keys.items in
    let fill = c.in_ok-fill.ensures in
    let is = c.in_ok-self.ensures in
    let m = filled has fill.same (fill.reading old before has.reading) in
    let zero : pending_count mid.run ≡ 0 =
    omega (arith, ap pending_count fill.same.run, c.if-count-gt0.false, c.count.ensures) in
    let end = fill.end (ap Ok c.if-not-branch.true) in
    let count = all_counted keys run mid.scan.handed_on new.handed_on is.ended.count in
    let lines = rw c.if-self.false at m.reading.lines in
    gave m new run mid.at true keys is.scan is.none is.ended.limit (omega (arith, count, zero)) m.reading.place.0
    (omega (arith, lines, is.ended.line))
    (λ xs at. ahead_ended mid.scan new mid.run run keys zero _ (nothing_left mid end.0 end.1 at)
    is.ended is.scan is.none)
    (λ yes. (end.0, end.1, is.ended.partial_line))

pub returns-then-not-branch-clause-further : goal.returns-then-not-branch-clause-further
returns-then-not-branch-clause-further g c = λ yes.
    let old = c.fill.new.self.scan in
    let new = c.end.new in
    let ended = c.in_ok-self.ensures.ended in
    let count = all_counted new.keys.items c.in_ok-self.field-0 old.handed_on new.self.handed_on ended.count in
    omega (arith, count, rw c.if-self.false at c.in_ok-fill.ensures.left)

pub slice_bounds-take-end : goal.slice_bounds-take-end
slice_bounds-take-end g c = grind (arith, common_steps)

pub returns-in-Ok-clause-next : goal.returns-in-Ok-clause-next
returns-in-Ok-clause-next g c = λ limits format old before n has.
    let mid = c.fill.new.self in
    let new = c.take.new.self in
    let run = c.in-Ok.taken.run in
    let place = c.in-Ok.taken.bytes in
    let keys = c.take.new.keys.items in
    let fill = c.in_ok-fill.ensures in
    let is = c.in-Ok.ensures in
    let m = filled has fill.same (fill.reading old before has.reading) in
    let zero : pending_count mid.run ≡ 0 =
    omega (arith, ap pending_count fill.same.run, c.if-count-gt0.false, c.count.ensures) in
    let some = fill.some (ap Ok c.if-not-branch.false) in
    let taken = rw c.as_slice-chunk.ensures at is.taken in
    let len = length_in mid.at mid.end mid.chunk m.reading.place.1 in
    let count = all_counted keys run mid.scan.handed_on new.handed_on taken.count in
    let order : mid.at + place ≤ mid.end = omega (arith, taken.within, len, m.reading.place.0) in
    gave m new run (mid.at + place) mid.is_at_end keys is.scan is.none taken.limit (omega (arith, count, zero)) order
    (omega (arith, m.reading.lines, taken.lines, order))
    (λ xs at. rw (rest_behind mid.at mid.end place mid.chunk order)
    (ahead_taken mid.scan new mid.run run keys zero (rest_of mid) place taken xs))
    (λ yes. absurd (omega (arith, (m.reading.ended yes).1, some)))

pub returns-in-Ok-clause-further : goal.returns-in-Ok-clause-further
returns-in-Ok-clause-further g c = λ yes.
    let mid = c.fill.new.self in
    let fill = c.in_ok-fill.ensures in
    let is = c.in-Ok.ensures in
    let some = fill.some (ap Ok c.if-not-branch.false) in
    let new = c.take.new in
    let count = all_counted new.keys.items c.in-Ok.taken.run mid.scan.handed_on new.self.handed_on is.taken.count in
    let chunk = c.as_slice-chunk in
    let len = length_in mid.at mid.end chunk.result.now (omega (arith, ap length chunk.ensures, fill.within)) in
    omega (arith, count, fill.left, some, is.some (omega (arith, len, some)))

pub returns-in-Err-OutOfMemory-clause-next : goal.returns-in-Err-OutOfMemory-clause-next
returns-in-Err-OutOfMemory-clause-next g c = λ limits format old before n has.
    let budget = c.fill.new.self.pieces.budget in
    let m = filled has c.in_ok-fill.ensures.same (c.in_ok-fill.ensures.reading old before has.reading) in
    stopped m _ _ refl budget (inl refl) (none_read _ _) (unspent budget _)

pub returns-in_err-pass_rest-in-Err-clause-next : goal.returns-in_err-pass_rest-in-Err-clause-next
returns-in_err-pass_rest-in-Err-clause-next g c = λ limits format old before n has.
    let e = c.in_err-pass_rest-in-Err.field-0.0 in
    let rest = c.in_err-pass_rest-in-Err.ensures in
    let m = filled has c.in_ok-fill.ensures.same (c.in_ok-fill.ensures.reading old before has.reading) in
    let handed = c.from_residual-in_err-pass_rest-in-Err in
    fails m handed.result e handed.ensures.1 c.pass_rest.new.self.budget (λ is. absurd (elim rest.err [
      | inl q ↦ subst IsOfLine q is
      | inr q ↦ subst IsOfLine q is
    ])) (λ q. rest.large (ap Err q)) (λ q. rest.passed (λ p. q (cc p))) (λ q. rest.spent (λ p. q (cc p)))
    (λ q. rest.exhausted (ap Err q))

pub returns-in_ok-pass_rest-in-Err-clause-next : goal.returns-in_ok-pass_rest-in-Err-clause-next
returns-in_ok-pass_rest-in-Err-clause-next g c = λ limits format old before n has.
    let rest = c.in_ok-pass_rest-in-Err.ensures in
    let mid = c.fill.new.self in
    let m = filled has c.in_ok-fill.ensures.same (c.in_ok-fill.ensures.reading old before has.reading) in
    stopped m _ c.in-Err.fault refl c.pass_rest.new.self.budget (elim c.in-Err.ensures.err [
      | inl memory ↦ inl memory
      | inr line ↦ inr (
        line.0,
        λ xs at. (
          subst (λ o. IfSome o (λ l. length l ≤ mid.pieces.room)) at rest.few,
          rw (sym c.as_slice-chunk.ensures) (line.1 xs),
        ),
        rest.end,
      )
    ]) (rest.passed (λ q. absurd (cc q))) (rest.spent (λ q. absurd (cc q)))
