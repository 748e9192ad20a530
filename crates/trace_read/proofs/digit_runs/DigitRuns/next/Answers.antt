use Rattle.std.proofs.Common.{◌≡◌, ◌≤◌, ◌<◌, ◌+◌, ap, arith, false, get_or, length, subst}
use Rattle.trace_read.proofs.OtherBits.{end_inside, marks_first, marks_on, next_digits, none_left}
use Rattle.trace_read.specs.DigitRuns.{is_other, MarksOthers}
use Rattle.trace_read.proofs.digit_runs.DigitRuns.next.Goals as goal

pub words-preserved : goal.words-preserved
words-preserved c =
    let s = c.words.self in
    let i = c.words.invariant.0 in
    let bytes = s.bytes.now in
    let long : s.to + 64 ≤ length bytes = omega (arith, i.within) in
    let empty : s.others ≡ 0 = omega (arith, c.words-test.true) in (
      record {
        order = (omega (arith, i.order), omega arith, omega arith);
        within = long;
        behind = λ some. omega (arith, i.within);
        digits = none_left bytes s.start s.from s.to i.order.1 i.within i.digits (subst (λ m. MarksOthers bytes s.from s.to m) empty i.marks);
        marks = marks_first bytes s.to _ long c.others_in-self.ensures;
      },
      c.words.invariant.1,
      c.words.invariant.2,
    )

pub returns-clause-runs : goal.returns-clause-runs
returns-clause-runs c =
    let s = c.words.self in
    let i = c.words.invariant.0 in
    let bytes = s.bytes.now in
    let some : 0 < s.others = omega (arith, c.words-test.false) in
    let near = end_inside bytes s.start s.from s.to s.others i.order.0 i.order.1 i.order.2 i.within i.digits i.marks some in
    record {
      order = (omega arith, omega (arith, near), omega (arith, i.order.2));
      within = i.within;
      behind = λ more. i.behind some;
      digits = λ k low high. absurd (omega arith);
      marks = marks_on bytes s.start s.from s.to s.others i.order.0 i.order.1 i.order.2 i.within i.digits i.marks some;
    }

pub returns-clause-within : goal.returns-clause-within
returns-clause-within c =
    let s = c.words.self in
    let i = c.words.invariant.0 in
    let bytes = s.bytes.now in
    let some : 0 < s.others = omega (arith, c.words-test.false) in
    let near = end_inside bytes s.start s.from s.to s.others i.order.0 i.order.1 i.order.2 i.within i.digits i.marks some in
    let size : length bytes ≡ length c.args.self.now.bytes.now = ap length c.words.invariant.2 in
    (omega (arith, i.order.0), omega (arith, near, i.behind some, size))

pub returns-clause-digits : goal.returns-clause-digits
returns-clause-digits c =
    let s = c.words.self in
    let i = c.words.invariant.0 in
    let some : 0 < s.others = omega (arith, c.words-test.false) in
    let digits = next_digits s.bytes.now s.start s.from s.to s.others i.order.0 i.order.1 i.order.2 i.within i.digits i.marks some in
    (λ k low high. subst (λ b. is_other (get_or b k 0) ≡ false) c.words.invariant.2 (digits k (omega (arith, low, c.words.invariant.1)) high))
