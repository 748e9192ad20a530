use Rattle.std.proofs.Common.{◌∙◌, ◌≤◌, ◌+◌, ◌-◌, ◌++◌, ap, arith, length, subst}
use Rattle.trace_read.proofs.Given.{run_given}
use Rattle.trace_read.specs.Pending.{pending_keys}
use Rattle.trace_read.specs.UsualLine.{IsLongRun}
use Rattle.trace_read.proofs.scan.Scan.end_line.Goals as goal

pub returns-in-Some-clause-given : goal.returns-in-Some-clause-given
returns-in-Some-clause-given c =
    let old = c.args.self.now in
    let run = c.in-Some.run' in
    let room = old.max_accesses - old.handed_on - c.len.result in
    let same = c.hand_over.ensures.same in
    let is : IsLongRun old.format old.partial_line.items room run = subst (λ t. IsLongRun old.format t room run) c.as_slice-text.ensures.value c.in-Some.ensures in
    let few : old.handed_on + length old.keys.items + run.count ≤ old.max_accesses = omega (arith, is.few, c.requires.few, c.len.ensures, old.keys.ok.0) in
    run_given old _ old.partial_line.items _ room run is few
    (ap (λ k. k ++ pending_keys c.new.result) c.hand_over.ensures.keys ∙ ap (λ l. old.keys.items ++ l) c.new.ensures.keys)
    c.hand_over.ensures.none (ap (λ n. n + run.count) c.hand_over.ensures.given) (ap (λ n. n + 1) same.line) c.clear.ensures.items same.format same.limit

pub returns-in-Some-clause-none : goal.returns-in-Some-clause-none
returns-in-Some-clause-none c = λ none. absurd (omega (arith, none, c.new.ensures.count, c.in-Some.ensures.some))
