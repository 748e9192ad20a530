use Rattle.std.proofs.Common.{◌≡◌, ◌∙◌, ◌+◌, ◌-◌, ◌++◌, ap, sym, arith}
use Rattle.trace_read.proofs.Given.{run_split}
use Rattle.trace_read.specs.Lines.{run_from}
use Rattle.trace_read.proofs.pending.Pending.give.Goals as goal

pub returns-clause-given : goal.returns-clause-given
returns-clause-given c =
    let p = c.args.self.now in
    let n = c.min-count.result in
    let first = p.run.start + p.done in
    let rest = p.run.count - (p.done + n) in
    let sum : p.run.count - p.done ≡ n + rest = omega (arith, c.min-count.ensures, p.within) in
    let place : first + n ≡ p.run.start + (p.done + n) = omega arith in
    ap (run_from first) sum ∙ run_split first n rest ∙ ap (λ s. run_from first n ++ run_from s rest) place
    ∙ ap (λ l. l ++ run_from (p.run.start + (p.done + n)) rest) (sym (c.push_reserved_run.ensures.items ∙ ap (λ l. l ++ run_from first n) (c.in_ok-reserve.ensures.items ∙ c.requires.none)))
