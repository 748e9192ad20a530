use Rattle.std.proofs.Common.{◌≡◌, ◌∙◌, ◌+◌, ◌-◌, ◌*◌, drop, length, take, ap, refl, arith}
use Rattle.policy_comparison.specs.Comparison.{Comparison, counts_of}
use Rattle.policy_comparison.specs.ComparedRows.{rows_in}
use Rattle.policy_comparison.proofs.CutHits.{all-are}
use Rattle.policy_comparison.proofs.compared_rows.ComparedRows.row.Goals as goal

pub returns : goal.returns
returns c = λ every hits n ends.
    let run = c.args.self.now in
    let before = rows_in run * every in
    let piece = take every (drop before hits) in
    let all = all-are every hits n run ends.cut in
    let counts : run.interval ≡ counts_of piece = ends.cut.interval ∙ ap counts_of ends.end in
    let begin : run.counts.accesses - run.interval.accesses + 1 ≡ before + 1 = omega (arith, all) in
    let last : run.counts.accesses ≡ before + length piece = all ∙ ap (λ (x : Comparison). before + x.accesses) counts in
    rw (begin, last, counts) refl
