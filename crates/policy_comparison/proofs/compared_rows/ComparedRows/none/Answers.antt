use Rattle.std.proofs.Common.{◌≡◌, ◌∙◌, ◌*◌, ℕ, List, length, ap, sym, refl, arith}
use Rattle.policy_comparison.specs.Comparison.{Comparison}
use Rattle.policy_comparison.specs.ComparedIntervals.{ComparedInterval, first_compared}
use Rattle.policy_comparison.proofs.compared_rows.ComparedRows.none.Goals as goal

pub returns : goal.returns
returns c = λ hits.
    let none = c.new-rows.ensures.items in
    let rows : length c.new-rows.result.items ≡ 0 = ap (λ (l : List ComparedInterval). length l) none in
    let zero : 0 * c.args.every ≡ 0 = omega arith in
    let start : length c.new-rows.result.items * c.args.every ≡ 0 = ap (λ (n : ℕ). n * c.args.every) rows ∙ zero in
    let accesses : c.none-counts.result.accesses ≡ 0 = ap (λ (x : Comparison). x.accesses) c.none-counts.ensures in
    record {
      cut = record {
        size = refl;
        some = c.requires;
        within = omega arith;
        counts = c.none-counts.ensures;
        interval = rw c.none-counts.ensures refl;
        rows = none ∙ ap (first_compared c.args.every hits) (sym rows);
        place = omega (arith, start, accesses);
      };
      few = omega (arith, accesses, c.requires);
    }
