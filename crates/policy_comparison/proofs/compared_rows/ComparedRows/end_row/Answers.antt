use Rattle.std.proofs.Common.{◌≡◌, ◌∙◌, ◌+◌, ◌*◌, ◌∷◌, [], ℕ, List, length, ap, sym, refl, arith, length-append}
use Rattle.policy_comparison.specs.Comparison.{Comparison}
use Rattle.policy_comparison.specs.ComparedIntervals.{ComparedInterval, first_compared}
use Rattle.policy_comparison.specs.ComparedRows.{rows_in}
use Rattle.policy_comparison.proofs.CutHits.{rows-more}
use Rattle.policy_comparison.proofs.compared_rows.ComparedRows.end_row.Goals as goal

pub returns : goal.returns
returns c = λ every hits n ends.
    let old = c.args.self.now in
    let rows = c.push.new.self.items in
    let row = c.row-row.result in
    let long : length rows ≡ rows_in old + 1 = ap (λ (l : List ComparedInterval). length l) c.in_ok-push.ensures.items ∙ length-append old.rows.items (row ∷ []) in
    let one : (rows_in old + 1) * every ≡ rows_in old * every + every = omega arith in
    let past : length rows * every ≡ rows_in old * every + every = ap (λ (m : ℕ). m * every) long ∙ one in
    let none : c.none-self.result.accesses ≡ 0 = ap (λ (x : Comparison). x.accesses) c.none-self.ensures in
    record {
      cut = record {
        size = ends.cut.size;
        some = ends.cut.some;
        within = ends.cut.within;
        counts = ends.cut.counts;
        interval = rw c.none-self.ensures refl;
        rows = rows-more every hits old.rows.items rows row ends.cut.rows c.in_ok-push.ensures.items (c.row-row.ensures every hits n ends)
            ∙ ap (first_compared every hits) (sym long);
        place = omega (arith, past, none, ends.cut.place, ends.cut.size, c.requires.whole);
      };
      few = omega (arith, none, ends.cut.size, ends.cut.some);
    }
