use Rattle.std.proofs.Common.{◌∙◌, ◌≤◌, ◌++◌, ℕ, List, length, ap, arith, append_assoc}
use Rattle.std.specs.List.{flat_map}
use Rattle.std.proofs.lemmas.List.{take_all}
use Rattle.policy_comparison.specs.ComparedIntervals.{ComparedInterval, compared_header, compared_row}
use Rattle.policy_comparison.proofs.compared_intervals.push_compared_intervals.Goals as goal

pub returns : goal.returns
returns c =
    let rows : List ComparedInterval = c.args.rows.now in
    let row : ComparedInterval → List ℕ = compared_row c.args.first.now c.args.second.now in
    let text : List ℕ = c.args.text.now.items in
    let mid : List ℕ = c.extend_from_slice.new.self.items in
    let all : length rows ≤ c.loop-row.row-index = omega (arith, c.loop-row-test.false) in
    c.loop-row.invariant
    ∙ ap (λ (l : List ComparedInterval). mid ++ flat_map row l) (take_all c.loop-row.row-index rows all)
    ∙ ap (λ (t : List ℕ). t ++ flat_map row rows) c.in_ok-extend_from_slice.ensures.items
    ∙ append_assoc text compared_header (flat_map row rows)
