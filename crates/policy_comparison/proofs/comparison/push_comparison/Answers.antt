use Rattle.std.proofs.Common.{List, ℕ, [], ◌∷◌}
use Rattle.policy_comparison.specs.Comparison.{Comparison, comparison_header, pair_row}
use Rattle.streams.proofs.Results.{at_success}
use Rattle.policy_comparison.proofs.Texts.{piece}
use Rattle.policy_comparison.proofs.comparison.push_comparison.Goals as goal

pub returns : goal.returns
returns c =
    let n : Comparison = c.args.counts.now in
    let row : List ℕ = pair_row c.args.first.now c.args.second.now (n.accesses ∷ n.both ∷ n.first_only ∷ n.second_only ∷ n.neither ∷ []) in
    at_success c.push_row.result _ _
    (λ k. piece c.args.text.now.items c.extend_from_slice.new.self.items c.push_row.new.text.items comparison_header row c.in_ok-extend_from_slice.ensures.items k)
    c.push_row.ensures
