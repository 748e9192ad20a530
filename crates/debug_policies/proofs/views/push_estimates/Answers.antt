use Rattle.std.proofs.Common.{List, ℕ}
use Rattle.std.specs.Prelude.{codes}
use Rattle.debug_policies.specs.Inside.{estimate_line}
use Rattle.debug_policies.specs.OnePolicy.{Job}
use Rattle.debug_policies.proofs.Facts.{both_added}
use Rattle.debug_policies.proofs.views.push_estimates.Goals as goal

pub returns : goal.returns
returns c =
    let of_key : List ℕ → Job → List ℕ → ℕ → List ℕ = λ label j trace n. estimate_line label j trace n c.args.key in
    both_added c.show_estimate-2.result (of_key (codes "a")) (of_key (codes "b")) c.args.first.now c.args.second.now c.args.text.now.items
    c.show_estimate.new.text.items c.show_estimate-2.new.text.items c.requires c.in_ok-show_estimate.ensures c.show_estimate-2.ensures
