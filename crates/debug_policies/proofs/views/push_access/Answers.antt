use Rattle.std.proofs.Common.{◌≡◌, ◌∙◌, ◌++◌, ◌-◌, [], ap, append_assoc, List, ℕ}
use Rattle.std.specs.Prelude.{codes, slice_index}
use Rattle.streams.specs.Texts.{count_text}
use Rattle.streams.proofs.Results.{at_success}
use Rattle.debug_policies.specs.TwoPolicies.{access_line}
use Rattle.debug_policies.proofs.views.push_access.Goals as goal

pub returns : goal.returns
returns c =
    let text : List ℕ = c.args.text.now.items in
    let n : ℕ = c.position-made.result in
    let keys : List ℕ = c.keys.result.now in
    let made : List ℕ = count_text (codes "access ") n in
    let block : List ℕ = count_text (codes " block ") (slice_index keys (n - 1)) in
    let same : made ++ (block ++ codes "\n") ≡ access_line c.args.first.now.trace c.args.first.now.at =
    ap (λ k. access_line k n) (c.keys.ensures.keys ∙ c.trace.ensures) ∙ ap (access_line c.args.first.now.trace) c.position-made.ensures.at in
    at_success c.push_counts_line.result _ _
    (λ k. k ∙ ap (λ t. text ++ t) (append_assoc made (block ++ []) (codes "\n") ∙ ap (λ t. made ++ t) (append_assoc block [] (codes "\n")) ∙ same))
    c.push_counts_line.ensures
