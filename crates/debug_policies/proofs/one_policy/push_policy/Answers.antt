use Rattle.std.proofs.Common.{◌≡◌, ◌∙◌, ◌++◌, [], ap, append_assoc, List, ℕ}
use Rattle.std.specs.Prelude.{codes}
use Rattle.step_record.specs.Job.{name_of}
use Rattle.streams.proofs.Results.{at_success}
use Rattle.debug_policies.proofs.one_policy.push_policy.Goals as goal

pub returns : goal.returns
returns c =
    let text : List ℕ = c.args.text.now.items in
    let label : List ℕ = c.args.label.now in
    let name : List ℕ = name_of c.args.job.now.policy c.args.job.now.sizes in
    let front : c.push_pieces.new.text.items ≡ text ++ (label ++ codes " ") =
    c.in_ok-push_pieces.ensures ∙ ap (λ l. text ++ (l ++ (codes " " ++ []))) c.as_bytes.ensures.value in
    at_success c.push_name.result _ _
    (λ k. k ∙ ap (λ t. t ++ name) front ∙ append_assoc text (label ++ codes " ") name
    ∙ ap (λ t. text ++ t) (append_assoc label (codes " ") name))
    c.push_name.ensures
