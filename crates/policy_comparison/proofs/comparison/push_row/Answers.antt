use Rattle.std.proofs.Common.{◌∙◌, ◌++◌, ap, append_assoc, sym, List, ℕ}
use Rattle.std.specs.Prelude.{codes}
use Rattle.std.specs.List.{flat_map}
use Rattle.step_record.specs.Job.{name_of}
use Rattle.streams.specs.Texts.{count_text}
use Rattle.streams.proofs.Results.{at_success}
use Rattle.policy_comparison.proofs.Texts.{three}
use Rattle.policy_comparison.proofs.comparison.push_row.Goals as goal

pub returns : goal.returns
returns c =
    let text : List ℕ = c.args.text.now.items in
    let name : List ℕ = name_of c.args.first.now.policy c.args.first.now.sizes in
    let other : List ℕ = name_of c.args.second.now.policy c.args.second.now.sizes in
    let front : List ℕ = text ++ (name ++ (codes "," ++ other)) in
    let capacity : List ℕ = count_text (codes ",") c.args.first.now.config.capacity in
    let numbers : List ℕ = flat_map (count_text (codes ",")) c.args.numbers.now in
    at_success c.push_numbers_line.result _ _
    (λ k. k ∙ ap (λ t. t ++ (numbers ++ codes "\n"))
    (c.in_ok-push_count.ensures ∙ ap (λ n. c.push_name-2.new.text.items ++ count_text (codes ",") n) c.from.ensures
    ∙ ap (λ t. t ++ capacity) (c.in_ok-push_name-2.ensures
    ∙ ap (λ t. t ++ other) (c.in_ok-extend_from_slice.ensures.items ∙ ap (λ t. t ++ codes ",") c.in_ok-push_name.ensures)
    ∙ append_assoc (text ++ name) (codes ",") other ∙ append_assoc text name (codes "," ++ other)))
    ∙ append_assoc front capacity (numbers ++ codes "\n")
    ∙ ap (λ r. front ++ r) (sym (append_assoc capacity numbers (codes "\n")))
    ∙ three text name (codes ",") other ((capacity ++ numbers) ++ codes "\n"))
    c.push_numbers_line.ensures
