use Rattle.std.proofs.Common.{◌≡◌, ◌∙◌, ◌++◌, ap, append-nil, sym, subst, Option, Some, List, ℕ}
use Rattle.std.specs.Prelude.{codes, OnOk}
use Rattle.streams.specs.Texts.{count_text}
use Rattle.streams.proofs.Results.{at_success}
use Rattle.debug_policies.specs.Inside.{number_text}
use Rattle.policy_comparison.proofs.Texts.{piece}
use Rattle.debug_policies.proofs.inside.push_key.Goals as goal

pub returns-in-Some : goal.returns-in-Some
returns-in-Some c =
    let text : List ℕ = c.args.text.now.items in
    let mid : List ℕ = c.push_count.new.text.items in
    let last : List ℕ = c.push_count-in-Some.new.text.items in
    let key : List ℕ = count_text (codes " ") c.args.key.key in
    let number : List ℕ = number_text (Some c.in-Some.number) in
    subst (λ (n : Option ℕ). OnOk c.push_count-in-Some.result (last ≡ text ++ (key ++ number_text n))) (sym c.in-Some.is)
    (at_success c.push_count-in-Some.result (last ≡ mid ++ number) (last ≡ text ++ (key ++ number))
    (λ k. piece text mid last key number c.in_ok-push_count.ensures k) c.push_count-in-Some.ensures)

pub returns-in-None : goal.returns-in-None
returns-in-None c =
    let text : List ℕ = c.args.text.now.items in
    let key : List ℕ = count_text (codes " ") c.args.key.key in
    c.in_ok-push_count.ensures ∙ ap (λ t. text ++ t) (sym (append-nil key) ∙ ap (λ n. key ++ number_text n) (sym c.in-None.is))
