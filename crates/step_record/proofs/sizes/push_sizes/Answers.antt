use Rattle.std.proofs.Common.{◌≡◌, ◌∙◌, ◌++◌, OnOk, ap, subst, ℕ, List, Option}
use Rattle.std.specs.Prelude.{codes}
use Rattle.step_record.specs.Sizes.{Sizes, size_text}
use Rattle.step_record.proofs.Pieces.{five}
use Rattle.step_record.proofs.sizes.push_sizes.Goals as goal

pub returns : goal.returns
returns c =
    let sizes : Sizes = c.args.sizes.now in
    let text : List ℕ = c.args.text.now.items in
    let one : List ℕ = c.push_size.new.text.items in
    let three : List ℕ = c.push_size-3.new.text.items in
    let two : List ℕ = c.push_size-2.new.text.items in
    let four : List ℕ = c.push_size-4.new.text.items in
    let last : List ℕ = c.push_size-5.new.text.items in
    let small : OnOk c.push_size-5.result (last ≡ four ++ size_text (codes ":small=") sizes.small) =
    subst (λ (o : Option ℕ). OnOk c.push_size-5.result (last ≡ four ++ size_text (codes ":small=") o)) c.widened-4.ensures c.push_size-5.ensures in
    subst (λ (t : List ℕ). OnOk c.push_size-5.result (last ≡ t))
    (five text one two three four _ _ _ _ (size_text (codes ":small=") sizes.small)
    (c.in_ok-push_size.ensures ∙ ap (λ o. text ++ size_text (codes ":main=") o) c.widened.ensures)
    c.in_ok-push_size-2.ensures
    (c.in_ok-push_size-3.ensures ∙ ap (λ o. two ++ size_text (codes ":in=") o) c.widened-2.ensures)
    (c.in_ok-push_size-4.ensures ∙ ap (λ o. three ++ size_text (codes ":out=") o) c.widened-3.ensures))
    small
