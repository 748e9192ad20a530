use Rattle.std.proofs.Common.{arith, ◌≡◌, ℕ, suc, ◌+◌, List, ◌++◌, ap, sym, ◌∙◌}
use Rattle.std.proofs.lemmas.List.{append_assoc}
use Rattle.shell_model.specs.Buffers.{Item, stripe_at}
use Rattle.debug_commands.specs.ShownState.{stripe_line, stripe_lines}
use Rattle.debug_commands.proofs.shell_text.push_stripes.Goals as goal

one_more : (stripes : List (List Item)) (n : ℕ) → stripe_lines stripes (n + 1) ≡ stripe_lines stripes n ++ stripe_line n (stripe_at n stripes)
one_more stripes n = let e : n + 1 ≡ suc n = omega arith in ap (stripe_lines stripes) e

pub loop-stripe-preserved : goal.loop-stripe-preserved
loop-stripe-preserved c =
    let before = c.args.text.now.items in
    let lines = stripe_lines c.args.shell.now.stripes c.loop-stripe.stripe in
    c.in_ok-push_stripe.ensures
    ∙ ap (λ t. t ++ stripe_line c.loop-stripe.stripe c.stripe.result.now) c.loop-stripe.invariant
    ∙ append_assoc before lines _
    ∙ ap (λ items. before ++ (lines ++ stripe_line c.loop-stripe.stripe items)) c.stripe.ensures
    ∙ ap (λ l. before ++ l) (sym (one_more c.args.shell.now.stripes c.loop-stripe.stripe))
