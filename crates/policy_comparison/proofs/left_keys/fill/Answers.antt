use Rattle.std.proofs.Common.{◌∙◌, ◌∷◌, [], ℕ, List, ap, arith, get_or, length, length-append, ◌≡◌, ◌+◌}
use Rattle.policy_comparison.proofs.LeftKeys.{zero-behind}
use Rattle.policy_comparison.proofs.left_keys.fill.Goals as goal

pub loop-place-preserved : goal.loop-place-preserved
loop-place-preserved c =
    let before : List ℕ = c.loop-place.numbers.items in
    let one : List ℕ = 0 ∷ [] in
    let long : length c.push.new.self.items ≡ length before + length one = ap length c.in_ok-push.ensures.items ∙ length-append before one in
    let size : length one ≡ 1 = omega arith in (
      omega (arith, long, size, c.loop-place.invariant.0),
      λ r. ap (λ (l : List ℕ). get_or l r 0) c.in_ok-push.ensures.items ∙ zero-behind before r ∙ c.loop-place.invariant.1 r,
    )
