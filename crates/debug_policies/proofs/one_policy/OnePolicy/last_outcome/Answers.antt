use Rattle.std.proofs.Common.{◌≡◌, ◌∙◌, ◌-◌, ◌<◌, ◌≤◌, ◌⊎◌, inl, inr, ap, sym, subst, List, ℕ, suc, length, arith}
use Rattle.debug_policies.specs.OnePolicy.{Job, OnePolicyState, outcome_at}
use Rattle.debug_policies.proofs.Sessions.{kept_reply}
use Rattle.debug_policies.proofs.one_policy.OnePolicy.last_outcome.Goals as goal

-- the last of those that are made is there
not-missing : (n k : ℕ) → n ≡ k → 1 ≤ k → (n ≡ 0) ⊎ (k < n) → ⊥
not-missing n k same made (inl none) = omega (arith, same, made, none)
not-missing n k same made (inr past) = omega (arith, same, made, past)

pub unreachable-requires : goal.unreachable-requires
unreachable-requires c =
    let s = c.self.inside.session in
    let made : 1 ≤ length s.kept = subst (λ (w : OnePolicyState). 1 ≤ w.at) (sym c.self.view_is) c.requires in
    not-missing c.len.result (length s.kept) c.len.ensures.len made c.in-None.ensures

pub returns : goal.returns
returns c =
    let trace : List ℕ = c.self.inside.trace.now in
    let j : Job = c.self.inside.job in
    let s = c.self.inside.session in
    let n : ℕ = length s.kept in
    let made : 1 ≤ n = subst (λ (w : OnePolicyState). 1 ≤ w.at) (sym c.self.view_is) c.requires in
    let on : suc (c.len.result - 1) ≡ n = omega (arith, made, c.len.ensures.len) in
    kept_reply c.any_step_law.ensures c.any_answers.ensures j trace s c.self.invariant c.len.ensures.sound.legal (c.len.result - 1) c.in-Some.entry.now c.in-Some.ensures
    ∙ ap (outcome_at j trace) on
    ∙ ap (λ (w : OnePolicyState). outcome_at w.job w.trace w.at) c.self.view_is
