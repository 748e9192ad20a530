use Rattle.std.proofs.Common.{◌≡◌, ◌∙◌, ◌++◌, ap, subst, List, ℕ, length}
use Rattle.std.specs.Prelude.{OnOk}
use Rattle.policies.specs.AnyPolicy.{Job, any_residents, stats_in}
use Rattle.policies.proofs.FirstAccesses.{first-counts}
use Rattle.debug_policies.specs.OnePolicy.{counts_line, holds_line, policy_lines, residents_at, stats_at, OnePolicyState}
use Rattle.debug_policies.proofs.Shown.{shown_keys}
use Rattle.streams.proofs.Results.{at_success}
use Rattle.policy_comparison.proofs.Texts.{piece}
use Rattle.debug_policies.proofs.one_policy.OnePolicy.show.Goals as goal

pub returns : goal.returns
returns c =
    let trace : List ℕ = c.self.inside.trace.now in
    let j : Job = c.self.inside.job in
    let s = c.self.inside.session in
    let n : ℕ = length s.kept in
    let label : List ℕ = c.args.label.now in
    let text : List ℕ = c.args.text.now.items in
    let t1 : List ℕ = c.push_counts.new.text.items in
    let last : List ℕ = c.push_holds.new.text.items in
    let keys : List ℕ = c.as_slice.result.now in
    let stats : c.stats.result ≡ stats_at j trace n =
    c.stats.ensures ∙ ap stats_in c.engine-cache.ensures.engine ∙ first-counts j trace n s.engine c.self.invariant.stands in
    let held : keys ≡ residents_at j trace n =
    c.as_slice.ensures.value ∙ c.in_ok-keys.ensures ∙ ap any_residents c.engine-cache.ensures.engine
    ∙ shown_keys j trace n s.engine c.self.invariant.within c.self.invariant.stands in
    let first : t1 ≡ text ++ counts_line label j (stats_at j trace n) = c.in_ok-push_counts.ensures ∙ ap (λ x. text ++ counts_line label j x) stats in
    let all : OnOk c.push_holds.result (last ≡ text ++ policy_lines label j trace n) =
    at_success c.push_holds.result (last ≡ t1 ++ holds_line label keys) (last ≡ text ++ policy_lines label j trace n)
    (λ k. piece text t1 last (counts_line label j (stats_at j trace n)) (holds_line label (residents_at j trace n)) first
    (k ∙ ap (λ x. t1 ++ holds_line label x) held)) c.push_holds.ensures in
    subst (λ (w : OnePolicyState). OnOk c.push_holds.result (last ≡ text ++ policy_lines label w.job w.trace w.at)) c.self.view_is all
