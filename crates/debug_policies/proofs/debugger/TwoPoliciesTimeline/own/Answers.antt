use Rattle.std.proofs.Common.{◌≡◌, ◌∙◌, ◌++◌, ap, sym, subst, List, ℕ, length}
use Rattle.policies.specs.AnyPolicy.{Job, outcomes_on}
use Rattle.policy_comparison.specs.Part.{part_line, IsPart}
use Rattle.debug_policies.specs.TwoPolicies.{first_parting}
use Rattle.debug_policies.proofs.Facts.{part_is}
use Rattle.streams.proofs.Results.{at_success}
use Rattle.debug_policies.proofs.debugger.TwoPoliciesTimeline.own.Goals as goal

pub returns-in-Ok : goal.returns-in-Ok
returns-in-Ok g c =
    let trace : List ℕ = c.args.self.now.first.trace in
    let first : Job = c.args.self.now.first.job in
    let second : Job = c.args.self.now.second.job in
    let text : List ℕ = c.args.text.now.items in
    let last : List ℕ = c.push_part.new.text.items in
    let long : length (outcomes_on first trace) ≡ length (outcomes_on second trace) = c.any_covers_trace.ensures first trace ∙ sym (c.any_covers_trace.ensures second trace) in
    let is : c.in-Ok.found ≡ first_parting 1 (outcomes_on first trace) (outcomes_on second trace) =
    part_is (outcomes_on first trace) (outcomes_on second trace) c.in-Ok.found long
    (subst (λ (keys : List ℕ). IsPart (outcomes_on first keys) (outcomes_on second keys) c.in-Ok.found) c.trace.ensures
    (subst (λ (j : Job). IsPart (outcomes_on j c.trace.result.now) (outcomes_on second c.trace.result.now) c.in-Ok.found) c.job-first.ensures
    (subst (λ (j : Job). IsPart (outcomes_on c.job-first.result.now c.trace.result.now) (outcomes_on j c.trace.result.now) c.in-Ok.found) c.job-second.ensures
    c.in-Ok.ensures.part))) in
    at_success c.push_part.result (last ≡ text ++ part_line c.in-Ok.found)
    (last ≡ text ++ part_line (first_parting 1 (outcomes_on first trace) (outcomes_on second trace)))
    (λ k. k ∙ ap (λ x. text ++ part_line x) is) c.push_part.ensures
