use Rattle.std.proofs.lemmas.Grind.{common_steps}
use Rattle.std.proofs.Common.{◌≡◌, ◌<◌, ◌+◌, ap, sym, subst, List, ℕ, length, arith}
use Rattle.std.specs.Prelude.{slice_index, IfOk}
use Rattle.debug_policies.specs.OnePolicy.{outcome_at, OnePolicyState}
use Rattle.debug_policies.proofs.Sessions.{after_step, answered}
use Rattle.debug_policies.proofs.one_policy.OnePolicy.next.Goals as goal

pub invariant_of-self : goal.invariant_of-self
invariant_of-self c =
    let trace : List ℕ = c.self.inside.trace.now in
    let keys : List ℕ = c.keys.result.now in
    let s = c.self.inside.session in
    let below : length s.kept < length trace = subst (λ (w : OnePolicyState). w.at < length w.trace) (sym c.self.view_is) c.requires in
    let lt : length s.kept < length keys = subst (λ (l : List ℕ). length s.kept < length l) (sym c.keys.ensures.keys) below in
    after_step c.any_step_law.ensures c.make.result c.self.inside.job trace keys s c.make.new.session (slice_index keys c.len.result) c.self.invariant
    c.keys.ensures.keys lt (ap (slice_index keys) c.len.ensures.len) c.make.ensures.made c.make.ensures.kept c.make.ensures.err
    c.make.ensures.opening c.make.ensures.limit

pub returns-clause-outcome : goal.returns-clause-outcome
returns-clause-outcome c =
    let trace : List ℕ = c.self.inside.trace.now in
    let keys : List ℕ = c.keys.result.now in
    let s = c.self.inside.session in
    let below : length s.kept < length trace = subst (λ (w : OnePolicyState). w.at < length w.trace) (sym c.self.view_is) c.requires in
    let lt : length s.kept < length keys = subst (λ (l : List ℕ). length s.kept < length l) (sym c.keys.ensures.keys) below in
    subst (λ (w : OnePolicyState). IfOk c.make.result (λ o. o ≡ outcome_at w.job w.trace (w.at + 1))) c.self.view_is
    (answered c.any_answers.ensures c.make.result c.self.inside.job trace keys (length s.kept) s.engine c.make.new.session.engine (slice_index keys c.len.result)
    c.keys.ensures.keys lt c.self.invariant.stands (ap (slice_index keys) c.len.ensures.len) c.make.ensures.made)

pub returns-clause-at : goal.returns-clause-at
returns-clause-at c = grind (arith, common_steps)
