use Rattle.std.proofs.lemmas.Bool.Decides.{nat_tests}
use Rattle.std.proofs.Common.{◌≡◌, ℕ, Bool, arith, Some, ap, ◌∙◌, sym, subst}
use Rattle.engine_base.specs.Stats.{is_hit}
use Rattle.replacement.specs.Admission.{admits_in}
use Rattle.queue_cache.specs.Climber.{climber_after}
use Rattle.queue_cache.specs.AdaptiveWindow.{ShownWindow, AdaptiveState, adaptive_act, IsAdaptive}
use Rattle.queue_cache.specs.WindowRecord.{WindowRecord, window_record_of, window_undone}
use Rattle.queue_cache.proofs.Keeping.{kept-access}
use Rattle.queue_cache.proofs.Fitting.{state_by, still-few, state-is, record-is, record-fits, undoes}
use Rattle.queue_cache.proofs.adaptive_window.AdaptiveWindow.access.Goals as goal
use Rattle.queue_cache.proofs.adaptive_window.AdaptiveWindow.access.Goals.{After-resize-resized}

-- the state before the access, and whom the frequency admits
abbrev before : (g : _) → After-resize-resized g → AdaptiveState
before g c = state_by c.self.inside.segments.lists c.self.inside.size c.self.inside.climber

abbrev admits : (g : _) → After-resize-resized g → ℕ → ℕ → Bool
admits g c = admits_in (Some c.args.frequency.now)

climbed : (g : _) (c : After-resize-resized g) → c.count-period.new.self ≡ climber_after c.self.inside.rules (is_hit c.access-effect.result.outcome) c.self.inside.climber
climbed g c = c.count-period.ensures.after ∙ ap (λ b. climber_after c.self.inside.rules b c.self.inside.climber) c.is_hit.ensures

state : (g : _) (c : After-resize-resized g) → state_by c.resize-resized.new.segments.lists c.resize-resized.result.size c.count-period.new.self ≡ (adaptive_act c.self.inside.rules (admits g c) c.args.item (before g c)).1
state g c =
    state-is _ _ _ c.self.inside.segments.lists c.self.inside.size c.self.inside.climber _ _ _ _ _ _
    c.at-rules.ensures c.access-effect.ensures.outcome c.access-effect.ensures.lists (climbed g c) c.resize-resized.ensures.size c.resize-resized.ensures.lists

recorded : (g : _) (c : After-resize-resized g) → ◌≡◌ {A = WindowRecord} record { outcome = c.access-effect.result.outcome; access = c.access-effect.result.moves; size = c.resize-resized.result.change; period = c.count-period.result }
    (window_record_of c.self.inside.rules (admits g c) c.args.item (before g c))
recorded g c =
    record-is _ _ _ c.self.inside.segments.lists c.self.inside.size c.self.inside.climber _ _ _ _ _ _
    c.at-rules.ensures c.access-effect.ensures.outcome c.access-effect.ensures.lists (climbed g c) c.resize-resized.ensures.size c.resize-resized.ensures.lists
    _ _ _ c.access-effect.ensures.record c.resize-resized.ensures.change c.count-period.ensures.record

pub at-rules-requires : goal.at-rules-requires
at-rules-requires g c = c.self.invariant.2.most

pub resize-resized-requires-clause-size : goal.resize-resized-requires-clause-size
resize-resized-requires-clause-size g c = c.self.invariant.2.most

pub resize-resized-requires-clause-few : goal.resize-resized-requires-clause-few
resize-resized-requires-clause-few g c = grind (arith, nat_tests, still-few)

pub invariant_of-self : goal.invariant_of-self
invariant_of-self g c =
    let d = (goal.at.invariant_of-self g c).After-resize-resized in (
      c.self.invariant.0,
      c.self.invariant.1,
      subst (IsAdaptive c.self.inside.rules) (sym (state g d))
          (kept-access c.self.inside.rules c.self.invariant.0 (admits g d) c.args.item (before g d) c.self.invariant.2),
    )

pub returns-clause-fits : goal.returns-clause-fits
returns-clause-fits g c =
    let d = (goal.at.returns-clause-fits g c).After-resize-resized in
    let after = state g d in
    let done = recorded g d in
    let fits = record-fits c.self.inside.rules (admits g d) c.args.item (before g d) c.self.invariant.2 in
    grind (arith, nat_tests)

pub returns-clause-undone : goal.returns-clause-undone
returns-clause-undone g c =
    let d = (goal.at.returns-clause-undone g c).After-resize-resized in
    ap (λ r. window_undone r (state_by c.resize-resized.new.segments.lists c.resize-resized.result.size c.count-period.new.self)) (recorded g d)
    ∙ ap (window_undone (window_record_of c.self.inside.rules (admits g d) c.args.item (before g d))) (state g d)
    ∙ undoes c.self.inside.rules (admits g d) c.args.item (before g d) c.self.invariant.2
    ∙ ap (λ (x : ShownWindow). x.state) c.self.view_is
