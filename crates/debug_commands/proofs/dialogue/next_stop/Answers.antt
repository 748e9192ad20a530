use Rattle.std.proofs.Common.{◌≡◌, ◌∙◌, ◌<◌, ◌+◌, ap, sym, ℕ, arith}
use Rattle.debug_commands.specs.Timeline.{TimelineData}
use Rattle.debug_commands.proofs.Stops.{stops_here, stops_later, stops_at_end}
use Rattle.debug_commands.proofs.dialogue.next_stop.Goals as goal

pub returns-in-Some-clause-stop : goal.returns-in-Some-clause-stop
returns-in-Some-clause-stop g c =
    let t : TimelineData = g.T.Timeline.timeline c.args.timeline.now in
    let at : ℕ = g.T.Timeline.position c.steps.timeline in
    let end : c.end.result ≡ t.end = c.end.ensures ∙ ap (λ (x : TimelineData). x.end) c.steps.invariant.same in
    let lt : at < t.end = omega (arith, end, c.position.ensures.position, c.steps-test.true) in
    let facts : c.in_ok-facts.facts ≡ t.facts (at + 1) = c.in_ok-facts.ensures.facts ∙ ap (λ (x : TimelineData). x.facts (at + 1)) c.steps.invariant.same in
    sym c.steps.invariant.stop
    ∙ stops_here t.facts c.args.breaks.now at t.end (g.T.Timeline.position c.next.new.self) c.in_ok-facts.facts c.in-Some.point lt
    c.in_ok-facts.ensures.position facts (sym c.first_holding.ensures ∙ c.in-Some.is)

pub steps-preserved : goal.steps-preserved
steps-preserved g c =
    let t : TimelineData = g.T.Timeline.timeline c.args.timeline.now in
    let at : ℕ = g.T.Timeline.position c.steps.timeline in
    let end : c.end.result ≡ t.end = c.end.ensures ∙ ap (λ (x : TimelineData). x.end) c.steps.invariant.same in
    let lt : at < t.end = omega (arith, end, c.position.ensures.position, c.steps-test.true) in
    let facts : c.in_ok-facts.facts ≡ t.facts (at + 1) = c.in_ok-facts.ensures.facts ∙ ap (λ (x : TimelineData). x.facts (at + 1)) c.steps.invariant.same in
    record {
      source = c.next.ensures.source ∙ c.steps.invariant.source;
      usable = c.in_ok-facts.ensures.usable;
      same = c.in_ok-facts.ensures.same ∙ c.steps.invariant.same;
      stop = stops_later t.facts c.args.breaks.now at t.end (g.T.Timeline.position c.next.new.self) c.in_ok-facts.facts lt
          c.in_ok-facts.ensures.position facts (sym c.first_holding.ensures ∙ c.in_default.is)
          ∙ c.steps.invariant.stop;
    }

pub returns-clause-stop : goal.returns-clause-stop
returns-clause-stop g c =
    let t : TimelineData = g.T.Timeline.timeline c.args.timeline.now in
    let at : ℕ = g.T.Timeline.position c.steps.timeline in
    let end : c.end.result ≡ t.end = c.end.ensures ∙ ap (λ (x : TimelineData). x.end) c.steps.invariant.same in
    let ended : at < t.end → ⊥ = λ lt. omega (arith, end, lt, c.position.ensures.position, c.steps-test.false) in
    sym c.steps.invariant.stop ∙ stops_at_end t.facts c.args.breaks.now at t.end ended
