use Rattle.std.proofs.Common.{◌∙◌, sym}
use Rattle.admission.proofs.Weighing.{weight_falls}
use Rattle.queue_cache.proofs.Fitting.{act-is, recorded-is, still-running}
use Rattle.queue_cache.proofs.adaptive_cache.AdaptiveCacheEngine.apply.Goals as goal

pub returns-clause-accepted : goal.returns-clause-accepted
returns-clause-accepted c =
    rw (← c.self.view_is)
    (act-is c.self.inside.window.rules c.make_room.new.window.rules c.self.inside.window.state c.make_room.new.window.state c.access-done.new.self.state
    c.self.inside.frequency c.record.new.self c.self.inside.stats c.count.new.self c.args.step.now c.access-done.result.outcome
    c.make_room.ensures.rules c.make_room.ensures.state c.in-Ok.ensures.after
    c.access-done.new.self.rules c.access-done.ensures.rules c.in_ok-make_room.ensures.below c.access-done.ensures.outcome c.access-done.ensures.state c.count.ensures)

pub returns-clause-record_is : goal.returns-clause-record_is
returns-clause-record_is c =
    rw (← c.self.view_is)
    (recorded-is c.self.inside.window.rules c.make_room.new.window.rules c.self.inside.window.state c.make_room.new.window.state c.access-done.new.self.state
    c.self.inside.frequency c.record.new.self c.self.inside.stats c.count.new.self c.args.step.now c.access-done.result.outcome
    c.make_room.ensures.rules c.make_room.ensures.state c.in-Ok.ensures.after c.in-Ok.counting c.access-done.result c.in-Ok.ensures.record_is c.access-done.ensures.record)

pub returns-clause-words : goal.returns-clause-words
returns-clause-words c = weight_falls c.record.new.self c.in-Ok.counting c.in-Ok.ensures.fits

pub invariant_of-self-2 : goal.invariant_of-self-2
invariant_of-self-2 c =
    still-running c.args.step.now c.access-done.result.outcome c.self.inside.frequency c.record.new.self c.self.inside.stats c.count.new.self c.self.invariant c.in_ok-make_room.ensures.below c.in-Ok.ensures.after c.count.ensures

pub returns-clause-not_now : goal.returns-clause-not_now
returns-clause-not_now c = (λ e. absurd (cc e), λ none. absurd (cc (sym none ∙ returns-clause-accepted c)))
