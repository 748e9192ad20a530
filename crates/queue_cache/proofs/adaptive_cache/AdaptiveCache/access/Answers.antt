use Rattle.std.proofs.Common.{◌∙◌, Some, ap, sym}
use Rattle.admission.specs.Frequency.{FrequencyData}
use Rattle.queue_cache.specs.AdaptiveCache.{AdaptiveCacheState, cache_act}
use Rattle.queue_cache.proofs.Fitting.{act-is, still-running}
use Rattle.queue_cache.proofs.adaptive_cache.AdaptiveCache.access.Goals as goal

pub returns-clause-accepted : goal.returns-clause-accepted
returns-clause-accepted g c =
    ap (λ (d : AdaptiveCacheState). cache_act d c.args.key) (sym c.self.view_is)
    ∙ act-is c.self.inside.window.rules c.make_room.new.window.rules c.self.inside.window.state c.make_room.new.window.state c.access-done.new.self.state
    c.self.inside.frequency c.count.new.self c.self.inside.stats c.count-2.new.self c.args.key c.access-done.result.outcome
    c.make_room.ensures.rules c.make_room.ensures.state c.in-Ok.ensures.after
    c.access-done.new.self.rules c.access-done.ensures.rules c.in_ok-make_room.ensures.below c.access-done.ensures.outcome c.access-done.ensures.state c.count-2.ensures
    ∙ ap (λ (f : FrequencyData). Some (
      c.access-done.result.outcome,
      let d : AdaptiveCacheState = record { rules = c.access-done.new.self.rules; window = c.access-done.new.self.state; frequency = f; stats = c.count-2.new.self } in d,
    )) (sym c.prepare_victim.ensures)

pub invariant_of-self-2 : goal.invariant_of-self-2
invariant_of-self-2 g c =
    rw c.prepare_victim.ensures
    (still-running c.args.key c.access-done.result.outcome c.self.inside.frequency c.count.new.self c.self.inside.stats c.count-2.new.self c.self.invariant c.in_ok-make_room.ensures.below c.in-Ok.ensures.after c.count-2.ensures)
