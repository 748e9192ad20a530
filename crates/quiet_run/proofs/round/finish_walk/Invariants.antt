use Rattle.std.proofs.Common.{◌≡◌, ◌-◌, length}
use Rattle.shell_model.specs.NextActs.{IsAskedNext}
use Rattle.quiet_run.specs.Outcomes.{outcome_from}
use Rattle.quiet_run.specs.Settle.{AddsSteps}
use Rattle.quiet_run.proofs.Alone.{IsAlone, HoldsOn, GoesOn}
use Rattle.quiet_run.proofs.round.finish_walk.Given as goal

abbrev pub invariant-loop-next : goal.invariant-loop-next
invariant-loop-next l = record {
  opening : l.session.opening ≡ l.fn.session.opening;
  limit : l.session.limit ≡ l.fn.session.limit;
  adds : AddsSteps (λ es. GoesOn l.fn.local l.next es × (l.outcome ≡ outcome_from l.fn.start es)) l.fn.session l.session;
  asks : IsAskedNext l.fn.local.worker l.fn.local.stripes l.next;
  worker : l.worker ≡ l.fn.local.worker;
  alone : IsAlone l.fn.local.worker l.fn.local.stripes l.next l.session.engine;
  holds : HoldsOn l.fn.session.engine.holder l.next l.session.engine;
}

abbrev pub decreases-loop-next : goal.decreases-loop-next
decreases-loop-next l = l.session.limit - length l.session.kept
