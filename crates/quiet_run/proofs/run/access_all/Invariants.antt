use Rattle.std.proofs.Common.{◌≡◌, None, drop, length}
use Rattle.shell_model.specs.ReachableShell.{IsReachable}
use Rattle.quiet_run.specs.Settle.{AddsSteps}
use Rattle.quiet_run.proofs.Keying.{Lacks}
use Rattle.quiet_run.proofs.run.access_all.Given as goal

abbrev pub invariant-loop-key : goal.invariant-loop-key
invariant-loop-key l = record {
  opening : l.session.opening ≡ l.fn.session.opening;
  limit : l.session.limit ≡ l.fn.session.limit;
  adds : AddsSteps (Lacks l.fn.stripes l.keys (drop l.key-index l.keys) l.outcomes.items) l.fn.session l.session;
  stripes : length l.session.engine.stripes ≡ l.fn.stripes;
  reached : IsReachable l.session.engine;
  none : l.session.engine.holder ≡ None;
}
