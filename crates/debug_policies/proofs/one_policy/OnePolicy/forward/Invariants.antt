use Rattle.std.proofs.Common.{◌≡◌, ◌+◌}
use Rattle.debug_policies.proofs.one_policy.OnePolicy.forward.Given as goal

abbrev pub invariant-loop-access : goal.invariant-loop-access
invariant-loop-access l = record {
  job : l.self.job ≡ l.initial.self.job;
  trace : l.self.trace ≡ l.initial.self.trace;
  at : l.self.at ≡ l.initial.self.at + l._access;
}
