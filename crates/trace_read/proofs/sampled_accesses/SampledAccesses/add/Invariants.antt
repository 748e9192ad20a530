use Rattle.std.proofs.Common.{◌≡◌, ◌≤◌, ◌+◌, take}
use Rattle.trace_read.specs.SampledAccesses.{Keeps}
use Rattle.trace_read.specs.Sample.{sample_of}
use Rattle.trace_read.proofs.sampled_accesses.SampledAccesses.add.Given as goal

abbrev pub invariant-loop-key : goal.invariant-loop-key
invariant-loop-key l = record {
  rule : l.self.test.rule ≡ l.initial.self.test.rule;
  kept : Keeps l.initial.self l.self (sample_of l.initial.self.test.rule.inverse l.initial.self.test.rule.seed (take l.key-index l.keys));
  few : l.self.accesses ≤ l.initial.self.accesses + l.key-index;
}
