use Rattle.std.proofs.Common.{◌≡◌, ◌≤◌, ◌+◌, ◌++◌, vec_capacity, vec_len}
use Rattle.trace_read.specs.Lines.{run_from}
use Rattle.trace_read.proofs.arc.push_reserved_run.Given as goal

pub record Pushing (A B C : Type 0) : Type 0 where
  pub items : A
  pub room : B
  pub len : C

abbrev pub invariant-loop-i : goal.invariant-loop-i
invariant-loop-i l = Pushing (l.keys.items ≡ l.initial.keys.items ++ run_from l.start l.i) (vec_len l.keys + l.count ≤ vec_capacity l.keys + l.i)
    (vec_len l.keys ≡ vec_len l.initial.keys + l.i)
