use Rattle.std.proofs.Common.{◌≡◌, ◌+◌, ◌-◌, ◌≤◌, ◌++◌, length, take}
use Rattle.std.specs.Vec.{vec_len, vec_capacity}
use Rattle.trace_index.proofs.packed_keys.with_fitting.Given as goal

abbrev pub invariant-loop-i : goal.invariant-loop-i
invariant-loop-i l = record {
  room : vec_len l.list + (length l.more - l.i) ≤ vec_capacity l.list;
  items : l.list.items ≡ l.fn.short.items ++ take l.i l.more;
}
