use Rattle.std.proofs.Common.{◌≡◌, ◌≤◌, [], map, replicate, vec_len, vec_capacity}
use Rattle.shell_model.specs.Buffers.{items_of}
use Rattle.shell_model.proofs.stripes.Stripes.new.Given as goal

-- as many empty buffers as were counted
abbrev pub invariant-loop : goal.invariant-loop
invariant-loop l = record {
  room : l.fn.count ≤ vec_capacity l.buffers;
  counted : vec_len l.buffers ≡ l.counter;
  empty : map items_of l.buffers.items ≡ replicate l.counter [];
}
