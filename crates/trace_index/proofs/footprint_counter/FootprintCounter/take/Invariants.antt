use Rattle.std.proofs.Common.{◌++◌, List, ℕ, take}
use Rattle.trace_index.specs.FootprintCounter.{HasCounted}
use Rattle.trace_index.proofs.footprint_counter.FootprintCounter.take.Given as goal

abbrev pub invariant-loop-key : goal.invariant-loop-key
invariant-loop-key l = (done : List ℕ) → HasCounted done l.initial.self → HasCounted (done ++ take l.key-index l.keys) l.self
