-- What a counter has of a trace whose accesses come in pieces.
use Rattle.std.specs.Prelude.{ℕ, List, take}
use Rattle.trace_index.specs.FootprintCounter.{HasCounted}
use Rattle.sweeps.specs.Taking.{Task}
use Rattle.long_traces.specs.declared.footprints.CountedTrace.{CountedTrace}

-- it has counted the first n accesses, whatever for
abbrev pub HasCountedFirst : Task → List ℕ → ℕ → CountedTrace → Type 0
HasCountedFirst task trace n counted = HasCounted (take n trace) counted.counter
