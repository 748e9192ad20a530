-- The accesses of a run that were not made yet.
use Rattle.std.specs.Prelude.{◌+◌, ◌-◌, ℕ, List}
use Rattle.trace_read.specs.Lines.{run_from}
pub use Rattle.trace_read.specs.declared.pending.Pending.{Pending}

abbrev pub pending_count : Pending → ℕ
pending_count p = p.run.count - p.done

abbrev pub pending_keys : Pending → List ℕ
pending_keys p = run_from (p.run.start + p.done) (pending_count p)
