-- What the writing of a sample comes to.
use Rattle.std.specs.Prelude.{◌≡◌, ◌≤◌, ℕ, List, Option, None, Err, IfSome, length}
use Rattle.std.specs.Global.{Vec}
use Rattle.trace_read.specs.ReadTrace.{IsReadWithin}
use Rattle.trace_read.specs.declared.fault.TraceFault.TheVariants.{OutOfMemory}
pub use Rattle.trace_read.specs.declared.format.Format.{Format}
use Rattle.trace_read.specs.TraceText.{fault_within}
use Rattle.trace_read.specs.declared.limits.TheConstants.Limits.{LONG}
use Rattle.trace_read.specs.Sample.{block_count, sample_of}
pub use Rattle.trace_read.specs.declared.sample_counts.SampleCounts.{SampleCounts}
pub use Rattle.trace_read.specs.declared.sample_fault.SampleFault.{SampleFault}
use Rattle.trace_read.specs.declared.sample_fault.SampleFault.TheVariants.{Trace, Write}

-- how many accesses were read, how many of them kept, and to how many blocks
pub record Counts (inverse seed : ℕ) (keys : List ℕ) (counts : SampleCounts) : Type 0 where
  pub accesses : counts.accesses ≡ length keys
  pub kept : counts.kept ≡ length (sample_of inverse seed keys)
  pub blocks : counts.blocks ≡ block_count (sample_of inverse seed keys)

-- a fault of the trace is that of reading it
abbrev pub IsSampleFault : Format → Option (List ℕ) → Option (List ℕ) → SampleFault → Type 0
IsSampleFault format old new (Trace OutOfMemory) = Unit {0}
IsSampleFault format old new (Trace fault) = IsReadWithin {T = Vec ℕ} LONG format old new (Err fault)
IsSampleFault format old new Write = Unit {0}

-- the bytes are those of a long trace: no more than one has, and without a fault
abbrev pub IsFaultless : Format → Option (List ℕ) → Type 0
IsFaultless format bytes = IfSome bytes (λ bytes.
    (length bytes ≤ LONG.bytes) × (fault_within LONG.accesses format bytes ≡ None))
