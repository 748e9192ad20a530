-- Which faults are those of a call of the input or the output. They come just where one failed.
use Rattle.std.specs.Prelude.{◌≡◌, ◌⊎◌, Result, Err}
use Rattle.streams.specs.Tally.{Exhausts, IsServed}
use Rattle.streams.specs.declared.retry_budget.TheConstants.{INTERRUPTIONS}
pub use Rattle.streams.specs.declared.tally.Tally.{Tally}
use Rattle.trace_read.specs.declared.fault.TraceFault.TheVariants as trace
use Rattle.debug_commands.specs.declared.fault.DebugFault.TheVariants as debug
pub use Rattle.cachesim.specs.declared.fault.Fault.{Fault}
use Rattle.cachesim.specs.declared.fault.Fault.TheVariants.{Debug, Trace, Write}

-- What the input counted before and after, and the output. No call failed, and fewer than a million of either were
-- interrupted; or a read failed, or the millionth was interrupted; or so of a write or a flush.
abbrev pub AreServed : Tally → Tally → Tally → Tally → Type 0
AreServed input read output written = IsServed input read × IsServed output written

abbrev pub IsReadFailed : Tally → Tally → Tally → Tally → Type 0
IsReadFailed input read output written = Exhausts INTERRUPTIONS input read × IsServed output written

abbrev pub IsWriteFailed : Tally → Tally → Tally → Tally → Type 0
IsWriteFailed input read output written = IsServed input read × Exhausts INTERRUPTIONS output written

-- the result is the fault of a read, or of a write or a flush
abbrev pub IsOfRead : {A : Type 0} → Result A Fault → Type 0
IsOfRead result = (result ≡ Err (Trace trace.Read)) ⊎ (result ≡ Err (Debug debug.Read))

abbrev pub IsOfWrite : {A : Type 0} → Result A Fault → Type 0
IsOfWrite result = (result ≡ Err Write) ⊎ (result ≡ Err (Debug debug.Write))

-- what became of the calls where this is the fault
abbrev pub BlamesCalls : Fault → Tally → Tally → Tally → Tally → Type 0
BlamesCalls (Trace trace.Read) input read output written = IsReadFailed input read output written
BlamesCalls (Debug debug.Read) input read output written = IsReadFailed input read output written
BlamesCalls (Debug debug.Write) input read output written = IsWriteFailed input read output written
BlamesCalls Write input read output written = IsWriteFailed input read output written
BlamesCalls fault input read output written = AreServed input read output written
