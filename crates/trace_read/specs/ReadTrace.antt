-- What a reading of a whole trace comes to.
use Rattle.std.specs.Prelude.{◌≡◌, ◌≢◌, ◌≤◌, ◌<◌, Option, Some, None, List, ℕ, Result, Err, IfErr, OnOk, IfSome, length}
use Rattle.std.specs.Io.KnownBytes.{IsAtEnd}
use Rattle.streams.specs.GivenBytes.{ReadAtMost}
use Rattle.trace_read.specs.declared.limits.Limits.{Limits}
use Rattle.trace_read.specs.declared.limits.TheConstants.Limits.{DEFAULT}
use Rattle.streams.specs.Tally.{FailsWhere}
use Rattle.streams.specs.declared.tally.Tally.{Tally}
use Rattle.trace_read.specs.declared.fault.TraceFault.TheVariants.{Read, TooLarge}
use Rattle.trace_read.specs.TraceText.{TraceFault, Format, fault_within, IsOfLine}

-- the bytes of a reader were read to their end and have no fault, or this is the fault: of a line that of the first
-- faulty line, `TooLarge` where they are too many, and no other where more bytes than that were read
pub record IsReadWithin {T : Type 0} (limits : Limits) (format : Format) (old new : Option (List ℕ))
    (result : Result T TraceFault) : Type 0 where
  pub ok : OnOk result (IfSome old (λ bytes. (length bytes ≤ limits.bytes)
      × (fault_within limits.accesses format bytes ≡ None)))
  pub end : OnOk result (IsAtEnd new)
  pub faulty : IfErr result (λ e. IsOfLine e
      → IfSome old (λ bytes. (length bytes ≤ limits.bytes)
      × (fault_within limits.accesses format bytes ≡ Some e)))
  pub all : IfErr result (λ e. IsOfLine e → IsAtEnd new)
  pub large : result ≡ Err TooLarge → IfSome old (λ bytes. limits.bytes < length bytes)
  pub within : result ≢ Err TooLarge → ReadAtMost limits.bytes old new

-- the same within the limits of a trace that is kept
abbrev pub IsReadTo : {T : Type 0} → Format → Option (List ℕ) → Option (List ℕ) → Result T TraceFault → Type 0
IsReadTo = IsReadWithin DEFAULT

-- and `Read` comes just where a read failed, or the millionth was interrupted
pub record IsWhollyRead {T : Type 0} (limits : Limits) (format : Format) (old new : Option (List ℕ)) (before after : Tally)
    (result : Result T TraceFault) : Type 0 where
  pub read : IsReadWithin limits format old new result
  pub tally : FailsWhere (result ≡ Err Read) before after
