-- What a subcommand returns, and what it does with the input and the output.
use Rattle.std.specs.Prelude.{◌≡◌, ℕ, List, Option, None, Result, Err, IfErr, IfOk, IfSome, IsOk, IsSomeAnd, MatchResult, OnOk}
use Rattle.std.specs.Global.{Vec}
use Rattle.std.specs.Vec.{vec_items}
use Rattle.streams.specs.Tally.{FailsWhere}
use Rattle.trace_read.specs.TraceText.{keys_in}
use Rattle.command_line.specs.declared.arguments.Arguments.TheVariants as asked
use Rattle.cachesim.specs.CallFaults.{Fault, Tally, IsOfRead, IsOfWrite}
use Rattle.cachesim.specs.DebugOutput.{KnownFiles}
use Rattle.cachesim.specs.FaultCauses.{Arguments, IsDue, Leaves}
use Rattle.cachesim.specs.Outcome.{IsDone}
use Rattle.cachesim.specs.SampleOutput.{sample_line}
use Rattle.cachesim.specs.TraceOutput.{IsTextOf}

-- It made the text that the arguments ask for, over the bytes of the input, or returned a fault that is due. A read
-- failed just where that is the fault, by what the input counted before and after; and nothing was written.
pub record IsMade (arguments : Arguments) (input : Option (List ℕ)) (before after : Tally) (made : Result (Vec ℕ) Fault)
    : Type 0 where
  pub text : IfOk made (λ text. IsTextOf arguments input (vec_items text))
  pub fault : IfErr made (IsDue arguments (λ path. None) input)
  pub reads : FailsWhere (IsOfRead made) before after
  pub unwritten : ¬ IsOfWrite made

-- It did what the arguments ask for, over the bytes of the input, with the output from `before` to `after`; or it
-- returned a fault that is due, and left what that leaves. A read, a write or a flush failed just where that is the
-- fault, by what the input and the output counted before and after.
pub record IsPerformed {A : Type 0} (arguments : Arguments) (files : KnownFiles) (input before after : Option (List ℕ))
    (read_before read_after written_before written_after : Tally) (Kept Flushed : Type 0)
    (performed : Result A Fault) : Type 0 where
  pub done : OnOk performed (IsDone arguments files input before after)
  pub leaves : IfErr performed (λ fault. Leaves arguments files fault input before after Kept)
  pub fault : IfErr performed (IsDue arguments files input)
  pub reads : FailsWhere (IsOfRead performed) read_before read_after
  pub writes : FailsWhere (IsOfWrite performed) written_before written_after
  pub flushed : OnOk performed Flushed

-- both are done, or both have the same fault
abbrev pub IsSameEnd : {A B : Type 0} → Result A Fault → Result B Fault → Type 0
IsSameEnd performed other = MatchResult performed (λ done. IsOk other) (λ fault. other ≡ Err fault)

-- the line that is still to be said of what was done: by `sample` that of the sample, by no other any
abbrev pub IsToSay : Arguments → Option (List ℕ) → Option (List ℕ) → Type 0
IsToSay (asked.Sample sample) input line = IsSomeAnd line
    (λ text. IfSome input (λ bytes. text ≡ sample_line sample (keys_in sample.format bytes)))
IsToSay arguments input line = line ≡ None
