-- What the program has done at its end, by status.
use Rattle.std.specs.Prelude.{◌≡◌, ◌⊎◌, ℕ, true, List, Option, IfSome, Ok, Err, codes, ◌++◌}
use Rattle.std.specs.Io.KnownBytes.{Appends}
use Rattle.streams.specs.Part.{AppendsPart}
use Rattle.streams.specs.Tally.{Exhausts}
use Rattle.streams.specs.declared.retry_budget.TheConstants.{INTERRUPTIONS}
use Rattle.clap.specs.Words.{IsAmong, Kinds, Text}
use Rattle.clap.specs.declared.error.ErrorKind.{ErrorKind}
use Rattle.clap.specs.declared.error.ErrorKind.TheVariants.{DisplayHelp, DisplayVersion}
use Rattle.command_line.specs.ParseResult.{AsksFor, IsRefused}
pub use Rattle.command_line.specs.declared.arguments.Arguments.{Arguments}
use Rattle.command_line.specs.declared.arguments.Arguments.TheVariants as asked
pub use Rattle.command_line.specs.declared.fault.ParseFault.{ParseFault}
use Rattle.command_line.specs.declared.fault.ParseFault.TheVariants as parse
use Rattle.cachesim.specs.FaultLine.{Tally, WritesLine}
use Rattle.cachesim.specs.DebugOutput.{Answering, Debugging, KnownFiles, Replaying}
use Rattle.cachesim.specs.DriveOutput.{IsDriven}
use Rattle.cachesim.specs.SampleOutput.{SampleArguments, IsSampled, sample_line}
use Rattle.cachesim.specs.TraceOutput.{IsTextOf}
use Rattle.trace_read.specs.TraceText.{keys_in}

-- What these arguments ask for is done: `drive` has written the journal of its workers' walks in an empty cache;
-- `debug` and `replay` have answered the commands of the input about the trace or the journal of the file; `sample`
-- has written the accesses that it keeps; and each other has written the text that it asks for.
abbrev pub IsDone : Arguments → KnownFiles → Option (List ℕ) → Option (List ℕ) → Option (List ℕ) → Type 0
IsDone (asked.Drive drive) files input before after =
    IsDriven drive.config drive.workers drive.format input before after
IsDone (asked.Debug debug) files input before after =
    Debugging (Answering true input before after) debug.policies (files debug.trace)
IsDone (asked.Replay replay) files input before after =
    Replaying (Answering true input before after) replay.config (files replay.journal)
IsDone (asked.Sample sample) files input before after = IsSampled sample input before after
IsDone arguments files input before after =
    (text : List ℕ) × IsTextOf arguments input text × Appends before after text

-- What is said on the fault output with status 0, from `silent` to `line`: by `sample` the line that says what it
-- wrote, by no other anything.
abbrev pub IsSaid : Arguments → Option (List ℕ) → Option (List ℕ) → Option (List ℕ) → Type 0 → Type 0
IsSaid (asked.Sample sample) input silent line Silent =
    IfSome input (λ bytes. Appends silent line (sample_line sample (keys_in sample.format bytes)))
IsSaid arguments input silent line Silent = Silent

-- the words ask for these arguments, and P holds of them
abbrev pub AsksForSome : List Text → (Arguments → Type 0) → Type 0
AsksForSome words P = (arguments : Arguments) × AsksFor words (Ok arguments) × P arguments

abbrev pub is_help : ErrorKind → Type 0
is_help kind = (kind ≡ DisplayHelp) ⊎ (kind ≡ DisplayVersion)

-- one of the kinds of error is of help or the version, and one that is not
abbrev pub AsksHelp : Kinds → Type 0
AsksHelp kinds = (kind : ErrorKind) × is_help kind × IsAmong kind kinds

abbrev pub RefusesWords : Kinds → Type 0
RefusesWords kinds = (kind : ErrorKind) × (¬ is_help kind) × IsAmong kind kinds

-- Status 0: the words are taken, and what they ask for is done and said, or they ask for help.
abbrev pub DoneBy : List Text → KnownFiles → Option (List ℕ) → Option (List ℕ) → Option (List ℕ)
    → Option (List ℕ) → Option (List ℕ) → Type 0 → Type 0
DoneBy words files input before after silent line Silent =
    AsksForSome words (λ arguments. IsDone arguments files input before after
    × IsSaid arguments input silent line Silent) ⊎ (IsRefused words AsksHelp × Silent)

-- Status 1 of a `sample` that is done and not said: all of the sample was written, and no call of the input or the output
-- failed (`Served`), but one of the fault output did, which counted `old` and `new`. It has a beginning of the line.
pub record DoneUnsaid (words : List Text) (old new : Tally) (input before after silent line : Option (List ℕ))
    (Served : Type 0) : Type 0 where
  pub sample : SampleArguments
  pub asks : AsksFor words (Ok (asked.Sample sample))
  pub sampled : IsSampled sample input before after
  pub served : Served
  pub failed : Exhausts INTERRUPTIONS old new
  pub part : IfSome input (λ bytes. AppendsPart silent line (sample_line sample (keys_in sample.format bytes)))

-- the lines of a word that names no policy, or of arguments that are incomplete
abbrev pub usage_line : ParseFault → List ℕ
usage_line parse.Stripes = codes "fault: Stripes\n"
usage_line parse.WholeTrace =
    codes "error: clairvoyant has to know the whole trace, which --long does not keep: take a sample of it\n"
usage_line parse.LongIntervals = codes "error: an interval has at most 16777216 accesses without --long\n"
usage_line fault = codes "error: a word names no policy, or a number is missing\n"
    ++ (codes "  [possible values: lru, slru, tinylfu-lru, tinylfu-slru, wtinylfu, clairvoyant, fifo, clock, sieve, "
    ++ (codes "s3-fifo, 2q, arc, caffeine, car]\n"
    ++ codes "  [with sizes of their own: wtinylfu:main=N, caffeine:main=N:period=N, 2q:in=P:out=P, s3-fifo:small=P]\n"))

-- Status 2: the words are refused by clap, or taken and incomplete: they lack a number in its range or a known
-- policy, or their number of read buffers is not a power of two from 1 to 64, or they name Belady's policy for a long
-- trace, or an interval that is longer than the trace may be.
abbrev pub RefusedBy : List Text → Tally → Tally → Option (List ℕ) → Option (List ℕ) → Type 0
RefusedBy words old new silent line = IsRefused words RefusesWords
    ⊎ ((fault : ParseFault) × AsksFor words (Err fault) × WritesLine old new silent line (usage_line fault))
