-- What a scan of the lines comes to, whatever bytes still follow.
use Rattle.std.specs.Prelude.{◌≡◌, ℕ, ◌+◌, ◌^◌, ◌≤◌, ◌<◌, ◌⊎◌}
use Rattle.std.specs.Prelude.{List, [], ◌++◌, Option, Some, None, IfSome, length, drop, take}
use Rattle.streams.specs.Feeds.{feed_in, lines_of, HasNoFeed}
use Rattle.trace_read.specs.DigitRuns.{DigitRuns, DigitRun, IsDigitRuns, IsNextRun}
use Rattle.trace_read.specs.Pending.{pending_count, pending_keys}
use Rattle.trace_read.specs.TraceText.{TraceFault, all_keys, first_fault, line_fault, line_keys, IsOfLine}
use Rattle.trace_read.specs.declared.fault.TraceFault.TheVariants.{OutOfMemory}
pub use Rattle.trace_read.specs.declared.scan.Scan.{Scan}
pub use Rattle.trace_read.specs.declared.scan.Taken.{Taken}

-- the fault of the whole file, and its accesses but for those that were handed on, where these bytes still follow
abbrev pub fault_ahead : Scan → List ℕ → Option TraceFault
fault_ahead s rest =
    first_fault s.format s.max_accesses s.line (s.handed_on + length s.keys.items)
    (lines_of (s.partial_line.items ++ rest))

abbrev pub keys_ahead : Scan → List ℕ → List ℕ
keys_ahead s rest = s.keys.items ++ all_keys s.format (lines_of (s.partial_line.items ++ rest))

-- what every scan keeps to
pub record IsScan (s : Scan) : Type 0 where
  pub few : s.handed_on + length s.keys.items ≤ s.max_accesses
  pub partial_line : HasNoFeed s.partial_line.items

-- the scan took a piece up to a place, handed these accesses over, and comes with the rest to what all came to before,
-- but for these
pub record IsTaken (old : Scan) (piece : List ℕ) (place : ℕ) (given : List ℕ) (new : Scan) : Type 0 where
  pub fault : (more : List ℕ) → fault_ahead new (drop place piece ++ more) ≡ fault_ahead old (piece ++ more)
  pub keys : (more : List ℕ) → given ++ keys_ahead new (drop place piece ++ more) ≡ keys_ahead old (piece ++ more)
  pub count : new.handed_on ≡ old.handed_on + length given
  pub limit : new.max_accesses ≡ old.max_accesses
  pub within : place ≤ length piece
  pub lines : new.line ≤ old.line + place

-- the last line came to its end, and these accesses were handed over: nothing else is ahead
pub record IsLastEnded (old : Scan) (given : List ℕ) (new : Scan) : Type 0 where
  pub sound : fault_ahead old [] ≡ None
  pub keys : given ≡ keys_ahead old []
  pub count : new.handed_on ≡ old.handed_on + length given
  pub limit : new.max_accesses ≡ old.max_accesses
  pub partial_line : new.partial_line.items ≡ []
  pub line : new.line ≡ old.line + 1

-- the scan is in the same line
pub record IsSameLine (old new : Scan) : Type 0 where
  pub format : new.format ≡ old.format
  pub line : new.line ≡ old.line
  pub partial_line : new.partial_line.items ≡ old.partial_line.items
  pub limit : new.max_accesses ≡ old.max_accesses

-- a line of this text came to its end, and these of the accesses up to its last were handed over
pub record IsLineGiven (old : Scan) (text given : List ℕ) (new : Scan) : Type 0 where
  pub sound : line_fault old.format old.max_accesses old.line (old.handed_on + length old.keys.items) text ≡ None
  pub keys : given ++ new.keys.items ≡ old.keys.items ++ line_keys old.format text
  pub count : new.handed_on ≡ old.handed_on + length given
  pub partial_line : new.partial_line.items ≡ []
  pub line : new.line ≡ old.line + 1
  pub format : new.format ≡ old.format
  pub limit : new.max_accesses ≡ old.max_accesses

-- the next line came to its end in these bytes: all its accesses are in the scan, or it is one of many
pub record IsNextEnded (old : Scan) (bytes keys : List ℕ) (line : Taken) (new : Scan) : Type 0 where
  pub place : line.bytes ≡ feed_in bytes + 1
  pub within : feed_in bytes < length bytes
  pub given : IsLineGiven old (old.partial_line.items ++ take (feed_in bytes) bytes) (keys ++ pending_keys line.run) new
  pub many : 0 < pending_count line.run → new.keys.items ≡ []
  pub none : pending_count line.run ≡ 0 → keys ≡ []

-- the scan took the lines between two places of these bytes, and comes with the rest to what all from the first place
-- on came to before
pub record IsTakenUpTo (old : Scan) (bytes : List ℕ) (start place : ℕ) (new : Scan) : Type 0 where
  pub scan : IsScan new
  pub partial_line : new.partial_line.items ≡ []
  pub format : new.format ≡ old.format
  pub handed_on : new.handed_on ≡ old.handed_on
  pub limit : new.max_accesses ≡ old.max_accesses
  pub order : (start ≤ place) × (place ≤ length bytes)
  pub lines : new.line + start ≤ old.line + place
  pub fault : (more : List ℕ)
      → fault_ahead new (drop place bytes ++ more) ≡ fault_ahead old (drop start bytes ++ more)
  pub keys : (more : List ℕ)
      → keys_ahead new (drop place bytes ++ more) ≡ keys_ahead old (drop start bytes ++ more)

-- out of memory, or the fault of a line from this place on
abbrev pub IsRefusedFrom : Scan → List ℕ → ℕ → TraceFault → Type 0
IsRefusedFrom old bytes start e = (e ≡ OutOfMemory)
    ⊎ (IsOfLine e × ((more : List ℕ) → fault_ahead old (drop start bytes ++ more) ≡ Some e))

-- lines may be taken from these runs of digits on
pub record CanTakeFrom (s : Scan) (bytes : List ℕ) (ahead : DigitRuns) : Type 0 where
  pub scan : IsScan s
  pub partial_line : s.partial_line.items ≡ []
  pub runs : IsDigitRuns ahead × (ahead.bytes.now ≡ bytes)
  pub lines : s.line + length bytes < 2 ^ 64 + ahead.start

-- the lines were taken up to the one that begins with the run that was found, or up to the runs that are left
pub record AreLinesTaken (old new : Scan) (bytes : List ℕ) (ahead left : DigitRuns)
    (found : Option DigitRun) : Type 0 where
  pub all : found ≡ None → IsTakenUpTo old bytes ahead.start left.start new
  pub some : IfSome found (λ run. IsTakenUpTo old bytes ahead.start run.start new)
  pub next : IfSome found (λ run. IsNextRun bytes run left)
