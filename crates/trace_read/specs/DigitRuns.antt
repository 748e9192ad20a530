-- Runs of digits that are known ahead.
use Rattle.std.specs.Prelude.{◌≡◌, ℕ, ◌+◌, ◌-◌, ◌≤◌, ◌<◌, Bool, true, false, not, List, get_or, length, map}
use Rattle.std.specs.Char.{is_ascii_digit}
use Rattle.std.specs.Simd.Lanes.{chunk, mask_l}
use Rattle.trace_read.specs.Lines.{is_feed}
use Rattle.trace_read.specs.declared.digit_runs.TheConstants.{BEHIND}
pub use Rattle.trace_read.specs.declared.digit_runs.DigitRun.{DigitRun}
pub use Rattle.trace_read.specs.declared.digit_runs.DigitRuns.{DigitRuns}
use Rattle.trace_read.specs.declared.digit_runs.LineEnd.{LineEnd}

-- a byte that is not a digit
abbrev pub is_other : ℕ → Bool
is_other b = not (is_ascii_digit b)

-- a run has one digit to so many
abbrev pub HasUpTo : ℕ → DigitRun → Type 0
HasUpTo most run = (1 ≤ run.end - run.start) × (run.end - run.start ≤ most)

-- the first bytes of a text are digits
abbrev pub AreDigits : List ℕ → ℕ → Type 0
AreDigits text count = (k : ℕ) → k < count → is_ascii_digit (get_or text k 0) ≡ true

-- only digits from start up to at
abbrev pub DigitsBetween : List ℕ → ℕ → ℕ → Type 0
DigitsBetween bytes start at = (k : ℕ) → start ≤ k → k < at → is_other (get_or bytes k 0) ≡ false

-- no line feed from start up to at
abbrev pub NoFeedBetween : List ℕ → ℕ → ℕ → Type 0
NoFeedBetween bytes start at = (k : ℕ) → start ≤ k → k < at → is_feed (get_or bytes k 0) ≡ false

-- the bits are the other bytes from `from` up to `to`
abbrev pub MarksOthers : List ℕ → ℕ → ℕ → ℕ → Type 0
MarksOthers bytes from to others = others ≡ mask_l (map is_other (chunk from (to - from) bytes))

-- what `DigitRuns` keeps to
pub record IsDigitRuns (s : DigitRuns) : Type 0 where
  pub order : (s.start ≤ s.from) × (s.from ≤ s.to) × (s.to ≤ s.from + 64)
  pub within : s.to ≤ length s.bytes.now
  pub behind : 0 < s.others → s.to + BEHIND ≤ length s.bytes.now
  pub digits : DigitsBetween s.bytes.now s.start s.from
  pub marks : MarksOthers s.bytes.now s.from s.to s.others

-- a run of digits that was found, and the runs after it
pub record IsNextRun (bytes : List ℕ) (run : DigitRun) (ahead : DigitRuns) : Type 0 where
  pub runs : IsDigitRuns ahead
  pub same : ahead.bytes.now ≡ bytes
  pub behind : ahead.start ≡ run.end + 1
  pub order : run.start ≤ run.end
  pub within : run.end + BEHIND ≤ length bytes
  pub digits : DigitsBetween bytes run.start run.end

-- the first line feed from a place on, and the runs after it
pub record IsLineEnd (bytes : List ℕ) (from : ℕ) (line : LineEnd) : Type 0 where
  pub runs : IsDigitRuns line.runs
  pub same : line.runs.bytes.now ≡ bytes
  pub behind : line.runs.start ≡ line.end + 1
  pub order : from ≤ line.end
  pub within : line.end + BEHIND ≤ length bytes
  pub none : NoFeedBetween bytes from line.end
  pub feed : get_or bytes line.end 0 ≡ 10
