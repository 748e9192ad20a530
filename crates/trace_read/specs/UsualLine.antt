-- A line of a format's usual form, which is read without a call, and one that stands for many accesses.
use Rattle.std.specs.Prelude.{◌≡◌, ℕ, ◌+◌, ◌-◌, ◌^◌, ◌≤◌, ◌<◌, true, List, Some, get_or, take, drop}
use Rattle.std.specs.Char.{is_ascii_digit}
use Rattle.trace_read.specs.DigitRuns.{DigitRun, HasUpTo, IsLineEnd}
use Rattle.trace_read.specs.Lines.{Format, line_of, run_of}
pub use Rattle.trace_read.specs.declared.arc.BlockRun.{BlockRun}
use Rattle.trace_read.specs.declared.arc.UsualLine.{UsualLine}
use Rattle.trace_read.specs.declared.digits.TheConstants.{MAX_DIGITS, SHORT_DIGITS}
use Rattle.trace_read.specs.declared.format.Format.TheVariants.{Lirs, Arc}

-- the line that begins with a run of digits, and stands for at most `room` accesses
pub record IsUsualLine (format : Format) (bytes : List ℕ) (first : DigitRun) (room : ℕ)
    (line : UsualLine) : Type 0 where
  pub end : IsLineEnd bytes first.start line.end
  pub fits : line.run.start + line.run.count ≤ 2 ^ 64
  pub few : line.run.count ≤ room
  pub is : line_of format (take (line.end.end - first.start) (drop first.start bytes))
      ≡ run_of (Some line.run.start) (Some line.run.count)

-- a line that begins with a run of digits begins as one of the usual form
abbrev pub BeginsUsual : Format → List ℕ → DigitRun → Type 0
BeginsUsual Lirs bytes run = HasUpTo MAX_DIGITS run × (get_or bytes run.end 0 ≡ 10)
BeginsUsual Arc bytes run = HasUpTo SHORT_DIGITS run × (is_ascii_digit (get_or bytes (run.end + 1) 0) ≡ true)

-- a line is a run of some accesses, at most `room`
pub record IsLongRun (format : Format) (text : List ℕ) (room : ℕ) (run : BlockRun) : Type 0 where
  pub some : 0 < run.count
  pub fits : run.start + run.count ≤ 2 ^ 64
  pub few : run.count ≤ room
  pub is : line_of format text ≡ run_of (Some run.start) (Some run.count)

-- a lone `*` (42) and a line feed stand at a place
abbrev pub IsStarLine : List ℕ → ℕ → Type 0
IsStarLine bytes place = (get_or bytes place 0 ≡ 42) × (get_or bytes (place + 1) 0 ≡ 10)

abbrev pub AreFourStars : List ℕ → ℕ → Type 0
AreFourStars bytes place = IsStarLine bytes place × IsStarLine bytes (place + 2) × IsStarLine bytes (place + 4)
    × IsStarLine bytes (place + 6)
