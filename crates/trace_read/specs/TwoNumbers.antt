-- The two numbers that a line of the ARC format begins with.
use Rattle.std.specs.Prelude.{◌≡◌, ◌⊎◌, ℕ, ◌+◌, ◌-◌, ◌<◌, ◌^◌, false, true, List, get_or, take, drop}
use Rattle.std.specs.Str.{all_ascii_digits}
use Rattle.std.specs.Str.Parse.{digits_value}
use Rattle.trace_read.specs.DigitRuns.{DigitRun, IsNextRun}
use Rattle.trace_read.specs.Lines.{is_feed, is_gap}
use Rattle.trace_read.specs.declared.arc.TwoNumbers.{TwoNumbers}

-- a number that a run of digits writes
pub record IsNumberAt (bytes : List ℕ) (run : DigitRun) (number : ℕ) : Type 0 where
  pub some : run.start < run.end
  pub digits : all_ascii_digits (take (run.end - run.start) (drop run.start bytes)) ≡ true
  pub value : number ≡ digits_value 10 (take (run.end - run.start) (drop run.start bytes))
  pub below : number < 10 ^ 16

-- the first number, a space or a tab, and the second, with the end of its line, a gap, or a carriage return (13) before
-- the line's end after it
pub record AreTwoNumbers (bytes : List ℕ) (first : DigitRun) (numbers : TwoNumbers) : Type 0 where
  pub found : IsNextRun bytes numbers.second numbers.runs
  pub behind : numbers.second.start ≡ first.end + 1
  pub start : IsNumberAt bytes first numbers.run.start
  pub count : IsNumberAt bytes numbers.second numbers.run.count
  pub gap : is_gap (get_or bytes first.end 0) ≡ true
  pub ends : is_feed (get_or bytes numbers.second.end 0) ≡ false → (is_gap (get_or bytes numbers.second.end 0) ≡ true)
      ⊎ ((get_or bytes numbers.second.end 0 ≡ 13) × (get_or bytes (numbers.second.end + 1) 0 ≡ 10))
