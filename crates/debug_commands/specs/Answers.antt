-- What the debugger answers to a command: from the position and the breakpoints before it, the text and those after it.
-- (Commands of this project.)
use Rattle.std.specs.Prelude.{ℕ, zero, suc, ◌+◌, ◌-◌, ◌==◌, nat_lt, if◌then◌else◌, Option, Some, None, List, [], ◌∷◌}
use Rattle.std.specs.Prelude.{◌++◌, length, codes}
use Rattle.std.specs.Fmt.{decimal}
use Rattle.debug_commands.specs.Breakpoints.{first_holding, breakpoint_word}
use Rattle.debug_commands.specs.Timeline.{TimelineData}
use Rattle.debug_commands.specs.declared.dialogue.TheConstants.{MAX_BREAKPOINTS}
pub use Rattle.debug_commands.specs.declared.breakpoint.Breakpoint.{Breakpoint}
pub use Rattle.debug_commands.specs.declared.breakpoint.StepFacts.{StepFacts}
use Rattle.debug_commands.specs.declared.command.Command.{Command}
use Rattle.debug_commands.specs.declared.command.Command.TheVariants as command
pub use Rattle.debug_commands.specs.declared.command.InputLine.{InputLine}
use Rattle.debug_commands.specs.declared.command.InputLine.TheVariants.{Empty, Unknown, Known}

-- between two commands: how many steps are made, and the breakpoints in the order in which they were set
pub record TimelinePlace : Type 0 where
  pub at : ℕ
  pub breaks : List Breakpoint

-- ---- the lines

abbrev pub position_line : ℕ → List ℕ
position_line n = codes "at " ++ (decimal n ++ codes "\n")

abbrev pub stop_line : Option Breakpoint → List ℕ
stop_line None = codes "end\n"
stop_line (Some b) = codes "stop " ++ (breakpoint_word b ++ codes "\n")

-- ---- the answer to a command

pub record CommandResponse : Type 0 where
  pub text : List ℕ
  pub place : TimelinePlace

-- the position and the breakpoints stay
abbrev pub stays : TimelinePlace → List ℕ → CommandResponse
stays p text = record { text = text; place = p }

-- the position is n
abbrev pub goes : TimelinePlace → ℕ → CommandResponse
goes p n = record { text = position_line n; place = record { at = n; breaks = p.breaks } }

-- the breakpoints are these
abbrev pub sets : TimelinePlace → List Breakpoint → CommandResponse
sets p breaks = record { text = codes "ok\n"; place = record { at = p.at; breaks = breaks } }

-- the stop after step n, or the later one
abbrev pub stop_here : Option Breakpoint → ℕ → ℕ × Option Breakpoint → ℕ × Option Breakpoint
stop_here None n later = later
stop_here (Some b) n later = (n, Some b)

-- onward step by step, `left` at most, until a breakpoint holds: the position then, and the breakpoint
unfoldable pub stop_after : (ℕ → StepFacts) → List Breakpoint → ℕ → ℕ → ℕ × Option Breakpoint
stop_after facts breaks at zero = (at, None)
stop_after facts breaks at (suc left) =
    stop_here (first_holding (facts (at + 1)) breaks) (at + 1) (stop_after facts breaks (at + 1) left)

abbrev pub runs : TimelinePlace → ℕ × Option Breakpoint → CommandResponse
runs p stop =
    record { text = stop_line stop.1 ++ position_line stop.0; place = record { at = stop.0; breaks = p.breaks } }

unfoldable pub response_to : TimelineData → TimelinePlace → Command → CommandResponse
response_to t p (command.Step n) =
    if nat_lt t.end (p.at + n) then stays p (codes "fault: PastEnd\n") else goes p (p.at + n)
response_to t p (command.Back n) = if nat_lt p.at n then stays p (codes "fault: PastStart\n") else goes p (p.at - n)
response_to t p (command.Goto n) = if nat_lt t.end n then stays p (codes "fault: PastEnd\n") else goes p n
response_to t p command.Run =
    if p.at == t.end then stays p (codes "fault: PastEnd\n")
    else runs p (stop_after t.facts p.breaks p.at (t.end - p.at))
response_to t p (command.Break b) =
    if length p.breaks == MAX_BREAKPOINTS then stays p (codes "fault: Breaks\n") else sets p (p.breaks ++ b ∷ [])
response_to t p command.Clear = sets p []
response_to t p command.Show = stays p (t.shown p.at)
response_to t p (command.View v) = stays p (t.viewed v p.at)
response_to t p command.Own = stays p (t.own p.at)
response_to t p command.Quit = stays p []

-- ---- the answer to a line

abbrev pub answer_to : TimelineData → TimelinePlace → InputLine → CommandResponse
answer_to t p Empty = stays p []
answer_to t p Unknown = stays p (codes "fault: Command\n")
answer_to t p (Known c) = response_to t p c
