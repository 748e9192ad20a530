-- What the debugger writes for the bytes of its input, line by line up to `quit`, the end, or a line that is too large.
use Rattle.std.specs.Prelude.{◌≡◌, ℕ, ◌+◌, ◌-◌, nat_lt, Bool, true, false, not, ◌||◌, if◌then◌else◌, Option, List, []}
use Rattle.std.specs.Prelude.{◌∷◌}
use Rattle.std.specs.Prelude.{◌++◌, length}
use Rattle.std.specs.Io.KnownBytes.{Appends}
use Rattle.streams.specs.Feeds.{lines_of}
use Rattle.debug_commands.specs.Answers.{InputLine, TimelinePlace, CommandResponse, answer_to}
use Rattle.debug_commands.specs.Commands.{command_line_of}
use Rattle.debug_commands.specs.Timeline.{TimelineData}
use Rattle.debug_commands.specs.declared.command.Command.TheVariants.{Quit}
use Rattle.debug_commands.specs.declared.command.InputLine.TheVariants.{Known}
use Rattle.debug_commands.specs.declared.dialogue.TheConstants.{MAX_COMMAND_BYTES}

abbrev pub is_quit : InputLine → Bool
is_quit (Known Quit) = true
is_quit _ = false

-- nothing is read after a line without a line feed, or `quit`
abbrev pub is_last : Bool → InputLine → Bool
is_last fed line = not fed || is_quit line

pub record Dialogue : Type 0 where
  pub text : List ℕ
  -- the position at the end
  pub at : ℕ
  -- no line went past the limit
  pub fits : Bool

abbrev pub ends : TimelinePlace → Bool → Dialogue
ends p fits = record { text = []; at = p.at; fits = fits }

-- the answer, and then what follows from the place that it leaves
abbrev pub answers : CommandResponse → (TimelinePlace → Dialogue) → Dialogue
answers r later = record { text = r.text ++ (later r.place).text; at = (later r.place).at; fits = (later r.place).fits }

-- the lines in order, where `room` bytes more may be read; a line feed ends each line but the last
unfoldable pub dialogue_from : TimelineData → ℕ → List (List ℕ) → TimelinePlace → Dialogue
dialogue_from t room [] p = ends p true
dialogue_from t room (l ∷ []) p =
    if nat_lt room (length l) then ends p false
    else answers (answer_to t p (command_line_of t.dialect l)) (λ q. ends q true)
dialogue_from t room (l ∷ m ∷ ls) p =
    if nat_lt room (length l + 1) then ends p false else (if is_quit (command_line_of t.dialect l) then ends p true
    else answers (answer_to t p (command_line_of t.dialect l)) (dialogue_from t (room - (length l + 1)) (m ∷ ls)))

-- the whole of it, from a position on, without breakpoints
abbrev pub dialogue_of : TimelineData → ℕ → List ℕ → Dialogue
dialogue_of t at bytes = dialogue_from t MAX_COMMAND_BYTES (lines_of bytes) (record { at = at; breaks = [] })

-- the output got the text, the position is its last, and it came to its end, or to a line that was too large
pub record WritesDialogue (d : Dialogue) (whole : Bool) (old new : Option (List ℕ)) (position : ℕ) : Type 0 where
  pub fits : d.fits ≡ whole
  pub text : Appends old new d.text
  pub at : position ≡ d.at
