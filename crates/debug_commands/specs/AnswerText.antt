-- An answer as it is carried out.
use Rattle.std.specs.Prelude.{◌≡◌, ℕ, List, ◌++◌}
use Rattle.debug_commands.specs.Answers.{CommandResponse}
pub use Rattle.debug_commands.specs.declared.breakpoint.Breakpoint.{Breakpoint}

-- the text of the response is added, and the position and the breakpoints are those that it leaves
pub record IsAnswer (r : CommandResponse) (before after : List ℕ) (position : ℕ) (points : List Breakpoint)
    : Type 0 where
  pub text : after ≡ before ++ r.text
  pub at : position ≡ r.place.at
  pub breaks : points ≡ r.place.breaks
