-- What the debugger walks: steps that can be made and undone one by one.
use Rattle.std.specs.Prelude.{ℕ, List}
use Rattle.debug_commands.specs.declared.breakpoint.StepFacts.{StepFacts}
use Rattle.debug_commands.specs.declared.command.Dialect.{Dialect}
use Rattle.debug_commands.specs.declared.command.View.{View}

pub record TimelineData : Type 0 where
  pub dialect : Dialect
  -- how many steps there are
  pub end : ℕ
  -- what breakpoints look at in step n, counted from 1
  pub facts : ℕ → StepFacts
  -- what `show` prints where n steps are made
  pub shown : ℕ → List ℕ
  -- what the command of a view prints there, where the dialect has views
  pub viewed : View → ℕ → List ℕ
  -- what the dialect's own command prints there
  pub own : ℕ → List ℕ
