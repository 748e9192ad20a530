-- A shell just opened, and what its readers show.
use Rattle.std.specs.Prelude.{◌≡◌, ℕ}
pub use Rattle.engine_base.specs.declared.config.Config.{Config}
pub use Rattle.engine_base.specs.declared.drain.Phase.{Phase}
use Rattle.admission.specs.Shape.{Shape}
pub use Rattle.shell_model.specs.declared.holder.Holder.{Holder}
use Rattle.shell_model.specs.Shell.{Shell}
use Rattle.shell_model.specs.Laws.{empty_shell, IsShapeOf}

-- the empty state of the configuration
pub record IsOpened (c : Config) (x : Shell) : Type 0 where
  pub shape : Shape
  pub shape_is : IsShapeOf c shape
  pub is : x ≡ empty_shell c shape

-- a holder's worker, phase and tasks left
abbrev pub holder_parts : Holder → ℕ × Phase × ℕ
holder_parts h = (h.worker, h.phase, h.left)
