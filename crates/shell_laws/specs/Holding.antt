-- When a worker holds the maintenance.
use Rattle.std.specs.Prelude.{◌≡◌, Bool, true, false, is_some}
use Rattle.engine_base.specs.declared.drain.Drain.TheVariants.{Idle, Required, ToIdle, ToRequired}
use Rattle.shell_model.specs.Shell.{Drain, Shell}
use Rattle.shell_model.specs.ReachableShell.{IsReachable}

-- whether maintenance is under way, by the drain state
abbrev pub is_draining : Drain → Bool
is_draining Idle = false
is_draining Required = false
is_draining ToIdle = true
is_draining ToRequired = true

-- A worker holds the maintenance exactly where the drain state is ToIdle or ToRequired.
abbrev pub HolderLaw : Type 0
HolderLaw = (x : Shell) → IsReachable x → is_some x.holder ≡ is_draining x.drain
