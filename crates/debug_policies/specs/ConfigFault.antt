-- Which configuration a debugger refuses.
use Rattle.std.specs.Prelude.{◌≡◌, ℕ, Option, Some, None, Result, Err}
pub use Rattle.debug_commands.specs.declared.fault.DebugFault.{DebugFault}
use Rattle.debug_commands.specs.declared.fault.DebugFault.TheVariants as debug
pub use Rattle.policies.specs.declared.actor_fault.ActorFault.{ActorFault}
use Rattle.policies.specs.declared.actor_fault.ActorFault.TheVariants as actor

-- a configuration that is refused is reported by its index; where none is, no index is reported
abbrev pub ReturnsConfig : Option ActorFault → Result (Unit {0}) DebugFault → Type 0
ReturnsConfig None r = (i : ℕ) → r ≡ Err (debug.Config i) → ⊥
ReturnsConfig (Some (actor.Config i)) r = r ≡ Err (debug.Config i)
ReturnsConfig (Some f) r = ⊥

-- the two hold after a refused configuration
abbrev pub UntouchedAtConfig : Type 0 → Type 0 → DebugFault → Type 0
UntouchedAtConfig A B (debug.Config i) = A × B
UntouchedAtConfig A B f = Unit {0}
