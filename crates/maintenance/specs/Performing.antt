-- What performing an act makes, and which acts may be out of memory.
use Rattle.std.specs.Prelude.{◌≡◌, ℕ, ◌≤◌, Option, Some, None}
use Rattle.engine_base.specs.declared.step.Act.TheVariants.{Put, DrainRead, DrainWrite}
pub use Rattle.shell_model.specs.declared.holder.Holder.{Holder}
use Rattle.shell_model.specs.declared.record.Change.{Change}
use Rattle.shell_model.specs.Changes.{after_change}
use Rattle.shell_model.specs.Shell.{Reply, Act, Shell, act_reply}

-- what the change leaves; the shell as it was where the act may not come now
abbrev pub after_reply : Option (Reply × Change) → Shell → Shell
after_reply None x = x
after_reply (Some p) x = after_change p.1 x

-- the reply of worker w's act and what it changed
abbrev pub IsPerformed : ℕ → Act → Shell → Option (Reply × Change) → Shell → Type 0
IsPerformed w a old o new = (act_reply w a old ≡ o) × (new ≡ after_reply o old)

-- a task more may be applied
abbrev pub HasTask : Option Holder → Type 0
HasTask None = Unit {0}
HasTask (Some h) = 1 ≤ h.left

-- the act may be out of memory: it takes room for a node of the table, for an item of the queues, or for what a halving
-- of the sketch lost
abbrev pub MayAllocate : Act → Type 0
MayAllocate (Put k) = Unit {0}
MayAllocate (DrainRead s) = Unit {0}
MayAllocate DrainWrite = Unit {0}
MayAllocate a = ⊥
