-- The window's size changed by one item after the other: what it comes to at once.
use Rattle.std.specs.Prelude.{◌≡◌, ℕ, suc, zero, ◌+◌, ◌-◌, ◌≤◌, length, nat_lt, if◌then◌else◌}
use Rattle.segments.specs.declared.records.Queue.TheVariants.{Window, Probation, Protected}
use Rattle.segments.specs.Queues.{Queues}
use Rattle.segments.specs.Runs.{queues_after_run}
use Rattle.replacement.specs.Counts.{main_length}
use Rattle.queue_cache.specs.Climber.{ClimbRules, AreClimbRules}
use Rattle.queue_cache.specs.Resizing.{Rules, max_size_change, size_towards}
use Rattle.queue_cache.specs.AdaptiveWindow.{rules_at, queues_resized}

-- queues, and the window's size in force
pub record Sized : Type 0 where
  pub size : ℕ
  pub queues : Queues

-- the queues are within what a window of a size leaves them
pub record IsWithin (r : ClimbRules) (size : ℕ) (s : Queues) : Type 0 where
  pub window : length s.window ≤ size
  pub main : size + main_length s ≤ r.capacity
  pub protected : length s.protected ≤ r.largest - size

-- where protected is over its size, its oldest item goes to probation
abbrev pub demotion : Rules → Queues → Queues
demotion r s = if nat_lt r.protected (length s.protected) then queues_after_run 1 Protected Probation s else s

-- where the main part is over what the window leaves it, probation's oldest goes to the window
abbrev pub loan : Rules → Queues → Queues
loan r s = if nat_lt (r.capacity - r.window) (main_length s) then queues_after_run 1 Probation Window s else s

-- where the window is over its size, its oldest goes to probation
abbrev pub handing_back : Rules → Queues → Queues
handing_back r s = if nat_lt r.window (length s.window) then queues_after_run 1 Window Probation s else s

-- one step towards the target
abbrev pub step_towards : ClimbRules → ℕ → Sized → Sized
step_towards r target x =
    if nat_lt x.size target
    then record { size = x.size + 1; queues = loan (rules_at r (x.size + 1)) (demotion (rules_at r (x.size + 1)) x.queues) }
    else if nat_lt target x.size
    then record { size = x.size - 1; queues = handing_back (rules_at r (x.size - 1)) x.queues }
    else x

unfoldable pub steps_towards : ℕ → ClimbRules → ℕ → Sized → Sized
steps_towards zero r target x = x
steps_towards (suc n) r target x = steps_towards n r target (step_towards r target x)

-- What follows a change of the window's size is what its steps come to, each by one item.
abbrev pub ChangesBySteps : Type 0
ChangesBySteps = (r : ClimbRules) (target : ℕ) (x : Sized) → AreClimbRules r → target ≤ r.largest → IsWithin r x.size x.queues
    → steps_towards max_size_change r target x
    ≡ record { size = size_towards target x.size; queues = queues_resized r target x.size x.queues }
