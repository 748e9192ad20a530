-- W-TinyLFU with an adaptive window: each access goes by the table of moves, at the window's size in force. Then the
-- size in force goes to the climber's target, and the queues follow it. So at each access the cache is that of a fixed
-- window of the size in force.
use Rattle.std.specs.Prelude.{ℕ, ◌+◌, ◌-◌, ◌*◌, ◌≤◌, nat_lt, Bool, if◌then◌else◌, length}
use Rattle.engine_base.specs.Stats.{is_hit}
pub use Rattle.engine_base.specs.declared.item.Item.{Item}
pub use Rattle.engine_base.specs.declared.outcome.Outcome.{Outcome}
use Rattle.segments.specs.Queues.{Queues, empty_queues, IsDistinct}
use Rattle.replacement.specs.declared.rules.Placement.TheVariants.{Windowed}
pub use Rattle.replacement.specs.declared.rules.Rules.{Rules}
use Rattle.replacement.specs.Counts.{main_length}
use Rattle.replacement.specs.Table.{Response, access}
use Rattle.queue_cache.specs.Climber.{Climber, distance, climber_after, first_climber, IsClimber}
use Rattle.queue_cache.specs.Resizing.{max_size_change, size_towards, queues_after_growth, queues_after_shrinking}
pub use Rattle.queue_cache.specs.declared.climber.ClimbRules.{ClimbRules}

pub record AdaptiveState : Type 0 where
  pub queues : Queues
  -- the window's size in force
  pub size : ℕ
  pub climber : Climber

-- what contracts see of an AdaptiveWindow: its rules, its state, and for how many more items it has room
pub record ShownWindow : Type 0 where
  pub rules : ClimbRules
  pub state : AdaptiveState
  pub spare : ℕ

-- an empty cache, whose window has this size at first
abbrev pub empty_adaptive : ClimbRules → ℕ → AdaptiveState
empty_adaptive r size = record { queues = empty_queues; size = size; climber = first_climber r size }

-- the rules of a window of a size: what it has more, protected has less
abbrev pub rules_at : ClimbRules → ℕ → Rules
rules_at r size = record {
  capacity = r.capacity;
  window = size;
  protected = r.largest - size;
  placement = Windowed;
}

-- ---- the window's size goes to the target

-- the queues after that, at the rules of the size after it
abbrev pub queues_resized : ClimbRules → ℕ → ℕ → Queues → Queues
queues_resized r target size s =
    if nat_lt size target
    then queues_after_growth (rules_at r (size_towards target size)) s
    else if nat_lt target size then queues_after_shrinking (rules_at r (size_towards target size)) s else s

-- ---- an access

-- what the access comes to by the table of moves
abbrev pub response_of : ClimbRules → (ℕ → ℕ → Bool) → Item → AdaptiveState → Response
response_of r admits i s = access (rules_at r s.size) admits i s.queues

abbrev pub resized : ClimbRules → Climber → ℕ → Queues → AdaptiveState
resized r climber size s = record {
  queues = queues_resized r climber.target size s;
  size = size_towards climber.target size;
  climber = climber;
}

abbrev pub adaptive_after : ClimbRules → Response → AdaptiveState → AdaptiveState
adaptive_after r a s = resized r (climber_after r (is_hit a.outcome) s.climber) s.size a.queues

-- an access to an item, where a candidate is admitted against a victim or not: its outcome, and the state
-- after it
abbrev pub adaptive_act : ClimbRules → (ℕ → ℕ → Bool) → Item → AdaptiveState → Outcome × AdaptiveState
adaptive_act r admits i s =
    ((response_of r admits i s).outcome, adaptive_after r (response_of r admits i s) s)

-- ---- what holds of it

-- a state of a cache by these rules
pub record IsAdaptive (r : ClimbRules) (s : AdaptiveState) : Type 0 where
  pub distinct : IsDistinct s.queues
  pub window : length s.queues.window ≤ s.size
  pub main : s.size + main_length s.queues ≤ r.capacity
  pub protected : length s.queues.protected ≤ r.largest - s.size
  pub least : 1 ≤ s.size
  pub most : s.size ≤ r.largest
  pub climber : IsClimber r s.climber
  -- the size in force is so near the target that the changes of so many accesses reach it
  pub near : distance s.climber.target s.size ≤ r.capacity - max_size_change * s.climber.accesses
