-- What a policy of queues goes by: its sizes, and where new items go. The shares are defined by this
-- project; a window before a segmented main part is Caffeine's.
use Rattle.std.specs.Prelude.{ℕ, ◌*◌, ◌/◌, ◌-◌}
pub use Rattle.engine_base.specs.declared.config.Config.{Config}
use Rattle.segments.specs.declared.records.Queue.TheVariants.{Window, Probation}
use Rattle.replacement.specs.declared.rules.Placement.TheVariants.{Direct, Windowed}
use Rattle.replacement.specs.declared.rules.Rules.{Rules}

-- how many items the main part holds
abbrev pub main_size : Config → ℕ
main_size c = c.capacity * c.main_percent / 100

-- how many items of a part of size n its protected queue holds
abbrev pub protected_size : ℕ → ℕ
protected_size n = n * 80 / 100

-- one queue
abbrev pub one_queue : Config → Rules
one_queue c = record { capacity = c.capacity; window = 0; protected = 0; placement = Direct Window }

-- probation and protected
abbrev pub two_queues : Config → Rules
two_queues c = record {
  capacity = c.capacity;
  window = 0;
  protected = protected_size c.capacity;
  placement = Direct Probation;
}

-- a window before probation and protected
abbrev pub three_queues : Config → Rules
three_queues c = record {
  capacity = c.capacity;
  window = c.capacity - main_size c;
  protected = protected_size (main_size c);
  placement = Windowed;
}
