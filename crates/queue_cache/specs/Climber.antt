-- How large the window is to be, found by trying (the hill climber of Caffeine's BoundedLocalCache, in whole numbers). After
-- each period of accesses its hits are compared with those of the period before. If they fell, the direction turns. The
-- target then moves by the step. The step is that of the rules at first and where the hit ratio changed by 5 points or
-- more, and else decays by a fiftieth.
use Rattle.std.specs.Prelude.{ℕ, ◌+◌, ◌-◌, ◌*◌, ◌/◌, ◌≤◌, ◌<◌, ◌^◌, max, min, nat_lt, nat_le, ◌==◌}
use Rattle.std.specs.Prelude.{Bool, false, not, if◌then◌else◌, Option, Some, None}
use Rattle.engine_base.specs.declared.limits.TheConstants.{MAX_CAPACITY}
use Rattle.engine_base.specs.Stats.{one_if}
pub use Rattle.queue_cache.specs.declared.climber.ClimbRules.{ClimbRules}
pub use Rattle.queue_cache.specs.declared.climber.Climber.{Climber}

-- the window at first, where the main part is to have so many hundredths
abbrev pub first_window : ℕ → ℕ → ℕ
first_window c main = c - c * main / 100

-- how many accesses a period has: as many as are chosen, but one for each item at least, or ten for each item
abbrev pub period_of : ℕ → Option ℕ → ℕ
period_of c None = 10 * c
period_of c (Some n) = max n c

-- those of Caffeine, for a capacity, a main part at first and a period that may be chosen: a step is a sixteenth of the
-- capacity
abbrev pub caffeine_rules : ℕ → ℕ → Option ℕ → ClimbRules
caffeine_rules c main period = record {
  capacity = c;
  largest = first_window c main + (c - first_window c main) * 80 / 100;
  sample = period_of c period;
  step = c * 4096;
}

-- a period has an access for each item at least
pub record AreClimbRules (r : ClimbRules) : Type 0 where
  pub some : 1 ≤ r.largest
  pub fits : r.largest ≤ r.capacity
  pub long : r.capacity ≤ r.sample

-- and its numbers fit 64 bits, whatever is counted by them
pub record AreSmallRules (r : ClimbRules) : Type 0 where
  pub capacity : r.capacity ≤ MAX_CAPACITY
  pub sample : r.sample < 2 ^ 32
  pub step : r.step ≤ 2 ^ 32

-- ---- the numbers

-- for how many items a step is
abbrev pub items_of_step : ℕ → ℕ
items_of_step step = step / 65536

-- ---- the end of a period

abbrev pub next_grows : Climber → Bool
next_grows s = if nat_lt s.hits s.last_hits then not s.grows else s.grows

abbrev pub moved_target : ℕ → Bool → ℕ → ℕ → ℕ
moved_target most grows move target = if grows then min most (target + move) else max 1 (target - move)

abbrev pub distance : ℕ → ℕ → ℕ
distance a b = a - b + (b - a)

-- the hit ratio changed by 5 points or more
abbrev pub restarts : ClimbRules → Climber → Bool
restarts r s = nat_le r.sample (20 * distance s.hits s.last_hits)

abbrev pub next_step : ClimbRules → Climber → ℕ
next_step r s = if restarts r s then r.step else s.step * 98 / 100

abbrev pub after_period : ClimbRules → Climber → Climber
after_period r s = record {
  target = moved_target r.largest (next_grows s) (items_of_step s.step) s.target;
  grows = next_grows s;
  step = next_step r s;
  accesses = 0;
  hits = 0;
  last_hits = s.hits;
}

-- ---- an access

abbrev pub with_access : Bool → Climber → Climber
with_access hit s = record s { accesses = s.accesses + 1; hits = s.hits + one_if hit }

abbrev pub ends_period : ClimbRules → Climber → Bool
ends_period r s = s.accesses + 1 == r.sample

-- the climber after an access, which was a hit or not
abbrev pub climber_after : ClimbRules → Bool → Climber → Climber
climber_after r hit s = if ends_period r s then after_period r (with_access hit s) else with_access hit s

-- before the first access
abbrev pub first_climber : ClimbRules → ℕ → Climber
first_climber r size =
    record { target = size; grows = false; step = r.step; accesses = 0; hits = 0; last_hits = 0 }

-- ---- its record

-- the climber before the access, where a period ended
abbrev pub period_record : ClimbRules → Climber → Option Climber
period_record r s = if ends_period r s then Some s else None

-- the climber before an access
abbrev pub climber_before : Option Climber → Bool → Climber → Climber
climber_before None hit s = record s { accesses = s.accesses - 1; hits = s.hits - one_if hit }
climber_before (Some old) hit s = old

-- the counts that the access raised are above 0
abbrev pub FitsClimber : Option Climber → Bool → Climber → Type 0
FitsClimber None hit s = (1 ≤ s.accesses) × (one_if hit ≤ s.hits)
FitsClimber (Some old) hit s = Unit {0}

-- ---- what holds of it

pub record IsClimber (r : ClimbRules) (s : Climber) : Type 0 where
  pub accesses : s.accesses < r.sample
  pub hits : s.hits ≤ s.accesses
  pub last_hits : s.last_hits ≤ r.sample
  pub step : s.step ≤ r.step
  pub target : (1 ≤ s.target) × (s.target ≤ r.largest)
