-- Which configurations are accepted. The ranges are defined by this project.
use Rattle.std.specs.Prelude.{ℕ, Bool, ◌&&◌, nat_le, Result, Ok, Err, if◌then◌else◌}
use Rattle.std.specs.Int.{is_power_of_two}
use Rattle.engine_base.specs.declared.config.Config.{Config}
use Rattle.engine_base.specs.declared.config.ConfigFault.{ConfigFault}
use Rattle.engine_base.specs.declared.config.ConfigFault.TheVariants.{Capacity, MainPercent, Stripes, JournalLimit}
use Rattle.engine_base.specs.declared.limits.TheConstants.{MAX_CAPACITY, MAX_JOURNAL_LIMIT, MAX_MAIN_PERCENT}
use Rattle.engine_base.specs.declared.limits.TheConstants.{MAX_STRIPES}

-- from 1 to the limit
abbrev pub is_from_one : ℕ → ℕ → Bool
is_from_one limit n = nat_le 1 n && nat_le n limit

-- the first number that is out of its range
abbrev pub config_fault : Config → Result (Unit {0}) ConfigFault
config_fault c =
    if is_from_one MAX_CAPACITY c.capacity then
    if nat_le c.main_percent MAX_MAIN_PERCENT then
    if is_power_of_two c.stripes && nat_le c.stripes MAX_STRIPES then
    if is_from_one MAX_JOURNAL_LIMIT c.journal_limit then Ok tt
    else Err JournalLimit else Err Stripes else Err MainPercent else Err Capacity
