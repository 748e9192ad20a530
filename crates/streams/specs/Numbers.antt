-- Numbers in decimal.
use Rattle.std.specs.Prelude.{◌^◌, ◌&&◌, ℕ, List, Option, Some, None, length, nat_lt, if◌then◌else◌}
use Rattle.std.specs.Str.{all_ascii_digits}
use Rattle.std.specs.Str.Parse.{digits_value}

-- one or more digits, leading zeros allowed, of a value below 2^64
unfoldable pub number_of : List ℕ → Option ℕ
number_of ds =
    if nat_lt 0 (length ds) && (all_ascii_digits ds && nat_lt (digits_value 10 ds) (2 ^ 64))
    then Some (digits_value 10 ds) else None
