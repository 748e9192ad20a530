-- The numbers that texts write, and those that are values of an option.
use Rattle.std.specs.Prelude.{◌≤◌, ◌&&◌, ℕ, nat_le, Option, Some, None, if◌then◌else◌, option_and_then}
use Rattle.std.specs.Str.Parse.{digits_value, without_leading_plus}
use Rattle.clap.specs.Words.{Text}
use Rattle.clap.specs.ValueTests.{is_unsigned_in}
use Rattle.command_line.specs.Options.{ValueKind, OptionName, row_of}
use Rattle.command_line.specs.declared.options.ValueKind.TheVariants.{Number}

-- the number of 64 bits that a text writes in decimal digits: a plus may stand before them
unfoldable pub number_named : Text → Option ℕ
number_named text = if is_unsigned_in 0 18446744073709551615 text
    then Some (digits_value 10 (without_leading_plus text)) else None

-- the number, where it is in the range of the values
abbrev pub in_range : ValueKind → ℕ → Option ℕ
in_range (Number least most) n = if nat_le least n && nat_le n most then Some n else None
in_range other n = None

-- a number in the range of the values
abbrev pub IsIn : ValueKind → ℕ → Type 0
IsIn (Number least most) n = (least ≤ n) × (n ≤ most)
IsIn other n = ⊥

-- the number that a text names as a value of an option
abbrev pub value_named : OptionName → Text → Option ℕ
value_named name text = option_and_then (in_range (row_of name).value) (number_named text)
