-- A text cut at a byte.
use Rattle.std.specs.Prelude.{◌≡◌, ◌==◌, ℕ, Bool, false, List}
use Rattle.std.specs.List.{All, position_or_len}

abbrev pub is_byte : ℕ → ℕ → Bool
is_byte byte b = b == byte

-- where the byte first stands, or the length
abbrev pub byte_place : ℕ → List ℕ → ℕ
byte_place byte = position_or_len (is_byte byte)

-- the byte is not in the text
abbrev pub Lacks : ℕ → List ℕ → Type 0
Lacks byte text = All (λ b. is_byte byte b ≡ false) text
