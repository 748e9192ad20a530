-- A `u64` is read from a text just where `number_named` gives a number, and it is that one.
use Rattle.std.proofs.Common.{◌≡◌, ap, refl, arith, List, ℕ, Bool, true, false, Some, None, Option, Result, Ok, Err}
use Rattle.std.specs.Prelude.{option_and_then}
use Rattle.std.specs.Result.{result_ok}
use Rattle.std.specs.Str.Parse.{ExplainsUnsignedError, HasUnsignedDigitsIfOk, ParsesUnsigned}
use Rattle.std.specs.declared.num.ParseIntError.{ParseIntError}
use Rattle.clap.specs.Words.{ReadsOne}
use Rattle.clap.specs.ValueTests.{is_unsigned_in}
use Rattle.clap.specs.declared.builder.value_parser.ValueParser.TheVariants as parser
use Rattle.clap.proofs.ValueTestLemmas.{Accepts-accepts, accepts-Accepts}
use Rattle.command_line.specs.Numbers.{number_named}

abbrev most : ℕ
most = 18446744073709551615

taken : (t : List ℕ) (v : ℕ) → ParsesUnsigned {E = ParseIntError} 64 10 t (Ok v) → Some v ≡ number_named t
unfolding number_named
taken t v g =
    let yes : is_unsigned_in 0 most t ≡ true = Accepts-accepts false (parser.Unsigned 0 most) t (g.0.0, omega (arith, g.0.1), omega arith, omega (arith, g.0.1)) in
    rw yes (ap Some g.1)

refused : (t : List ℕ) (bad : ParseIntError) → ParsesUnsigned 64 10 t (Err bad) → (b : Bool) → is_unsigned_in 0 most t ≡ b → None ≡ number_named t
unfolding number_named
refused t bad g true e = let a = accepts-Accepts false (parser.Unsigned 0 most) t e in absurd (g (a.0, omega (arith, a.3)))
refused t bad g false e = rw e refl

-- as `u64`'s `from_str` reads a text
abbrev Reads : List ℕ → Result ℕ ParseIntError → Type 0
Reads t r = ParsesUnsigned 64 10 t r × ExplainsUnsignedError 10 t r × HasUnsignedDigitsIfOk t r

pub parsed : (t : List ℕ) (r : Result ℕ ParseIntError) → Reads t r → result_ok r ≡ number_named t
parsed t (Ok v) g = taken t v g.0
parsed t (Err e) g = refused t e g.0 (is_unsigned_in 0 most t) refl

pub reads : (o : Option (List ℕ)) (r : Option ℕ) → (o ≡ None → r ≡ None) → ((t : List ℕ) → o ≡ Some t → ReadsOne Reads t r)
    → r ≡ option_and_then number_named o
reads None r none value = none refl
reads (Some t) (Some v) none value = taken t v (value t refl).0
reads (Some t) None none value = let g = value t refl in refused t g.0 g.1.0 (is_unsigned_in 0 most t) refl
