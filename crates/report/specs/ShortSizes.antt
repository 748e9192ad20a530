-- Sizes of few digits, as those of a report are by their types.
use Rattle.std.specs.Prelude.{ℕ, ◌<◌, ◌^◌, Option, IfSome}
use Rattle.step_record.specs.declared.sizes.Sizes.{Sizes}

abbrev pub IsShort : Option ℕ → Type 0
IsShort size = IfSome size (λ n. n < 2 ^ 32)

pub record AreShort (sizes : Sizes) : Type 0 where
  pub main : IsShort sizes.main
  pub period : IsShort sizes.period
  pub kin : IsShort sizes.kin
  pub kout : IsShort sizes.kout
  pub small : IsShort sizes.small
