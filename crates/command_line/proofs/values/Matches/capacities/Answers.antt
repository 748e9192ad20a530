use Rattle.std.proofs.Common.{◌≡◌, ℕ, Some, true}
use Rattle.std.specs.Borrow.{Bor}
use Rattle.clap.specs.Words.{Text}
use Rattle.engine_base.specs.Config.{is_from_one}
use Rattle.engine_base.specs.declared.limits.TheConstants.{MAX_CAPACITY}
use Rattle.command_line.specs.Values.{value_named}
use Rattle.command_line.specs.declared.options.OptionName.TheVariants.{Capacities}
use Rattle.command_line.proofs.Naming.{answered, each}
use Rattle.command_line.proofs.values.Matches.capacities.Goals as goal

fits : (n : ℕ) → (word : Bor Text) × ((Some n ≡ value_named Capacities word.now) × (is_from_one MAX_CAPACITY n ≡ true)) → is_from_one MAX_CAPACITY n ≡ true
fits n given = given.1.1

pub returns : goal.returns
returns c =
    answered _ _ c.named.result (c.named.ensures.named (value_named Capacities) (λ word thing h. h.0))
    (each _ (λ n. is_from_one MAX_CAPACITY n ≡ true) fits c.named.result c.named.ensures.each)
