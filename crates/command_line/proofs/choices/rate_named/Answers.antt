use Rattle.std.proofs.Common.{◌∙◌, ◌≡◌, ◌≤◌, ap, find, nat_le, option_map, refl, subst, sym, arith, Bool, true, ℕ, List, [], ◌∷◌, IfSome}
use Rattle.std.specs.List.{list_all}
use Rattle.std.specs.Str.{bytes_eq}
use Rattle.std.proofs.lemmas.Bool.Decides.{nat_tests}
use Rattle.clap.specs.Words.{Text}
use Rattle.command_line.specs.Choices.{rate_named as rate_by, rates}
use Rattle.command_line.proofs.choices.rate_named.Goals as goal

-- what is found of numbers that are all 2 or more
found_from_2 : (rows : List (Text × ℕ)) (test : Text × ℕ → Bool) → list_all (λ rate. nat_le 2 rate.1) rows ≡ true
    → IfSome (option_map (λ rate. rate.1) (find test rows)) (λ inverse. 2 ≤ inverse)
found_from_2 [] test all = tt
found_from_2 (rate ∷ rows) test all = grind (arith, nat_tests, found_from_2 rows test)

pub returns-clause-value : goal.returns-clause-value
unfolding rate_by
returns-clause-value c = c.first_rate.ensures
    ∙ ap (λ rows. option_map (λ rate. rate.1) (find (λ rate. bytes_eq c.args.word.now rate.0) rows)) c.rates.ensures

pub returns-clause-some : goal.returns-clause-some
unfolding rate_by
returns-clause-some c = subst (λ r. IfSome r (λ inverse. 2 ≤ inverse)) (sym (returns-clause-value c))
    (found_from_2 rates (λ rate. bytes_eq c.args.word.now rate.0) refl)
