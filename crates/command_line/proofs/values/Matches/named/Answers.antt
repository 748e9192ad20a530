use Rattle.std.proofs.Common.{◌≡◌, ◌∙◌, List, [], ◌∷◌, ◌++◌, Option, Some, sym, subst, arith, refl}
use Rattle.std.specs.List.{All}
use Rattle.std.proofs.lemmas.Grind.{common_steps}
use Rattle.std.proofs.lemmas.List.Elements.{All-push}
use Rattle.command_line.proofs.Naming.{named-next, named-none}
use Rattle.command_line.proofs.values.Matches.named.Goals as goal

-- one thing more, which was given for a word
given : {A W : Type 0} (gives : W → Option A → Type 0) (xs : List A) (word : W) (x : A) (o : Option A) → All (λ y. (w : W) × gives w (Some y)) xs
    → gives word o → o ≡ Some x → All (λ y. (w : W) × gives w (Some y)) (xs ++ x ∷ [])
given {A} {W} gives xs word x o all gave is = All-push (λ y. (w : W) × gives w (Some y)) xs x all (word, subst (gives word) is gave)

pub returns-in_default-clause-named : goal.returns-in_default-clause-named
returns-in_default-clause-named g c = λ by h. rw (← c.words.ensures, c.in_default.is) refl

pub returns-in_default-name-clause-named : goal.returns-in_default-name-clause-named
returns-in_default-name-clause-named g c = λ by h. rw (← c.words.ensures, c.in-Some.is) (named-none by c.in-Some.words.now _ c.loop-word.word-index
    (omega arith) (sym (h _ _ c.name.ensures) ∙ c.in_default-name.is))

pub returns-clause-named : goal.returns-clause-named
returns-clause-named g c = λ by h. rw (← c.words.ensures, c.in-Some.is) (grind (arith, common_steps, c.loop-word.invariant.1 by h))

pub loop-word-preserved : goal.loop-word-preserved
loop-word-preserved g c = (
  c.loop-word.invariant.0,
  λ by h. rw (c.in_ok-push.ensures.items) (named-next by c.in-Some.words.now _ c.loop-word.word-index
      _ _ (omega arith) (c.loop-word.invariant.1 by h) (sym (h _ _ c.name.ensures) ∙ c.in-Some-name.is)),
  rw (c.in_ok-push.ensures.items) (given (goal.F-post g c.args.name) c.loop-word.named.items _ _ _ c.loop-word.invariant.2 c.name.ensures c.in-Some-name.is),
)
