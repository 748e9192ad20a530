-- What the first words name.
use Rattle.std.proofs.Common.{◌≡◌, ◌<◌, ◌+◌, ℕ, zero, suc, refl, arith, Result, Ok, Err, List, [], ◌∷◌, ◌++◌, length, take, map, slice_index_or, Option, Some, None, ap}
use Rattle.std.specs.Prelude.{IfOk, option_map}
use Rattle.std.specs.Borrow.{Bor}
use Rattle.std.specs.List.{All}
use Rattle.std.proofs.lemmas.List.Elements.{All-weaker}
use Rattle.clap.specs.Words.{Text}
use Rattle.command_line.specs.Choices.{all_named, and_more}
use Rattle.command_line.specs.Values.{ValueFault, Answers, AnswersWith}
use Rattle.command_line.specs.declared.fault.ValueFault.TheVariants.{Incomplete, OutOfMemory}

module _ {A : Type 0} (named : Text → Option A) where
  one-more : (o : Option A) (m next : Option (List A)) (q : A)
      → ((qs : List A) → m ≡ Some qs → next ≡ Some (qs ++ q ∷ []))
      → (ps : List A) → and_more o m ≡ Some ps → and_more o next ≡ Some (ps ++ q ∷ [])
  one-more None m next q h ps e = absurd (cc e)
  one-more (Some p) None next q h ps e = absurd (cc e)
  one-more (Some p) (Some qs) next q h ps e = rw (h qs refl) (ap (option_map (λ xs. xs ++ q ∷ [])) e)

  -- one word more names one thing more
  pub named-next : (words : List (Bor Text)) (d : Bor Text) (i : ℕ) (ps : List A) (q : A) → i < length words
      → all_named named (map (λ s. s.now) (take i words)) ≡ Some ps → named (slice_index_or words i d).now ≡ Some q
      → all_named named (map (λ s. s.now) (take (i + 1) words)) ≡ Some (ps ++ q ∷ [])
  named-next [] d i ps q h e n = absurd (omega arith)
  named-next (w ∷ words) d zero ps q h e n = rw n (ap (option_map (λ xs. xs ++ q ∷ [])) e)
  named-next (w ∷ words) d (suc i) ps q h e n =
      let s : suc i + 1 ≡ suc (i + 1) = omega arith in
      rw s (one-more (named w.now) (all_named named (map (λ s. s.now) (take i words))) (all_named named (map (λ s. s.now) (take (i + 1) words))) q
      (λ qs g. named-next words d i qs q (omega arith) g n) ps e)

  none-more : (o : Option A) → and_more o None ≡ None
  none-more None = refl
  none-more (Some p) = refl

  -- one word that names nothing is enough
  pub named-none : (words : List (Bor Text)) (d : Bor Text) (i : ℕ) → i < length words → named (slice_index_or words i d).now ≡ None
      → all_named named (map (λ s. s.now) words) ≡ None
  named-none [] d i h n = absurd (omega arith)
  named-none (w ∷ words) d zero h n = rw n refl
  named-none (w ∷ words) d (suc i) h n = rw (named-none words d i (omega arith) n) (none-more (named w.now))

-- the answer, and what is known of the value where there is one
pub answered : {A : Type 0} (asked : Option A) (P : A → Type 0) (r : Result A ValueFault) → AnswersWith asked r → IfOk r P → Answers asked P r
answered asked P (Ok x) a h = (a.0, h)
answered asked P (Err Incomplete) a h = a
answered asked P (Err OutOfMemory) a h = tt

-- what holds of each thing of a list holds where more does
pub each : {A : Type 0} (P Q : A → Type 0) → ((x : A) → P x → Q x) → (r : Result (List A) ValueFault) → IfOk r (All P) → IfOk r (All Q)
each P Q f (Ok xs) h = All-weaker P Q f xs h
each P Q f (Err e) h = tt
