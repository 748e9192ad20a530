-- Keys one after another.
use Rattle.std.proofs.Common.{◌≡◌, ◌≢◌, ℕ, ◌+◌, ◌<◌, List, [], ◌∷◌, ◌++◌, length, get_or, drop, refl, sym, ap, ◌∙◌, subst, add-one, drop-cons}
use Rattle.std.proofs.lemmas.List.{append_assoc, append-nil}
use Rattle.engine_base.specs.declared.outcome.Outcome.TheVariants as outcome
use Rattle.engine_base.specs.declared.step.Act.TheVariants as act
use Rattle.engine_base.specs.declared.step.Reply.TheVariants as reply
use Rattle.engine_base.specs.History.{Entries}
use Rattle.shell_model.specs.Walks.{step_of}
use Rattle.quiet_run.specs.Outcomes.{Outcome, outcome_from}
use Rattle.quiet_run.specs.QuietWalks.{IsQuietWalk, AreQuietWalks, BeginQuietWalks}

pub drop_key : (ks : List ℕ) (i d : ℕ) → i < length ks → drop i ks ≡ get_or ks i d ∷ drop (i + 1) ks
drop_key ks i d h = rw (add-one, drop-cons ks i d)

module _ (n : ℕ) where
  -- walks of keys that miss, and of which the round finds another worker at it
  pub finish_keys : (ks : List ℕ) → (es : Entries) × (os : List Outcome) × AreQuietWalks n ks os es
  finish_keys [] = ([], [], refl)
  finish_keys (k ∷ ks) =
      let one : Entries = record { step = step_of 0 (act.Look k); reply = reply.Miss } ∷ record { step = step_of 0 (act.Put k); reply = reply.WritesFull } ∷ record { step = step_of 0 act.Begin; reply = reply.Busy } ∷ [] in
      let more : (es : Entries) × (os : List Outcome) × AreQuietWalks n ks os es = finish_keys ks in
      (one ++ more.0, outcome_from outcome.Kept one ∷ more.1, (one, more.0, refl, (refl, (refl, (refl, refl))), refl, more.2))

-- what the keys ks still add completes the walks of all
abbrev pub Lacks : ℕ → List ℕ → List ℕ → List Outcome → Entries → Type 0
Lacks n all ks os es = (ps : List Outcome) (rest : Entries) → AreQuietWalks n ks ps rest → AreQuietWalks n all (os ++ ps) (es ++ rest)

pub one_key : (n : ℕ) (all ks more : List ℕ) (k : ℕ) (os : List Outcome) (o : Outcome) → ks ≡ k ∷ more → (a b : Entries) → Lacks n all ks os a → IsQuietWalk n k b → o ≡ outcome_from outcome.Kept b
    → Lacks n all more (os ++ o ∷ []) (a ++ b)
one_key n all ks more k os o e a b f h g ps rest m =
    let next : AreQuietWalks n (k ∷ more) (o ∷ ps) (b ++ rest) = (b, rest, refl, h, g, m) in
    let whole : AreQuietWalks n all (os ++ o ∷ ps) (a ++ (b ++ rest)) = f (o ∷ ps) (b ++ rest) (subst (λ (x : List ℕ). AreQuietWalks n x (o ∷ ps) (b ++ rest)) (sym e) next) in
    subst (λ (x : List Outcome). AreQuietWalks n all x ((a ++ b) ++ rest)) (sym (append_assoc os (o ∷ []) ps))
    (subst (λ (x : Entries). AreQuietWalks n all (os ++ o ∷ ps) x) (sym (append_assoc a b rest)) whole)

-- a walk has a first entry, and so have the walks of some keys
walk-some : (n k : ℕ) (es : Entries) → IsQuietWalk n k es → es ≢ []
walk-some n k [] h = absurd h
walk-some n k (e ∷ es) h = λ g. absurd (cc g)

longer-some : (a b : Entries) → a ≢ [] → a ++ b ≢ []
longer-some [] b h = absurd (h refl)
longer-some (e ∷ a) b h = λ g. absurd (cc g)

walks-some : (n k : ℕ) (ks : List ℕ) (os : List Outcome) (es : Entries) → AreQuietWalks n (k ∷ ks) os es → es ≢ []
walks-some n k ks [] es h = absurd h
walks-some n k ks (o ∷ os) es h = λ g. longer-some h.0 h.1 (walk-some n k h.0 h.3) (sym h.2 ∙ g)

-- where a key is left, its walk is still to come
pub cut_here : (n : ℕ) (all ks more : List ℕ) (k : ℕ) (os : List Outcome) → ks ≡ k ∷ more → (a : Entries) → Lacks n all ks os a → BeginQuietWalks n all a
cut_here n all ks more k os e a f =
    let g = finish_keys n (k ∷ more) in
    (os ++ g.1, (g.0, walks-some n k more g.1 g.0 g.2, f g.1 g.0 (subst (λ (x : List ℕ). AreQuietWalks n x g.1 g.0) (sym e) g.2)))

pub cut_key : (n : ℕ) (all ks more : List ℕ) (k : ℕ) (os : List Outcome) → ks ≡ k ∷ more → (a b : Entries) → Lacks n all ks os a → (rest : Entries) → rest ≢ [] → IsQuietWalk n k (b ++ rest) → BeginQuietWalks n all (a ++ b)
cut_key n all ks more k os e a b f rest some h =
    let g = finish_keys n more in
    let o : Outcome = outcome_from outcome.Kept (b ++ rest) in
    let whole : AreQuietWalks n all ((os ++ o ∷ []) ++ g.1) ((a ++ (b ++ rest)) ++ g.0) = one_key n all ks more k os o e a (b ++ rest) f h refl g.1 g.0 g.2 in (
      (os ++ o ∷ []) ++ g.1,
      (
        rest ++ g.0,
        longer-some rest g.0 some,
        subst (λ (x : Entries). AreQuietWalks n all ((os ++ o ∷ []) ++ g.1) x)
            (append_assoc a (b ++ rest) g.0 ∙ ap (λ (x : Entries). a ++ x) (append_assoc b rest g.0) ∙ sym (append_assoc a b (rest ++ g.0))) whole,
      ),
    )

pub all_keys : (n : ℕ) (all ks : List ℕ) (os : List Outcome) (es : Entries) → ks ≡ [] → Lacks n all ks os es → AreQuietWalks n all os es
all_keys n all ks os es e f =
    subst (λ (x : Entries). AreQuietWalks n all os x) (append-nil es)
    (subst (λ (x : List Outcome). AreQuietWalks n all x (es ++ [])) (append-nil os) (f [] [] (subst (λ (x : List ℕ). AreQuietWalks n x [] []) (sym e) refl)))
