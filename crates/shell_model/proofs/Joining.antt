-- Walks one after another.
use Rattle.std.proofs.Common.{◌≡◌, ◌≢◌, ℕ, ◌+◌, ◌<◌, List, [], ◌∷◌, ◌++◌, length, get_or, drop, refl, sym, ap, ◌∙◌, subst, add-one, drop-cons}
use Rattle.std.proofs.lemmas.List.{append_assoc, append-nil}
use Rattle.engine_base.specs.History.{Entries}
use Rattle.shell_model.specs.Walks.{Call, IsWalk, AreWalks}
use Rattle.shell_model.specs.WorkerEntries.{Made, IsUnfinished}
use Rattle.shell_model.proofs.Finishing.{finish_calls}

-- entries after entries
pub joined : (P Q R : Entries → Type 0) (o o1 o2 : Entries) → Made P o o1 → Made Q o1 o2 → ((a b : Entries) → P a → Q b → R (a ++ b)) → Made R o o2
joined P Q R o o1 o2 m n f = record {
  made = m.made ++ n.made;
  entered = n.entered ∙ ap (λ l. l ++ n.made) m.entered ∙ append_assoc o m.made n.made;
  holds = f m.made n.made m.holds n.holds;
}

pub drop_item : (cs : List Call) (i : ℕ) (d : Call) → i < length cs → drop i cs ≡ get_or cs i d ∷ drop (i + 1) cs
drop_item cs i d h = rw (add-one, drop-cons cs i d)

some_left : (es fs : Entries) → es ≢ [] → es ++ fs ≢ []
some_left [] fs some none = some refl
some_left (e ∷ es) fs some none = absurd (cc (none))

module _ (w : ℕ) (n : ℕ) (cs : List Call) where
  -- what the calls from the place i on add completes the walks
  abbrev pub Lacks : List Call → Entries → Type 0
  Lacks ds es = (rest : Entries) → AreWalks w n ds rest → AreWalks w n cs (es ++ rest)

  pub one_walk : (ds ds' : List Call) (c : Call) → ds ≡ c ∷ ds' → (a b : Entries) → Lacks ds a → IsWalk w n c b → Lacks ds' (a ++ b)
  one_walk ds ds' c e a b f h rest more =
      let P : Entries → Type 0 = λ x. AreWalks w n cs x in
      let Q : List Call → Type 0 = λ x. AreWalks w n x (b ++ rest) in
      let all : AreWalks w n (c ∷ ds') (b ++ rest) = (b, rest, refl, h, more) in
      subst P (sym (append_assoc a b rest)) (f (b ++ rest) (subst Q (sym e) all))

  pub cut_walk : (ds ds' : List Call) (c : Call) → ds ≡ c ∷ ds' → (a b : Entries) → Lacks ds a → IsUnfinished (IsWalk w n c) b → IsUnfinished (AreWalks w n cs) (a ++ b)
  cut_walk ds ds' c e a b f h =
      let later : (es : Entries) × AreWalks w n ds' es = finish_calls w n ds' in
      let rest : Entries = h.0 ++ later.0 in
      let P : Entries → Type 0 = λ x. AreWalks w n cs x in
      let Q : List Call → Type 0 = λ x. AreWalks w n x ((b ++ h.0) ++ later.0) in
      let all : AreWalks w n (c ∷ ds') ((b ++ h.0) ++ later.0) = (b ++ h.0, later.0, refl, h.2, later.1) in
      let whole : AreWalks w n cs (a ++ ((b ++ h.0) ++ later.0)) = f ((b ++ h.0) ++ later.0) (subst Q (sym e) all) in
      (rest, some_left h.0 later.0 h.1, subst P (ap (λ x. a ++ x) (append_assoc b h.0 later.0) ∙ sym (append_assoc a b rest)) whole)

  pub all_walks : (ds : List Call) → ds ≡ [] → (es : Entries) → Lacks ds es → AreWalks w n cs es
  all_walks ds e es f =
      let P : Entries → Type 0 = λ x. AreWalks w n cs x in
      let Q : List Call → Type 0 = λ x. AreWalks w n x [] in
      subst P (append-nil es) (f [] (subst Q (sym e) refl))
