-- One step of a walk, as its worker makes it.
use Rattle.std.proofs.Common.{◌≡◌, ℕ, true, Some, [], ◌∷◌, ◌++◌, refl, sym, ap, ◌∙◌, subst, Result, Ok, Err, OnErr}
use Rattle.std.proofs.lemmas.List.{append_assoc, append-nil}
use Rattle.engine_base.specs.declared.entry.Entry.{Entry}
use Rattle.engine_base.specs.Answers.{is_answer}
use Rattle.engine_base.specs.History.{Entries}
use Rattle.shell_model.specs.declared.next.Next.TheVariants as next_act
use Rattle.shell_model.specs.Walks.{Step, Reply, Call, Act, step_of, IsWalk}
use Rattle.shell_model.specs.NextActs.{Next, Local, IsAheadOf, AheadAfter, IsRestOfWalk, IsAskedNext}
use Rattle.shell_model.specs.WorkerEntries.{Made, IsUnfinished}
use Rattle.shell_model.proofs.Asking.{not_over}
use Rattle.shell_model.proofs.Finishing.{finish}

-- where a worker stands its walk is not over
pub not_done : (l : Local) → IsAheadOf l [] → ⊥
not_done l h = not_over l.worker l.stripes l.act l.drained h

-- and can be completed
pub completion : (l : Local) → (es : Entries) × IsAheadOf l es
completion l = finish l.worker l.stripes l.act l.drained l.placed

-- with no entry
pub nothing : (P : Entries → Type 0) (own : Entries) → P [] → Made P own own
nothing P own h = record { made = []; entered = sym (append-nil own); holds = h }

-- the same entries, of which something else is said
pub known : (P Q : Entries → Type 0) (own own' : Entries) → ((es : Entries) → P es → Q es) → Made P own own' → Made Q own own'
known P Q own own' f m = record { made = m.made; entered = m.entered; holds = f m.made m.holds }

-- one entry more
pub one_more : (P Q : Entries → Type 0) (own own1 own2 : Entries) (e : Entry Step Reply)
    → Made P own own1 → own2 ≡ own1 ++ e ∷ [] → ((es : Entries) → P es → Q (es ++ e ∷ [])) → Made Q own own2
one_more P Q own own1 own2 e m o f = record {
  made = m.made ++ e ∷ [];
  entered = o ∙ ap (λ l. l ++ e ∷ []) m.entered ∙ append_assoc own m.made (e ∷ []);
  holds = f m.made m.holds;
}

module _ (w n : ℕ) where
  -- what is asked of the one whose next act is a
  pub asked_of : (next : Next) (a : Act) (l : Local) → next ≡ next_act.Do a l → IsAskedNext w n next → IsAskedNext w n (next_act.Do a l)
  asked_of next a l e h = subst (λ (x : Next). IsAskedNext w n x) e h

  pub same_step : (a : Act) (l : Local) → IsAskedNext w n (next_act.Do a l) → step_of l.worker l.act ≡ step_of w a
  same_step a l h = ap (λ v. step_of v l.act) h.1 ∙ ap (λ b. step_of w b) h.0

  -- and it is still that worker
  pub asks_same : (lw ln : ℕ) (next : Next) → lw ≡ w → ln ≡ n → IsAskedNext lw ln next → IsAskedNext w n next
  asks_same lw ln next e f h = subst (λ m. IsAskedNext w m next) f (subst (λ v. IsAskedNext v ln next) e h)

  pub asks_on : (next after : Next) (a : Act) (l : Local) → next ≡ next_act.Do a l → IsAskedNext w n next → IsAskedNext l.worker l.stripes after → IsAskedNext w n after
  asks_on next after a l d asks more =
      let h : IsAskedNext w n (next_act.Do a l) = asked_of next a l d asks in
      asks_same l.worker l.stripes after h.1 h.2 more

module _ (w : ℕ) (n : ℕ) (c : Call) where
  -- what completes the walk, behind these entries
  abbrev pub Completes : Next → Entries → Type 0
  Completes next es = (rest : Entries) → IsRestOfWalk next rest → IsWalk w n c (es ++ rest)

  pub goes_on : (a : Act) (l : Local) (r : Reply) (next : Next) → IsAskedNext w n (next_act.Do a l)
      → ((rest : Entries) → IsRestOfWalk next rest → AheadAfter l (Some r) rest)
      → (es : Entries) → Completes (next_act.Do a l) es → Completes next (es ++ record { step = record { worker = w; act = a }; reply = r } ∷ [])
  goes_on a l r next asks back es all rest left =
      let e : Entry Step Reply = record { step = record { worker = w; act = a }; reply = r } in
      let P : Step → Type 0 = λ s. IsAheadOf l (record { step = s; reply = r } ∷ rest) in
      let Q : Entries → Type 0 = λ x. IsWalk w n c x in
      subst Q (sym (append_assoc es (e ∷ []) rest)) (all (e ∷ rest) (subst P (same_step w n a l asks) (back rest left)))

  pub over : (next : Next) → next ≡ next_act.Done → (es : Entries) → Completes next es → IsWalk w n c es
  over next d es all =
      let Q : Entries → Type 0 = λ x. IsWalk w n c x in
      let R : Next → Type 0 = λ x. IsRestOfWalk x [] in
      subst Q (append-nil es) (all [] (subst R (sym d) refl))

  begun : (a : Act) (l : Local) (es : Entries) → Completes (next_act.Do a l) es → IsUnfinished (IsWalk w n c) es
  begun a l es all =
      let f = completion l in (f.0, λ none. not_done l (subst (IsAheadOf l) none f.1), all f.0 f.1)

  -- a walk that stopped where the act a was to be made
  pub stopped : (next : Next) (a : Act) (l : Local) → next ≡ next_act.Do a l
      → (own own' own'' : Entries) → own'' ≡ own' → Made (Completes next) own own' → Made (IsUnfinished (IsWalk w n c)) own own''
  stopped next a l e own own' own'' o m =
      let P : Next → Type 0 = λ x. Completes x m.made in
      record { made = m.made; entered = o ∙ m.entered; holds = begun a l m.made (subst P e m.holds) }

  -- a walk with one entry more
  pub stepped : (next next' : Next) (a : Act) (l : Local) (r : Reply) → next ≡ next_act.Do a l → IsAskedNext w n next
      → ((rest : Entries) → IsRestOfWalk next' rest → AheadAfter l (Some r) rest)
      → (own own1 own2 : Entries) → own2 ≡ own1 ++ record { step = record { worker = w; act = a }; reply = r } ∷ []
      → Made (Completes next) own own1 → Made (Completes next') own own2
  stepped next next' a l r d asks back own own1 own2 o m =
      one_more (Completes next) (Completes next') own own1 own2 (record { step = record { worker = w; act = a }; reply = r }) m o
      (λ es all. let P : Next → Type 0 = λ x. Completes x es in goes_on a l r next' (asked_of w n next a l d asks) back es (subst P d all))

pub on_err : {T F : Type 0} (r : Result T F) (P : Type 0) → P → OnErr r P
on_err (Ok x) P h = tt
on_err (Err x) P h = h

pub answered : (a b : Act) (r : Reply) → a ≡ b → is_answer b r ≡ true → is_answer a r ≡ true
answered a b r e h = let P : Act → Type 0 = λ x. is_answer x r ≡ true in subst P (sym e) h
