-- One turn, as the book sees it.
use Rattle.std.proofs.Common.{◌≡◌, ℕ, ◌+◌, ◌<◌, ◌≤◌, ◌^◌, ◌==◌, List, [], ◌∷◌, ◌++◌, length, length-append, Option, None, refl, sym, ap, ◌∙◌, subst, arith, inl, inr, Result, Ok, Err, IfOk, IfErr, OnOk}
use Rattle.std.proofs.lemmas.Bool.{cases_Bool}
use Rattle.std.proofs.lemmas.List.{append_cancel_left}
use Rattle.engine_base.specs.declared.entry.Entry.{Entry}
use Rattle.engine_base.specs.History.{next_data, data_after, IsLegal, Entries}
use Rattle.shell_model.specs.WorkerEntries.{entries_of}
use Rattle.shell_model.specs.AdmittedSteps.{Step, Reply, AdmitsNext}
use Rattle.workers.specs.Draws.{IsWithin}
use Rattle.turn_book.specs.Turns.{AddsInTurn, entries_by}
use Rattle.turn_book.specs.Passes.{TurnState, PassState, Gives}

module _ {T E O : Type 0} (origin : T → O) (entries : T → List E) (by : E → ℕ) (undone : T → List E) where
  -- a turn that made no entry
  pub leaves_same : (w : ℕ) (t u : T) → origin u ≡ origin t → entries u ≡ entries t ++ [] → undone u ≡ undone t → (es : List E) × AddsInTurn origin entries by undone w t u es
  leaves_same w t u o l d = ([], record { same_origin = o; list_is = l; undone_is = d; one = inl refl })

  -- what the own list gained is what the value gained
  pub gained : (t : TurnState T E) (p : PassState T E) (es : List E) → Gives origin entries by undone t p → entries t.value ≡ entries t.taken ++ es → p.own ≡ t.pass.own ++ es
  gained t p es g l = ap (λ (q : PassState T E). q.own) g.pass ∙ ap (λ x. t.pass.own ++ x) (append_cancel_left (entries t.taken) g.made es (sym g.adds.list_is ∙ l))

pub if_ok_at : {T F : Type 0} (r : Result T F) (P : T → Type 0) (x : T) → r ≡ Ok x → IfOk r P → P x
if_ok_at {T} {F} r P x e h = let R : Result T F → Type 0 = λ y. IfOk y P in subst R e h

pub if_err_at : {T F : Type 0} (r : Result T F) (P : F → Type 0) (x : F) → r ≡ Err x → IfErr r P → P x
if_err_at {T} {F} r P x e h = let R : Result T F → Type 0 = λ y. IfErr y P in subst R e h

pub on_ok_at : {T F : Type 0} (r : Result T F) (P : Type 0) (x : T) → r ≡ Ok x → OnOk r P → P
on_ok_at {T} {F} r P x e h = let R : Result T F → Type 0 = λ y. OnOk y P in subst R e h

module _ {D S R : Type 0} (act : D → S → Option (R × D)) where
  pub legal_split : (x : D) (es fs : List (Entry S R)) → IsLegal act x (es ++ fs) → IsLegal act (data_after act x es) fs
  legal_split x [] fs l = l
  legal_split x (e ∷ es) fs l = legal_split (next_data (act x e.step) x) es fs l.1

  pub after_append : (x : D) (es fs : List (Entry S R)) → data_after act x (es ++ fs) ≡ data_after act (data_after act x es) fs
  after_append x [] fs = refl
  after_append x (e ∷ es) fs = after_append (next_data (act x e.step) x) es fs

-- a step that the machine takes is not refused in a turn
pub not_refused : {D : Type 0} (act : D → Step → Option (Reply × D)) (count : D → ℕ) (first begin x y : D) (old kept : Entries) (step : Step) (own news : Entries)
    → AdmitsNext act count (data_after act first old) own step → begin ≡ first → kept ≡ old ++ news → entries_of step.worker news ≡ own
    → IsLegal act begin kept → y ≡ data_after act begin kept → y ≡ x → act x step ≡ None → count x < 2 ^ 32 → ⊥
not_refused act count first begin x y old kept step own news takes begins list mine legal stands shown none below =
    let whole : IsLegal act first (old ++ news) = subst (λ l. IsLegal act first l) list (subst (λ z. IsLegal act z kept) begins legal) in
    let at : x ≡ data_after act (data_after act first old) news = sym shown ∙ stands ∙ ap (λ z. data_after act z kept) begins ∙ ap (λ l. data_after act first l) list ∙ after_append act first old news in
    takes news (legal_split act first old news whole) mine (subst (λ z. count z < 2 ^ 32) at below) (subst (λ z. act z step ≡ None) at none)

-- what a worker made is among all that was made
pub few_made : {E : Type 0} (by : E → ℕ) (w : ℕ) (es : List E) → length (entries_by by w es) ≤ length es
few_made by w [] = omega arith
few_made by w (e ∷ es) =
    let few = few_made by w es in
    elim (cases_Bool (by e == w)) [
      | inl t ↦ rw t (omega (arith, few))
      | inr t ↦ rw t (omega (arith, few))
    ]

-- one turn more, with one entry more
pub within_more : {T E : Type 0} (limit : ℕ) (p q : PassState T E) (kept : List E) (e : E) → q.own ≡ p.own ++ e ∷ [] → q.draws ≡ p.draws + 1 → length q.last ≡ length (kept ++ e ∷ [])
    → length p.own ≤ length kept → length q.last ≤ limit → IsWithin limit p → IsWithin limit q
within_more limit p q kept e own draws last few room w =
    let more = ap length own in
    let made = length-append p.own (e ∷ []) in
    let kept' = length-append kept (e ∷ []) in
    let before = w.draws in
    record { draws = omega (arith, more, made, draws, before); own = omega (arith, more, made, last, kept', few); last = room }

-- before its first turn
pub within_first : {T E : Type 0} (limit : ℕ) (p : PassState T E) (kept : List E) → p.own ≡ [] → p.last ≡ kept → p.draws ≡ 0 → length kept ≤ limit → IsWithin limit p
within_first limit p kept own last draws room =
    let none = ap length own in
    let same = ap length last in
    record { draws = omega (arith, none, draws); own = omega (arith, none); last = omega (arith, same, room) }

-- a pass that has drawn as many turns as the limit saw a full journal
pub within_spent : {T E : Type 0} (limit turns : ℕ) (p : PassState T E) → IsWithin limit p → limit ≤ turns → turns ≤ p.draws → length p.last ≡ limit
within_spent limit turns p w enough spent = let a = w.draws in let b = w.own in let d = w.last in omega (arith, a, b, d, enough, spent)
