-- Seats of passes and turns, as callers see them.
use Rattle.std.proofs.Common.{◌≡◌, ℕ, ◌+◌, List, [], ◌∷◌, ◌++◌, Some, None, Option, refl, sym, ap, ◌∙◌, subst}
use Rattle.atomic_table.specs.Table.{Me, rest, step}
use Rattle.atomic_table.specs.Seated.{TableId}
use mathlib.Core.Option as maybe
use Rattle.turn_book.specs.Turns.{View, Part, Shows, Comes, Passed}
use Rattle.turn_book.specs.Views.{resting, holding, one_more, with_new, Draws, Rests}
use Rattle.turn_book.specs.Passes.{BookId, BookState, PassState, TurnState, book_id, id_of, drawn_once, Takes, Gives}
use Rattle.turn_book.specs.Seats.{part_of, pass_view, turn_view, pass_in, turn_in, IsPassAt, IsTurnAt}
use Rattle.turn_book.proofs.Moves.{took_at, passed_as}

module _ {T E : Type 0} where
  -- the seat of a pass of the book that was opened with o
  pub is_pass : (id : TableId) (me : Me (Option T) (View T E)) (drawn : ℕ) (o : T) → IsPassAt id me drawn → me.0.opening ≡ Some o → me ≡ (resting o (part_of (pass_in id me.0 drawn) ∷ []) me.0.last, [])
  is_pass id me drawn o is at = is ∙ (λ i. (record { opening = at i; parts = part_of (pass_in id me.0 drawn) ∷ []; last = me.0.last; ticket = None; held = None }, []))

  pub is_turn : (id : TableId) (me : Me (Option T) (View T E)) (drawn : ℕ) (taken o : T) → (x : IsTurnAt id me drawn taken) → me.0.opening ≡ Some o → me ≡ (holding o (part_of (pass_in id me.0 drawn) ∷ []) me.0.last x.ticket taken, (0, None) ∷ [])
  is_turn id me drawn taken o x at = x.is ∙ (λ i. (record { opening = at i; parts = part_of (pass_in id me.0 drawn) ∷ []; last = me.0.last; ticket = Some x.ticket; held = Some taken }, (0, None) ∷ []))

  -- the seat of a pass, by the pass that it stands for
  pub seat_is : (id : TableId) (me : Me (Option T) (View T E)) (drawn : ℕ) (p : PassState T E) → IsPassAt id me drawn → pass_in id me.0 drawn ≡ p → me ≡ (pass_view p, [])
  seat_is id me drawn p is same = is ∙ ap (λ (q : PassState T E). (pass_view q, [])) same

  -- the table and the opening value that a pass of the book knows
  pub book_is : (id : TableId) (me : Me (Option T) (View T E)) (drawn : ℕ) (p : PassState T E) (seen book : BookState T) → pass_in id me.0 drawn ≡ p → p.book ≡ id_of book → seen ≡ book → (id ≡ seen.table) × (me.0.opening ≡ Some seen.opening)
  book_is id me drawn p seen book same own is =
      let e = ap (λ (q : PassState T E). q.book) same ∙ own ∙ ap (id_of {T = T}) (sym is) in
      (ap (λ (b : BookId T). b.table) e, ap (λ (b : BookId T). b.opening) e)

  pub pass_at : (id : TableId) (me : Me (Option T) (View T E)) (drawn : ℕ) (o : T) (p : Part E) (l : List E) → p.draws ≡ drawn → p.shown ≡ l → me ≡ (resting o (p ∷ []) l, []) → IsPassAt id me drawn
  pass_at id me drawn o p l d s is = subst (λ (m : Me (Option T) (View T E)). m ≡ (pass_view (pass_in id m.0 drawn), [])) (sym is)
      (λ i. (record { opening = Some o; parts = record { number = p.number; own = p.own; draws = d i; shown = s i } ∷ []; last = l; ticket = None; held = None }, []))

  pub book_at : (me : Me (Option T) (View T E)) (p : PassState T E) (table : TableId) (o : T) → me ≡ (pass_view p, []) → p.book ≡ book_id table o → me ≡ (resting o (part_of p ∷ []) me.0.last, [])
  book_at me p table o is own = is ∙ (λ i. (record { opening = (own i).opening; parts = part_of p ∷ []; last = (sym is i).0.last; ticket = None; held = None }, []))

  -- a seat that rests with the part of one pass
  pub rests_pass : (me : Me (Option T) (View T E)) (p : PassState T E) (table : TableId) (o : T) → me ≡ (pass_view p, []) → p.book ≡ book_id table o → Rests me (part_of p ∷ []) me.0.last
  rests_pass me p table o is own = record { opening = o; is = book_at me p table o is own }

module _ {T E O : Type 0} (origin : T → O) (entries : T → List E) (by : E → ℕ) (undone : T → List E) where
  -- the pass in the seat me has taken a turn
  pub takes_of : (id id' : TableId) (me me1 me2 me3 : Me (Option T) (View T E)) (n drawn : ℕ) (o t taken : T) (p : PassState T E) → IsPassAt id me drawn → pass_in id me.0 drawn ≡ p → me.0.opening ≡ Some o → id' ≡ id
      → Draws me n me1 → Comes origin entries by undone me1 n me2 → me2.1 ≡ (0, Some t) ∷ rest me2.1 → me3 ≡ (me2.0, (0, None) ∷ rest me2.1) → taken ≡ t
      → IsTurnAt id' me3 (drawn + 1) taken × Takes origin entries by undone o p (turn_in id' me3.0 (drawn + 1) taken t)
  takes_of id id' me me1 me2 me3 n drawn o t taken p at same begun ids x y found left kept =
      let q : PassState T E = pass_in id me.0 drawn in
      let z = took_at origin entries by undone o 0 me me1 me2 me3 n o (part_of q) me.0.last t (is_pass id me drawn o at begun) x y found left in (
        record {
          ticket = n;
          is = subst (λ (m : Me (Option T) (View T E)). m ≡ (turn_view (pass_in id' m.0 (drawn + 1)) n taken, (0, None) ∷ [])) (sym z.0)
              (λ i. (record { opening = Some o; parts = one_more (part_of q) ∷ []; last = me.0.last; ticket = Some n; held = Some (sym kept i) }, (0, None) ∷ []));
        },
        record {
          pass = ap (λ (m : Me (Option T) (View T E)). pass_in id' m.0 (drawn + 1)) z.0
              ∙ (λ i. record { book = record { table = ids i; opening = sym begun i }; worker = q.worker; own = q.own; last = q.last; draws = q.draws + 1 })
              ∙ ap (drawn_once {T = T} {E = E}) same;
          taken = kept;
          shows = subst (λ (r : PassState T E). Shows origin entries by undone o r.worker r.own r.last t) same z.1;
        },
      )

  -- the turn in the seat me was given back
  pub gives_of : (id id' : TableId) (me put after : Me (Option T) (View T E)) (drawn n : ℕ) (o taken u : T) (t : TurnState T E) → (x : IsTurnAt id me drawn taken) → turn_in id me.0 drawn taken u ≡ t → (begun : me.0.opening ≡ Some o) → id' ≡ id
      → put ≡ (me.0, (0, Some u) ∷ rest me.1) → Passed origin entries by undone (step 0 1 1 0 maybe.none) put n after
      → IsPassAt id' after drawn × Gives origin entries by undone t (pass_in id' after.0 drawn)
  gives_of id id' me put after drawn n o taken u t x same begun ids left is_shown =
      let q : PassState T E = pass_in id me.0 drawn in
      let y = passed_as origin entries by undone o 0 me put after n o (part_of q) me.0.last x.ticket taken u (is_turn id me drawn taken o x begun) left is_shown in
      let gives : Gives origin entries by undone (turn_in id me.0 drawn taken u) (pass_in id' after.0 drawn) = record {
        made = y.0;
        adds = y.1;
        pass = ap (λ (m : Me (Option T) (View T E)). pass_in id' m.0 drawn) y.2
            ∙ (λ i. record { book = record { table = ids i; opening = sym begun i }; worker = q.worker; own = q.own ++ y.0; last = entries u; draws = drawn });
      } in (
        pass_at id' after drawn o (with_new y.0 (entries u) (part_of q)) (entries u) refl refl y.2,
        subst (λ (r : TurnState T E). Gives origin entries by undone r (pass_in id' after.0 drawn)) same gives,
      )
