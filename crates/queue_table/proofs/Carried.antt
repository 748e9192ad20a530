-- The parts of an access together.
use Rattle.std.proofs.Common.{◌≡◌, ℕ, ◌≤◌, ap, ◌∙◌, sym, subst, refl, arith}
use Rattle.queue_table.specs.Queues.{Item, Queues}
use Rattle.queue_table.specs.declared.moves.Run.{Run}
use Rattle.queue_table.specs.Moves.{Plan, after_run, after_runs, after_leaving, after_first, after_second, after_own}
use Rattle.queue_table.specs.Undoing.{Moves, Left, KeyMove, before_run, before_leaving, before_own, left_of, move_of, FitsRun, FitsLeft, IsRun, IsLeft, IsOwn, IsCarried, coming_back}

pub no-run : (s : Queues) → IsRun (let r : Run = record { times = 0; from = 0; to = 0; less = 0 } in r) s s
no-run s = record { after = refl; fits = record { from = omega arith; to = omega arith; counts = tt }; undone = refl }

-- an access that carried out the parts of a plan in their order; the leaver and what was forgotten give one room at most
pub carried : (p : Plan) (i : Item) (x : ℕ) (s a b c d u : Queues) (r : Moves)
    → IsRun p.early s a → IsRun p.late a b → IsLeft p.first b c r.first → IsLeft p.second c d r.second → IsOwn p.own i d u r.own
    → r.early ≡ p.early → r.late ≡ p.late → r.own_number ≡ x → coming_back r ≤ 1
    → IsCarried p i x s u r
carried p i x s a b c d u r early late first second own re rl rx few =
    let runs_made : b ≡ after_runs p s = late.after ∙ ap (after_run p.late) early.after in
    let first_left : c ≡ after_first p s = first.after ∙ ap (after_leaving p.first) runs_made in
    let second_left : d ≡ after_second p s = second.after ∙ ap (after_leaving p.second) first_left in
    let back_second : before_leaving r.second (before_own r.own u) ≡ c = ap (before_leaving r.second) own.undone ∙ second.undone in
    let back_first : before_leaving r.first (before_leaving r.second (before_own r.own u)) ≡ b = ap (before_leaving r.first) back_second ∙ first.undone in
    let back_late : before_run r.late (before_leaving r.first (before_leaving r.second (before_own r.own u))) ≡ a =
    ap (λ y. before_run y (before_leaving r.first (before_leaving r.second (before_own r.own u)))) rl ∙ ap (before_run p.late) back_first ∙ late.undone in
    record {
      after = own.after ∙ ap (after_own p.own i) second_left;
      is = six r.early _ r.late _ r.first _ r.second _ r.own _ r.own_number _ re rl
          (first.is ∙ ap (left_of p.first) runs_made) (second.is ∙ ap (left_of p.second) first_left) (own.is ∙ ap (move_of p.own i) second_left) rx;
      fits = record {
        own = own.fits;
        second = subst (FitsLeft r.second) (sym own.undone) second.fits;
        first = subst (FitsLeft r.first) (sym back_second) first.fits;
        late = subst (FitsRun r.late) (sym back_first) (subst (λ y. FitsRun y b) (sym rl) late.fits);
        early = subst (FitsRun r.early) (sym back_late) (subst (λ y. FitsRun y a) (sym re) early.fits);
        few = few;
      };
      undone = ap (before_run r.early) back_late ∙ ap (λ y. before_run y a) re ∙ early.undone;
    }
  where
    six : (e e2 l l2 : Run) (f f2 g g2 : Left) (o o2 : KeyMove) (y y2 : ℕ) → e ≡ e2 → l ≡ l2 → f ≡ f2 → g ≡ g2 → o ≡ o2 → y ≡ y2
        → (let m : Moves = record { early = e; late = l; first = f; second = g; own = o; own_number = y } in
        let m2 : Moves = record { early = e2; late = l2; first = f2; second = g2; own = o2; own_number = y2 } in m ≡ m2)
    six e e2 l l2 f f2 g g2 o o2 y y2 he hl hf hg ho hy = rw (he, hl, hf, hg, ho, hy) refl
