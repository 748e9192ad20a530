-- What the workers brought back.
use Rattle.std.proofs.Common.{◌≡◌, ℕ, zero, suc, ◌+◌, ◌<◌, List, [], ◌∷◌, map, length, get_or, sym, ap, ◌∙◌, subst, arith}
use Rattle.std.specs.Global.{Vec}
use Rattle.std.specs.Vec.{vec_items}
use Rattle.std.proofs.lemmas.List.{length-map, get_or-map}
use Rattle.turn_book.specs.Turns.{Every}
use Rattle.turn_book.specs.Passes.{BookId, PassState, InOrder, OwnAll, Ends}
use Rattle.workers.proofs.WorkerLists.{all_of_every, every_of_all}
use Rattle.library_examples.specs.LogLines.{Log, LogLine, IsFresh, IsWritten, Wrote, lines_by, numbered}

abbrev LogPass : Type 0
LogPass = PassState Log LogLine

abbrev name_of : Log → ℕ
name_of l = l.name

abbrev lines_in : Log → List LogLine
lines_in l = l.lines.items

abbrev undone_in : Log → List LogLine
undone_in l = []

abbrev worker_of : LogLine → ℕ
worker_of l = l.worker

worker_at : (lo : ℕ) (ps : List LogPass) → InOrder lo ps → (i k : ℕ) (d : LogPass) → k ≡ lo + i → i < length ps → (get_or ps i d).worker ≡ k
worker_at lo [] h i k d is lt = absurd (omega arith)
worker_at lo (p ∷ ps) h zero k d is lt = h.0 ∙ omega arith
worker_at lo (p ∷ ps) h (suc i) k d is lt = worker_at (suc lo) ps h.1 i k d (omega arith) (omega arith)

in_order : (lo : ℕ) (ps : List LogPass) → ((i k : ℕ) (d : LogPass) → k ≡ lo + i → i < length ps → (get_or ps i d).worker ≡ k) → InOrder lo ps
in_order lo [] h = tt
in_order lo (p ∷ ps) h = (h 0 lo p (omega arith) (omega arith), in_order (suc lo) ps (λ i k d is lt. h (suc i) k d (omega arith) (omega arith)))

own_at : (lo : ℕ) (ps : List LogPass) (news : List LogLine) → OwnAll name_of lines_in worker_of undone_in lo ps news → (w k : ℕ) (d : LogPass) → k ≡ lo + w → w < length ps → lines_by k news ≡ (get_or ps w d).own
own_at lo [] news o w k d is lt = absurd (omega arith)
own_at lo (p ∷ ps) news o zero k d is lt = ap (λ w. lines_by w news) (omega arith) ∙ o.0
own_at lo (p ∷ ps) news o (suc w) k d is lt = own_at (suc lo) ps news o.1 w k d (omega arith) (omega arith)

-- the job at place i is the fresh pass of worker i, with that number
pub job_at : (b : BookId Log) (l : List LogLine) (ps : List LogPass) (i : ℕ) (j : ℕ × LogPass) → i < length ps → j ≡ (i, get_or ps i j.1)
    → Every (λ p. p.book ≡ b) ps → InOrder 0 ps → Every (λ p. (p.own ≡ []) × (p.last ≡ l) × (p.draws ≡ 0)) ps → IsFresh b j.1 × (j.1.worker ≡ j.0)
job_at b l ps i j lt at books order fresh =
    let none = all_of_every _ ps fresh i j.1 lt in
    subst (λ (k : ℕ × LogPass). IsFresh b k.1 × (k.1.worker ≡ k.0)) (sym at)
    (record { book = all_of_every _ ps books i j.1 lt; own = none.0; draws = none.2 }, worker_at 0 ps order i i j.1 (omega arith) lt)

-- Each worker's pass and list stand at its place, and it wrote its lines with them.
pub record WroteAll (b : BookId Log) (n workers : ℕ) (ps : List LogPass) (ls : List (Vec LogLine)) : Type 0 where
  pub passes : length ps ≡ workers
  pub lists : length ls ≡ workers
  pub each : (i : ℕ) (p : LogPass) (l : Vec LogLine) → i < workers → Wrote b n i (get_or ps i p) (get_or ls i l)

module _ (b : BookId Log) (n workers : ℕ) (ps : List LogPass) (ls : List (Vec LogLine)) (o : Log) (w : WroteAll b n workers ps ls) where
  pub books_of : Every (λ p. p.book ≡ b) ps
  books_of = every_of_all _ ps (λ i p lt. (w.each i p o.lines (omega (arith, w.passes))).book)

  pub order_of : InOrder 0 ps
  order_of = in_order 0 ps (λ i k p is lt. (w.each i p o.lines (omega (arith, w.passes))).worker ∙ omega arith)

  pub written_of : (t : Log) → Ends name_of lines_in worker_of undone_in o ps t → IsWritten workers n o t (map (λ l. vec_items l) ls)
  written_of t ends =
      let p : LogPass = record { book = b; worker = 0; own = []; last = []; draws = 0 } in
      let many = w.passes in
      let listed = w.lists in
      let whole : (k : ℕ) → k < workers → get_or (map (λ l. vec_items l) ls) k [] ≡ numbered k n = λ k lt. get_or-map (λ l. vec_items l) ls k o.lines [] (omega arith) ∙ (w.each k p o.lines lt).list in
      record {
        name = ends.same_origin;
        news = ends.news;
        written = ends.list_is;
        as_many = length-map ls (λ l. vec_items l) ∙ listed;
        own = λ k lt. own_at 0 ps ends.news ends.own_is k k p (omega arith) (omega arith) ∙ (w.each k p o.lines lt).own ∙ sym (whole k lt);
        whole = whole;
        no_other = λ k le. ends.no_other k (omega arith);
      }
