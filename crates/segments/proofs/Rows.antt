-- The rows of queues of keys alone.
use Rattle.std.proofs.Common.{◌≡◌, ◌∙◌, ℕ, suc, ◌+◌, ◌≤◌, true, false, nat_lt, Option, Some, None, List, [], ◌∷◌, refl, arith}
use Rattle.std.proofs.lemmas.Bool.Decides.{nat_tests}
use Rattle.std.specs.Prelude.{codes}
use Rattle.segments.specs.Items.{Item, nodeless_item, is_same_item, occurrences}
use Rattle.segments.specs.declared.records.Queue.{Queue}
use Rattle.segments.specs.declared.records.Queue.TheVariants.{Window, Probation, Protected}
use Rattle.segments.specs.Queues.{Queues, queue_holding, IsDistinct}
use Rattle.segments.proofs.QueueLists.{same-refl}
use Rattle.segments.specs.SegmentQueues.{item_queue, one_queue, two_queues, three_queues}
use Rattle.segments.specs.KeyRow.{has_named, row_of}
use Rattle.segments.specs.SegmentKeys.{AreKeys}

has-items : (k : ℕ) (name : List ℕ) (l : List Item) → ((i : Item) → 1 ≤ occurrences i l → i.node ≡ 0)
    → has_named k (item_queue name l) ≡ nat_lt 0 (occurrences (nodeless_item k) l)
has-items k name [] h = refl
has-items k name (x ∷ l) h = grind (arith, nat_tests, same-refl, has-items k name l)

-- the row of the queue in which a key stands
abbrev pub one_row : Option Queue → Option ℕ
one_row None = None
one_row (Some Window) = Some 0
one_row (Some Probation) = None
one_row (Some Protected) = None

abbrev pub two_row : Option Queue → Option ℕ
two_row None = None
two_row (Some Window) = None
two_row (Some Probation) = Some 0
two_row (Some Protected) = Some 1

abbrev pub three_row : Option Queue → Option ℕ
three_row None = None
three_row (Some Window) = Some 0
three_row (Some Probation) = Some 1
three_row (Some Protected) = Some 2

module _ (k : ℕ) (s : Queues) (h : AreKeys s) (once : IsDistinct s) where
  in-window : (name : List ℕ) → has_named k (item_queue name s.window) ≡ nat_lt 0 (occurrences (nodeless_item k) s.window)
  in-window name = has-items k name s.window (λ i g. h i (omega (arith, g)))

  in-probation : (name : List ℕ) → has_named k (item_queue name s.probation) ≡ nat_lt 0 (occurrences (nodeless_item k) s.probation)
  in-probation name = has-items k name s.probation (λ i g. h i (omega (arith, g)))

  in-protected : (name : List ℕ) → has_named k (item_queue name s.protected) ≡ nat_lt 0 (occurrences (nodeless_item k) s.protected)
  in-protected name = has-items k name s.protected (λ i g. h i (omega (arith, g)))

  pub row-one : one_row (queue_holding (nodeless_item k) s) ≡ row_of k (one_queue s)
  row-one = let w = in-window (codes "queue") in grind (arith, nat_tests)

  pub row-two : two_row (queue_holding (nodeless_item k) s) ≡ row_of k (two_queues s)
  row-two =
      let p = in-probation (codes "probation") in
      let t = in-protected (codes "protected") in
      let few = once (nodeless_item k) in
      grind (arith, nat_tests)

  pub row-three : three_row (queue_holding (nodeless_item k) s) ≡ row_of k (three_queues s)
  row-three =
      let w = in-window (codes "window") in
      let p = in-probation (codes "probation") in
      let t = in-protected (codes "protected") in
      grind (arith, nat_tests)
