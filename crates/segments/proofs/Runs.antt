-- Runs: one item at a time, and undone.
use Rattle.std.proofs.Common.{◌≡◌, ◌≢◌, ℕ, suc, ◌+◌, ◌-◌, ◌≤◌, Option, Some, None, List, [], ◌∷◌, ◌++◌, length, take, drop, sym, ap, ◌∙◌, arith, append-nil, length-append}
use Rattle.std.specs.Prelude.{MatchOption, IfSome, IfNone}
use Rattle.std.proofs.lemmas.Bool.Decides.{nat_tests}
use Rattle.std.proofs.lemmas.List.{append_assoc, length-take-le, take-append-drop, take_all, drop_all, take-take, drop-take, drop-drop, drop-append-le}
use Rattle.std.proofs.Math.Seq.{take-append_seam, drop-append_seam}
use Rattle.segments.specs.declared.records.Queue.{Queue}
use Rattle.segments.specs.Items.{Item, occurrences, items_without, oldest_of, last_item}
use Rattle.segments.specs.Queues.{Queues, queue_of, with_queue, IsDistinct, queues_after_push, queues_after_pop, queues_after_move}
use Rattle.segments.specs.Moves.{MoveRecord, queues_before_move}
use Rattle.segments.specs.Runs.{newest_items, items_before_newest, with_both, queues_after_run, queues_before_run}
use Rattle.queue_table.proofs.Items.{times-append, times-one, without-at, last-stands, last-none}
use Rattle.segments.proofs.QueueLists.{taken-first, taken-in}

-- ---- two queues

both-from : (p q : Queue) (l m : List Item) (s : Queues) → p ≢ q → queue_of p (with_both p l q m s) ≡ l
both-from p q l m s d = grind (arith, nat_tests)

both-to : (p q : Queue) (l m : List Item) (s : Queues) → queue_of q (with_both p l q m s) ≡ m
both-to p q l m s = grind (arith, nat_tests)

both-twice : (p q : Queue) (l m a b : List Item) (s : Queues) → with_both p a q b (with_both p l q m s) ≡ with_both p a q b s
both-twice p q l m a b s = grind (arith, nat_tests)

both-same : (p q : Queue) (s : Queues) → with_both p (queue_of p s) q (queue_of q s) s ≡ s
both-same p q s = grind (arith, nat_tests)

other-queue : (p q : Queue) (l : List Item) (s : Queues) → p ≢ q → queue_of q (with_queue p l s) ≡ queue_of q s
other-queue p q l s d = grind (arith, nat_tests)

swapped : (p q : Queue) (l m : List Item) (s : Queues) → p ≢ q → with_queue p l (with_queue q m s) ≡ with_both p l q m s
swapped p q l m s d = grind (arith, nat_tests)

-- ---- one list

take-more : (n m : ℕ) (l : List Item) → take n l ++ take m (drop n l) ≡ take (n + m) l
take-more n m l =
    ap (λ x. take n l ++ x) (sym (drop-take n m l))
    ∙ ap (λ x. x ++ drop n (take (n + m) l)) (sym (take-take n (n + m) l (omega arith)))
    ∙ take-append-drop n (take (n + m) l)

-- the list cut at two places
drop-between : (a b : ℕ) (l : List Item) → a ≤ b → b ≤ length l → drop a (take b l) ++ drop b l ≡ drop a l
drop-between a b l few most =
    sym (drop-append-le a (take b l) (drop b l) (let e = length-take-le b l most in omega (arith, e, few)))
    ∙ ap (drop a) (take-append-drop b l)

older-next : (n : ℕ) (l : List Item) → items_before_newest 1 (items_before_newest n l) ≡ items_before_newest (n + 1) l
older-next n l =
    let e : length (take (length l - n) l) - 1 ≡ length l - (n + 1) = (let v = length-take-le (length l - n) l (omega arith) in omega (arith, v)) in
    ap (λ x. take x (take (length l - n) l)) e ∙ take-take (length l - (n + 1)) (length l - n) l (omega arith)

newest-next : (n : ℕ) (l : List Item) → newest_items 1 (items_before_newest n l) ++ newest_items n l ≡ newest_items (n + 1) l
newest-next n l =
    let e : length (take (length l - n) l) - 1 ≡ length l - (n + 1) = (let v = length-take-le (length l - n) l (omega arith) in omega (arith, v)) in
    ap (λ x. drop x (take (length l - n) l) ++ drop (length l - n) l) e
    ∙ drop-between (length l - (n + 1)) (length l - n) l (omega arith) (omega arith)

-- ---- a run, one item at a time

pub run-none : (p q : Queue) (s : Queues) → queues_after_run 0 p q s ≡ s
run-none p q s = ap (λ x. with_both p (queue_of p s) q x s) (append-nil (queue_of q s)) ∙ both-same p q s

-- two runs, one after the other, are one
pub run-more : (n m : ℕ) (p q : Queue) (s : Queues) → p ≢ q → queues_after_run m p q (queues_after_run n p q s) ≡ queues_after_run (n + m) p q s
run-more n m p q s apart = grind (arith, nat_tests, both-from, both-to, both-twice, take-more n m (queue_of p s), drop-drop, append_assoc)

-- where the queue is empty, none goes
pub run-empty : (n : ℕ) (p q : Queue) (s : Queues) → queue_of p s ≡ [] → queues_after_run n p q s ≡ s
run-empty n p q s none = grind (arith, nat_tests, drop_all, take_all, run-none)

push-popped : (x : Item) (p q : Queue) (s : Queues) → p ≢ q → oldest_of (queue_of p s) ≡ Some x → queues_after_push q x (queues_after_pop p s) ≡ queues_after_run 1 p q s
push-popped x p q s apart first = grind (arith, nat_tests, other-queue)

-- one item more went
pub run-moves : (n : ℕ) (x : Item) (p q : Queue) (s t : Queues) → p ≢ q → IsDistinct t → t ≡ queues_after_run n p q s → oldest_of (queue_of p t) ≡ Some x
    → queues_after_move x q t ≡ queues_after_run (n + 1) p q s
run-moves n x p q s t apart d e first =
    ap (queues_after_push q x) (taken-first p x t d first) ∙ push-popped x p q t apart first ∙ ap (queues_after_run 1 p q) e ∙ run-more n 1 p q s apart

-- none was left to go
pub run-stays : (n : ℕ) (p q : Queue) (s t : Queues) → p ≢ q → t ≡ queues_after_run n p q s → queue_of p t ≡ [] → t ≡ queues_after_run (n + 1) p q s
run-stays n p q s t apart e none = sym (run-empty 1 p q t none) ∙ ap (queues_after_run 1 p q) e ∙ run-more n 1 p q s apart

-- an item more, or none
pub run-goes-on : (n : ℕ) (done : Option MoveRecord) (p q : Queue) (s t u : Queues) → p ≢ q → IsDistinct t → t ≡ queues_after_run n p q s
    → MatchOption done (queue_of p t ≡ []) (λ r. oldest_of (queue_of p t) ≡ Some r.item)
    → IfSome done (λ r. u ≡ queues_after_move r.item q t) → IfNone done (u ≡ t) → u ≡ queues_after_run (n + 1) p q s
run-goes-on n None p q s t u apart d e item lists none = none ∙ run-stays n p q s t apart e item
run-goes-on n (Some r) p q s t u apart d e item lists none = lists ∙ run-moves n r.item p q s t apart d e item

-- ---- back

pub back-next : (n : ℕ) (p q : Queue) (s : Queues) → p ≢ q → queues_before_run 1 p q (queues_before_run n p q s) ≡ queues_before_run (n + 1) p q s
back-next n p q s apart = grind (arith, nat_tests, both-from, both-to, both-twice, older-next n (queue_of q s), newest-next n (queue_of q s), append_assoc)

-- a run of so many items is undone from how many they were
pub run-back : (n : ℕ) (p q : Queue) (s : Queues) → p ≢ q → n ≤ length (queue_of p s) → queues_before_run n p q (queues_after_run n p q s) ≡ s
run-back n p q s apart few =
    let l : List Item = queue_of p s in
    let m : List Item = queue_of q s in
    let cut : length (m ++ take n l) - n ≡ length m = (let v = length-append m (take n l) in let u = length-take-le n l few in omega (arith, v, u)) in
    grind (arith, nat_tests, cut, both-from, both-to, both-twice, both-same, take-append_seam, drop-append_seam, take-append-drop)

-- ---- an item goes back

last-cut : (x : Item) (l : List Item) → last_item l ≡ Some x → (items_before_newest 1 l ++ x ∷ [] ≡ l) × (newest_items 1 l ≡ x ∷ [])
last-cut x [] h = absurd (cc h)
last-cut x (y ∷ []) h = let e : y ≡ x = cc in (ap (λ z. z ∷ []) (sym e), ap (λ z. z ∷ []) e)
last-cut x (y ∷ z ∷ l) h =
    let r = last-cut x (z ∷ l) h in
    let more : length (y ∷ z ∷ l) - 1 ≡ suc (length (z ∷ l) - 1) = omega arith in (
      ap (λ n. take n (y ∷ z ∷ l) ++ x ∷ []) more ∙ ap (λ v. y ∷ v) r.0,
      ap (λ n. drop n (y ∷ z ∷ l)) more ∙ r.1,
    )

once : (q : Queue) (x : Item) (s : Queues) → IsDistinct s → occurrences x (queue_of q s) ≤ 1
once q x s d = grind (arith, nat_tests)

without-last : (x : Item) (l : List Item) → occurrences x l ≤ 1 → items_before_newest 1 l ++ x ∷ [] ≡ l → items_without x l ≡ items_before_newest 1 l
without-last x l few e = grind (arith, nat_tests, times-append, times-one, without-at, append-nil)

-- the newest item goes back to the old end
pub last-returns : (n : ℕ) (x : Item) (p q : Queue) (s t : Queues) → p ≢ q → IsDistinct t → t ≡ queues_before_run n p q s → last_item (queue_of q t) ≡ Some x
    → queues_before_move record { item = x; from = Some record { queue = p; older = None }; to = Some q } t ≡ queues_before_run (n + 1) p q s
last-returns n x p q s t apart d e last =
    let cut = last-cut x (queue_of q t) last in
    let out = without-last x (queue_of q t) (once q x t d) cut.0 in
    let gone = taken-in q x t d (last-stands x (queue_of q t) last) in
    grind (arith, nat_tests, other-queue q p, swapped p q, back-next n p q s apart)

-- none was left to go back
pub back-stays : (n : ℕ) (p q : Queue) (s t : Queues) → p ≢ q → t ≡ queues_before_run n p q s → last_item (queue_of q t) ≡ None → t ≡ queues_before_run (n + 1) p q s
back-stays n p q s t apart e none = grind (arith, nat_tests, last-none (queue_of q t) none, both-same p q t, back-next n p q s apart)
