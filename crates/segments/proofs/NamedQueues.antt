-- The queues by name, over the queues by number.
use Rattle.std.proofs.Common.{◌≡◌, ℕ, ◌<◌, ◌≤◌, Option, Some, None, List, [], ◌∷◌, ◌++◌, ap, ◌∙◌, sym, refl, subst, arith}
use Rattle.std.specs.Prelude.{option_map}
use Rattle.std.proofs.lemmas.List.{map-append}
use Rattle.std.proofs.lemmas.Bool.Decides.{nat_tests}
use Rattle.queue_table.specs.Entries as Entries
use Rattle.queue_table.specs.declared.records.Entry.{Entry}
use Rattle.queue_table.specs.Entries.{Item, items_of}
use Rattle.queue_table.specs.Queues as ByNumber
use Rattle.segments.specs.declared.records.Queue.{Queue}
use Rattle.segments.specs.declared.records.Queue.TheVariants.{Window, Probation, Protected}
use Rattle.segments.specs.Items.{occurrences, last_item, before, IsGap, put_behind}
use Rattle.segments.specs.Queues.{queue_of, with_queue, queue_holding, IsDistinct, queues_after_push, queues_without, Queues, Shown, queues_after_move, queues_after_pop}
use Rattle.segments.specs.Moves.{item_place, move_record, queues_restored, queues_before_move, IsOpen, IsMoveRecord}
use Rattle.queue_table.proofs.Items.{newest-map}
use Rattle.queue_table.proofs.QueueLists.{placed, items-without}
use Rattle.segments.proofs.QueueLists.{absent, is_absent, pushed-moved, distinct-taken, taken-first, still-absent, Stands, in_window, in_probation, in_protected, nowhere, stands, move-recorded, out-recorded}
use Rattle.segments.specs.Names.{Place, number_of, name_of, named, IsNamed, named_place, shown_of, numbered_place}
use Rattle.segments.specs.declared.records.QueuePlace.{QueuePlace}
use Rattle.segments.specs.declared.records.MoveRecord.{MoveRecord}

-- one list: what is done to the entries is done to their items

items-put : (o : Option Item) (x : Entry) (l : List Entry) → items_of (Entries.put_behind o x l) ≡ put_behind o x.item (items_of l)
items-put None x l = refl
items-put (Some a) x [] = refl
items-put (Some a) x (e ∷ l) = let r = items-put (Some a) x l in grind (arith, nat_tests)

items-before : (i : Item) (l : List Entry) → items_of (Entries.before i l) ≡ before i (items_of l)
items-before i [] = refl
items-before i (e ∷ l) = let r = items-before i l in grind (arith, nat_tests)

-- one queue

pub queue-named : (q : Queue) (s : ByNumber.Queues) → items_of (s (number_of q)) ≡ queue_of q (named s)
queue-named q s = grind (arith, nat_tests)

with-named : (q : Queue) (l : List Entry) (s : ByNumber.Queues) → named (ByNumber.with_queue (number_of q) l s) ≡ with_queue q (items_of l) (named s)
with-named q l s = grind (arith, nat_tests)

-- the queues

pub push-named : (q : Queue) (e : Entry) (s : ByNumber.Queues) → named (ByNumber.after_push (number_of q) e s) ≡ queues_after_push q e.item (named s)
push-named q e s = grind (arith, nat_tests, with-named q (s (number_of q) ++ e ∷ []) s, map-append, queue-named q s)

pub without-named : (i : Item) (s : ByNumber.Queues) → named (ByNumber.after_removal i s) ≡ queues_without i (named s)
without-named i s = rw (items-without i (s 0), items-without i (s 1), items-without i (s 2)) refl

pub return-named : (q : Queue) (o : Option Item) (e : Entry) (s : ByNumber.Queues) → named (ByNumber.after_return (number_of q) o e s) ≡ with_queue q (put_behind o e.item (queue_of q (named s))) (named s)
return-named q o e s = grind (arith, nat_tests, with-named, items-put, queue-named)

pub with-kept : (q : Queue) (l : List Entry) (s : ByNumber.Queues) → IsNamed s → IsNamed (ByNumber.with_queue (number_of q) l s)
with-kept q l s h = grind (arith, nat_tests)

pub without-kept : (i : Item) (s : ByNumber.Queues) → IsNamed s → IsNamed (ByNumber.after_removal i s)
without-kept i s h = grind (arith, nat_tests)

pub distinct-named : (s : ByNumber.Queues) → ByNumber.IsDistinct s → IsDistinct (named s)
distinct-named s d i = omega (arith, d i)

-- where an item stands

pub data IsShown : Option ℕ → Option Queue → Type 0 where
  in_none : IsShown None None
  in_queue : (q : Queue) → IsShown (Some (number_of q)) (Some q)

pub missing-numbered : (i : Item) (s : ByNumber.Queues) → IsNamed s → queue_holding i (named s) ≡ None → ByNumber.queue_holding i s ≡ None
missing-numbered i s h e = search (arith, absent i (named s) e)

pub holding-shown : (i : Item) (s : ByNumber.Queues) → ByNumber.IsDistinct s → IsNamed s → IsShown (ByNumber.queue_holding i s) (queue_holding i (named s))
holding-shown i s d h = at _ (stands i (named s) (distinct-named s d))
  where
    here : (q : Queue) → number_of q < ByNumber.QUEUES → 1 ≤ occurrences i (items_of (s (number_of q))) → IsShown (ByNumber.queue_holding i s) (Some q)
    here q w n = subst (λ o. IsShown o (Some q)) (sym (placed (number_of q) i s w d n)) (in_queue q)

    at : (o : Option Queue) → Stands i (named s) o → IsShown (ByNumber.queue_holding i s) o
    at _ (in_window a b c) = here Window (omega arith) (omega arith)
    at _ (in_probation a b c) = here Probation (omega arith) (omega arith)
    at _ (in_protected a b c) = here Protected (omega arith) (omega arith)
    at _ (nowhere a b c) = subst (λ o. IsShown o None) (sym (missing-numbered i s h (is_absent i (named s) record { window = a; probation = b; protected = c }))) in_none

name-number : (q : Queue) → name_of (number_of q) ≡ q
name-number q = grind (arith, nat_tests)

shown-some : (n : ℕ) (o : Option ℕ) (q : Option Queue) → IsShown o q → o ≡ Some n → q ≡ Some (name_of n)
shown-some n o q in_none h = absurd (cc h)
shown-some n o q (in_queue x) h = let e : number_of x ≡ n = cc in ap (λ (y : Queue). Some y) (sym (name-number x)) ∙ ap (λ (k : ℕ). Some (name_of k)) e

shown-none : (o : Option ℕ) (q : Option Queue) → IsShown o q → o ≡ None → q ≡ None
shown-none o q in_none h = refl
shown-none o q (in_queue x) h = absurd (cc h)

place-at : (i : Item) (p : Place) (o : Option ℕ) (q : Option Queue) (s : ByNumber.Queues) → IsShown o q → Some p ≡ ByNumber.place_at i o s → Some (named_place p) ≡ item_place i q (named s)
place-at i p o q s in_none h = absurd (cc h)
place-at i p o q s (in_queue x) h = grind (arith, nat_tests, items-before, queue-named, name-number)

module _ (i : Item) (s : ByNumber.Queues) (d : ByNumber.IsDistinct s) (h : IsNamed s) where
  pub holding-named : (n : ℕ) → ByNumber.queue_holding i s ≡ Some n → queue_holding i (named s) ≡ Some (name_of n)
  holding-named n e = shown-some n _ _ (holding-shown i s d h) e

  pub missing-named : ByNumber.queue_holding i s ≡ None → queue_holding i (named s) ≡ None
  missing-named e = shown-none _ _ (holding-shown i s d h) e

  pub place-named : (p : Place) → Some p ≡ ByNumber.place_in i s → Some (named_place p) ≡ item_place i (queue_holding i (named s)) (named s)
  place-named p e = place-at i p _ _ s (holding-shown i s d h) e

-- ---- what each call owes, from what the table under it ensures

-- r is the record of a call's move from the queues shown before it to the queues t, which show those after it
pub record IsMade (r : MoveRecord) (after before : Queues) (t : ByNumber.Queues) : Type 0 where
  pub lists : named t ≡ after
  pub recorded : IsMoveRecord r.item r.to before (named t) r
  pub kept : IsNamed t

-- two records of moves, one after the other
pub record AreMade (out put : MoveRecord) (after between before : Queues) (t : ByNumber.Queues) : Type 0 where
  pub out_recorded : IsMoveRecord out.item None before between out
  pub put_made : IsMade put after between t

-- the record r, undone from the queues shown before a call, leaves the queues t
pub record IsUndone (r : MoveRecord) (before : Queues) (t : ByNumber.Queues) : Type 0 where
  pub lists : named t ≡ queues_before_move r before
  pub kept : IsNamed t

from-place : (i : Item) (to : Option Queue) (p : QueuePlace) (s : Queues) → Some p ≡ item_place i (queue_holding i s) s
    → (let r : MoveRecord = record { item = i; from = Some p; to = to } in r ≡ move_record i to s)
from-place i to p s e = ap (λ (f : Option QueuePlace). let r : MoveRecord = record { item = i; from = f; to = to } in r) e

pushed-on : (q : Queue) (i : Item) (k : ℕ) (s t : ByNumber.Queues) → IsDistinct (named s) → IsNamed s → k ≡ number_of q → queue_holding i (named s) ≡ None → t ≡ ByNumber.after_push k (Entries.entry i 0) s
    → IsMade record { item = i; from = None; to = Some q } (queues_after_push q i (named s)) (named s) t
pushed-on q i k s t u h kq absent to =
    let made_of : t ≡ ByNumber.after_push (number_of q) (Entries.entry i 0) s = to ∙ rw kq refl in
    let lists : named t ≡ queues_after_push q i (named s) = ap named made_of ∙ push-named q (Entries.entry i 0) s in
    let r : MoveRecord = record { item = i; from = None; to = Some q } in
    let e : r ≡ move_record i (Some q) (named s) = rw absent refl in
    record {
      lists = lists;
      recorded = move-recorded i q (named s) (named t) r u e (lists ∙ pushed-moved i q (named s) absent);
      kept = subst IsNamed (sym made_of) (with-kept q (s (number_of q) ++ Entries.entry i 0 ∷ []) s h);
    }

module _ (s : ByNumber.Queues) (n : ℕ) (shown : Shown) (v : shown_of s n ≡ shown) (h : IsNamed s) where
  before-is : named s ≡ shown.lists
  before-is = ap (λ (x : Shown). x.lists) v

  -- an item that the lists by name do not hold
  pub absent-below : (i : Item) → queue_holding i shown.lists ≡ None → ByNumber.queue_holding i s ≡ None
  absent-below i none = missing-numbered i s h (ap (queue_holding i) before-is ∙ none)

  pub newest-shown : (q : Queue) (k : ℕ) (x : Entry) → k ≡ number_of q → Entries.newest_of (s k) ≡ Some x → Some x.item ≡ last_item (queue_of q shown.lists)
  newest-shown q k x kq last =
      ap (option_map (λ e. e.item)) (sym (ap (λ n. Entries.newest_of (s n)) (sym kq) ∙ last))
      ∙ sym (newest-map (λ (e : Entry). e.item) None (s (number_of q)))
      ∙ ap last_item (queue-named q s)
      ∙ ap (λ (x : Queues). last_item (queue_of q x)) before-is

  module _ (d : ByNumber.IsDistinct s) where
    pub distinct-shown : IsDistinct shown.lists
    distinct-shown = subst IsDistinct before-is (distinct-named s d)

    pub holding-is : (i : Item) (k : ℕ) → ByNumber.queue_holding i s ≡ Some k → queue_holding i shown.lists ≡ Some (name_of k)
    holding-is i k e = ap (queue_holding i) (sym before-is) ∙ holding-named i s d h k e

    pub missing-is : (i : Item) → ByNumber.queue_holding i s ≡ None → queue_holding i shown.lists ≡ None
    missing-is i e = ap (queue_holding i) (sym before-is) ∙ missing-named i s d h e

    pub pushed : (q : Queue) (i : Item) (k : ℕ) (t : ByNumber.Queues) → k ≡ number_of q → queue_holding i shown.lists ≡ None → t ≡ ByNumber.after_push k (Entries.entry i 0) s
        → IsMade record { item = i; from = None; to = Some q } (queues_after_push q i shown.lists) shown.lists t
    pushed q i k t kq none to =
        subst (λ (x : Queues). IsMade record { item = i; from = None; to = Some q } (queues_after_push q i x) x t) before-is
        (pushed-on q i k s t (distinct-named s d) h kq (ap (queue_holding i) before-is ∙ none) to)

    -- the slot's entry e is x, whose item stood at the place p
    module _ (e x : Entry) (p : Place) (from : QueuePlace) (ex : e ≡ x) (ps : Some p ≡ ByNumber.place_in e.item s) (fp : from ≡ named_place p) (t : ByNumber.Queues) where
      place-shown : Some from ≡ item_place x.item (queue_holding x.item (named s)) (named s)
      place-shown = ap (λ (y : QueuePlace). Some y) fp ∙ place-named x.item s d h p (ps ∙ ap (λ (y : Entry). ByNumber.place_in y.item s) ex)

      pub sent : (q : Queue) (k : ℕ) → k ≡ number_of q → t ≡ ByNumber.after_send (Entries.entry e.item 0) k s
          → IsMade record { item = x.item; from = Some from; to = Some q } (queues_after_move x.item q shown.lists) shown.lists t
      sent q k kq to =
          let out : ByNumber.Queues = ByNumber.after_removal x.item s in
          let made_of : t ≡ ByNumber.after_push (number_of q) (Entries.entry x.item 0) out = to ∙ rw (ex, kq) refl in
          let lists : named t ≡ queues_after_move x.item q (named s) =
          ap named made_of ∙ (push-named q (Entries.entry x.item 0) out ∙ ap (queues_after_push q x.item) (without-named x.item s)) in
          subst (λ (y : Queues). IsMade record { item = x.item; from = Some from; to = Some q } (queues_after_move x.item q y) y t) before-is
          record {
            lists = lists;
            recorded = move-recorded x.item q (named s) (named t) _ (distinct-named s d) (from-place x.item (Some q) from (named s) place-shown) lists;
            kept = subst IsNamed (sym made_of) (with-kept q (out (number_of q) ++ Entries.entry x.item 0 ∷ []) out (without-kept x.item s h));
          }

      pub taken : t ≡ ByNumber.after_removal e.item s
          → IsMade record { item = x.item; from = Some from; to = None } (queues_without x.item shown.lists) shown.lists t
      taken to =
          let made_of : t ≡ ByNumber.after_removal x.item s = to ∙ rw ex refl in
          let lists : named t ≡ queues_without x.item (named s) = ap named made_of ∙ without-named x.item s in
          subst (λ (y : Queues). IsMade record { item = x.item; from = Some from; to = None } (queues_without x.item y) y t) before-is
          record {
            lists = lists;
            recorded = out-recorded x.item (named s) (named t) _ (distinct-named s d) (from-place x.item None from (named s) place-shown) lists;
            kept = subst IsNamed (sym made_of) (without-kept x.item s h);
          }

      pub popped : (q : Queue) (k : ℕ) → k ≡ number_of q → Entries.oldest_of (s k) ≡ Some x → t ≡ ByNumber.after_removal e.item s
          → IsMade record { item = x.item; from = Some from; to = None } (queues_after_pop q shown.lists) shown.lists t
      popped q k kq first to = grind (arith, nat_tests, before-is, taken-first, distinct-named s d, taken to)

    pub renewed : (e x : Entry) (p : Place) (from : QueuePlace) → e ≡ x → Some p ≡ ByNumber.place_in e.item s → from ≡ named_place p
        → (q : Queue) (k : ℕ) → k ≡ number_of q → Entries.oldest_of (s k) ≡ Some x
        → (j : Item) (r : ℕ) (t : ByNumber.Queues) → r ≡ number_of q → queue_holding j shown.lists ≡ None → t ≡ ByNumber.after_push r (Entries.entry j 0) (ByNumber.after_removal e.item s)
        → AreMade record { item = x.item; from = Some from; to = None } record { item = j; from = None; to = Some q }
        (queues_after_push q j (queues_after_pop q shown.lists)) (queues_after_pop q shown.lists) shown.lists t
    renewed e x p from ex ps fp q k kq first j r t rq none to =
        let m : ByNumber.Queues = ByNumber.after_removal e.item s in
        let out = popped e x p from ex ps fp m q k kq first refl in
        let without : named m ≡ queues_without e.item (named s) = without-named e.item s in
        let u : IsDistinct (named m) = subst IsDistinct (sym without) (distinct-taken e.item (named s) (distinct-named s d)) in
        let absent : queue_holding j (named m) ≡ None = ap (queue_holding j) without ∙ still-absent j e.item (named s) (ap (queue_holding j) before-is ∙ none) in
        let put = pushed-on q j r m t u out.kept rq absent to in
        grind (arith, nat_tests)

  -- an item goes back to the place that its record names
  module _ (r : MoveRecord) (p : QueuePlace) (place : Place) (is : r.from ≡ Some p) (pp : place ≡ numbered_place p) (open_there : IsOpen r.from (queues_without r.item shown.lists)) where
    without-is : named (ByNumber.after_removal r.item s) ≡ queues_without r.item shown.lists
    without-is = without-named r.item s ∙ ap (queues_without r.item) before-is

    gap-shown : IsGap p.older (queue_of p.queue (queues_without r.item shown.lists))
    gap-shown = subst (λ (x : Option QueuePlace). IsOpen x (queues_without r.item shown.lists)) is open_there

    pub gap-without : Entries.IsGap place.older (ByNumber.after_removal r.item s place.queue)
    gap-without =
        let g = subst (IsGap p.older) (sym (queue-named p.queue (ByNumber.after_removal r.item s)))
        (subst (λ (x : Queues). IsGap p.older (queue_of p.queue x)) (sym without-is) gap-shown) in
        grind (arith, nat_tests)

    pub put-back : (t : ByNumber.Queues) → t ≡ ByNumber.after_return place.queue place.older (Entries.entry r.item 0) (ByNumber.after_removal r.item s) → IsUndone r shown.lists t
    put-back t to =
        let m : ByNumber.Queues = ByNumber.after_removal r.item s in
        let made_of : t ≡ ByNumber.after_return (number_of p.queue) p.older (Entries.entry r.item 0) m = to ∙ rw pp refl in
        record {
          lists = ap named made_of
              ∙ (return-named p.queue p.older (Entries.entry r.item 0) m
              ∙ (ap (λ (x : Queues). with_queue p.queue (put_behind p.older r.item (queue_of p.queue x)) x) without-is
              ∙ ap (λ (f : Option QueuePlace). queues_restored f r.item (queues_without r.item shown.lists)) (sym is)));
          kept = subst IsNamed (sym made_of) (with-kept p.queue (Entries.put_behind p.older (Entries.entry r.item 0) (m (number_of p.queue))) m (without-kept r.item s h));
        }
