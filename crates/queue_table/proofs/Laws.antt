-- What each call owes that moves one key, from what the table under it ensures.
use Rattle.std.proofs.Common.{◌≡◌, ℕ, suc, zero, ◌<◌, ◌≤◌, Some, List, [], ◌∷◌, ◌++◌, length, ap, ◌∙◌, sym, subst, arith, ◌≢◌, ◌+◌, false, Option, None, refl, inl, inr}
use Rattle.std.specs.List.{Contains, slice_index_or}
use Rattle.std.proofs.lemmas.Bool.Decides.{nat_tests}
use Rattle.queue_table.specs.Ring.{lists, order_of, entries, slot_entry}
use Rattle.queue_table.specs.Entries.{Item, entry, items_of, occurrences, oldest_of, before, is_same_item, entries_counted, last_item, newest_of, newest_from, put_behind, IsGap}
use Rattle.queue_table.specs.Queues.{QUEUES, Queues, queue_holding, place_at, place_in, IsDistinct, after_push, after_removal, after_send, after_count, after_return}
use Rattle.queue_table.specs.QueueTable.{HoldsAt}
use Rattle.queue_table.proofs.QueueLists.{same-refl, times-append, times-without, placed, absent, is_absent, still-absent, StandsIn, gap, move-back, taken-sent, out-back, pushed-back, high-empty}
use Rattle.queue_table.proofs.Contents.{has-entry}
use Rattle.queue_table.proofs.Holding.{StandsIn as SlotIn, stands, stands_in}
use Rattle.queue_table.specs.Moves.{Entry, count_of, standing, item_of, leaving, counts, goes, departed}
use Rattle.queue_table.specs.Tabled.{Slot, IsTabled, nodes_of, HasKeys}
use Rattle.queue_table.proofs.Tabled.{behind, found-split, few, elsewhere as other, nodes-append, nodes-without, counted-none, oldest-node, counted-own, nowhere, absent-gone, tabled-removal}
use Rattle.std.proofs.lemmas.Bool.{cases_eq}
use Rattle.std.proofs.Math.Path.{fun_ext}
use Rattle.queue_table.specs.declared.moves.KeyMove.{KeyMove}
use Rattle.queue_table.specs.declared.moves.Change.TheVariants as change
use Rattle.queue_table.specs.declared.moves.Departure.TheVariants as departure
use Rattle.queue_table.specs.Undoing.{Place, left_by, nothing_left, key_in, item_in, count_at, move_from, IsLeft, IsOwn}

-- ---- where the entry of a slot stands

-- the entry is in one of the queues
pub record Stands (e : Entry) (s : Queues) : Type 0 where
  pub queue : ℕ
  pub low : queue < QUEUES
  pub there : Contains (s queue) e

-- the entry of a slot in use
pub held-stands : (at : ℕ) (e : Entry) (slots : List Slot) → HoldsAt at e slots → Stands e (lists slots)
held-stands at e slots h = in_queue (stands_in at (order_of slots) h.used)
  where
    in_queue : SlotIn at QUEUES (order_of slots) → Stands e (lists slots)
    in_queue (stands q w m) = record {
      queue = q;
      low = w;
      there = subst (Contains (lists slots q)) h.entry (has-entry (λ k. slot_entry (entries slots) k) at (order_of slots (suc q)) m);
    }

pub at-times : (e : Entry) (k : ℕ) (l : List Entry) → k < length l → slice_index_or l k e ≡ e → 1 ≤ occurrences e.item l
at-times e k [] w h = absurd (omega (arith, w))
at-times e zero (x ∷ l) w h = grind (arith, nat_tests, same-refl e.item)
at-times e (suc k) (x ∷ l) w h = let r : 1 ≤ occurrences e.item l = at-times e k l (omega (arith, w)) h in omega (arith, r)

count-at : (e : Entry) (k : ℕ) (l : List Entry) → k < length l → slice_index_or l k e ≡ e → occurrences e.item l ≤ 1 → count_of e.item l ≡ e.count
count-at e k [] w h few = absurd (omega (arith, w))
count-at e zero (x ∷ l) w h few = grind (arith, nat_tests, same-refl e.item)
count-at e (suc k) (x ∷ l) w h few = search (arith, at-times e k l (omega arith) h, count-at e k l (omega arith) h)

pub first-in : (e : Entry) (l : List Entry) → oldest_of l ≡ Some e → Contains l e
first-in e v h = grind (arith, nat_tests)

abbrev pub oldest_stands : (e : Entry) (q : ℕ) (s : Queues) → q < QUEUES → oldest_of (s q) ≡ Some e → Stands e s
oldest_stands e q s w h = record { queue = q; low = w; there = first-in e (s q) h }

-- ---- of a table

module _ (e : Entry) (s : Queues) (t : IsTabled s) (at : Stands e s) where
  pub own-times : 1 ≤ occurrences e.item (s at.queue)
  own-times = at-times e at.there.0 (s at.queue) at.there.1 at.there.2

  pub own-count : count_of e.item (s at.queue) ≡ e.count
  own-count = count-at e at.there.0 (s at.queue) at.there.1 at.there.2 (few s t at.queue e.item)

  -- the queue cut around it
  abbrev pub cut : StandsIn at.queue e s
  cut = record {
    low = at.low;
    front = before e.item (s at.queue);
    back = behind e.item (s at.queue);
    whole = found-split e.item (s at.queue) own-times ∙ ap (λ n. before e.item (s at.queue) ++ entry e.item n ∷ behind e.item (s at.queue)) own-count;
  }

  pub holding : queue_holding e.item s ≡ Some at.queue
  holding = placed at.queue e.item s at.low t.distinct own-times

  pub elsewhere : (j : ℕ) → (j ≡ at.queue → ⊥) → occurrences e.item (s j) ≡ 0
  elsewhere = other s t at.queue e.item own-times

-- the queue and the count of a slot that was found
pub held-standing : (at : ℕ) (i : Item) (q n : ℕ) (slots : List Slot) → IsTabled (lists slots) → HoldsAt at (entry i n) slots → queue_holding i (lists slots) ≡ Some q
    → standing i (lists slots) ≡ Some (q, n)
held-standing at i q n slots t h g =
    let e : Stands (entry i n) (lists slots) = held-stands at (entry i n) slots h in
    let two : Some e.queue ≡ Some q = sym (holding (entry i n) (lists slots) t e) ∙ g in
    let same : e.queue ≡ q = cc two in
    grind (arith, nat_tests, own-count (entry i n) (lists slots) t e)

-- ---- keys

pub tabled-in : (slots : List Slot) → HasKeys (lists slots) → IsDistinct (lists slots) → IsTabled (lists slots)
tabled-in slots k d = record { keys = k; distinct = d; high = high-empty slots }

-- what stands in none of the queues that a table shows
pub absent-inside : (i : Item) (inside seen : List Slot) → inside ≡ seen → queue_holding i (lists seen) ≡ None → queue_holding i (lists inside) ≡ None
absent-inside i inside seen view h = ap (λ (x : List Slot). queue_holding i (lists x)) view ∙ h

-- what stands in a list of keys is the item of its key
pub key-item : (i : Item) → i.node ≡ 0 → item_of i.key ≡ i
key-item i h = ap (λ (x : ℕ). let r : Item = record { key = i.key; node = x } in r) (sym h)

newest-in : (e y : Entry) (l : List Entry) → y.item.node ≡ 0 → nodes_of l ≡ 0 → newest_from (Some y) l ≡ Some e → e.item.node ≡ 0
newest-in e y [] hy hl h = grind arith
newest-in e y (x ∷ l) hy hl h = newest-in e x l (omega (arith, hl)) (omega (arith, hl)) h

pub newest-node : (e : Entry) (l : List Entry) → nodes_of l ≡ 0 → newest_of l ≡ Some e → e.item.node ≡ 0
newest-node e [] z h = absurd (cc h)
newest-node e (x ∷ l) z h = newest-in e x l (omega (arith, z)) (omega (arith, z)) h

nodes-put : (older : Option Item) (e : Entry) (l : List Entry) → nodes_of (put_behind older e l) ≡ e.item.node + nodes_of l
nodes-put None e l = refl
nodes-put (Some a) e [] = refl
nodes-put (Some a) e (x ∷ l) = let r = nodes-put (Some a) e l in grind (arith, nat_tests)

-- an entry that comes back
pub keys-back : (q : ℕ) (older : Option Item) (e : Entry) (s : Queues) → e.item.node ≡ 0 → HasKeys s → HasKeys (after_return q older e (after_removal e.item s))
keys-back q older e s n k j = grind (arith, nat_tests, nodes-put, nodes-without, cases_eq)

-- ---- what stands elsewhere

pub first-other : (e o : Entry) (l : List Entry) → oldest_of l ≡ Some o → occurrences e.item l ≡ 0 → is_same_item e.item o.item ≡ false
first-other e o v h z = grind (arith, nat_tests)

-- nor is the entry of the slot of the oldest one
pub oldest-other : (e x o : Entry) (q : ℕ) (inside seen : List Slot) → inside ≡ seen → x ≡ o → oldest_of (lists inside q) ≡ Some o → occurrences e.item (lists seen q) ≡ 0
    → is_same_item e.item x.item ≡ false
oldest-other e x o q inside seen view is first z =
    ap (λ (y : Entry). is_same_item e.item y.item) is ∙ first-other e o (lists inside q) first (ap (λ (y : List Slot). occurrences e.item (lists y q)) view ∙ z)

pub off-after-send : (i : Item) (e : Entry) (to q : ℕ) (s : Queues) → is_same_item i e.item ≡ false → occurrences i (s q) ≡ 0 → occurrences i (after_send e to s q) ≡ 0
off-after-send i e to q s h z = grind (arith, nat_tests, times-without, times-append, cases_eq)

-- ---- one move of a table's entry

-- an entry that was put into a queue stands there
there-pushed : (i : Item) (to n : ℕ) (s : Queues) → to < QUEUES → queue_holding i (after_push to (entry i n) s) ≢ None
there-pushed i to n s w none = grind (arith, nat_tests, same-refl, absent, times-append)

module _ (e : Entry) (s : Queues) (t : IsTabled s) (at : Stands e s) where
  abbrev pub front : List Entry
  front = (cut e s t at).front

  place-is : place_in e.item s ≡ Some record { queue = at.queue; older = last_item front }
  place-is = ap (λ h. place_at e.item h s) (holding e s t at)

  pub sent-back : (to n : ℕ) → after_return at.queue (last_item front) e (after_removal e.item (after_send (entry e.item n) to s)) ≡ s
  sent-back to n = fun_ext (move-back at.queue to n e s t.distinct (cut e s t at) (elsewhere e s t at))

  taken-back : after_return at.queue (last_item front) e (after_removal e.item (after_removal e.item s)) ≡ s
  taken-back = fun_ext (out-back at.queue e s t.distinct (cut e s t at) (elsewhere e s t at))

  sent-gap : (to n : ℕ) → IsGap (last_item front) (after_removal e.item (after_send (entry e.item n) to s) at.queue)
  sent-gap to n = subst (IsGap (last_item front)) (sym (taken-sent e n to s at.queue)) (gap at.queue e s t.distinct (cut e s t at))

-- ---- counts

counted-twice : (i : Item) (m n : ℕ) (l : List Entry) → entries_counted i n (entries_counted i m l) ≡ entries_counted i n l
counted-twice i m n [] = refl
counted-twice i m n (x ∷ l) = let r = counted-twice i m n l in grind (arith, nat_tests)

-- ---- the accessed key

last-node : (x : Item) (l : List Entry) → x.node ≡ 0 → nodes_of l ≡ 0 → item_in (key_in (newest_from (Some x) (items_of l))) ≡ newest_from (Some x) (items_of l)
last-node x [] hx hl = ap Some (key-item x hx)
last-node x (y ∷ l) hx hl = last-node y.item l (omega (arith, hl)) (omega (arith, hl))

pub last-key : (l : List Entry) → nodes_of l ≡ 0 → item_in (key_in (last_item l)) ≡ last_item l
last-key [] h = refl
last-key (y ∷ l) h = last-node y.item l (omega (arith, h)) (omega (arith, h))

-- whose slot has the entry x
module _ (k n : ℕ) (s : Queues) (t : IsTabled s) (at : Stands (entry (item_of k) n) s) (x : Entry) (slot : x ≡ entry (item_of k) n) where
  abbrev own : Entry
  own = entry (item_of k) n

  abbrev older : Option Item
  older = last_item (front own s t at)

  front-nodes : nodes_of (front own s t at) ≡ 0
  front-nodes =
      let cut_in = ap nodes_of (cut own s t at).whole ∙ nodes-append (front own s t at) (own ∷ (cut own s t at).back) in
      omega (arith, cut_in)

  abbrev record_at : Option ℕ → ℕ → ℕ → KeyMove
  record_at o m q = record { key = k; older = o; count = m; queue = q; by = change.Moved }

  pub own-moved : (to m : ℕ) → to < QUEUES → (p : Place) → Some p ≡ place_in x.item s → (u : Queues) → u ≡ after_send (entry x.item m) to s
      → IsOwn (goes to m) (item_of k) s u (record_at (key_in p.older) n p.queue)
  own-moved to m w p h u made =
      let hu : u ≡ after_send (entry (item_of k) m) to s = made ∙ ap (λ (y : Entry). after_send (entry y.item m) to s) slot in
      let both : Some p ≡ Some record { queue = at.queue; older = older } = h ∙ ap (λ (y : Entry). place_in y.item s) slot ∙ place-is own s t at in
      let there : record { queue = at.queue; older = older } ≡ p = cc both in
      subst (λ (x : Place). IsOwn (goes to m) (item_of k) s u (record_at (key_in x.older) n x.queue)) there record {
        after = hu;
        is = ap (λ x. record_at (key_in older) x at.queue) (sym (own-count own s t at)) ∙ sym (ap (λ x. move_from (item_of k) x s) (place-is own s t at));
        fits = record {
          low = at.low;
          there = subst (λ x. queue_holding (item_of k) x ≢ None) (sym hu) (there-pushed (item_of k) to m (after_removal (item_of k) s) w);
          gap = subst (λ x. IsGap x (after_removal (item_of k) u at.queue)) (sym (last-key (front own s t at) front-nodes))
              (subst (λ x. IsGap older (after_removal (item_of k) x at.queue)) (sym hu) (sent-gap own s t at to m));
        };
        undone = ap (λ x. after_return at.queue x own (after_removal (item_of k) u)) (last-key (front own s t at) front-nodes)
            ∙ ap (λ x. after_return at.queue older own (after_removal (item_of k) x)) hu
            ∙ sent-back own s t at to m;
      }

  abbrev recounted : KeyMove
  recounted = record { key = k; older = None; count = n; queue = 0; by = change.Counted }

  pub own-counted : (m : ℕ) (u : Queues) → u ≡ after_count x.item m s → IsOwn (counts m) (item_of k) s u recounted
  own-counted m u made =
      let hu : u ≡ after_count (item_of k) m s = made ∙ ap (λ (y : Entry). after_count y.item m s) slot in
      record {
        after = hu;
        is = ap (λ y. record { key = k; older = None; count = y; queue = 0; by = change.Counted })
            (sym (ap (λ h. count_at (item_of k) h s) (holding own s t at) ∙ own-count own s t at));
        fits = tt;
        undone = ap (after_count (item_of k) n) hu ∙ fun_ext (λ j. counted-twice (item_of k) m n (s j) ∙ same j);
      }
    where
      same : (j : ℕ) → entries_counted (item_of k) n (s j) ≡ s j
      same j =
          elim (cases_eq j at.queue) [
            | inl z ↦ counted-own (item_of k) n (s j) (inl (ap (λ x. count_of (item_of k) (s x)) z ∙ own-count own s t at)) (few s t j (item_of k))
            | inr z ↦ counted-none (item_of k) n (s j) (elsewhere own s t at j z)
          ]

-- a key that joins
module _ (k : ℕ) (s : Queues) (t : IsTabled s) (none : queue_holding (item_of k) s ≡ None) where
  pub own-joined : (to m : ℕ) → to < QUEUES → (u : Queues) → u ≡ after_push to (entry (item_of k) m) s
      → IsOwn (goes to m) (item_of k) s u record { key = k; older = None; count = 0; queue = 0; by = change.Joined }
  own-joined to m w u hu = grind (arith, nat_tests, absent-gone, there-pushed, pushed-back, nowhere)

-- once another has gone, whose slot has the entry x
pub own-renewed : (k : ℕ) (s : Queues) → IsTabled s → queue_holding (item_of k) s ≡ None → (e x : Entry) → x ≡ e → (to m : ℕ) → to < QUEUES
    → (u : Queues) → u ≡ after_push to (entry (item_of k) m) (after_removal x.item s)
    → IsOwn (goes to m) (item_of k) (after_removal e.item s) u record { key = k; older = None; count = 0; queue = 0; by = change.Joined }
own-renewed k s t none e x slot to m w u made =
    own-joined k _ (tabled-removal s t e.item) (is_absent (item_of k) _ (still-absent (item_of k) e.item s (absent (item_of k) s none))) to m w u
    (made ∙ ap (λ (y : Entry). after_push to (entry (item_of k) m) (after_removal y.item s)) slot)

-- ---- the oldest key of a queue

pub no-front : (e : Entry) (l : List Entry) → oldest_of l ≡ Some e → last_item (before e.item l) ≡ None
no-front e v h = grind (arith, nat_tests, same-refl)

-- whose slot has the entry x
module _ (e x : Entry) (q : ℕ) (s : Queues) (t : IsTabled s) (w : q < QUEUES) (first : oldest_of (s q) ≡ Some e) (slot : x ≡ e) where
  abbrev at_end : Stands e s
  at_end = oldest_stands e q s w first

  own-key : item_of e.item.key ≡ e.item
  own-key = key-item e.item (oldest-node e (s q) (t.keys q) first)

  pub left-sent : (to m : ℕ) → to < QUEUES → (u : Queues) → u ≡ after_send (entry x.item m) to s
      → IsLeft (leaving q (Some (to, m))) s u record { key = e.item.key; count = e.count; queue = q; by = departure.Sent }
  left-sent to m low u made =
      let hu : u ≡ after_send (entry e.item m) to s = made ∙ ap (λ (y : Entry). after_send (entry y.item m) to s) slot in
      record {
        after = hu ∙ sym (ap (λ y. departed (Some (to, m)) y s) first);
        is = sym (ap (left_by (Some (to, m)) q) first);
        fits = (w, subst (λ i. queue_holding i u ≢ None) (sym own-key) (subst (λ y. queue_holding e.item y ≢ None) (sym hu) (there-pushed e.item to m (after_removal e.item s) low)));
        undone = ap (λ i. after_return q None (entry i e.count) (after_removal i u)) own-key
            ∙ ap (λ y. after_return q None e (after_removal e.item y)) hu
            ∙ ap (λ o. after_return q o e (after_removal e.item (after_send (entry e.item m) to s))) (sym (no-front e (s q) first))
            ∙ sent-back e s t at_end to m;
      }

  pub left-out : (u : Queues) → u ≡ after_removal x.item s
      → IsLeft (leaving q None) s u record { key = e.item.key; count = e.count; queue = q; by = departure.Out }
  left-out u hu = grind (arith, nat_tests, own-key, no-front e (s q) first, taken-back e s t at_end, slot)

pub nothing-left : (s : Queues) → IsLeft None s s nothing_left
nothing-left s = record { after = refl; is = refl; fits = tt; undone = refl }
