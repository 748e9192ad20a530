-- The entries of slots.
use Rattle.std.proofs.Common.{◌≡◌, ℕ, suc, ◌+◌, ◌<◌, ◌≤◌, true, false, cond, eqb, Option, Some, None, List, [], ◌∷◌, ◌++◌, get_or, set, map, ap, ◌∙◌, sym, refl, subst, arith, inl, inr, get_or-set_other, append-nil, append_assoc}
use Rattle.std.specs.List.{Contains}
use Rattle.std.proofs.Math.Path.{fun_ext}
use Rattle.std.proofs.lemmas.Bool.{cases_Bool, cases_eq, cases_lt, eqb-true}
use Rattle.std.proofs.lemmas.List.{map-append}
use Rattle.std.proofs.lemmas.Bool.Decides.{nat_tests}
use Rattle.queue_table.specs.Entries.{Entry, Item, is_same_item, items_of, occurrences, newest_from, last_item, before, put_behind, entries_without}
use Rattle.queue_table.specs.Queues.{QUEUES, queue_holding, times_below, after_push, after_removal, after_return, IsDistinct}
use Rattle.queue_table.proofs.Items.{put_behind-at}
use Rattle.queue_table.proofs.QueueLists.{same-true, same-refl, times-append, IsAbsent, is_absent, placed, queue-few, times-none, times-with}
use Rattle.queue_table.specs.Ring.{slot_entry, slot_item, count, put_before, FIRST, Order, used, order_without, sent, lists_of, item_or, IsShort}
use Rattle.queue_table.specs.QueueTable.{IsBehind}
use Rattle.engine_base.specs.Keys.{keys_without}
use Rattle.queue_table.proofs.Splices.{count-append, count-here, end_of}
use Rattle.queue_table.proofs.Turning.{map-without, put-sentinel, without-none}
use Rattle.queue_table.proofs.Orders.{put-end, section-in, section-used, short-without, with-other}

-- how often an item stands among the entries of slots

pub times-map : (f : ℕ → Entry) (i : Item) (k : ℕ) (l : List ℕ) → is_same_item i (f k).item ≡ true → count k l ≤ occurrences i (map f l)
times-map f i k [] h = omega arith
times-map f i k (x ∷ l) h = let r = times-map f i k l h in let e = cases_eq k x in grind (arith, nat_tests)

pub times-two : (f : ℕ → Entry) (i : Item) (j k : ℕ) (l : List ℕ) → (j ≡ k → ⊥) → is_same_item i (f j).item ≡ true → is_same_item i (f k).item ≡ true → count j l + count k l ≤ occurrences i (map f l)
times-two f i j k [] d g h = omega arith
times-two f i j k (x ∷ l) d g h = grind (arith, nat_tests, times-two f i j k l d g h, cases_eq j x, cases_eq k x)

pub times-map-none : (f : ℕ → Entry) (i : Item) (l : List ℕ) → ((k : ℕ) → 1 ≤ count k l → is_same_item i (f k).item ≡ false) → occurrences i (map f l) ≡ 0
times-map-none f i [] h = refl
times-map-none f i (x ∷ l) h =
    let e : is_same_item i (f x).item ≡ false = h x (let n = count-here x l in omega (arith, n)) in
    let r = times-map-none f i l (λ k n. h k (omega arith)) in
    rw e (omega (arith, r))

pub map-same : (f g : ℕ → Entry) (l : List ℕ) → ((k : ℕ) → 1 ≤ count k l → f k ≡ g k) → map f l ≡ map g l
map-same f g [] h = refl
map-same f g (x ∷ l) h =
    let e : f x ≡ g x = h x (let n = count-here x l in omega (arith, n)) in
    rw e (ap (λ t. g x ∷ t) (map-same f g l (λ k n. h k (omega arith))))

pub times-used : (i : Item) (o : Order) (es : List Entry) → occurrences i (map (λ k. slot_entry es k) (used o)) ≡ times_below QUEUES i (lists_of o es)
times-used i o es = grind (arith, nat_tests, map-append, times-append)

-- two slots in use hold different items
pub alone : (o : Order) (es : List Entry) (k j : ℕ) → IsDistinct (lists_of o es) → 1 ≤ count k (used o) → 1 ≤ count j (used o) → is_same_item (slot_item es k) (slot_item es j) ≡ eqb k j
alone o es k j d a b =
    grind (arith, nat_tests, same-refl (slot_item es k), times-two, times-used (slot_item es k) o es, cases_eq k j)

-- two orders with the same entries in each queue
pub by-queue : (o p : Order) (es fs : List Entry) → IsShort o → IsShort p → ((q : ℕ) → q < QUEUES → lists_of o es q ≡ lists_of p fs q) → lists_of o es ≡ lists_of p fs
by-queue o p es fs a b h = grind (arith, nat_tests, cases_lt)

-- the item of a slot taken out

pub taken-order : (o : Order) (es : List Entry) (k : ℕ) → IsShort o → IsDistinct (lists_of o es) → 1 ≤ count k (used o) → after_removal (slot_item es k) (lists_of o es) ≡ lists_of (order_without k o) es
taken-order o es k sh d h = fun_ext (λ q. elim (cases_lt q QUEUES) [
  | inl w ↦ map-without (λ j. slot_entry es j) (λ (e : Entry). is_same_item (slot_item es k) e.item) k (o (suc q)) (entries_without (slot_item es k)) refl (λ x xs. refl) (λ j n. alone o es k j d h (section-used q j o w n))
  | inr w ↦ ap (λ l. entries_without (slot_item es k) (map (λ j. slot_entry es j) l)) (sh (suc q) (omega (arith, w))) ∙ sym (ap (λ l. map (λ j. slot_entry es j) (keys_without k l)) (sh (suc q) (omega (arith, w))))
])

unused-in : (k q : ℕ) (o : Order) → q < QUEUES → count k (used o) ≡ 0 → count k (o (suc q)) ≡ 0
unused-in k q o w h = let a = section-in q k o w in omega (arith, a, h)

pub lists-unused : (o : Order) (es : List Entry) (k : ℕ) → IsShort o → count k (used o) ≡ 0 → lists_of (order_without k o) es ≡ lists_of o es
lists-unused o es k sh h = by-queue (order_without k o) o es es (short-without k o sh) sh (λ q w. ap (map (λ j. slot_entry es j)) (without-none k (o (suc q)) (unused-in k q o w h)))

-- the entry of a slot that is not in use written

not-there : (j k : ℕ) (l : List ℕ) → count k l ≡ 0 → 1 ≤ count j l → j ≡ k → ⊥
not-there j k l a b e = let c = ap (λ x. count x l) e in omega (arith, a, b, c)

pub lists-kept : (o : Order) (es : List Entry) (k : ℕ) (e : Entry) → IsShort o → count k (used o) ≡ 0 → lists_of o (set es k e) ≡ lists_of o es
lists-kept o es k e sh h = by-queue o o (set es k e) es sh sh (λ q w. map-same (λ j. slot_entry (set es k e) j) (λ j. slot_entry es j) (o (suc q)) (λ j n. get_or-set_other es k j e _ (not-there j k (o (suc q)) (unused-in k q o w h) n)))

-- the lists say nothing of the free slots
pub lists-freed : (k b : ℕ) (o : Order) (es : List Entry) → lists_of (sent k 0 b o) es ≡ lists_of (order_without k o) es
lists-freed k b o es = fun_ext (λ q. ap (map (λ j. slot_entry es j)) (with-other 0 (suc q) (put_before k b (keys_without k (o 0))) (order_without k o) (λ e. omega (arith, e))))

-- put in place

pub lists-recent : (q k b : ℕ) (o : Order) (es : List Entry) → count b (order_without k o (suc q)) ≡ 0 → lists_of (sent k (suc q) b o) es ≡ after_push q (slot_entry es k) (lists_of (order_without k o) es)
lists-recent q k b o es h = grind (arith, nat_tests, put-end, map-append)

-- a list cut where what a function makes of it is
pub record IsCutAt {X Y : Type 0} (f : X → Y) (l : List X) (xs ys : List Y) : Type 0 where
  pub front : List X
  pub back : List X
  pub whole : l ≡ front ++ back
  pub fronts : map f front ≡ xs
  pub backs : map f back ≡ ys

pub cut_at : {X Y : Type 0} (f : X → Y) (l : List X) (xs ys : List Y) → map f l ≡ xs ++ ys → IsCutAt f l xs ys
cut_at f l [] ys h = record { front = []; back = l; whole = refl; fronts = refl; backs = h }
cut_at f [] (x ∷ xs) ys h = absurd (cc (h))
cut_at f (k ∷ l) (x ∷ xs) ys h =
    let here : f k ≡ x = cc in
    let r = cut_at f l xs ys (cc) in
    record { front = k ∷ r.front; back = r.back; whole = ap (λ t. k ∷ t) r.whole; fronts = rw (here, r.fronts) refl; backs = r.backs }

front-few : (f : ℕ → Entry) (l : List ℕ) (xs ys : List Entry) → map f l ≡ xs ++ ys → ((j : Item) → occurrences j (map f l) ≤ 1) → (j : Item) → occurrences j xs ≤ 1
front-few f l xs ys e u j = let a = ap (occurrences j) e in let b = times-append j xs ys in let c = u j in omega (arith, a, b, c)

put-cut : (f : ℕ → Entry) (k b c : ℕ) (us vs : List ℕ) → ((j : Item) → occurrences j (map f (us ++ vs)) ≤ 1) → count c (us ++ vs) ≡ 0 → get_or vs 0 c ≡ b → put_before k b (us ++ vs) ≡ us ++ k ∷ vs
put-cut f k b c us [] u n e = ap (λ x. put_before k x (us ++ [])) (sym e) ∙ (put-end k c (us ++ []) n ∙ rw (append-nil us) refl)
put-cut f k b c us (v ∷ vs) u n e =
    let none : count v us ≡ 0 = (
    omega (arith, times-map f (f v).item v (us ++ v ∷ vs) (same-refl (f v).item), count-append, count-here v vs)) in
    ap (λ x. put_before k x (us ++ v ∷ vs)) (sym e) ∙ (put-sentinel k v us vs none ∙ append_assoc us (k ∷ []) (v ∷ vs))

pub map-put : (q k b : ℕ) (older : Option Item) (es : List Entry) (l : List ℕ) → ((j : Item) → occurrences j (map (λ x. slot_entry es x) l) ≤ 1) → count (suc (suc q)) l ≡ 0 → IsBehind b q older es l →
    map (λ x. slot_entry es x) (put_before k b l) ≡ put_behind older (slot_entry es k) (map (λ x. slot_entry es x) l)
map-put q k b older es l u n c =
    let f : ℕ → Entry = λ x. slot_entry es x in
    let few : (j : Item) → occurrences j (map f (c.front ++ c.back)) ≤ 1 = subst (λ (m : List ℕ). (j : Item) → occurrences j (map f m) ≤ 1) c.whole u in
    let none : count (suc (suc q)) (c.front ++ c.back) ≡ 0 = subst (λ (m : List ℕ). count (suc (suc q)) m ≡ 0) c.whole n in
    let parts : map f l ≡ map f c.front ++ map f c.back = ap (map f) c.whole ∙ map-append f c.front c.back in
    ap (λ (m : List ℕ). map f (put_before k b m)) c.whole
    ∙ (ap (map f) (put-cut f k b (suc (suc q)) c.front c.back few none c.next)
    ∙ (map-append f c.front (k ∷ c.back)
    ∙ (sym (put_behind-at (λ (e : Entry). e.item) older (f k) (map f c.front) (map f c.back) (front-few f l (map f c.front) (map f c.back) parts u) c.older_last)
    ∙ ap (put_behind older (f k)) (sym parts))))

pub lists-back : (q k b : ℕ) (o : Order) (es : List Entry) (older : Option Item) → q < QUEUES → IsDistinct (lists_of (order_without k o) es) →
    count (suc (suc q)) (order_without k o (suc q)) ≡ 0 → IsBehind b q older es (order_without k o (suc q)) →
    lists_of (sent k (suc q) b o) es ≡ after_return q older (slot_entry es k) (lists_of (order_without k o) es)
lists-back q k b o es older w d n c = grind (arith, nat_tests, map-put, queue-few)

-- distinct items

times-put : (f : ℕ → Entry) (i : Item) (k b : ℕ) (l : List ℕ) → occurrences i (map f (put_before k b l)) ≡ cond (is_same_item i (f k).item) 1 0 + occurrences i (map f l)
times-put f i k b [] = refl
times-put f i k b (x ∷ l) = let r = times-put f i k b l in grind (arith, nat_tests)

pub distinct-sent : (q k b : ℕ) (o : Order) (es : List Entry) → q < QUEUES → IsDistinct (lists_of (order_without k o) es) → IsAbsent (slot_item es k) (lists_of (order_without k o) es) → IsDistinct (lists_of (sent k (suc q) b o) es)
distinct-sent q k b o es w d a i = grind (arith, nat_tests, times-with, times-put, same-true, times-none)

-- neighbours

pub before-map : (f : ℕ → Entry) (k : ℕ) (us vs : List ℕ) → ((j : ℕ) → 1 ≤ count j us → is_same_item (f k).item (f j).item ≡ false) → before (f k).item (map f (us ++ k ∷ vs)) ≡ map f us
before-map f k [] vs h = let e = same-refl (f k).item in rw e refl
before-map f k (x ∷ us) vs h =
    let e : is_same_item (f k).item (f x).item ≡ false = h x (let n = count-here x us in omega (arith, n)) in
    rw e (ap (λ t. f x ∷ t) (before-map f k us vs (λ j n. h j (omega arith))))

item-last : (es : List Entry) (x : ℕ) (us : List ℕ) → FIRST ≤ x → ((j : ℕ) → 1 ≤ count j us → FIRST ≤ j) → item_or es (end_of x us) ≡ newest_from (Some (slot_item es x)) (items_of (map (λ k. slot_entry es k) us))
item-last es x [] r h = (grind (arith, nat_tests))
item-last es x (y ∷ us) r h = item-last es y us (h y (let n = count-here y us in omega (arith, n))) (λ j n. h j (omega arith))

pub item-end : (es : List Entry) (a : ℕ) (us : List ℕ) → a < FIRST → ((j : ℕ) → 1 ≤ count j us → FIRST ≤ j) → item_or es (end_of a us) ≡ last_item (map (λ k. slot_entry es k) us)
item-end es a [] s h = (grind (arith, nat_tests))
item-end es a (x ∷ us) s h = item-last es x us (h x (let n = count-here x us in omega (arith, n))) (λ j n. h j (omega arith))

-- where a slot's item stands
pub placed-at : (q k : ℕ) (o : Order) (es : List Entry) → q < QUEUES → IsDistinct (lists_of o es) → 1 ≤ count k (o (suc q)) → queue_holding (slot_item es k) (lists_of o es) ≡ Some q
placed-at q k o es w d h = grind (arith, nat_tests, placed, times-map, same-refl (slot_item es k))

pub unplaced-at : (i : Item) (o : Order) (es : List Entry) → ((k : ℕ) → 1 ≤ count k (used o) → is_same_item i (slot_item es k) ≡ false) → queue_holding i (lists_of o es) ≡ None
unplaced-at i o es h = search (arith, is_absent, times-map-none, section-used)

-- the entry of a slot that stands in the list
pub has-entry : (f : ℕ → Entry) (k : ℕ) (l : List ℕ) → 1 ≤ count k l → Contains (map f l) (f k)
has-entry f k [] n = absurd (omega (arith, n))
has-entry f k (x ∷ l) n =
    elim (cases_Bool (eqb k x)) as (λ _. Contains (f x ∷ map f l) (f k)) [
      | inl e ↦ (0, omega arith, ap f (sym (eqb-true k x e)))
      | inr e ↦
          let n2 : 1 ≤ 0 + count k l = rw e at n in
          let r = has-entry f k l (omega (arith, n2)) in
          (suc r.0, omega (arith, r.1), r.2)
    ]
