-- What the calls make of the queues of a table of keys. As lists these lose nothing.
use Rattle.std.proofs.Common.{◌≡◌, ℕ, zero, suc, sym, refl, arith, ◌+◌, ◌-◌, ◌<◌, ◌≤◌, false, cond, eqb, nat_lt, Option, Some, None, List, [], ◌∷◌, ◌++◌, ap, ◌∙◌, ◌⊎◌, inr}
use Rattle.std.proofs.Math.Path.{fun_ext}
use Rattle.queue_table.specs.Queues.{Queues, QUEUES, with_queue, queue_holding, after_push, after_removal, after_send, after_count}
use Rattle.queue_table.specs.Lists.{lists_of, queues_in}
use Rattle.queue_table.specs.Tabled.{IsTabled, nodes_of, keys_of, StandsAs, lowered_entry, turned_list}
use Rattle.std.proofs.lemmas.Bool.{cases_eq, cases_lt, lt-ltb, le-ltb}
use Rattle.std.proofs.lemmas.List as ListLemmas
use Rattle.std.proofs.lemmas.Bool.Decides.{nat_tests}
use Rattle.engine_base.specs.Keys.{has_key, keys_without}
use Rattle.queue_table.specs.Entries.{Item, is_same_item, entry, occurrences, entries_without, entries_counted, oldest_of, before}
use Rattle.queue_table.proofs.QueueLists.{same-true, same-refl, times-append, IsAbsent, absent, absent-taken, placed, queue-few, distinct-taken, with-queue-same, with-queue-other, times-with, times-none, StandsIn, front-none, back-none, rest, without-none}
use Rattle.queue_table.proofs.Counting.{distinct-counted}
use Rattle.queue_table.specs.Moves.{Entry, item_of, count_of, standing, standing_at, Leaving, Own, stays, counts, goes, Plan, IsLowTarget, IsLowLeaving, IsLowOwn, IsLowPlan, turned, after_turn, after_turns, departed, after_leaving, after_own, after_runs, after_first, after_second, after_all}

pub lists-shown : (s : Queues) → IsTabled s → queues_in (lists_of s) ≡ s
lists-shown s t = fun_ext at
  where
    at : (q : ℕ) → queues_in (lists_of s) q ≡ s q
    at zero = refl
    at (suc zero) = refl
    at (suc (suc zero)) = refl
    at (suc (suc (suc zero))) = refl
    at (suc (suc (suc (suc q)))) = sym (t.high (suc (suc (suc (suc q)))) (omega arith))

-- ---- lists of entries

pub keys-append : (a b : List Entry) → keys_of (a ++ b) ≡ keys_of a ++ keys_of b
keys-append a b = ListLemmas.map-append (λ (e : Entry). e.item.key) a b

pub nodes-append : (a b : List Entry) → nodes_of (a ++ b) ≡ nodes_of a + nodes_of b
nodes-append [] b = omega arith
nodes-append (e ∷ a) b = let r : nodes_of (a ++ b) ≡ nodes_of a + nodes_of b = nodes-append a b in omega (arith, r)

pub nodes-without : (i : Item) (l : List Entry) → nodes_of (entries_without i l) ≤ nodes_of l
nodes-without i [] = omega arith
nodes-without i (e ∷ l) = let r = nodes-without i l in grind (arith, nat_tests)

nodes-counted : (i : Item) (n : ℕ) (l : List Entry) → nodes_of (entries_counted i n l) ≡ nodes_of l
nodes-counted i n [] = refl
nodes-counted i n (e ∷ l) = let r = nodes-counted i n l in grind (arith, nat_tests)

-- the item has the count already, or stands nowhere
pub counted-own : (i : Item) (n : ℕ) (l : List Entry) → (count_of i l ≡ n) ⊎ (occurrences i l ≡ 0) → occurrences i l ≤ 1 → entries_counted i n l ≡ l
counted-own i n [] h few = refl
counted-own i n (x ∷ l) h few = grind (arith, nat_tests, counted-own i n l)

pub counted-none : (i : Item) (n : ℕ) (l : List Entry) → occurrences i l ≡ 0 → entries_counted i n l ≡ l
counted-none i n l z = counted-own i n l (inr z) (omega (arith, z))

-- what follows an item that stands in the list
abbrev pub behind : Item → List Entry → List Entry
behind i [] = []
behind i (e ∷ l) = cond (is_same_item i e.item) l (behind i l)

pub found-split : (i : Item) (l : List Entry) → 1 ≤ occurrences i l → l ≡ before i l ++ entry i (count_of i l) ∷ behind i l
found-split i [] h = absurd (omega (arith, h))
found-split i (x ∷ l) h = grind (arith, nat_tests, found-split i l, same-true i x.item)

-- ---- keys and items

pub same-key : (k : ℕ) (i : Item) → i.node ≡ 0 → is_same_item (item_of k) i ≡ eqb k i.key
same-key k i h = grind (arith, nat_tests)

pub has-occurs : (k : ℕ) (l : List Entry) → nodes_of l ≡ 0 → has_key k (keys_of l) ≡ nat_lt 0 (occurrences (item_of k) l)
has-occurs k [] h = refl
has-occurs k (x ∷ l) h = grind (arith, nat_tests, same-key k x.item (omega arith), has-occurs k l (omega arith))

pub keys-taken : (k : ℕ) (l : List Entry) → nodes_of l ≡ 0 → keys_without k (keys_of l) ≡ keys_of (entries_without (item_of k) l)
keys-taken k [] h = refl
keys-taken k (x ∷ l) h = grind (arith, nat_tests, same-key k x.item (omega arith), keys-taken k l (omega arith))

has-key-none : (k : ℕ) (l : List Entry) → nodes_of l ≡ 0 → occurrences (item_of k) l ≡ 0 → has_key k (keys_of l) ≡ false
has-key-none k l h m = has-occurs k l h ∙ le-ltb 0 (occurrences (item_of k) l) (omega (arith, m))

pub oldest-node : (e : Entry) (l : List Entry) → nodes_of l ≡ 0 → oldest_of l ≡ Some e → e.item.node ≡ 0
oldest-node e v z h = grind (arith, nat_tests)

-- ---- queues by number

with-queue-is : (q : ℕ) (l : List Entry) (s t : Queues) → t q ≡ l → ((j : ℕ) → (j ≡ q → ⊥) → t j ≡ s j) → t ≡ with_queue q l s
with-queue-is q l s t h off = fun_ext (λ j. let o = off j in let e = cases_eq j q in grind (arith, nat_tests))

standing-parts : (i : Item) (h : Option ℕ) (s : Queues) (q n : ℕ) → standing_at i h s ≡ Some (q, n) → (h ≡ Some q) × (count_of i (s q) ≡ n)
standing-parts i v s q n e = grind (arith, nat_tests)

nowhere-at : (i : Item) (h : Option ℕ) (s : Queues) → standing_at i h s ≡ None → h ≡ None
nowhere-at i v s e = grind (arith, nat_tests)

pub nowhere-standing : (i : Item) (s : Queues) → standing i s ≡ None → queue_holding i s ≡ None
nowhere-standing i s h = nowhere-at i (queue_holding i s) s h

-- ---- tabled queues

module _ (s : Queues) (t : IsTabled s) where
  pub few : (q : ℕ) (i : Item) → occurrences i (s q) ≤ 1
  few q i = grind (arith, nat_tests, queue-few)

  low : (q : ℕ) (i : Item) → 1 ≤ occurrences i (s q) → q < QUEUES
  low q i h = let high = λ (w : QUEUES ≤ q). ap (occurrences i) (t.high q w) in grind arith

  -- an item that stands in one queue stands in no other one
  pub elsewhere : (q : ℕ) (i : Item) → 1 ≤ occurrences i (s q) → (j : ℕ) → (j ≡ q → ⊥) → occurrences i (s j) ≡ 0
  elsewhere q i h j d = grind (arith, nat_tests, cases_lt, placed, low)

  pub nowhere : (i : Item) → queue_holding i s ≡ None → (j : ℕ) → occurrences i (s j) ≡ 0
  nowhere i h j = grind (arith, nat_tests, absent)

  pub counts-absent : (i : Item) (n : ℕ) → queue_holding i s ≡ None → after_count i n s ≡ s
  counts-absent i n h = fun_ext (λ j. counted-none i n (s j) (nowhere i h j))

  at-once : (q : ℕ) (e : Entry) (a b : List Entry) → s q ≡ a ++ e ∷ b → 1 ≤ occurrences e.item (s q)
  at-once q e a b h = grind (arith, nat_tests, same-refl e.item, times-append e.item a (e ∷ b))

  abbrev cut : (q : ℕ) (e : Entry) (a b : List Entry) → s q ≡ a ++ e ∷ b → StandsIn q e s
  cut q e a b h = record { low = low q e.item (at-once q e a b h); front = a; back = b; whole = h }

  gone-at : (q : ℕ) (e : Entry) (a b : List Entry) → s q ≡ a ++ e ∷ b → entries_without e.item (s q) ≡ a ++ b
  gone-at q e a b h = rest q e s t.distinct (cut q e a b h)

  pub standing-gone : (q : ℕ) (e : Entry) (a b : List Entry) → s q ≡ a ++ e ∷ b → after_removal e.item s ≡ with_queue q (a ++ b) s
  standing-gone q e a b h = search (arith, with-queue-is, gone-at q e a b h, without-none, elsewhere, at-once q e a b h)

  pub oldest-gone : (q : ℕ) (e : Entry) (l : List Entry) → s q ≡ e ∷ l → after_removal e.item s ≡ with_queue q l s
  oldest-gone q e l h = standing-gone q e [] l h

  pub absent-gone : (i : Item) → queue_holding i s ≡ None → after_removal i s ≡ s
  absent-gone i h = fun_ext (λ j. without-none i (s j) (nowhere i h j))

  nodes-at : (q : ℕ) (e : Entry) (a b : List Entry) → s q ≡ a ++ e ∷ b → nodes_of a + (e.item.node + nodes_of b) ≡ 0
  nodes-at q e a b h = sym (ap nodes_of h ∙ nodes-append a (e ∷ b)) ∙ t.keys q

  module _ (k : ℕ) where
    stands-in : (q n : ℕ) → 1 ≤ occurrences (item_of k) (s q) → count_of (item_of k) (s q) ≡ n → StandsAs k q n s
    stands-in q n m c =
        let i : Item = item_of k in
        let whole : s q ≡ before i (s q) ++ entry i n ∷ behind i (s q) =
        found-split i (s q) m ∙ ap (λ x. before i (s q) ++ entry i x ∷ behind i (s q)) c in
        let none = elsewhere q i m in
        let plain = nodes-at q (entry i n) (before i (s q)) (behind i (s q)) whole in
        record {
          low = low q i m;
          front = before i (s q);
          back = behind i (s q);
          whole = whole;
          here = (has-occurs k (s q) (t.keys q) ∙ lt-ltb 0 (occurrences (item_of k) (s q)) m);
          front_off = has-key-none k (before i (s q)) (omega (arith, plain)) (front-none q (entry i n) s t.distinct (cut q (entry i n) (before i (s q)) (behind i (s q)) whole));
          back_off = has-key-none k (behind i (s q)) (omega (arith, plain)) (back-none q (entry i n) s t.distinct (cut q (entry i n) (before i (s q)) (behind i (s q)) whole));
          off = λ j d. has-key-none k (s j) (t.keys j) (none j d);
          without = keys-taken k (s q) (t.keys q) ∙ ap keys_of (gone-at q (entry i n) (before i (s q)) (behind i (s q)) whole);
          off_without = λ j d. keys-taken k (s j) (t.keys j) ∙ ap keys_of (without-none i (s j) (none j d));
        }

    pub stands : (q n : ℕ) → standing (item_of k) s ≡ Some (q, n) → StandsAs k q n s
    stands q n h = grind (arith, nat_tests, standing-parts, stands-in)

    pub stands-nowhere : standing (item_of k) s ≡ None → (j : ℕ) → (has_key k (keys_of (s j)) ≡ false) × (keys_without k (keys_of (s j)) ≡ keys_of (s j))
    stands-nowhere h j = grind (arith, nat_tests, nowhere, nowhere-standing, has-key-none, keys-taken, without-none)

-- ---- they stay tabled

pub tabled-push : (s : Queues) → IsTabled s → (q : ℕ) (e : Entry) → q < QUEUES → e.item.node ≡ 0 → IsAbsent e.item s → IsTabled (after_push q e s)
tabled-push s t q e w node none =
    grind (arith, nat_tests, nodes-append, cases_eq, times-with, times-append, times-none, same-true, with-queue-other)

module _ (s : Queues) (t : IsTabled s) where
  pub tabled-removal : (i : Item) → IsTabled (after_removal i s)
  tabled-removal i = grind (arith, nat_tests, nodes-without, distinct-taken i s t.distinct)

  pub tabled-count : (i : Item) (n : ℕ) → IsTabled (after_count i n s)
  tabled-count i n = grind (arith, nat_tests, nodes-counted, distinct-counted i n s t.distinct)

  pub tabled-send : (e : Entry) (to : ℕ) → to < QUEUES → e.item.node ≡ 0 → IsTabled (after_send e to s)
  tabled-send e to w node = tabled-push (after_removal e.item s) (tabled-removal e.item) to e w node (absent-taken e.item s)

  tabled-turned : (to less : ℕ) (o : Option Entry) → to < QUEUES → ((e : Entry) → o ≡ Some e → e.item.node ≡ 0) → IsTabled (turned to less o s)
  tabled-turned to less None w node = t
  tabled-turned to less (Some e) w node = tabled-send (entry e.item (e.count - less)) to w (node e refl)

  pub tabled-turn : (from to less : ℕ) → to < QUEUES → IsTabled (after_turn from to less s)
  tabled-turn from to less w = tabled-turned to less (oldest_of (s from)) w (λ e. oldest-node e (s from) (t.keys from))

  tabled-departed : (to : Option (ℕ × ℕ)) (o : Option Entry) → IsLowTarget to → ((e : Entry) → o ≡ Some e → e.item.node ≡ 0) → IsTabled (departed to o s)
  tabled-departed to None w node = t
  tabled-departed None (Some e) w node = tabled-removal e.item
  tabled-departed (Some p) (Some e) w node = tabled-send (entry e.item p.1) p.0 w (node e refl)

  pub tabled-leaving : (l : Option Leaving) → IsLowLeaving l → IsTabled (after_leaving l s)
  tabled-leaving None w = t
  tabled-leaving (Some l) w = tabled-departed l.to (oldest_of (s l.from)) w.1 (λ e. oldest-node e (s l.from) (t.keys l.from))

  pub tabled-own : (o : Own) → IsLowOwn o → (k : ℕ) → IsTabled (after_own o (item_of k) s)
  tabled-own stays w k = t
  tabled-own (counts n) w k = tabled-count (item_of k) n
  tabled-own (goes q n) w k = tabled-send (entry (item_of k) n) q w refl

pub tabled-turns : (s : Queues) → IsTabled s → (n from to less : ℕ) → to < QUEUES → IsTabled (after_turns n from to less s)
tabled-turns s t zero from to less w = t
tabled-turns s t (suc n) from to less w = tabled-turns (after_turn from to less s) (tabled-turn s t from to less w) n from to less w

pub tabled-runs : (s : Queues) → IsTabled s → (p : Plan) → IsLowPlan p → IsTabled (after_runs p s)
tabled-runs s t p w = search (arith, tabled-turns)

pub tabled-all : (s : Queues) → IsTabled s → (p : Plan) → IsLowPlan p → (k : ℕ) → IsTabled (after_all p (item_of k) s)
tabled-all s t p w k =
    let first = tabled-leaving (after_runs p s) (tabled-runs s t p w) p.first w.first in
    let second = tabled-leaving (after_first p s) first p.second w.second in
    tabled-own (after_second p s) second p.own w.own k

-- ---- runs

-- what a turn of the oldest makes of the queues
pub turn-is : (s : Queues) → IsTabled s → (from to less : ℕ) (e : Entry) (l : List Entry) → s from ≡ e ∷ l
    → after_turn from to less s ≡ after_push to (lowered_entry less e) (with_queue from l s)
turn-is s t from to less e l h = cc (oldest-gone s t from e l h)

pub turn-none : (s : Queues) (from to less : ℕ) → s from ≡ [] → after_turn from to less s ≡ s
turn-none s from to less h = ap (λ (v : List Entry). turned to less (oldest_of v) s) h

within-none : (n : ℕ) (s : Queues) (q less : ℕ) → s q ≡ []
    → after_turns n q q less (after_turn q q less s) ≡ with_queue q (turned_list n less (after_turn q q less s q)) (after_turn q q less s)
    → after_turns n q q less (after_turn q q less s) ≡ with_queue q (turned_list (suc n) less (s q)) s
within-none n s q less e rest = grind (arith, nat_tests, rest)

within-more : (n : ℕ) (s : Queues) → IsTabled s → (q less : ℕ) (x : Entry) (l : List Entry) → s q ≡ x ∷ l
    → after_turns n q q less (after_turn q q less s) ≡ with_queue q (turned_list n less (after_turn q q less s q)) (after_turn q q less s)
    → after_turns n q q less (after_turn q q less s) ≡ with_queue q (turned_list (suc n) less (s q)) s
within-more n s t q less x l e rest =
    grind (arith, nat_tests, turn-is s t q q less x l e, with-queue-same q l s, rest, with-queue-same)

within-step : (n : ℕ) (s : Queues) → IsTabled s → (q less : ℕ) (v : List Entry) → s q ≡ v
    → after_turns n q q less (after_turn q q less s) ≡ with_queue q (turned_list n less (after_turn q q less s q)) (after_turn q q less s)
    → after_turns n q q less (after_turn q q less s) ≡ with_queue q (turned_list (suc n) less (s q)) s
within-step n s t q less v e rest = grind (arith, nat_tests, within-none, rest, within-more)

pub turns-within : (s : Queues) → IsTabled s → (n q less : ℕ) → q < QUEUES → after_turns n q q less s ≡ with_queue q (turned_list n less (s q)) s
turns-within s t zero q less w = with-queue-is q (s q) s s refl (λ j d. refl)
turns-within s t (suc n) q less w =
    within-step n s t q less (s q) refl (turns-within (after_turn q q less s) (tabled-turn s t q q less w) n q less w)
