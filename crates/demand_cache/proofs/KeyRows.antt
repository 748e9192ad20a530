-- The row of the queues under their names that has a key.
use Rattle.std.proofs.Common.{◌≡◌, ◌∙◌, ℕ, ◌+◌, ◌<◌, ◌≤◌, Bool, true, false, ◌==◌, Option, Some, None, List, [], ◌∷◌, length, drop, get_or, map, ap, sym, refl, arith}
use Rattle.std.proofs.lemmas.Bool.Decides.{nat_tests}
use Rattle.std.proofs.lemmas.Bool.{cases_eq}
use Rattle.std.proofs.lemmas.List.{at_drop_more, at_drop_all}
use Rattle.engine_base.specs.Keys.{has_key}
use Rattle.segments.specs.NamedQueue.{NamedQueueData, plain_key}
use Rattle.segments.specs.declared.named_queue.QueueKey.{QueueKey}
use Rattle.segments.specs.KeyRow.{has_named, is_number, row_from}
use Rattle.queue_table.specs.Queues.{Queues, queue_holding}
use Rattle.queue_table.specs.Moves.{item_of, standing, standing_at}
use Rattle.queue_table.specs.declared.records.Entry.{Entry}
use Rattle.queue_table.specs.Tabled.{IsTabled, keys_of}
use Rattle.queue_table.proofs.Tabled.{stands, stands-nowhere}
use Rattle.demand_cache.specs.QueueRow.{QueueRow, IsQueueOf, named_row, numbered_keys}
use Rattle.demand_cache.specs.declared.demand_policy.QueueRow.TheVariants.{Keys, Counts, OwnNumber}

-- ---- the keys of a row

plain-keys : (k : ℕ) (l : List ℕ) → has_key k (map (λ (e : QueueKey). e.key) (map plain_key l)) ≡ has_key k l
plain-keys k [] = refl
plain-keys k (a ∷ l) = grind (arith, nat_tests, plain-keys k l)

counted-keys : (k : ℕ) (l : List Entry) → has_key k (map (λ (e : QueueKey). e.key) (numbered_keys l)) ≡ has_key k (keys_of l)
counted-keys k [] = refl
counted-keys k (e ∷ l) = grind (arith, nat_tests, counted-keys k l)

-- whether a row has the key that stands in this queue
abbrev pub row_has : ℕ → ℕ → Option ℕ → QueueRow → Bool
row_has k x o (Keys name q) = is_number q o
row_has k x o (Counts name q) = is_number q o
row_has k x o (OwnNumber name) = k == x

pub row-has : (k x : ℕ) (s : Queues) (o : Option ℕ) → IsQueueOf k s o → (r : QueueRow) → row_has k x o r ≡ has_named k (named_row x s r)
row-has k x s o h (Keys name q) = sym (plain-keys k (keys_of (s q)) ∙ h q)
row-has k x s o h (Counts name q) = sym (counted-keys k (s q) ∙ h q)
row-has k x s o h (OwnNumber name) = grind (arith, nat_tests)

-- ---- the queue of a key

pub in-queue : (k q n : ℕ) (s : Queues) → IsTabled s → standing (item_of k) s ≡ Some (q, n) → IsQueueOf k s (Some q)
in-queue k q n s t h j =
    let at = stands s t k q n h in
    let e = cases_eq j q in
    let off = at.off j in
    grind (arith, nat_tests, at.here)

pub in-none : (k : ℕ) (s : Queues) → IsTabled s → queue_holding (item_of k) s ≡ None → IsQueueOf k s None
in-none k s t h j = (stands-nowhere s t k (ap (λ (o : Option ℕ). standing_at (item_of k) o s) h) j).0

-- ---- the rows from one on

module _ (k n : ℕ) (f : QueueRow → NamedQueueData) (rows : List QueueRow) (d : QueueRow) (lt : n < length rows) where
  pub row-passed : has_named k (f (get_or rows n d)) ≡ false → row_from n k (map f (drop n rows)) ≡ row_from (n + 1) k (map f (drop (n + 1) rows))
  row-passed h = at_drop_more (λ (l : List QueueRow). row_from n k (map f l)) rows n d lt ∙ grind (arith, nat_tests)

  pub row-found : has_named k (f (get_or rows n d)) ≡ true → row_from n k (map f (drop n rows)) ≡ Some n
  row-found h = at_drop_more (λ (l : List QueueRow). row_from n k (map f l)) rows n d lt ∙ grind (arith, nat_tests)

pub row-missed : (k n : ℕ) (f : QueueRow → NamedQueueData) (rows : List QueueRow) → length rows ≤ n → row_from n k (map f (drop n rows)) ≡ None
row-missed k n f rows le = at_drop_all (λ (l : List QueueRow). row_from n k (map f l)) rows n le
