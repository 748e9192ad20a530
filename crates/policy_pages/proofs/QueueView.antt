-- Entries as keys with counts.
use Rattle.std.proofs.lemmas.Bool.Decides.{nat_tests}
use Rattle.std.proofs.Common.{eqb, ◌++◌, ◌≡◌, ℕ, zero, suc, ◌<◌, List, [], ◌∷◌, ap, ◌∙◌, refl, arith, ◌+◌, true, nat_lt, length, length-append, ◌≤◌, cond}
use Rattle.std.proofs.lemmas.List.{length-map, map-append}
use Rattle.std.proofs.lemmas.Bool.{eq-eqb}
use Rattle.engine_base.specs.Keys.{has_key}
use Rattle.queue_table.specs.Entries.{occurrences, oldest_of, entries_counted}
use Rattle.queue_table.specs.Queues.{QUEUES, Queues}
use Rattle.queue_table.proofs.QueueLists.{with-queue-other, times-append, with-queue-same}
use Rattle.queue_table.specs.declared.records.Entry.{Entry}
use Rattle.queue_table.specs.Moves.{after_turn, after_turns, item_of, count_or, turns_due}
use Rattle.queue_table.specs.Tabled.{IsTabled, nodes_of, StandsAs, keys_of as entry_keys}
use Rattle.queue_table.proofs.Tabled.{turns-within, has-occurs, same-key, counted-none, tabled-turn, turn-is, turn-none}
use Rattle.policy_pages.specs.QueueView.{counted_keys, counted_key}
use Rattle.policy_pages.specs.CountedKeys.{CountedKey, keys_of, count_of, with_count, oldest_count, total_count}
use Rattle.policy_pages.proofs.Weights.{has-append}
use Rattle.policy_pages.proofs.CountedKeys.{keys-append, count-append, length-keys}
use Rattle.policy_pages.proofs.Turns.{turned-total, oldest-few}
use Rattle.policy_pages.specs.Turns as page

pub counted-append : (a b : List Entry) → counted_keys (a ++ b) ≡ counted_keys a ++ counted_keys b
counted-append a b = map-append counted_key a b

pub length-counted : (l : List Entry) → length (counted_keys l) ≡ length l
length-counted l = length-map l counted_key

pub oldest-counted : (l : List Entry) → oldest_count (counted_keys l) ≡ count_or 0 (oldest_of l)
oldest-counted v = grind (arith, nat_tests)

pub keys-counted : (l : List Entry) → keys_of (counted_keys l) ≡ entry_keys l
keys-counted [] = refl
keys-counted (e ∷ l) = ap (λ t. e.item.key ∷ t) (keys-counted l)

pub both-counted : (l m : List Entry) → keys_of (counted_keys l ++ counted_keys m) ≡ entry_keys l ++ entry_keys m
both-counted [] m = keys-counted m
both-counted (e ∷ l) m = ap (λ t. e.item.key ∷ t) (both-counted l m)

pub counted-length : (l : List Entry) → length (keys_of (counted_keys l)) ≡ length l
counted-length l = length-keys (counted_keys l) ∙ length-counted l

pub both-length : (l m : List Entry) → length (keys_of (counted_keys l ++ counted_keys m)) ≡ length l + length m
both-length l m = grind (arith, nat_tests, length-counted, length-keys, length-append)

pub key-counted : (k : ℕ) (l : List Entry) → nodes_of l ≡ 0 → has_key k (keys_of (counted_keys l)) ≡ nat_lt 0 (occurrences (item_of k) l)
key-counted k l h = ap (has_key k) (keys-counted l) ∙ has-occurs k l h

nodes-append : (a b : List Entry) → nodes_of (a ++ b) ≡ nodes_of a + nodes_of b
nodes-append [] b = omega arith
nodes-append (e ∷ a) b = omega (arith, nodes-append a b)

-- keys of two queues
pub key-both : (k : ℕ) (a b : List Entry) → nodes_of a ≡ 0 → nodes_of b ≡ 0 → has_key k (keys_of (counted_keys a ++ counted_keys b)) ≡ nat_lt 0 (occurrences (item_of k) a + occurrences (item_of k) b)
key-both k a b za zb = search (arith, nodes-append a b, counted-append a b, key-counted, times-append (item_of k) a b)

pub counted-with : (k n : ℕ) (l : List Entry) → nodes_of l ≡ 0 → occurrences (item_of k) l ≤ 1 → counted_keys (entries_counted (item_of k) n l) ≡ with_count k n (counted_keys l)
counted-with k n [] h few = refl
counted-with k n (e ∷ l) h few = grind (arith, nat_tests, same-key, counted-none, counted-with k n l)

-- ---- the key k in one of two queues

pub has-both : (k : ℕ) (a b : List CountedKey) → has_key k (keys_of (a ++ b)) ≡ cond (has_key k (keys_of a)) true (has_key k (keys_of b))
has-both k a b = ap (has_key k) (keys-append a b) ∙ has-append k (keys_of a) (keys_of b)

-- it stands in queue q with the count n
pub its-count : (k q n : ℕ) (s : Queues) → StandsAs k q n s → count_of k (counted_keys (s q)) ≡ n
its-count k q n s t = grind (arith, nat_tests, counted-append, count-append, keys-counted, eq-eqb)

-- ---- the turns of a queue, by its keys and counts

no-count : (l : List Entry) → nat_lt (count_or 0 (oldest_of l)) 1 ≡ eqb (oldest_count (counted_keys l)) 0
no-count l = grind (arith, nat_tests, oldest-counted l)

turned : (q : ℕ) (s : Queues) → IsTabled s → (l : List Entry) → s q ≡ l → counted_keys (after_turn q q 1 s q) ≡ page.after_turn (counted_keys l)
turned q s t [] h = ap (λ (u : Queues). counted_keys (u q)) (turn-none s q q 1 h) ∙ ap counted_keys h
turned q s t (e ∷ l) h = search (arith, turn-is s t q q 1 e l h, with-queue-same, with-queue-same q l s, counted-append)

-- n and m turns suffice
pub turns-are : (q n m : ℕ) (s : Queues) → q < QUEUES → IsTabled s → total_count (counted_keys (s q)) ≤ n → total_count (counted_keys (s q)) ≤ m
    → counted_keys (after_turns (turns_due n q q 1 1 s) q q 1 s q) ≡ page.after_turns (page.turn_count_within m (counted_keys (s q))) (counted_keys (s q))
turns-are q zero zero s w t f g = refl
turns-are q zero (suc m) s w t f g = rw (eq-eqb (oldest_count (counted_keys (s q))) 0 (omega (arith, oldest-few (counted_keys (s q))))) refl
turns-are q (suc n) zero s w t f g = rw (no-count (s q) ∙ eq-eqb (oldest_count (counted_keys (s q))) 0 (omega (arith, oldest-few (counted_keys (s q))))) refl
turns-are q (suc n) (suc m) s w t f g =
    search (arith, turned-total, turned, turns-are q n m (after_turn q q 1 s) w (tabled-turn s t q q 1 w), tabled-turn)

-- no other queue changes
pub turns-keep : (q n less j : ℕ) (s : Queues) → q < QUEUES → IsTabled s → (j ≡ q → ⊥) → after_turns n q q less s j ≡ s j
turns-keep q n less j s w t d = ap (λ (u : Queues). u j) (turns-within s t n q less w) ∙ with-queue-other q j _ s d
