-- The keys of queues in which all items have one node.
use Rattle.std.proofs.Common.{◌≡◌, ◌⊎◌, ℕ, suc, ◌+◌, ◌≤◌, Bool, true, cond, ◌&&◌, eqb, nat_lt, List, [], ◌∷◌, ◌++◌, length, map, ap, ◌∙◌, refl, arith, length-append}
use Rattle.std.proofs.lemmas.Bool.Decides.{nat_tests}
use Rattle.std.specs.List.{count_by}
use Rattle.std.proofs.lemmas.List.Sums.{sum_by-append, sum_by-cons}
use Rattle.engine_base.specs.Keys.{has_key}
use Rattle.engine_base.specs.Stats.{one_if}
use Rattle.segments.specs.Items.{Item, nodeless_item, is_same_item, occurrences}
use Rattle.segments.specs.Queues.{Queues, residents_in, total_items, IsDistinct}
use Rattle.segments.proofs.QueueLists.{same-true, same-refl}
use Rattle.replacement.specs.Counts.{queue_occurrences}

-- the items that stand there have the node that serves all
abbrev pub AreNodeless : Queues → Type 0
AreNodeless s = (i : Item) → 1 ≤ queue_occurrences i s → i.node ≡ 0

abbrev keys_of : List Item → List ℕ
keys_of l = map (λ i. i.key) l

length-keys : (l : List Item) → length (keys_of l) ≡ length l
length-keys [] = refl
length-keys (x ∷ l) = ap suc (length-keys l)

pub residents-length : (s : Queues) → length (residents_in s) ≡ total_items s
residents-length s = grind (arith, nat_tests, length-append, length-keys)

pub has-append : (k : ℕ) (xs ys : List ℕ) → has_key k (xs ++ ys) ≡ cond (has_key k xs) true (has_key k ys)
has-append k [] ys = refl
has-append k (a ∷ xs) ys = grind (arith, nat_tests, has-append k xs ys)

and-yes : (b : Bool) → (b && true) ≡ b
and-yes v = grind (arith, nat_tests)

key-there : (k : ℕ) (l : List Item) → ((i : Item) → 1 ≤ occurrences i l → i.node ≡ 0) → has_key k (map (λ i. i.key) l) ≡ nat_lt 0 (occurrences (nodeless_item k) l)
key-there k [] h = refl
key-there k (x ∷ l) h = grind (arith, nat_tests, same-refl, key-there k l, and-yes)

-- a key is resident where its item stands
pub resident-queued : (k : ℕ) (s : Queues) → AreNodeless s → has_key k (residents_in s) ≡ nat_lt 0 (queue_occurrences (nodeless_item k) s)
resident-queued k s h = grind (arith, nat_tests, key-there, has-append)

key-times : (k : ℕ) (l : List Item) → ((i : Item) → 1 ≤ occurrences i l → i.node ≡ 0) → count_by (eqb k) (keys_of l) ≡ occurrences (nodeless_item k) l
key-times k [] h = refl
key-times k (x ∷ l) h =
    let own : x.node ≡ 0 = h x (let s = same-refl x in rw s (omega arith)) in
    let rest : count_by (eqb k) (keys_of l) ≡ occurrences (nodeless_item k) l = key-times k l (λ i g. h i (omega (arith, g))) in
    let one : one_if (is_same_item (nodeless_item k) x) ≡ one_if (eqb k x.key) = ap one_if (ap (λ n. eqb k x.key && eqb 0 n) own ∙ and-yes (eqb k x.key)) in
    let more : count_by (eqb k) (keys_of (x ∷ l)) ≡ one_if (eqb k x.key) + count_by (eqb k) (keys_of l) = sum_by-cons (λ y. cond (eqb k y) 1 0) x.key (keys_of l) in
    omega (arith, rest, one, more)

pub resident-once : (k : ℕ) (q : Queues) → IsDistinct q → AreNodeless q → count_by (eqb k) (residents_in q) ≤ 1
resident-once k q once nodeless =
    let w = key-times k q.window (λ x g. nodeless x (omega (arith, g))) in
    let p = key-times k q.probation (λ x g. nodeless x (omega (arith, g))) in
    let t = key-times k q.protected (λ x g. nodeless x (omega (arith, g))) in
    let front = sum_by-append (λ y. cond (eqb k y) 1 0) (keys_of q.window) (keys_of q.probation) in
    let all = sum_by-append (λ y. cond (eqb k y) 1 0) (keys_of q.window ++ keys_of q.probation) (keys_of q.protected) in
    omega (arith, w, p, t, front, all)

-- ---- where no item came but that of k

module _ (k : ℕ) (old new : Queues) (nodeless : AreNodeless old)
    (came : (j : Item) → queue_occurrences j new ≤ queue_occurrences j old + cond (is_same_item j (nodeless_item k)) 1 0) where
  pub still-nodeless : AreNodeless new
  still-nodeless i h = grind (arith, nat_tests, same-true)

  -- a key that is resident then came in or was resident before
  pub queued-from : (x : ℕ) → has_key x (residents_in new) ≡ true → (x ≡ k) ⊎ (has_key x (residents_in old) ≡ true)
  queued-from x h = grind (arith, nat_tests, resident-queued, still-nodeless, same-true)
