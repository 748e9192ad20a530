-- The counts beside the items of a queue, found one by one.
use Rattle.std.proofs.Common.{◌≡◌, ◌∙◌, ℕ, zero, suc, ◌<◌, ◌≤◌, Some, List, [], ◌∷◌, ◌++◌, take, length, refl, ap, sym, arith}
use Rattle.std.specs.Prelude.{slice_index_or}
use Rattle.std.specs.List.{Contains}
use Rattle.std.proofs.lemmas.Bool.Decides.{nat_tests}
use Rattle.queue_table.specs.Entries.{Item, entry, items_of, occurrences}
use Rattle.queue_table.specs.Queues.{QUEUES, Queues, queue_holding, IsDistinct}
use Rattle.queue_table.proofs.QueueLists.{placed, queue-few, same-refl}
use Rattle.queue_table.specs.Moves.{Entry, count_of}

-- an entry of the list is the only one of its item there
contained : (i : Item) (n : ℕ) (l : List Entry) (k : ℕ) → k < length l → slice_index_or l k (entry i n) ≡ entry i n → occurrences i l ≤ 1
    → (1 ≤ occurrences i l) × (count_of i l ≡ n)
contained i n [] k h e few = absurd (omega (arith, h))
contained i n (x ∷ l) zero h e few = let s = same-refl i in grind (arith, nat_tests)
contained i n (x ∷ l) (suc k) h e few =
    let rest = contained i n l k (omega (arith, h)) e (omega (arith, few)) in grind (arith, nat_tests)

pub contained-in : (i : Item) (n q : ℕ) (s : Queues) → IsDistinct s → q < QUEUES → Contains (s q) (entry i n)
    → (queue_holding i s ≡ Some q) × (count_of i (s q) ≡ n)
contained-in i n q s u w c =
    let one = contained i n (s q) c.0 c.1 c.2 (queue-few q s w u i) in
    (placed q i s w u one.0, one.1)

-- the item of one queue with one count stands there with no other
pub one-count : (i : Item) (n m q r : ℕ) (s : Queues) → IsDistinct s → q < QUEUES → r < QUEUES → Contains (s q) (entry i n)
    → Contains (s r) (entry i m) → n ≡ m
one-count i n m q r s u w v c d =
    let a = contained-in i n q s u w c in
    let b = contained-in i m r s u v d in
    grind (arith, nat_tests)

-- one entry more of a queue, by its item and the count beside that
pub one-more : (l : List Entry) (items : List Item) (k : ℕ) (d item : Item) (count : ℕ) → items ≡ items_of l → k < length items
    → slice_index_or items k d ≡ item → ((n : ℕ) → Contains l (entry item n) → count ≡ n) → take (suc k) l ≡ take k l ++ entry item count ∷ []
one-more [] items k d item count is h at f = absurd (let e = ap length is in omega (arith, e, h))
one-more (x ∷ l) items zero d item count is h at f =
    let same : x.item ≡ item = ap (λ (v : List Item). slice_index_or v 0 d) (sym is) ∙ at in
    let e : entry item x.count ≡ x = ap (λ (i : Item). entry i x.count) (sym same) in
    let c : count ≡ x.count = f x.count (0, omega arith, sym e) in
    ap (λ (v : Entry). v ∷ []) (sym (ap (entry item) c ∙ e))
one-more (x ∷ l) items (suc k) d item count is h at f =
    let long : length items ≡ suc (length (items_of l)) = ap length is in
    ap (λ t. x ∷ t) (one-more l (items_of l) k d item count refl (omega (arith, long, h)) (ap (λ (v : List Item). slice_index_or v (suc k) d) (sym is) ∙ at)
    (λ n c. f n (suc c.0, omega (arith, c.1), c.2)))
