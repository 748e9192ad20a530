-- The entries of a map from keys to nodes are the table's items, in the order of their keys.
use Rattle.std.proofs.Common.{◌≡◌, ℕ, ◌<◌, true, cond, eqb, nat_lt, Some, None, List, [], ◌∷◌, sym, refl, ap, inl, inr}
use Rattle.std.proofs.lemmas.Bool.{cases_Bool, and_from, eqb-true}
use Rattle.std.specs.declared.cmp.Ordering.TheVariants.{Less}
use Rattle.std.specs.Ordering.{MatchOrdering, match_ordering, nat_cmp, is_eq, eq_by_cmp}
use Rattle.std.specs.Cmp.{ranks, unsigned_tied}
use Rattle.std.specs.List.{AllByRecursion}
use Rattle.std.specs.List.Sorted.{IsStrictlySortedBy}
use Rattle.std.specs.Map.{keys_of, lookup, remove_entry}
use Rattle.std.specs.BTreeMap.{insert_entry, is_at}
use Rattle.segments.specs.Items.{Item, is_same_item, occurrences, items_without}
use Rattle.segments.proofs.QueueLists.{without-none}
use Rattle.shell_model.specs.Shell.{node_of, table_with, is_listed}
use Rattle.shell_model.specs.Consistency.{AreAbove, IsAscending}
use Rattle.shell_model.proofs.Counting.{above-none}
use Rattle.maintenance.specs.NodeTable.{table_items}

pub found : (k : ℕ) (es : List (ℕ × ℕ)) → lookup (is_at (nat_cmp k)) es ≡ node_of k (table_items es)
found k [] = refl
found k (e ∷ es) =
    let t : eq_by_cmp nat_cmp k e.0 ≡ eqb k e.0 = unsigned_tied k e.0 in
    elim (cases_Bool (eqb k e.0)) as (λ _. cond (is_eq (nat_cmp k e.0)) (Some e.1) (lookup (is_at (nat_cmp k)) es) ≡ cond (eqb k e.0) (Some e.1) (node_of k (table_items es))) [
      | inl q ↦ rw (t, q) refl
      | inr q ↦ rw (t, q) (found k es)
    ]

pub entry-placed : (k n : ℕ) (es : List (ℕ × ℕ)) → node_of k (table_items es) ≡ None → table_items (insert_entry nat_cmp es k n) ≡ table_with record { key = k; node = n } (table_items es)
entry-placed k n [] h = refl
entry-placed k n (e ∷ es) h =
    elim (cases_Bool (eqb k e.0)) as (λ _. table_items (match_ordering (nat_cmp k e.0) ((k, n) ∷ e ∷ es) ((e.0, n) ∷ es) (e ∷ insert_entry nat_cmp es k n)) ≡ table_with record { key = k; node = n } (table_items (e ∷ es))) [
      | inl q ↦ absurd (let no : Some e.1 ≡ None = rw q at h in cc (no))
      | inr q ↦ elim (cases_Bool (nat_lt k e.0)) as (λ _. table_items (match_ordering (nat_cmp k e.0) ((k, n) ∷ e ∷ es) ((e.0, n) ∷ es) (e ∷ insert_entry nat_cmp es k n)) ≡ table_with record { key = k; node = n } (table_items (e ∷ es))) [
        | inl l ↦ rw l refl
        | inr l ↦ let i : table_items (insert_entry nat_cmp es k n) ≡ table_with record { key = k; node = n } (table_items es) = entry-placed k n es (rw q at h) in rw (l, q, i) refl
      ]
    ]

pub entry-removed : (i : Item) (es : List (ℕ × ℕ)) → IsAscending (table_items es) → is_listed i (table_items es) ≡ true → table_items (remove_entry (is_at (nat_cmp i.key)) es) ≡ items_without i (table_items es)
entry-removed i [] a h = refl
entry-removed i (e ∷ es) a h =
    let t : eq_by_cmp nat_cmp i.key e.0 ≡ eqb i.key e.0 = unsigned_tied i.key e.0 in
    elim (cases_Bool (eqb i.key e.0)) as (λ _. table_items (cond (is_eq (nat_cmp i.key e.0)) es (e ∷ remove_entry (is_at (nat_cmp i.key)) es)) ≡ items_without i (table_items (e ∷ es))) [
      | inl q ↦
          let n : eqb i.node e.1 ≡ true = rw q at h in
          let s : is_same_item i record { key = e.0; node = e.1 } ≡ true = and_from (eqb i.key e.0) (eqb i.node e.1) q n in
          let k : i.key ≡ e.0 = eqb-true i.key e.0 q in
          let none : occurrences i (table_items es) ≡ 0 = above-none i (table_items es) (rw k a.0) in
          rw (t, q, n) (sym (without-none i (table_items es) none))
      | inr q ↦ rw (t, q) (ap (λ l. record { key = e.0; node = e.1 } ∷ l) (entry-removed i es a.1 (rw q at h)))
    ]

below : (k j : ℕ) → nat_cmp k j ≡ Less → k < j
below k j h = let m : MatchOrdering Less (k < j) (k ≡ j) (j < k) = rw h at (ranks k j) in m

above-all : (k : ℕ) (es : List (ℕ × ℕ)) → AllByRecursion (λ y. nat_cmp k y ≡ Less) (keys_of es) → AreAbove k (table_items es)
above-all k [] a = tt
above-all k (e ∷ es) a = (below k e.0 a.0, above-all k es a.1)

pub ascending : (es : List (ℕ × ℕ)) → IsStrictlySortedBy nat_cmp (keys_of es) → IsAscending (table_items es)
unfolding IsStrictlySortedBy
ascending [] h = tt
ascending (e ∷ es) h = (above-all e.0 es h.0, ascending es h.1)
