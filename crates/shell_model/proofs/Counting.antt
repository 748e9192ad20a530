-- How often an item stands in the queues and in the table.
use Rattle.std.proofs.Common.{◌≡◌, ℕ, suc, zero, ◌+◌, ◌<◌, ◌≤◌, true, false, cond, eqb, nat_lt, Option, Some, None, List, [], ◌∷◌, sym, refl, arith, ◌⊎◌, inl, inr}
use Rattle.std.proofs.lemmas.Bool.{eqb-true, eq-eqb, and_parts, and_from, cases_Bool}
use Rattle.std.proofs.lemmas.Bool.Decides.{nat_tests}
use Rattle.segments.specs.Items.{Item, is_same_item, occurrences, items_without}
use Rattle.segments.specs.Queues.{Queues, queue_holding, queues_without, IsDistinct}
use Rattle.segments.proofs.QueueLists.{same-true, same-refl, without-none, Stands, in_window, in_probation, in_protected, nowhere, stands, taken-absent}
use Rattle.replacement.proofs.Counting.{once}
use Rattle.shell_model.specs.ShellState.{Queue, table_with, node_of, is_listed, unlisted, queues_cleared, cleared_from}
use Rattle.shell_model.specs.Consistency.{AreAbove, IsAscending}

-- the table

pub times-placed : (j i : Item) (t : List Item) → occurrences j (table_with i t) ≡ once j i + occurrences j t
times-placed j i [] = refl
times-placed j i (x ∷ t) =
    let h : occurrences j (table_with i t) ≡ once j i + occurrences j t = times-placed j i t in
    elim (cases_Bool (nat_lt i.key x.key)) as (λ _. occurrences j (cond (nat_lt i.key x.key) (i ∷ x ∷ t) (x ∷ table_with i t)) ≡ once j i + (once j x + occurrences j t)) [
      | inl e ↦ rw e refl
      | inr e ↦ rw (e, h) (omega arith)
    ]

pub without-placed : (i : Item) (t : List Item) → occurrences i t ≡ 0 → items_without i (table_with i t) ≡ t
without-placed i [] h = let e = same-refl i in rw e refl
without-placed i (x ∷ t) h =
    let apart : is_same_item i x ≡ false = elim (cases_Bool (is_same_item i x)) [ inl f ↦ absurd (let no : 1 + occurrences i t ≡ 0 = rw f at h in omega arith) | inr f ↦ f ] in
    let rest : occurrences i t ≡ 0 = omega (arith, h) in
    let e = same-refl i in
    elim (cases_Bool (nat_lt i.key x.key)) as (λ _. items_without i (cond (nat_lt i.key x.key) (i ∷ x ∷ t) (x ∷ table_with i t)) ≡ x ∷ t) [
      | inl f ↦ rw (f, e, apart, without-none i t rest) refl
      | inr f ↦ rw (f, apart, without-placed i t rest) refl
    ]

pub node_of-placed : (i : Item) (t : List Item) → node_of i.key t ≡ None → node_of i.key (table_with i t) ≡ Some i.node
node_of-placed i [] h = let e = eq-eqb i.key i.key refl in rw e refl
node_of-placed i (x ∷ t) h =
    let e = eq-eqb i.key i.key refl in
    elim (cases_Bool (nat_lt i.key x.key)) as (λ _. node_of i.key (cond (nat_lt i.key x.key) (i ∷ x ∷ t) (x ∷ table_with i t)) ≡ Some i.node) [
      | inl f ↦ rw (f, e) refl
      | inr f ↦ rw f (elim (cases_Bool (eqb i.key x.key)) as (λ _. cond (eqb i.key x.key) (Some x.node) (node_of i.key (table_with i t)) ≡ Some i.node) [
        | inl g ↦ absurd (let no : Some x.node ≡ None = rw g at h in cc (no))
        | inr g ↦ rw g (node_of-placed i t (rw g at h))
      ])
    ]

pub above-key : (k : ℕ) (v : Item) (t : List Item) → AreAbove k t → 1 ≤ occurrences v t → k < v.key
above-key k v [] a h = absurd (omega arith)
above-key k v (x ∷ t) a h =
    elim (cases_Bool (is_same_item v x)) [
      | inl e ↦ let s : v ≡ x = same-true v x e in rw s a.0
      | inr e ↦ above-key k v t a.1 (let r : 1 ≤ 0 + occurrences v t = rw e at h in omega arith)
    ]

pub above-none : (v : Item) (t : List Item) → AreAbove v.key t → occurrences v t ≡ 0
above-none v t a = elim (zero_or (occurrences v t)) [ inl e ↦ e | inr e ↦ absurd (let no : v.key < v.key = above-key v.key v t a e in omega arith) ]
  where
    zero_or : (n : ℕ) → (n ≡ 0) ⊎ (1 ≤ n)
    zero_or zero = inl refl
    zero_or (suc n) = inr (omega arith)

placed-front : (v : Item) (t : List Item) → AreAbove v.key t → table_with v t ≡ v ∷ t
placed-front v [] a = refl
placed-front v (y ∷ t) a = let e : nat_lt v.key y.key ≡ true = grind (arith, nat_tests, a.0) in rw e refl

pub placed-without : (v : Item) (t : List Item) → IsAscending t → 1 ≤ occurrences v t → table_with v (items_without v t) ≡ t
placed-without v [] a h = absurd (omega arith)
placed-without v (x ∷ t) a h =
    elim (cases_Bool (is_same_item v x)) as (λ _. table_with v (cond (is_same_item v x) (items_without v t) (x ∷ items_without v t)) ≡ x ∷ t) [
      | inl e ↦
          let s : v ≡ x = same-true v x e in
          let up : AreAbove v.key t = rw s a.0 in
          rw (e, without-none v t (above-none v t up), placed-front v t up) (rw s refl)
      | inr e ↦
          let more : 1 ≤ occurrences v t = (let r : 1 ≤ 0 + occurrences v t = rw e at h in omega arith) in
          let up : x.key < v.key = above-key x.key v t a.0 more in
          let f : nat_lt v.key x.key ≡ false = grind (arith, nat_tests) in
          rw (e, f, placed-without v t a.1 more) refl
    ]

pub node_of-above : (k : ℕ) (t : List Item) → AreAbove k t → node_of k t ≡ None
node_of-above k [] a = refl
node_of-above k (x ∷ t) a = let e : eqb k x.key ≡ false = grind (arith, nat_tests, a.0) in rw e (node_of-above k t (later x.key t a))
  where
    later : (m : ℕ) (t : List Item) → AreAbove k (x ∷ t) → AreAbove k t
    later m t a = a.1

pub node_of-without : (v : Item) (t : List Item) → IsAscending t → 1 ≤ occurrences v t → node_of v.key (items_without v t) ≡ None
node_of-without v [] a h = absurd (omega arith)
node_of-without v (x ∷ t) a h =
    elim (cases_Bool (is_same_item v x)) as (λ _. node_of v.key (cond (is_same_item v x) (items_without v t) (x ∷ items_without v t)) ≡ None) [
      | inl e ↦
          let s : v ≡ x = same-true v x e in
          let up : AreAbove v.key t = rw s a.0 in
          rw (e, without-none v t (above-none v t up)) (node_of-above v.key t up)
      | inr e ↦
          let more : 1 ≤ occurrences v t = (let r : 1 ≤ 0 + occurrences v t = rw e at h in omega arith) in
          let up : x.key < v.key = above-key x.key v t a.0 more in
          let f : eqb v.key x.key ≡ false = grind (arith, nat_tests) in
          rw (e, f) (node_of-without v t a.1 more)
    ]

-- the table lists the item where it gives its key that very node

pub listed-times : (i : Item) (t : List Item) → is_listed i t ≡ true → 1 ≤ occurrences i t
listed-times i [] h = absurd (cc (h))
listed-times i (x ∷ t) h =
    elim (cases_Bool (eqb i.key x.key)) as (λ _. 1 ≤ occurrences i (x ∷ t)) [
      | inl e ↦
          let n : eqb i.node x.node ≡ true = rw e at h in
          let s : is_same_item i x ≡ true = and_from (eqb i.key x.key) (eqb i.node x.node) e n in
          rw s (omega arith)
      | inr e ↦ let more : 1 ≤ occurrences i t = listed-times i t (rw e at h) in omega (arith, more)
    ]

pub node-listed : (i : Item) (t : List Item) → node_of i.key t ≡ Some i.node → is_listed i t ≡ true
node-listed i t e = rw e (eq-eqb i.node i.node refl)

pub unlisted-times : (i : Item) (t : List Item) → IsAscending t → is_listed i t ≡ false → occurrences i t ≡ 0
unlisted-times i [] a h = refl
unlisted-times i (x ∷ t) a h =
    elim (cases_Bool (is_same_item i x)) as (λ _. cond (is_same_item i x) 1 0 + occurrences i t ≡ 0) [
      | inl e ↦
          let p = and_parts (eqb i.key x.key) (eqb i.node x.node) e in
          absurd (let no : eqb i.node x.node ≡ false = rw p.0 at h in cc (no, p.1))
      | inr e ↦ rw e (elim (cases_Bool (eqb i.key x.key)) as (λ _. 0 + occurrences i t ≡ 0) [
        | inl f ↦
            let k : i.key ≡ x.key = eqb-true i.key x.key f in
            let none : occurrences i t ≡ 0 = above-none i t (rw k a.0) in
            omega (arith, none)
        | inr f ↦ let none : occurrences i t ≡ 0 = unlisted-times i t a.1 (rw f at h) in omega (arith, none)
      ])
    ]

pub unlisted-is : (i : Item) (t : List Item) → IsAscending t → unlisted i t ≡ items_without i t
unlisted-is i t a =
    elim (cases_Bool (is_listed i t)) as (λ _. cond (is_listed i t) (items_without i t) t ≡ items_without i t) [
      | inl e ↦ rw e refl
      | inr e ↦ rw e (sym (without-none i t (unlisted-times i t a e)))
    ]

-- a cleared item is taken out, wherever it stands
cleared-at : (i : Item) (q : Queues) (p : Option Queue) → Stands i q p → cleared_from i p q ≡ queues_without i q
cleared-at i q p (nowhere e f g) = sym (taken-absent i q record { window = e; probation = f; protected = g })
cleared-at i q p (in_window e f g) = refl
cleared-at i q p (in_probation e f g) = refl
cleared-at i q p (in_protected e f g) = refl

pub cleared-is : (i : Item) (q : Queues) → IsDistinct q → queues_cleared i q ≡ queues_without i q
cleared-is i q d = cleared-at i q (queue_holding i q) (stands i q d)
