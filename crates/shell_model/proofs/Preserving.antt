-- What holds of the shell before a step holds after it.
use Rattle.std.proofs.Common.{◌≡◌, ℕ, suc, zero, ◌+◌, ◌<◌, ◌≤◌, true, false, cond, eqb, nat_lt, Option, Some, None, List, [], ◌∷◌, ◌++◌, length, set, drop, ap, ◌∙◌, refl, arith, inl, inr, length-append}
use Rattle.std.proofs.lemmas.Bool.{eqb-true, eq-eqb, cases_Bool}
use Rattle.std.proofs.lemmas.Bool.Decides.{nat_tests}
use Rattle.std.proofs.lemmas.List.{get_or-set_same, get_or-set_other}
use Rattle.engine_base.specs.declared.drain.Phase.TheVariants.{Writes, Evictions}
use Rattle.segments.specs.declared.records.Queue.TheVariants.{Window, Probation, Protected}
use Rattle.segments.specs.Items.{Item, is_same_item, occurrences, items_without, oldest_of}
use Rattle.segments.specs.Queues.{Queues, queue_holding, queues_after_push, queues_after_move, queues_without, total_items, IsDistinct}
use Rattle.segments.proofs.QueueLists.{same-refl, same-true, times-append, times-one, length-without, times-without, Stands, in_window, in_probation, in_protected, nowhere, stands}
use Rattle.replacement.specs.Rules.{main_size}
use Rattle.replacement.specs.Table.{Queue, with_recent, hit_in, after_hit}
use Rattle.shell_model.specs.declared.task.Task.TheVariants.{Add, Update, Remove}
use Rattle.shell_model.specs.Buffers.{stripe_at}
use Rattle.shell_model.specs.ShellState.{Holder, Task, Phase, Shell, node_of, table_with, queues_cleared, window_size, shell_protected_size, holder_in_phase, in_phase}
use Rattle.shell_model.specs.Changes.{holder_after_task}
use Rattle.shell_model.specs.Shell.{Reply, Act, act}
use Rattle.shell_model.specs.ShellEviction.{shift_effect, leave, IsCandidate}
use Rattle.shell_model.specs.ShellSteps.{MayWrite, Makes, Steps}
use Rattle.shell_model.specs.ShellSteps as k
use Rattle.shell_model.specs.Laws.{MadeStep}
use Rattle.shell_model.proofs.Making.{stepped}
use Rattle.replacement.specs.Counts.{main_length, queue_occurrences}
use Rattle.shell_model.specs.Consistency.{IsConsistent, IsPlaced, waiting_adds, leaving, IsOrdered, AreAbove, IsAscending, IsLeft}
use Rattle.admission.specs.Frequency.{IsFrequency}
use Rattle.shell_model.proofs.Frequency.{recorded-whole}
use Rattle.replacement.proofs.Counting.{once, unless-same, queued-kept, queued-taken, queued-pushed, distinct-moved}
use Rattle.shell_model.proofs.Counting.{times-placed, listed-times, node-listed, unlisted-is, cleared-is}
use Rattle.shell_model.proofs.Undoing.{sound-distinct, first-queued}

-- stripes

pub set-short : (ls : List (List Item)) (s : ℕ) (l : List Item) → s < length ls → length l ≤ 16 → ((k : ℕ) → length (stripe_at k ls) ≤ 16) → (k : ℕ) → length (stripe_at k (set ls s l)) ≤ 16
set-short ls s l h n few k =
    elim (cases_Bool (eqb k s)) [
      | inl e ↦ let t : k ≡ s = eqb-true k s e in rw (t, get_or-set_same ls s l [] h) n
      | inr e ↦ let f : (k ≡ s → ⊥) = (λ (g : k ≡ s). let no : true ≡ false = rw (eq-eqb k s g) at e in cc (no)) in rw (get_or-set_other ls s k l [] f) (few k)
    ]

-- the main queues do not grow

moved-window : (i : Item) (q : Queues) → main_length (queues_after_move i Window q) ≤ main_length q
moved-window i q = omega (arith, length-without i q.probation, length-without i q.protected)

moved-protected : (i : Item) (q : Queues) → 1 ≤ occurrences i q.probation + occurrences i q.protected → main_length (queues_after_move i Protected q) ≤ main_length q
moved-protected i q h = omega (arith, length-without i q.probation, length-without i q.protected, length-append (items_without i q.protected) (i ∷ []))

moved-probation : (i : Item) (q : Queues) → 1 ≤ occurrences i q.probation + occurrences i q.protected → main_length (queues_after_move i Probation q) ≤ main_length q
moved-probation i q h = omega (arith, length-without i q.probation, length-without i q.protected, length-append (items_without i q.probation) (i ∷ []))

-- r has the items of q, and a main part no longer
pub record HasItemsOf (q r : Queues) : Type 0 where
  pub queued : (j : Item) → queue_occurrences j r ≡ queue_occurrences j q
  pub main : main_length r ≤ main_length q

demotion-has-items : (o : Option Item) (q : Queues) → IsDistinct q → ((d : Item) → o ≡ Some d → 1 ≤ occurrences d q.protected) → HasItemsOf q (with_recent o Probation q)
demotion-has-items None q u k = record { queued = λ j. refl; main = omega arith }
demotion-has-items (Some d) q u k =
    let n : 1 ≤ occurrences d q.protected = k d refl in
    let few = u d in
    let one : queue_occurrences d q ≡ 1 = omega (arith, n, few) in
    record { queued = λ j. queued-kept j d Probation q one; main = moved-probation d q (omega (arith, n)) }

hit-in-has-items : (size : ℕ) (i : Item) (q : Queues) (p : Option Queue) → IsDistinct q → Stands i q p → HasItemsOf q (hit_in size i p q)
hit-in-has-items size i q p u (nowhere e f g) = record { queued = λ j. refl; main = omega arith }
hit-in-has-items size i q p u (in_window e f g) = record { queued = λ j. queued-kept j i Window q (omega (arith, e, f, g)); main = moved-window i q }
hit-in-has-items size i q p u (in_protected e f g) = record { queued = λ j. queued-kept j i Protected q (omega (arith, e, f, g)); main = moved-protected i q (omega (arith, e, f, g)) }
hit-in-has-items size i q p u (in_probation e f g) =
    let r : Queues = queues_after_move i Protected q in
    let m : main_length (queues_after_move i Protected q) ≤ main_length q = moved-protected i q (omega (arith, e, f, g)) in
    let k : (j : Item) → queue_occurrences j (queues_after_move i Protected q) ≡ queue_occurrences j q = λ j. queued-kept j i Protected q (omega (arith, e, f, g)) in
    elim (cases_Bool (nat_lt size (length (queues_after_move i Protected q).protected))) as (λ _. HasItemsOf q (cond (nat_lt size (length (queues_after_move i Protected q).protected)) (with_recent (oldest_of (queues_after_move i Protected q).protected) Probation (queues_after_move i Protected q)) (queues_after_move i Protected q))) [
      | inl t ↦ rw t (let d : HasItemsOf (queues_after_move i Protected q) (with_recent (oldest_of (queues_after_move i Protected q).protected) Probation (queues_after_move i Protected q)) = demotion-has-items (oldest_of (queues_after_move i Protected q).protected) (queues_after_move i Protected q) (distinct-moved i Protected q u) (λ d h. first-queued d (queues_after_move i Protected q).protected h) in
          record { queued = λ j. d.queued j ∙ k j; main = omega (arith, d.main, m) })
      | inr t ↦ rw t record { queued = k; main = m }
    ]

pub hit-has-items : (size : ℕ) (i : Item) (q : Queues) → IsDistinct q → HasItemsOf q (after_hit size i q)
hit-has-items size i q u = hit-in-has-items size i q (queue_holding i q) u (stands i q u)

-- the table

above-placed : (k : ℕ) (i : Item) (t : List Item) → k < i.key → AreAbove k t → AreAbove k (table_with i t)
above-placed k i [] h b = (h, tt)
above-placed k i (x ∷ t) h b =
    elim (cases_Bool (nat_lt i.key x.key)) as (λ _. AreAbove k (cond (nat_lt i.key x.key) (i ∷ x ∷ t) (x ∷ table_with i t))) [
      | inl e ↦ rw e (h, b)
      | inr e ↦ rw e (b.0, above-placed k i t h b.1)
    ]

above-more : (k m : ℕ) (t : List Item) → k < m → AreAbove m t → AreAbove k t
above-more k m [] h b = tt
above-more k m (x ∷ t) h b = (omega (arith, b.0, h), above-more k m t h b.1)

pub ascending-placed : (i : Item) (t : List Item) → node_of i.key t ≡ None → IsAscending t → IsAscending (table_with i t)
ascending-placed i [] n h = (tt, tt)
ascending-placed i (x ∷ t) n h =
    elim (cases_Bool (eqb i.key x.key)) [
      | inl e ↦ absurd (let no : Some x.node ≡ None = rw e at n in cc (no))
      | inr e ↦
          let rest : node_of i.key t ≡ None = rw e at n in
          let apart : (i.key ≡ x.key → ⊥) = (λ (g : i.key ≡ x.key). let no : true ≡ false = rw (eq-eqb i.key x.key g) at e in cc (no)) in
          elim (cases_Bool (nat_lt i.key x.key)) as (λ _. IsAscending (cond (nat_lt i.key x.key) (i ∷ x ∷ t) (x ∷ table_with i t))) [
            | inl f ↦ let lt : i.key < x.key = grind (arith, nat_tests) in rw f ((lt, above-more i.key x.key t lt h.0), (h.0, h.1))
            | inr f ↦ let lt : x.key < i.key = grind (arith, nat_tests, apart) in rw f (above-placed x.key i t lt h.0, ascending-placed i t rest h.1)
          ]
    ]

above-without : (k : ℕ) (v : Item) (t : List Item) → AreAbove k t → AreAbove k (items_without v t)
above-without k v [] b = tt
above-without k v (x ∷ t) b =
    elim (cases_Bool (is_same_item v x)) as (λ _. AreAbove k (cond (is_same_item v x) (items_without v t) (x ∷ items_without v t))) [
      | inl e ↦ rw e (above-without k v t b.1)
      | inr e ↦ rw e (b.0, above-without k v t b.1)
    ]

pub ascending-without : (v : Item) (t : List Item) → IsAscending t → IsAscending (items_without v t)
ascending-without v [] h = tt
ascending-without v (x ∷ t) h =
    elim (cases_Bool (is_same_item v x)) as (λ _. IsAscending (cond (is_same_item v x) (items_without v t) (x ∷ items_without v t))) [
      | inl e ↦ rw e (ascending-without v t h.1)
      | inr e ↦ rw e (above-without x.key v t h.0, ascending-without v t h.1)
    ]

-- the write queue

pub waiting-append : (j : Item) (l m : List Task) → waiting_adds j (l ++ m) ≡ waiting_adds j l + waiting_adds j m
waiting-append j [] m = omega arith
waiting-append j (Add i ∷ l) m = let h : waiting_adds j (l ++ m) ≡ waiting_adds j l + waiting_adds j m = waiting-append j l m in omega (arith, h)
waiting-append j (Update i ∷ l) m = waiting-append j l m
waiting-append j (Remove i ∷ l) m = waiting-append j l m

pub leaving-append : (j : Item) (l m : List Task) → leaving j (l ++ m) ≡ leaving j l + leaving j m
leaving-append j [] m = omega arith
leaving-append j (Add i ∷ l) m = leaving-append j l m
leaving-append j (Update i ∷ l) m = leaving-append j l m
leaving-append j (Remove i ∷ l) m = let h : leaving j (l ++ m) ≡ leaving j l + leaving j m = leaving-append j l m in omega (arith, h)

-- a task comes in behind: no Add whose item's Remove waits
pub ordered-push : (l : List Task) (t : Task) → IsOrdered (t ∷ []) → ((j : Item) → 1 ≤ leaving j l → waiting_adds j (t ∷ []) ≡ 0) → IsOrdered l → IsOrdered (l ++ t ∷ [])
ordered-push [] t s f o = s
ordered-push (Add k ∷ l) t s f o = ordered-push l t s f o
ordered-push (Update k ∷ l) t s f o = ordered-push l t s f o
ordered-push (Remove k ∷ l) t s f o =
    let one : 1 ≤ cond (is_same_item k k) 1 0 + leaving k l = (let e = same-refl k in rw e (omega arith)) in
    let none : waiting_adds k (t ∷ []) ≡ 0 = f k one in
    (rw (waiting-append k l (t ∷ [])) (omega (arith, o.0, none)), ordered-push l t s (λ j h. f j (omega (arith, h))) o.1)

-- where an Add stands, no Remove of its item stands before it
pub ordered-behind : (i : Item) (l m : List Task) → IsOrdered (l ++ Add i ∷ m) → leaving i l ≡ 0
ordered-behind i [] m o = refl
ordered-behind i (Add j ∷ l) m o = ordered-behind i l m o
ordered-behind i (Update j ∷ l) m o = ordered-behind i l m o
ordered-behind i (Remove j ∷ l) m o =
    let rest : leaving i l ≡ 0 = ordered-behind i l m o.1 in
    elim (cases_Bool (is_same_item i j)) as (λ _. cond (is_same_item i j) 1 0 + leaving i l ≡ 0) [
      | inl e ↦
          let s : i ≡ j = same-true i j e in
          let none : waiting_adds i (l ++ Add i ∷ m) ≡ 0 = ap (λ (y : Item). waiting_adds y (l ++ Add i ∷ m)) s ∙ o.0 in
          let sum : waiting_adds i (l ++ Add i ∷ m) ≡ waiting_adds i l + (cond (is_same_item i i) 1 0 + waiting_adds i m) = waiting-append i l (Add i ∷ m) in
          let sum2 : waiting_adds i (l ++ Add i ∷ m) ≡ waiting_adds i l + (1 + waiting_adds i m) = rw (same-refl i) at sum in
          absurd (omega (arith, none, sum2))
      | inr e ↦ rw e (omega (arith, rest))
    ]

-- the parts that place items

-- nothing comes or goes
placed-same : (t : List Item) (n : ℕ) (q r : Queues) (l m : List Task) → ((j : Item) → queue_occurrences j r + waiting_adds j m ≡ queue_occurrences j q + waiting_adds j l) → ((j : Item) → leaving j m ≡ leaving j l) → IsOrdered m → IsPlaced t n q l → IsPlaced t n r m
placed-same t n q r l m f g o p = record {
  stands = λ j. omega (arith, p.stands j, f j);
  known = λ j. omega (arith, p.known j, f j, g j);
  once = λ j. omega (arith, p.once j, g j);
  below = λ j h. p.below j (omega (arith, h, g j));
  ascending = p.ascending;
  ordered = o;
}

placed-update : (t : List Item) (n : ℕ) (q : Queues) (l : List Task) (i : Item) → IsPlaced t n q l → IsPlaced t n q (l ++ Update i ∷ [])
placed-update t n q l i p =
    placed-same t n q q l (l ++ Update i ∷ [])
    (λ j. rw (waiting-append j l (Update i ∷ [])) (omega arith))
    (λ j. rw (leaving-append j l (Update i ∷ [])) (omega arith))
    (ordered-push l (Update i) tt (λ j h. refl) p.ordered) p

placed-add : (t : List Item) (n k : ℕ) (q : Queues) (l : List Task) → node_of k t ≡ None → IsPlaced t n q l → (i : Item) → i ≡ record { key = k; node = n } → IsPlaced (table_with i t) (n + 1) q (l ++ Add i ∷ [])
placed-add t n k q l none p i e =
    let key : i.key ≡ k = ap (λ (x : Item). x.key) e in
    let node : i.node ≡ n = ap (λ (x : Item). x.node) e in
    record {
      stands = λ j. rw (waiting-append j l (Add i ∷ []), times-placed j i t) (omega (arith, p.stands j));
      known = λ j. rw (waiting-append j l (Add i ∷ []), leaving-append j l (Add i ∷ []), times-placed j i t) (omega (arith, p.known j));
      once = λ j. rw (leaving-append j l (Add i ∷ []), times-placed j i t) (elim (cases_Bool (is_same_item j i)) as (λ _. cond (is_same_item j i) 1 0 + occurrences j t + (leaving j l + 0) ≤ 1) [
        | inl f ↦ rw f (let s : j ≡ i = same-true j i f in let m : j.node ≡ n = ap (λ (x : Item). x.node) s ∙ node in let z = zero_or (occurrences j t + leaving j l) (p.below j) m in omega (arith, z))
        | inr f ↦ rw f (omega (arith, p.once j))
      ]);
      below = λ j h. elim (cases_Bool (is_same_item j i)) as (λ _. j.node < n + 1) [
        | inl f ↦ let s : j ≡ i = same-true j i f in let m : j.node ≡ n = ap (λ (x : Item). x.node) s ∙ node in omega arith
        | inr f ↦
            let g : 1 ≤ once j i + occurrences j t + (leaving j l + 0) = rw (leaving-append j l (Add i ∷ []), times-placed j i t) at h in
            let g2 : 1 ≤ 0 + occurrences j t + (leaving j l + 0) = rw f at g in
            let b : j.node < n = p.below j (omega arith) in
            omega arith
      ];
      ascending = ascending-placed i t (rw key none) p.ascending;
      ordered = ordered-push l (Add i) tt (λ j h. elim (cases_Bool (is_same_item j i)) as (λ _. cond (is_same_item j i) 1 0 + 0 ≡ 0) [
        | inl f ↦ absurd (let s : j ≡ i = same-true j i f in let m : j.node ≡ n = ap (λ (x : Item). x.node) s ∙ node in let b : j.node < n = p.below j (omega (arith, h)) in omega arith)
        | inr f ↦ rw f refl
      ]) p.ordered;
    }
  where
    zero_or : (m : ℕ) {k n : ℕ} → (1 ≤ m → k < n) → k ≡ n → m ≡ 0
    zero_or zero f e = refl
    zero_or (suc m) f e = absurd (let no = f (omega arith) in omega (arith, no))

placed-remove : (t : List Item) (n : ℕ) (q : Queues) (l : List Task) (i : Item) → 1 ≤ occurrences i t → IsPlaced t n q l → IsPlaced (items_without i t) n q (l ++ Remove i ∷ [])
placed-remove t n q l i h p = record {
  stands = λ j. rw (waiting-append j l (Remove i ∷ [])) (omega (arith, times-without i j t, p.stands j));
  known = λ j. rw (waiting-append j l (Remove i ∷ []), leaving-append j l (Remove i ∷ []), unless-same j i t) (elim (cases_Bool (is_same_item j i)) as (λ _. queue_occurrences j q + (waiting_adds j l + 0) ≤ cond (is_same_item j i) 0 (occurrences j t) + (leaving j l + (cond (is_same_item j i) 1 0 + 0))) [
    | inl e ↦ rw e (omega (arith, p.known j, p.once j))
    | inr e ↦ rw e (omega (arith, p.known j))
  ]);
  once = λ j. rw (leaving-append j l (Remove i ∷ []), unless-same j i t) (elim (cases_Bool (is_same_item j i)) as (λ _. cond (is_same_item j i) 0 (occurrences j t) + (leaving j l + (cond (is_same_item j i) 1 0 + 0)) ≤ 1) [
    | inl e ↦ let s : j ≡ i = same-true j i e in let a : 1 ≤ occurrences j t = rw s h in rw e (omega (arith, a, p.once j))
    | inr e ↦ rw e (omega (arith, p.once j))
  ]);
  below = λ j g. p.below j (elim (cases_Bool (is_same_item j i)) as (λ _. 1 ≤ occurrences j t + leaving j l) [
    | inl e ↦ let s : j ≡ i = same-true j i e in let a : 1 ≤ occurrences j t = rw s h in omega (arith, a)
    | inr e ↦
        let b : 1 ≤ occurrences j (items_without i t) + (leaving j l + (cond (is_same_item j i) 1 0 + 0)) = rw (leaving-append j l (Remove i ∷ [])) at g in
        let c : 1 ≤ occurrences j (items_without i t) + (leaving j l + (0 + 0)) = rw e at b in
        omega (arith, c, times-without i j t)
  ]);
  ascending = ascending-without i t p.ascending;
  ordered = ordered-push l (Remove i) (refl, tt) (λ j h. refl) p.ordered;
}

placed-hit : (t : List Item) (n : ℕ) (q r : Queues) (l : List Task) → HasItemsOf q r → IsPlaced t n q l → IsPlaced t n r l
placed-hit t n q r l k p = placed-same t n q r l l (λ j. rw (k.queued j) refl) (λ j. refl) p.ordered p

placed-update-done : (t : List Item) (n : ℕ) (q : Queues) (l : List Task) (i : Item) → IsPlaced t n q (Update i ∷ l) → IsPlaced t n q l
placed-update-done t n q l i p = placed-same t n q q (Update i ∷ l) l (λ j. refl) (λ j. refl) p.ordered p

placed-add-done : (t : List Item) (n : ℕ) (q : Queues) (l : List Task) (i : Item) → IsPlaced t n q (Add i ∷ l) → IsPlaced t n (queues_after_push Window i q) l
placed-add-done t n q l i p = placed-same t n q (queues_after_push Window i q) (Add i ∷ l) l (λ j. rw (queued-pushed j i Window q) (omega arith)) (λ j. refl) p.ordered p

placed-clear : (t : List Item) (n : ℕ) (q : Queues) (l : List Task) (i : Item) → IsPlaced t n q (Remove i ∷ l) → IsPlaced t n (queues_without i q) l
placed-clear t n q l i p = record {
  stands = λ j. rw (queued-taken j i q) (elim (cases_Bool (is_same_item j i)) as (λ _. occurrences j t ≤ cond (is_same_item j i) 0 (queue_occurrences j q) + waiting_adds j l) [
    | inl e ↦
        let a : occurrences j t + (cond (is_same_item j i) 1 0 + leaving j l) ≤ 1 = p.once j in
        let b : occurrences j t + (1 + leaving j l) ≤ 1 = rw e at a in
        omega (arith, b)
    | inr e ↦ rw e (p.stands j)
  ]);
  known = λ j. rw (queued-taken j i q) (elim (cases_Bool (is_same_item j i)) as (λ _. cond (is_same_item j i) 0 (queue_occurrences j q) + waiting_adds j l ≤ occurrences j t + leaving j l) [
    | inl e ↦ let s : j ≡ i = same-true j i e in let none : waiting_adds j l ≡ 0 = rw s p.ordered.0 in rw e (omega (arith, none))
    | inr e ↦
        let a : queue_occurrences j q + waiting_adds j l ≤ occurrences j t + (cond (is_same_item j i) 1 0 + leaving j l) = p.known j in
        let b : queue_occurrences j q + waiting_adds j l ≤ occurrences j t + (0 + leaving j l) = rw e at a in
        rw e (omega (arith, b))
  ]);
  once = λ j. omega (arith, p.once j);
  below = λ j g. p.below j (omega (arith, g));
  ascending = p.ascending;
  ordered = p.ordered.1;
}

placed-leave : (t : List Item) (n : ℕ) (q : Queues) (l : List Task) (v : Item) → 1 ≤ queue_occurrences v q → IsPlaced t n q l → IsPlaced (items_without v t) n (queues_without v q) l
placed-leave t n q l v h p = record {
  stands = λ j. rw (queued-taken j v q, unless-same j v t) (elim (cases_Bool (is_same_item j v)) as (λ _. cond (is_same_item j v) 0 (occurrences j t) ≤ cond (is_same_item j v) 0 (queue_occurrences j q) + waiting_adds j l) [
    | inl e ↦ rw e (omega arith)
    | inr e ↦ rw e (p.stands j)
  ]);
  known = λ j. rw (queued-taken j v q, unless-same j v t) (elim (cases_Bool (is_same_item j v)) as (λ _. cond (is_same_item j v) 0 (queue_occurrences j q) + waiting_adds j l ≤ cond (is_same_item j v) 0 (occurrences j t) + leaving j l) [
    | inl e ↦ let s : j ≡ v = same-true j v e in let a : 1 ≤ queue_occurrences j q = rw s h in rw e (omega (arith, a, p.known j, p.once j))
    | inr e ↦ rw e (p.known j)
  ]);
  once = λ j. omega (arith, times-without v j t, p.once j);
  below = λ j g. p.below j (omega (arith, times-without v j t, g));
  ascending = ascending-without v t p.ascending;
  ordered = p.ordered;
}

-- the acts

-- where a task is applied
record IsTaken (rest : List Task) (x : Shell) : Type 0 where
  writes : length (drop 1 x.writes) ≤ 128
  left : IsLeft (holder_after_task x.holder)
  behind : drop 1 x.writes ≡ rest

is-taken : (w : ℕ) (h : Holder) (t : Task) (rest : List Task) (x : Shell) → MayWrite w h x → x.writes ≡ t ∷ rest → IsConsistent x → IsTaken rest x
is-taken w h t rest x f e v =
    let few : suc (length rest) ≤ 128 = rw e at v.writes in
    let most : h.left ≤ 128 = (let g = f.holds.is in rw g at v.left) in
    record { writes = rw e (omega (arith, few)); left = (let g = f.holds.is in rw g (omega (arith, most))); behind = rw e refl }

phase-sound : (p : Phase) (x : Shell) → IsConsistent x → IsConsistent (in_phase p x)
phase-sound p x v = record { placed = v.placed; stripes = v.stripes; writes = v.writes; main = v.main; frequency = v.frequency; left = left x.holder v.left }
  where
    left : (o : Option Holder) → IsLeft o → IsLeft (holder_in_phase p o)
    left None l = l
    left (Some h) l = l

-- consistent but for the sizes, as while evictions last
pub record IsConsistentUpToSizes (x : Shell) : Type 0 where
  pub placed : IsPlaced x.table x.next x.queues x.writes
  pub stripes : (s : ℕ) → length (stripe_at s x.stripes) ≤ 16
  pub writes : length x.writes ≤ 128
  pub left : IsLeft x.holder
  pub frequency : IsFrequency x.frequency

leave-sound : (v : Item) (x : Shell) → IsConsistentUpToSizes x → 1 ≤ occurrences v x.queues.probation → main_length x.queues ≤ main_size x.config + 1 → IsConsistent (leave v x)
leave-sound v x s h m = record {
  placed = rw (unlisted-is v x.table s.placed.ascending) (placed-leave x.table x.next x.queues x.writes v (omega (arith, h)) s.placed);
  stripes = s.stripes;
  writes = s.writes;
  left = s.left;
  main = omega (arith, h, m, length-without v x.queues.probation, length-without v x.queues.protected);
  frequency = s.frequency;
}

-- the candidate stands in probation, and nothing else has changed
record IsShifted (c : Item) (x : Shell) : Type 0 where
  loose : IsConsistentUpToSizes (shift_effect c x)
  queued : 1 ≤ occurrences c (shift_effect c x).queues.probation
  main : main_length (shift_effect c x).queues ≤ main_size x.config + 1
  window : window_size x.config ≤ length (shift_effect c x).queues.window

is-shifted : (c : Item) (x : Shell) → IsCandidate c x → IsConsistent (in_phase Evictions x) → IsShifted c (in_phase Evictions x)
is-shifted c x h v =
    let lt : window_size x.config < length x.queues.window = (let o = h.over in grind (arith, nat_tests, o)) in
    let n : 1 ≤ occurrences c x.queues.window = first-queued c x.queues.window h.oldest in
    let d = sound-distinct (in_phase Evictions x) v c in
    let one : queue_occurrences c x.queues ≡ 1 = omega (arith, n, d) in
    record {
      loose = record {
        placed = placed-same x.table x.next x.queues (queues_after_move c Probation x.queues) x.writes x.writes (λ j. rw (queued-kept j c Probation x.queues one) refl) (λ j. refl) v.placed.ordered v.placed;
        stripes = v.stripes;
        writes = v.writes;
        left = v.left;
        frequency = v.frequency;
      };
      queued = omega (arith, times-append c (items_without c x.queues.probation) (c ∷ []), times-one c);
      main = omega (arith, v.main, length-without c x.queues.probation, length-without c x.queues.protected, length-append (items_without c x.queues.probation) (c ∷ []));
      window = omega (arith, lt, n, d, length-without c x.queues.window);
    }

pub made-sound : (x : Shell) (w : ℕ) (b : Act) (r : Reply) (y : Shell) → Makes w x b r y → IsConsistent x → IsConsistent y
made-sound x w b r y (k.kept s i h few) v = record {
  placed = v.placed;
  writes = v.writes;
  left = v.left;
  main = v.main;
  frequency = v.frequency;
  stripes = set-short x.stripes s (stripe_at s x.stripes ++ i ∷ []) h.stripe (omega (arith, few, length-append (stripe_at s x.stripes) (i ∷ []))) v.stripes;
}
made-sound x w b r y (k.present j n e h) v = record {
  placed = placed-update x.table x.next x.queues x.writes record { key = j; node = n } v.placed;
  writes = omega (arith, h, length-append x.writes (Update record { key = j; node = n } ∷ []));
  stripes = v.stripes;
  left = v.left;
  main = v.main;
  frequency = v.frequency;
}
made-sound x w b r y (k.added j e h) v = record {
  placed = placed-add x.table x.next j x.queues x.writes e v.placed record { key = j; node = x.next } refl;
  writes = omega (arith, h, length-append x.writes (Add record { key = j; node = x.next } ∷ []));
  stripes = v.stripes;
  left = v.left;
  main = v.main;
  frequency = v.frequency;
}
made-sound x w b r y (k.removed j n e h) v = record {
  placed = placed-remove x.table x.next x.queues x.writes record { key = j; node = n } (listed-times record { key = j; node = n } x.table (node-listed record { key = j; node = n } x.table e)) v.placed;
  writes = omega (arith, h, length-append x.writes (Remove record { key = j; node = n } ∷ []));
  stripes = v.stripes;
  left = v.left;
  main = v.main;
  frequency = v.frequency;
}
made-sound x w b r y (k.began e) v = record { placed = v.placed; stripes = v.stripes; writes = v.writes; main = v.main; frequency = v.frequency; left = omega arith }
made-sound x w b r y (k.drained s i rest h e) v =
    let items = hit-has-items (shell_protected_size x.config) i x.queues (sound-distinct x v) in
    let few : suc (length rest) ≤ 16 = rw e at (v.stripes s) in
    record {
      placed = placed-hit x.table x.next x.queues (after_hit (shell_protected_size x.config) i x.queues) x.writes items v.placed;
      stripes = set-short x.stripes s (drop 1 (stripe_at s x.stripes)) h.stripe (rw e (omega (arith, few))) v.stripes;
      writes = v.writes;
      left = v.left;
      main = omega (arith, items.main, v.main);
      frequency = recorded-whole x.frequency i.key v.frequency;
    }
made-sound x w b r y (k.write_empty h f e) v = phase-sound Writes x v
made-sound x w b r y (k.enough h t rest f e l) v = phase-sound Writes x v
made-sound x w b r y (k.applied_add h i rest f e l) v =
    let t = is-taken w h (Add i) rest x f e v in
    let p : IsPlaced x.table x.next x.queues (Add i ∷ rest) = rw e at v.placed in
    record {
      placed = rw t.behind (placed-add-done x.table x.next x.queues rest i p);
      writes = t.writes;
      stripes = v.stripes;
      left = t.left;
      main = v.main;
      frequency = recorded-whole x.frequency i.key v.frequency;
    }
made-sound x w b r y (k.applied_update h i rest f e l) v =
    let t = is-taken w h (Update i) rest x f e v in
    let p : IsPlaced x.table x.next x.queues (Update i ∷ rest) = rw e at v.placed in
    let items = hit-has-items (shell_protected_size x.config) i x.queues (sound-distinct x v) in
    record {
      placed = rw t.behind (placed-hit x.table x.next x.queues (after_hit (shell_protected_size x.config) i x.queues) rest items (placed-update-done x.table x.next x.queues rest i p));
      writes = t.writes;
      stripes = v.stripes;
      left = t.left;
      main = omega (arith, items.main, v.main);
      frequency = recorded-whole x.frequency i.key v.frequency;
    }
made-sound x w b r y (k.applied_remove h i rest f e l) v =
    let t = is-taken w h (Remove i) rest x f e v in
    let p : IsPlaced x.table x.next x.queues (Remove i ∷ rest) = rw e at v.placed in
    let c : queues_cleared i x.queues ≡ queues_without i x.queues = cleared-is i x.queues (sound-distinct x v) in
    record {
      placed = rw (c, t.behind) (placed-clear x.table x.next x.queues rest i p);
      writes = t.writes;
      stripes = v.stripes;
      left = t.left;
      main = rw c (omega (arith, v.main, length-without i x.queues.probation, length-without i x.queues.protected));
      frequency = v.frequency;
    }
made-sound x w b r y (k.fits h f o) v = phase-sound Evictions x v
made-sound x w b r y (k.shifted h c f o i) v =
    let s = is-shifted c x o (phase-sound Evictions x v) in
    let few : total_items (shift_effect c x).queues ≤ x.config.capacity = grind (arith, nat_tests, i) in
    record { placed = s.loose.placed; stripes = s.loose.stripes; writes = s.loose.writes; left = s.loose.left; main = omega (arith, few, s.window); frequency = s.loose.frequency }
made-sound x w b r y (k.evicted h c o f i l n g) v =
    let s = is-shifted c x i (phase-sound Evictions x v) in leave-sound o (shift_effect c (in_phase Evictions x)) s.loose (first-queued o (shift_effect c x).queues.probation l.oldest) s.main
made-sound x w b r y (k.rejected h c o f i l n) v =
    let s = is-shifted c x i (phase-sound Evictions x v) in leave-sound c (shift_effect c (in_phase Evictions x)) s.loose s.queued s.main
made-sound x w b r y (k.idle h d f o e) v = record { placed = v.placed; stripes = v.stripes; writes = v.writes; main = v.main; frequency = v.frequency; left = tt }
made-sound x w b r y (k.again h d f o e) v = record { placed = v.placed; stripes = v.stripes; writes = v.writes; main = v.main; frequency = v.frequency; left = tt }
made-sound x w b r y (k.write_go d e) v = record { placed = v.placed; stripes = v.stripes; writes = v.writes; main = v.main; frequency = v.frequency; left = v.left }
made-sound x w b r y (k.write_drain d e) v = record { placed = v.placed; stripes = v.stripes; writes = v.writes; main = v.main; frequency = v.frequency; left = v.left }
made-sound x w b r y made v = v

pub sound-next : (x : Shell) (e : MadeStep) (z : Shell) → IsConsistent x → act x e.step ≡ Some (e.reply, z) → IsConsistent z
sound-next x e z v h =
    let s : Steps x e z = stepped x e z h in
    let u : IsConsistent s.left = made-sound x e.step.worker e.step.act e.reply s.left s.made v in
    rw s.is record { placed = u.placed; stripes = u.stripes; writes = u.writes; main = u.main; frequency = u.frequency; left = u.left }

-- what is queued was given a node
pub queued-below : (i : Item) (x : Shell) → IsConsistent x → 1 ≤ queue_occurrences i x.queues → i.node < x.next
queued-below i x v h = v.placed.below i (omega (arith, v.placed.known i, h))
