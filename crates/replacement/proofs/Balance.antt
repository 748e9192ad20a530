-- One access, by the table of moves: what it leaves of an item, how many items, and the outcome that it counts.
use Rattle.std.proofs.Common.{◌≡◌, ◌⊎◌, ℕ, ◌+◌, ◌<◌, ◌≤◌, Bool, false, cond, nat_lt, Option, Some, None, List, [], ◌∷◌, ◌++◌, length, ◌∙◌, sym, refl, arith, inl, inr, length-append}
use Rattle.std.proofs.lemmas.Bool.Decides.{nat_tests}
use Rattle.std.proofs.lemmas.Bool.{cases_Bool, ltb-true, ltb-false, lt-ltb, le-ltb}
use Rattle.engine_base.specs.Stats.{is_hit, is_miss, is_eviction, one_if}
use Rattle.segments.specs.declared.records.Queue.TheVariants.{Window, Probation, Protected}
use Rattle.segments.specs.Items.{Item, is_same_item, occurrences, items_without, oldest_of}
use Rattle.segments.specs.Queues.{Queues, queue_of, queue_holding, queues_after_push, queues_without, queues_after_move, total_items, IsDistinct}
use Rattle.segments.proofs.QueueLists.{same-true, times-gone, length-without, Stands, in_window, in_probation, in_protected, nowhere, stands, first-stands}
use Rattle.replacement.specs.declared.rules.Placement.TheVariants.{Direct, Windowed}
use Rattle.replacement.specs.Table.{Rules, Placement, Queue, Response, with_recent, queues_after_demotion, hit_in, contest, trial, trial_of, eviction, response_with_victim, response_without_trial, miss_by, access_in, access}
use Rattle.replacement.specs.Counts.{queue_occurrences, main_length}
use Rattle.replacement.proofs.Planned.{access-at}
use Rattle.replacement.proofs.Counting.{taken-less, queued-pushed, queued-kept, taken-total, pushed-total}

-- the queues are within their sizes, so that another item has its place or is met by an eviction
abbrev pub FitsBy : Placement → Rules → Queues → Type 0
FitsBy (Direct q) r s = total_items s ≤ r.capacity
FitsBy Windowed r s = (length s.window ≤ r.window) × (r.window + main_length s ≤ r.capacity)

pub fits-total : (p : Placement) (r : Rules) (s : Queues) → FitsBy p r s → total_items s ≤ r.capacity
fits-total v r s f = grind (arith, nat_tests)

-- ---- a hit

-- items only changed their places, and none left or came behind the window
pub record IsRenewed (s t : Queues) : Type 0 where
  same : (j : Item) → queue_occurrences j t ≡ queue_occurrences j s
  pub window : length t.window ≡ length s.window
  main : main_length t ≡ main_length s

renewed-none : (s : Queues) → IsRenewed s s
renewed-none s = record { same = λ j. refl; window = refl; main = refl }

renewed-both : (s t u : Queues) → IsRenewed s t → IsRenewed t u → IsRenewed s u
renewed-both s t u a b = record { same = λ j. b.same j ∙ a.same j; window = b.window ∙ a.window; main = b.main ∙ a.main }

renewed-distinct : (s t : Queues) → IsRenewed s t → IsDistinct s → IsDistinct t
renewed-distinct s t a u j = let e = a.same j in let few = u j in omega (arith, e, few)

window-renewed : (x : Item) (s : Queues) → occurrences x s.window ≡ 1 → occurrences x s.probation ≡ 0 → occurrences x s.protected ≡ 0 → IsRenewed s (queues_after_move x Window s)
window-renewed x s a b c = record {
  same = λ j. queued-kept j x Window s (omega (arith, a, b, c));
  window = omega (arith, a, length-without x s.window, length-append (items_without x s.window) (x ∷ []));
  main = omega (arith, b, c, length-without x s.probation, length-without x s.protected);
}

probation-renewed : (x : Item) (s : Queues) → occurrences x s.window ≡ 0 → occurrences x s.probation + occurrences x s.protected ≡ 1 → IsRenewed s (queues_after_move x Probation s)
probation-renewed x s a b = record {
  same = λ j. queued-kept j x Probation s (omega (arith, a, b));
  window = omega (arith, a, length-without x s.window);
  main = omega (arith, b, length-without x s.probation, length-without x s.protected, length-append (items_without x s.probation) (x ∷ []));
}

protected-renewed : (x : Item) (s : Queues) → occurrences x s.window ≡ 0 → occurrences x s.probation + occurrences x s.protected ≡ 1 → IsRenewed s (queues_after_move x Protected s)
protected-renewed x s a b = record {
  same = λ j. queued-kept j x Protected s (omega (arith, a, b));
  window = omega (arith, a, length-without x s.window);
  main = omega (arith, b, length-without x s.probation, length-without x s.protected, length-append (items_without x s.protected) (x ∷ []));
}

demoted-renewed : (size : ℕ) (s : Queues) → IsDistinct s → IsRenewed s (queues_after_demotion size s)
demoted-renewed size s u = grind (arith, nat_tests, by, renewed-none)
  where
    by : (o : Option Item) → oldest_of s.protected ≡ o → IsRenewed s (with_recent o Probation s)
    by None h = renewed-none s
    by (Some x) h =
        let there : 1 ≤ occurrences x s.protected = first-stands x s.protected h in
        probation-renewed x s (omega (arith, u x, there)) (omega (arith, u x, there))

pub hit-renewed : (size : ℕ) (i : Item) (p : Option Queue) (s : Queues) → IsDistinct s → Stands i s p → IsRenewed s (hit_in size i p s)
hit-renewed size i p s u (in_window a b c) = window-renewed i s a b c
hit-renewed size i p s u (in_probation a b c) =
    search (arith, protected-renewed i s a (omega (arith, b, c)), renewed-both, demoted-renewed, renewed-distinct)
hit-renewed size i p s u (in_protected a b c) = protected-renewed i s a (omega (arith, b, c))
hit-renewed size i p s u (nowhere a b c) = renewed-none s

-- ---- an eviction, behind a push to the window

record IsEvicted (r : Rules) (s : Queues) (a : Response) : Type 0 where
  came : (j : Item) → queue_occurrences j a.queues ≤ queue_occurrences j s
  counted : total_items a.queues + one_if (is_eviction a.outcome) ≡ total_items s
  missed : one_if (is_miss a.outcome) ≡ 1
  hit : is_hit a.outcome ≡ false
  window : length a.queues.window ≤ r.window
  main : r.window + main_length a.queues ≤ r.capacity

-- an item leaves that stands behind the window
record IsShed (s t : Queues) : Type 0 where
  came : (j : Item) → queue_occurrences j t ≤ queue_occurrences j s
  total : total_items t + 1 ≡ total_items s
  window : length t.window ≡ length s.window

shed : (x : Item) (s : Queues) → queue_occurrences x s ≡ 1 → occurrences x s.window ≡ 0 → IsShed s (queues_without x s)
shed x s a b = grind (arith, nat_tests, taken-less, taken-total x s, length-without x s.window)

module _ (r : Rules) (admits : ℕ → ℕ → Bool) (s : Queues) (c : Item) (t : Queues)
    (same : (j : Item) → queue_occurrences j t ≡ queue_occurrences j s) (once : queue_occurrences c t ≡ 1) (out : occurrences c t.window ≡ 0)
    (window : length t.window ≡ r.window) (total : total_items t ≡ total_items s) (main : r.window + main_length t ≤ r.capacity + 1) (few : IsDistinct t) where
  shed-came : (x : Queues) → IsShed t x → (j : Item) → queue_occurrences j x ≤ queue_occurrences j s
  shed-came x h j = let a = h.came j in let b = same j in omega (arith, a, b)

  contested : (o : Option Item) → oldest_of t.probation ≡ o → IsEvicted r s (contest admits c o t)
  contested None h = (grind (arith, nat_tests, shed c t once out, shed-came))
  contested (Some v) h =
      elim (cases_Bool (is_same_item c v)) as (λ _. IsEvicted r s (contest admits c (Some v) t)) [
        | inl e ↦ rw e (grind (arith, nat_tests, shed c t once out, shed-came))
        | inr e ↦ elim (cases_Bool (admits c.key v.key)) as (λ _. IsEvicted r s (contest admits c (Some v) t)) [
          | inl f ↦
              let there : 1 ≤ occurrences v t.probation = first-stands v t.probation h in
              let g : IsShed t (queues_without v t) = shed v t (omega (arith, few v, there)) (omega (arith, few v, there)) in
              let n = g.total in
              let w = g.window in
              rw (e, f) record {
                came = shed-came (queues_without v t) g;
                counted = omega (arith, n, total);
                missed = refl;
                hit = refl;
                window = omega (arith, w, window);
                main = omega (arith, w, n, main);
              }
          | inr f ↦ rw (e, f) (grind (arith, nat_tests, shed c t once out, shed-came))
        ]
      ]

  tried : IsEvicted r s (trial r admits c t)
  tried =
      elim (cases_Bool (nat_lt r.capacity (total_items t))) as (λ _. IsEvicted r s (trial r admits c t)) [
        | inl e ↦ rw e (contested (oldest_of t.probation) refl)
        | inr e ↦ grind (arith, nat_tests, ltb-false r.capacity (total_items t) e)
      ]

none-short : (l : List Item) → oldest_of l ≡ None → length l ≡ 0
none-short v h = grind (arith, nat_tests)

evicted : (r : Rules) (admits : ℕ → ℕ → Bool) (s : Queues) → IsDistinct s → length s.window ≤ r.window + 1 → r.window + main_length s ≤ r.capacity → IsEvicted r s (eviction r admits s)
evicted r admits s u w m =
    elim (cases_Bool (nat_lt r.window (length s.window))) as (λ _. IsEvicted r s (eviction r admits s)) [
      | inl e ↦ rw e (by (ltb-true r.window (length s.window) e) (oldest_of s.window) refl)
      | inr e ↦
          let small : length s.window ≤ r.window = ltb-false r.window (length s.window) e in
          rw e record { came = λ j. omega arith; counted = omega arith; missed = refl; hit = refl; window = small; main = m }
    ]
  where
    by : r.window < length s.window → (o : Option Item) → oldest_of s.window ≡ o → IsEvicted r s (trial_of r admits o s)
    by over None h = let none = none-short s.window h in absurd (omega (arith, over, none))
    by over (Some c) h =
        let there : 1 ≤ occurrences c s.window = first-stands c s.window h in
        let one : queue_occurrences c s ≡ 1 = omega (arith, u c, there) in
        let t : Queues = queues_after_move c Probation s in
        let same : (j : Item) → queue_occurrences j t ≡ queue_occurrences j s = λ j. queued-kept j c Probation s one in
        let lost : length (items_without c s.window) + occurrences c s.window ≡ length s.window = length-without c s.window in
        let kept : length (items_without c s.protected) + occurrences c s.protected ≡ length s.protected = length-without c s.protected in
        let before : length (items_without c s.probation) + occurrences c s.probation ≡ length s.probation = length-without c s.probation in
        let gained : length (items_without c s.probation ++ c ∷ []) ≡ length (items_without c s.probation) + 1 = length-append (items_without c s.probation) (c ∷ []) in
        tried r admits s c t same (same c ∙ one) (times-gone c s.window) (omega (arith, w, over, lost, u c, there)) (omega (arith, one, lost, kept, before, gained)) (omega (arith, m, u c, there, kept, before, gained)) (λ j. (let a = same j in let b = u j in omega (arith, a, b)))

-- ---- an access

pub record IsBalanced (r : Rules) (i : Item) (s : Queues) (a : Response) : Type 0 where
  pub came : (j : Item) → queue_occurrences j a.queues ≤ queue_occurrences j s + cond (is_same_item j i) 1 0
  pub once : IsDistinct a.queues
  pub counted : total_items a.queues + one_if (is_eviction a.outcome) ≡ total_items s + one_if (is_miss a.outcome)
  pub hit : is_hit a.outcome ≡ nat_lt 0 (queue_occurrences i s)
  pub sizes : FitsBy r.placement r a.queues

-- one more item, which stood nowhere
joined-once : (i j : Item) (s : Queues) → IsDistinct s → queue_occurrences i s ≡ 0 → queue_occurrences j s + cond (is_same_item j i) 1 0 ≤ 1
joined-once i j s u none = grind (arith, nat_tests, same-true)

no-hit : (i : Item) (s : Queues) → queue_occurrences i s ≡ 0 → false ≡ nat_lt 0 (queue_occurrences i s)
no-hit i s none = sym (le-ltb 0 (queue_occurrences i s) (omega (arith, none)))

module _ (r : Rules) (admits : ℕ → ℕ → Bool) (i : Item) (s : Queues) (u : IsDistinct s) (none : queue_occurrences i s ≡ 0) where
  replaced : (q : Queue) (o : Option Item) → oldest_of (queue_of q s) ≡ o → total_items s ≤ r.capacity → r.placement ≡ Direct q → IsBalanced r i s (response_with_victim admits q i o s)
  replaced q None h f p = grind (arith, nat_tests, no-hit i s none)
  replaced q (Some v) h f p =
      elim (cases_Bool (admits i.key v.key)) as (λ _. IsBalanced r i s (response_with_victim admits q i (Some v) s)) [
        | inl e ↦
            let one : queue_occurrences v s ≡ 1 = once_in q (first-stands v (queue_of q s) h) in
            let left : Queues = queues_without v s in
            let less : (j : Item) → queue_occurrences j left ≤ queue_occurrences j s = λ j. taken-less j v s in
            let gone : queue_occurrences i left ≡ 0 = (let a = less i in omega (arith, a, none)) in
            let apart : IsDistinct left = λ j. (let a = less j in let b = u j in omega (arith, a, b)) in
            let out : total_items left + queue_occurrences v s ≡ total_items s = taken-total v s in
            let in_ : total_items (queues_after_push q i left) ≡ total_items left + 1 = pushed-total q i left in
            let same : total_items (queues_after_push q i left) ≡ total_items s = omega (arith, out, in_, one) in
            rw e record {
              came = λ j. (let a = less j in let b = queued-pushed j i q left in omega (arith, a, b));
              once = λ j. (let a = joined-once i j left apart gone in let b = queued-pushed j i q left in omega (arith, a, b));
              counted = omega (arith, same);
              hit = no-hit i s none;
              sizes = rw p (omega (arith, same, f));
            }
        | inr e ↦ rw e record { came = λ j. omega arith; once = u; counted = omega arith; hit = no-hit i s none; sizes = rw p f }
      ]
    where
      once_in : (q : Queue) → 1 ≤ occurrences v (queue_of q s) → queue_occurrences v s ≡ 1
      once_in Window a = omega (arith, u v, a)
      once_in Probation a = omega (arith, u v, a)
      once_in Protected a = omega (arith, u v, a)

  direct : (q : Queue) → r.placement ≡ Direct q → total_items s ≤ r.capacity → IsBalanced r i s (response_without_trial r admits q i s)
  direct q p f =
      elim (cases_Bool (nat_lt (total_items s) r.capacity)) as (λ _. IsBalanced r i s (response_without_trial r admits q i s)) [
        | inl e ↦ grind (arith, nat_tests, ltb-true, pushed-total, queued-pushed, joined-once, no-hit)
        | inr e ↦ rw e (replaced q (oldest_of (queue_of q s)) refl f p)
      ]

  windowed : r.placement ≡ Windowed → length s.window ≤ r.window → r.window + main_length s ≤ r.capacity → IsBalanced r i s (eviction r admits (queues_after_push Window i s))
  windowed p w m =
      let t : Queues = queues_after_push Window i s in
      let same : (j : Item) → queue_occurrences j t ≡ queue_occurrences j s + cond (is_same_item j i) 1 0 = λ j. queued-pushed j i Window s in
      let apart : IsDistinct t = λ j. (let a = joined-once i j s u none in let b = same j in omega (arith, a, b)) in
      let more : total_items t ≡ total_items s + 1 = pushed-total Window i s in
      let e : IsEvicted r t (eviction r admits t) = evicted r admits t apart (omega (arith, w)) m in
      let counted = e.counted in
      let missed = e.missed in
      grind (arith, nat_tests, no-hit i s none)

  missed-by : (p : Placement) → r.placement ≡ p → FitsBy p r s → IsBalanced r i s (miss_by p r admits i s)
  missed-by (Direct q) h f = direct q h f
  missed-by Windowed h f = windowed h f.0 f.1

pub stands-once : (i : Item) (s : Queues) (p : Option Queue) → Stands i s p → (p ≡ None) ⊎ (queue_occurrences i s ≡ 1)
stands-once i s p v = grind (arith, nat_tests)

stands-none : (i : Item) (s : Queues) (p : Option Queue) → Stands i s p → p ≡ None → queue_occurrences i s ≡ 0
stands-none i s p v h = grind (arith, nat_tests)

balanced-at : (r : Rules) (admits : ℕ → ℕ → Bool) (i : Item) (s : Queues) (p : Option Queue) → Stands i s p → IsDistinct s → FitsBy r.placement r s → IsBalanced r i s (access_in r admits i p s)
balanced-at r admits i s None at u f = missed-by r admits i s u (stands-none i s None at refl) r.placement refl f
balanced-at r admits i s (Some q) at u f =
    let h : IsRenewed s (hit_in r.protected i (Some q) s) = hit-renewed r.protected i (Some q) s u at in
    let one : queue_occurrences i s ≡ 1 = elim (stands-once i s (Some q) at) [ inl e ↦ absurd (cc (e)) | inr e ↦ e ] in
    let m = h.main in
    grind (arith, nat_tests, renewed-distinct, lt-ltb)

pub balanced : (r : Rules) (admits : ℕ → ℕ → Bool) (i : Item) (s : Queues) → IsDistinct s → FitsBy r.placement r s → IsBalanced r i s (access r admits i s)
balanced r admits i s u f = rw (access-at r admits i s (queue_holding i s) refl) (balanced-at r admits i s (queue_holding i s) (stands i s u) u f)
