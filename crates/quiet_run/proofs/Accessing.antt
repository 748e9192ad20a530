-- Where each key has one item, an access over the keys comes to what it comes to over the items.
use Rattle.std.proofs.Common.{◌≡◌, ◌⊎◌, ℕ, ◌≤◌, Bool, true, false, cond, eqb, nat_lt, Option, Some, None, List, [], ◌∷◌, ◌++◌, length, ap, ◌∙◌, sym, refl, arith, inl, inr}
use Rattle.std.proofs.lemmas.Bool.{eq-eqb, eqb-true, cases_Bool, cond_both}
use Rattle.std.proofs.lemmas.List.{length-map, map-append}
use Rattle.segments.specs.declared.records.Queue.TheVariants.{Window, Probation, Protected}
use Rattle.segments.specs.Items.{Item, is_same_item, occurrences, items_without, oldest_of}
use Rattle.segments.specs.Queues.{Queues, queue_of, queue_holding, queues_after_push, queues_without, queues_after_move, total_items}
use Rattle.segments.proofs.QueueLists.{same-refl}
use Rattle.replacement.specs.declared.rules.Placement.{Placement}
use Rattle.replacement.specs.declared.rules.Placement.TheVariants.{Direct, Windowed}
use Rattle.replacement.specs.Table.{Queue, kept_in, with_recent, queues_after_demotion, hit_response, hit_in, contest, trial, trial_of, eviction, response_with_victim, miss_by, access_in, access}
use Rattle.replacement.specs.Counts.{queue_occurrences}
use Rattle.quiet_run.specs.Nodes.{Rules, nodeless, nodeless_list, nodeless_queues, nodeless_response, IsOnly, HasKeysOnce, AccessesAgree}

-- a function of what a test chooses
chosen : {A B : Type 0} (f : A → B) (b : Bool) (x y : A) (u v : B) → u ≡ f x → v ≡ f y → cond b u v ≡ f (cond b x y)
chosen f true x y u v g h = g
chosen f false x y u v g h = h

-- IsThere holds of the items of the queues and of the accessed one, no two of which have one key
module _ (IsThere : Item → Type 0) (only : (i j : Item) → IsThere i → IsThere j → i.key ≡ j.key → i ≡ j) where
  abbrev AreThere : List Item → Type 0
  AreThere [] = Unit {0}
  AreThere (x ∷ l) = IsThere x × AreThere l

  abbrev AllThere : Queues → Type 0
  AllThere q = AreThere q.window × AreThere q.probation × AreThere q.protected

  -- ---- lists

  same : (i x : Item) → IsThere i → IsThere x → is_same_item (nodeless i) (nodeless x) ≡ is_same_item i x
  same i x h a =
      elim (cases_Bool (eqb i.key x.key)) as (λ _. is_same_item (nodeless i) (nodeless x) ≡ is_same_item i x) [
        | inl e ↦ let n : eqb i.node x.node ≡ true = eq-eqb i.node x.node (ap (λ (y : Item). y.node) (only i x h a (eqb-true i.key x.key e))) in rw (e, n) refl
        | inr e ↦ rw e refl
      ]

  times : (i : Item) (l : List Item) → IsThere i → AreThere l → occurrences (nodeless i) (nodeless_list l) ≡ occurrences i l
  times i [] h a = refl
  times i (x ∷ l) h a = rw (same i x h a.0, times i l h a.1) refl

  without : (i : Item) (l : List Item) → IsThere i → AreThere l → items_without (nodeless i) (nodeless_list l) ≡ nodeless_list (items_without i l)
  without i [] h a = refl
  without i (x ∷ l) h a = rw (same i x h a.0, without i l h a.1) (chosen nodeless_list (is_same_item i x) _ _ _ _ refl refl)

  rest-there : (i : Item) (l : List Item) → AreThere l → AreThere (items_without i l)
  rest-there i [] a = tt
  rest-there i (x ∷ l) a = let rest = rest-there i l a.1 in cond_both (is_same_item i x) (items_without i l) (x ∷ items_without i l) AreThere (λ e. rest) (λ e. (a.0, rest))

  more-there : (i : Item) (l : List Item) → IsThere i → AreThere l → AreThere (l ++ i ∷ [])
  more-there i [] h a = (h, tt)
  more-there i (x ∷ l) h a = (a.0, more-there i l h a.1)

  listed-there : (l : List Item) → ((j : Item) → 1 ≤ occurrences j l → IsThere j) → AreThere l
  listed-there [] u = tt
  listed-there (x ∷ l) u = (u x (let t = same-refl x in rw t (omega arith)), listed-there l (λ j h. u j (omega (arith, h))))

  -- ---- queues

  total : (q : Queues) → total_items (nodeless_queues q) ≡ total_items q
  total q = rw (length-map q.window nodeless, length-map q.probation nodeless, length-map q.protected nodeless) refl

  place : (i : Item) (q : Queues) → IsThere i → AllThere q → queue_holding (nodeless i) (nodeless_queues q) ≡ queue_holding i q
  place i q h a = rw (times i q.window h a.0, times i q.probation h a.1, times i q.protected h a.2) refl

  taken : (i : Item) (q : Queues) → IsThere i → AllThere q → queues_without (nodeless i) (nodeless_queues q) ≡ nodeless_queues (queues_without i q)
  taken i q h a = rw (without i q.window h a.0, without i q.probation h a.1, without i q.protected h a.2) refl

  pushed : (to : Queue) (i : Item) (q : Queues) → queues_after_push to (nodeless i) (nodeless_queues q) ≡ nodeless_queues (queues_after_push to i q)
  pushed Window i q = rw (map-append nodeless q.window (i ∷ [])) refl
  pushed Probation i q = rw (map-append nodeless q.probation (i ∷ [])) refl
  pushed Protected i q = rw (map-append nodeless q.protected (i ∷ [])) refl

  pushed-there : (to : Queue) (i : Item) (q : Queues) → IsThere i → AllThere q → AllThere (queues_after_push to i q)
  pushed-there Window i q h a = (more-there i q.window h a.0, a.1, a.2)
  pushed-there Probation i q h a = (a.0, more-there i q.probation h a.1, a.2)
  pushed-there Protected i q h a = (a.0, a.1, more-there i q.protected h a.2)

  moved : (i : Item) (to : Queue) (q : Queues) → IsThere i → AllThere q
      → (queues_after_move (nodeless i) to (nodeless_queues q) ≡ nodeless_queues (queues_after_move i to q)) × AllThere (queues_after_move i to q)
  moved i to q h a = (
    ap (queues_after_push to (nodeless i)) (taken i q h a) ∙ pushed to i (queues_without i q),
    pushed-there to i (queues_without i q) h (rest-there i q.window a.0, rest-there i q.probation a.1, rest-there i q.protected a.2),
  )

  -- ---- hits

  recent : (l : List Item) (q : Queues) → AreThere l → AllThere q
      → with_recent (oldest_of (nodeless_list l)) Probation (nodeless_queues q) ≡ nodeless_queues (with_recent (oldest_of l) Probation q)
  recent [] q b a = refl
  recent (x ∷ l) q b a = (moved x Probation q b.0 a).0

  demoted : (size : ℕ) (q : Queues) → AllThere q → queues_after_demotion size (nodeless_queues q) ≡ nodeless_queues (queues_after_demotion size q)
  demoted size q a = rw (length-map q.protected nodeless) (chosen nodeless_queues (nat_lt size (length q.protected)) _ _ _ _ (recent q.protected q a.2 a) refl)

  hit : (size : ℕ) (i : Item) (p : Queue) (q : Queues) → IsThere i → AllThere q → hit_in size (nodeless i) (Some p) (nodeless_queues q) ≡ nodeless_queues (hit_in size i (Some p) q)
  hit size i Window q h a = (moved i Window q h a).0
  hit size i Probation q h a = let m = moved i Protected q h a in ap (queues_after_demotion size) m.0 ∙ demoted size (queues_after_move i Protected q) m.1
  hit size i Protected q h a = (moved i Protected q h a).0

  -- ---- evictions

  contested : (admits : ℕ → ℕ → Bool) (c : Item) (l : List Item) (q : Queues) → IsThere c → AreThere l → AllThere q
      → contest admits (nodeless c) (oldest_of (nodeless_list l)) (nodeless_queues q) ≡ nodeless_response (contest admits c (oldest_of l) q)
  contested admits c [] q h b a = rw (taken c q h a) refl
  contested admits c (v ∷ l) q h b a =
      rw (same c v h b.0, taken c q h a, taken v q b.0 a)
      (chosen nodeless_response (is_same_item c v) _ _ _ _ refl (chosen nodeless_response (admits c.key v.key) _ _ _ _ refl refl))

  tried : (r : Rules) (admits : ℕ → ℕ → Bool) (l : List Item) (q : Queues) → AreThere l → AllThere q
      → trial_of r admits (oldest_of (nodeless_list l)) (nodeless_queues q) ≡ nodeless_response (trial_of r admits (oldest_of l) q)
  tried r admits [] q b a = refl
  tried r admits (c ∷ l) q b a =
      let s : Queues = queues_after_move c Probation q in
      let m = moved c Probation q b.0 a in
      ap (trial r admits (nodeless c)) m.0 ∙ rw (total s) (chosen nodeless_response (nat_lt r.capacity (total_items s)) _ _ _ _ (contested admits c s.probation s b.0 m.1.1 m.1) refl)

  evicted : (r : Rules) (admits : ℕ → ℕ → Bool) (q : Queues) → AllThere q → eviction r admits (nodeless_queues q) ≡ nodeless_response (eviction r admits q)
  evicted r admits q a = rw (length-map q.window nodeless) (chosen nodeless_response (nat_lt r.window (length q.window)) _ _ _ _ (tried r admits q.window q a.0 a) refl)

  -- ---- misses

  replaced : (admits : ℕ → ℕ → Bool) (to : Queue) (i : Item) (l : List Item) (q : Queues) → AreThere l → AllThere q
      → response_with_victim admits to (nodeless i) (oldest_of (nodeless_list l)) (nodeless_queues q) ≡ nodeless_response (response_with_victim admits to i (oldest_of l) q)
  replaced admits to i [] q b a = refl
  replaced admits to i (v ∷ l) q b a = rw (taken v q b.0 a, pushed to i (queues_without v q)) (chosen nodeless_response (admits i.key v.key) _ _ _ _ refl refl)

  replaced-in : (admits : ℕ → ℕ → Bool) (to : Queue) (i : Item) (q : Queues) → AllThere q
      → response_with_victim admits to (nodeless i) (oldest_of (queue_of to (nodeless_queues q))) (nodeless_queues q) ≡ nodeless_response (response_with_victim admits to i (oldest_of (queue_of to q)) q)
  replaced-in admits Window i q a = replaced admits Window i q.window q a.0 a
  replaced-in admits Probation i q a = replaced admits Probation i q.probation q a.1 a
  replaced-in admits Protected i q a = replaced admits Protected i q.protected q a.2 a

  missed : (p : Placement) (r : Rules) (admits : ℕ → ℕ → Bool) (i : Item) (q : Queues) → IsThere i → AllThere q
      → miss_by p r admits (nodeless i) (nodeless_queues q) ≡ nodeless_response (miss_by p r admits i q)
  missed (Direct to) r admits i q h a = rw (total q) (chosen nodeless_response (nat_lt (total_items q) r.capacity) _ _ _ _ (ap kept_in (pushed to i q)) (replaced-in admits to i q a))
  missed Windowed r admits i q h a = ap (eviction r admits) (pushed Window i q) ∙ evicted r admits (queues_after_push Window i q) (pushed-there Window i q h a)

  -- ---- accesses

  accessed-in : (r : Rules) (admits : ℕ → ℕ → Bool) (i : Item) (p : Option Queue) (q : Queues) → IsThere i → AllThere q
      → access_in r admits (nodeless i) p (nodeless_queues q) ≡ nodeless_response (access_in r admits i p q)
  accessed-in r admits i None q h a = missed r.placement r admits i q h a
  accessed-in r admits i (Some p) q h a = ap hit_response (hit r.protected i p q h a)

  accessed : (r : Rules) (admits : ℕ → ℕ → Bool) (i : Item) (q : Queues) → IsThere i → ((j : Item) → 1 ≤ queue_occurrences j q → IsThere j)
      → access r admits (nodeless i) (nodeless_queues q) ≡ nodeless_response (access r admits i q)
  unfolding access
  accessed r admits i q h u =
      let a : AllThere q = (listed-there q.window (λ j g. u j (omega (arith, g))), listed-there q.probation (λ j g. u j (omega (arith, g))), listed-there q.protected (λ j g. u j (omega (arith, g)))) in
      ap (λ (p : Option Queue). access_in r admits (nodeless i) p (nodeless_queues q)) (place i q h a) ∙ accessed-in r admits i (queue_holding i q) q h a

-- the item, and those of the queues
abbrev IsMet : Item → Queues → Item → Type 0
IsMet i q j = (j ≡ i) ⊎ (1 ≤ queue_occurrences j q)

met-once : (i : Item) (q : Queues) → HasKeysOnce q → IsOnly i q → (j k : Item) → IsMet i q j → IsMet i q k → j.key ≡ k.key → j ≡ k
met-once i q u n j k (inl e) (inl f) g = e ∙ sym f
met-once i q u n j k (inl e) (inr f) g = e ∙ n k f (ap (λ (x : Item). x.key) (sym e) ∙ g)
met-once i q u n j k (inr e) (inl f) g = sym (f ∙ n j e (ap (λ (x : Item). x.key) (sym f) ∙ sym g))
met-once i q u n j k (inr e) (inr f) g = u j e k f g

pub accesses-law : AccessesAgree
accesses-law r admits i q d u n = accessed (IsMet i q) (met-once i q u n) r admits i q (inl refl) (λ j h. inr h)
