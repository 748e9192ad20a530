-- The plans carry out the table of moves.
use Rattle.std.proofs.Common.{◌≡◌, ℕ, ◌≤◌, Bool, true, false, Option, Some, None, option_map, List, [], ◌∷◌, ◌++◌, ap, ◌∙◌, sym, refl, arith, inl, inr, length-append}
use Rattle.std.proofs.lemmas.Bool.Decides.{nat_tests}
use Rattle.std.proofs.lemmas.Bool.{cases_Bool}
use Rattle.segments.specs.declared.records.Queue.TheVariants.{Window, Probation, Protected}
use Rattle.segments.specs.Items.{Item, is_same_item, occurrences, items_without, oldest_of}
use Rattle.segments.specs.Queues.{Queues, queue_of, queue_holding, queues_after_push, queues_without, queues_after_move, total_items, IsDistinct}
use Rattle.segments.proofs.QueueLists.{absent, queue-absent, same-refl, same-sym, length-without, without-none, without-append, taken-moved, first-stands, pushed-moved, still-absent}
use Rattle.replacement.specs.declared.rules.Placement.TheVariants.{Direct, Windowed}
use Rattle.replacement.specs.Table.{Rules, Placement, Queue, Response, with_recent, queues_after_demotion, hit_response, contest, eviction, response_with_victim, response_without_trial, miss_by, miss, access_in, access}
use Rattle.replacement.specs.Plan.{Plan, Arrival, transfer, demotion, contest_plan, replacing_plan, direct_plan, candidate_of, eviction_of, eviction_plan, joining_first, miss_plan_by, miss_plan, plan_in, plan}
use Rattle.replacement.specs.PlanMoves.{queues_after_arrival, queues_after_transfer, queues_after_leaving, response_of_plan}
use Rattle.replacement.specs.Theorems.{HitsPlanned, EvictionsPlanned, AccessesPlanned}
use Rattle.replacement.proofs.Counting.{distinct-moved}

-- ---- hits

demoted-planned : (size : ℕ) (s : Queues) → queues_after_demotion size s ≡ queues_after_transfer (demotion size s) s
demoted-planned size s = grind (arith, nat_tests, by_oldest)
  where
    by_oldest : (o : Option Item) → with_recent o Probation s ≡ queues_after_transfer (transfer Protected Probation o) s
    by_oldest None = refl
    by_oldest (Some i) = refl

pub hits_planned : HitsPlanned
hits_planned size i Window s = refl
hits_planned size i Probation s = demoted-planned size (queues_after_move i Protected s)
hits_planned size i Protected s = refl

-- ---- evictions

-- two items taken out, in either order
swapped : (v c : Item) (l : List Item) → items_without v (items_without c l) ≡ items_without c (items_without v l)
swapped v c [] = refl
swapped v c (x ∷ l) = grind (arith, nat_tests, swapped v c l)

first_or : Item → Option Item → Option Item
first_or c None = Some c
first_or c (Some v) = Some v

-- the victim, once the candidate stands behind it
first-shifted : (c : Item) (l : List Item) → occurrences c l ≡ 0 → oldest_of (items_without c l ++ c ∷ []) ≡ first_or c (oldest_of l)
unfolding first_or
first-shifted c l h = rw (without-none c l h) (by l)
  where
    by : (l : List Item) → oldest_of (l ++ c ∷ []) ≡ first_or c (oldest_of l)
    by [] = refl
    by (x ∷ l) = refl

apart : (c v : Item) (l : List Item) → occurrences c l ≡ 0 → oldest_of l ≡ Some v → is_same_item c v ≡ false
apart c v l h f = grind (arith, nat_tests, by)
  where
    item_in : Item → Option Item → Item
    item_in d None = d
    item_in d (Some j) = j

    by : (l : List Item) → occurrences c l ≡ 0 → oldest_of l ≡ Some v → is_same_item c v ≡ true → ⊥
    by [] h f e = cc (f)
    by (x ∷ l) h f e = grind (arith, nat_tests, item_in)

contest-planned : (a : ℕ → ℕ → Bool) (c : Item) (o : Option Item) (s : Queues) → oldest_of s.probation ≡ o → occurrences c s.probation ≡ 0
    → contest a c (first_or c o) (queues_after_move c Probation s) ≡ response_of_plan (contest_plan a c o) s
unfolding first_or
contest-planned a c None s f h = let e = same-refl c in rw (e, taken-moved c Probation s) refl
contest-planned a c (Some v) s f h =
    grind (arith, nat_tests, apart c v s.probation h f, without-append, swapped, same-sym, taken-moved c Probation s)

-- the candidate's way to probation adds no item
total-shifted : (c : Item) (q : Queues) → IsDistinct q → 1 ≤ occurrences c q.window → total_items (queues_after_move c Probation q) ≡ total_items q
total-shifted c q d h = omega (arith, d c, h, length-without c q.window, length-without c q.probation, length-without c q.protected, length-append (items_without c q.probation) (c ∷ []))

pub evictions_planned : EvictionsPlanned
evictions_planned r a s d = grind (arith, nat_tests, first-stands, total-shifted, first-shifted, contest-planned)

-- ---- accesses

-- a plan of an eviction moves nothing first, so that an item can join before it
first-none : (r : Rules) (a : ℕ → ℕ → Bool) (o : Option Item) (s : Queues) → (eviction_of r a o s).first ≡ None
first-none r a None s = refl
first-none r a (Some c) s = grind (arith, nat_tests, by)
  where
    by : (o : Option Item) → (contest_plan a c o).first ≡ None
    by None = refl
    by (Some v) = elim (cases_Bool (a c.key v.key)) as (λ _. (contest_plan a c (Some v)).first ≡ None) [ inl e ↦ rw e refl | inr e ↦ rw e refl ]

response_with : Option Arrival → Plan → Queues → Response
response_with o p s = record { outcome = p.outcome; left = option_map (λ l. l.item) p.leaves; queues = queues_after_transfer p.last (queues_after_leaving p.leaves (queues_after_arrival o s)) }

pub joined-response : (i : Item) (p : Plan) (s : Queues) → p.first ≡ None → response_of_plan (joining_first Window i p) s ≡ response_of_plan p (queues_after_move i Window s)
unfolding response_with
joined-response i p s h = ap (λ (o : Option Arrival). response_with o p (queues_after_move i Window s)) (sym h)

pub evicts-first : (r : Rules) (a : ℕ → ℕ → Bool) (s : Queues) → (eviction_plan r a s).first ≡ None
evicts-first r a s = first-none r a (candidate_of r s) s

-- a queue's oldest item is the same once a new one came there, and may leave before that or after it
pub oldest-joined : (q : Queue) (i v : Item) (s : Queues) → queue_holding i s ≡ None → oldest_of (queue_of q s) ≡ Some v → oldest_of (queue_of q (queues_after_move i q s)) ≡ Some v
oldest-joined q i v s h e = grind (arith, nat_tests, first-shifted i (queue_of q s) (queue-absent q i s (absent i s h)))

pub left-joined : (q : Queue) (i v : Item) (s : Queues) → queue_holding i s ≡ None → oldest_of (queue_of q s) ≡ Some v
    → queues_without v (queues_after_move i q s) ≡ queues_after_push q i (queues_without v s)
left-joined q i v s h e = grind (arith, nat_tests, pushed-moved i q s h, without-append, apart i v (queue_of q s) (queue-absent q i s (absent i s h)) e, same-sym)

replacing-planned : (a : ℕ → ℕ → Bool) (q : Queue) (i : Item) (o : Option Item) (s : Queues) → queue_holding i s ≡ None → oldest_of (queue_of q s) ≡ o
    → response_with_victim a q i o s ≡ response_of_plan (replacing_plan a q i o) s
replacing-planned a q i None s h e = refl
replacing-planned a q i (Some v) s h e = grind (arith, nat_tests, left-joined q i v s h e)

direct-planned : (r : Rules) (a : ℕ → ℕ → Bool) (q : Queue) (i : Item) (s : Queues) → queue_holding i s ≡ None → response_without_trial r a q i s ≡ response_of_plan (direct_plan r a q i s) s
direct-planned r a q i s h = grind (arith, nat_tests, pushed-moved, replacing-planned a q i (oldest_of (queue_of q s)) s h refl)

miss-planned : (r : Rules) (a : ℕ → ℕ → Bool) (i : Item) (s : Queues) → IsDistinct s → queue_holding i s ≡ None → miss r a i s ≡ response_of_plan (miss_plan r a i s) s
miss-planned r a i s d h = by r.placement
  where
    by : (p : Placement) → miss_by p r a i s ≡ response_of_plan (miss_plan_by p r a i s) s
    by (Direct q) = direct-planned r a q i s h
    by Windowed =
        ap (eviction r a) (pushed-moved i Window s h)
        ∙ (evictions_planned r a (queues_after_move i Window s) (distinct-moved i Window s d)
        ∙ sym (joined-response i (eviction_plan r a (queues_after_move i Window s)) s (evicts-first r a (queues_after_move i Window s))))

pub access-planned-in : (r : Rules) (a : ℕ → ℕ → Bool) (i : Item) (p : Option Queue) (s : Queues) → IsDistinct s → queue_holding i s ≡ p
    → access_in r a i p s ≡ response_of_plan (plan_in r a i p s) s
access-planned-in r a i None s d h = miss-planned r a i s d h
access-planned-in r a i (Some q) s d h = ap hit_response (hits_planned r.protected i q s)

-- the plan of an access and the table, by where its item stands
pub plan-at : (r : Rules) (a : ℕ → ℕ → Bool) (i : Item) (s : Queues) (p : Option Queue) → queue_holding i s ≡ p → plan r a i s ≡ plan_in r a i p s
unfolding plan
plan-at r a i s p h = ap (λ (x : Option Queue). plan_in r a i x s) h

pub access-at : (r : Rules) (a : ℕ → ℕ → Bool) (i : Item) (s : Queues) (p : Option Queue) → queue_holding i s ≡ p → access r a i s ≡ access_in r a i p s
unfolding access
access-at r a i s p h = ap (λ (x : Option Queue). access_in r a i x s) h

pub accesses_planned : AccessesPlanned
accesses_planned r a i s d =
    access-at r a i s (queue_holding i s) refl ∙ (access-planned-in r a i (queue_holding i s) s d refl
    ∙ ap (λ (p : Plan). response_of_plan p s) (sym (plan-at r a i s (queue_holding i s) refl)))
