-- Carrying a plan out is undone by its record.
use Rattle.std.proofs.lemmas.Bool.Decides.{nat_tests}
use Rattle.std.proofs.Common.{arith, ◌≡◌, ◌⊎◌, ℕ, Bool, Option, Some, None, List, refl, ap, ◌∙◌}
use Rattle.engine_base.specs.declared.outcome.Outcome.TheVariants.{Kept, Evicted, Rejected}
use Rattle.segments.specs.declared.records.Queue.TheVariants.{Window, Probation, Protected}
use Rattle.segments.specs.Items.{oldest_of, last_item, before}
use Rattle.segments.specs.Queues.{Queues, queue_of, queue_holding, queue_after_access, queues_after_move, queues_without, IsDistinct}
use Rattle.segments.specs.Moves.{item_place, move_record}
use Rattle.segments.proofs.QueueLists.{move-recorded, out-recorded, distinct-taken, first-stands, placed, still-absent, taken-first}
use Rattle.replacement.specs.Table.{Rules, Placement, Queue}
use Rattle.replacement.specs.declared.rules.Placement.TheVariants.{Direct, Windowed}
use Rattle.replacement.specs.Plan.{Item, Leaver, Arrival, Transfer, Plan, transfer, leaver, demotion, settling, hit_plan, still_plan, leaving_plan, promotion_plan, contest_plan, replacing_plan, direct_plan, eviction_of, eviction_plan, joining_first, joining_plan, miss_plan_by, plan_in, plan}
use Rattle.replacement.specs.PlanMoves.{Moves, MoveRecord, QueuePlace, queues_after_arrival, queues_after_transfer, queues_after_leaving, queues_after, sent_by, moves_of, leaver_in, oldest_place, arrival, arrival_of_sent, first_move, move_out, last_move, undone_by, FitsBy, UndoesMoves}
use Rattle.replacement.specs.Effects.{IsHit}
use Rattle.replacement.proofs.Counting.{distinct-moved}
use Rattle.replacement.proofs.Planned.{evicts-first, oldest-joined, plan-at}

-- ---- the record of one move, or of none, fits the distinct items that the move left, and undoes it

abbrev arrival_record : Option Arrival → Queues → Option MoveRecord
arrival_record None s = None
arrival_record (Some t) s = Some (move_record t.item (Some t.to) s)

abbrev transfer_record : Option Transfer → Queues → Option MoveRecord
transfer_record None s = None
transfer_record (Some t) s = Some (move_record t.item (Some t.to) s)

abbrev pub removal_record : Option Leaver → Queues → Option MoveRecord
removal_record None s = None
removal_record (Some l) s = Some (move_record l.item None s)

pub record UndoesMove (before after : Queues) (r : Option MoveRecord) : Type 0 where
  pub fits : FitsBy r after
  pub undone : undone_by r after ≡ before
  pub distinct : IsDistinct after

move-undone : (i : Item) (to : Queue) (s : Queues) → IsDistinct s → UndoesMove s (queues_after_move i to s) (Some (move_record i (Some to) s))
move-undone i to s d =
    let r = move-recorded i to s (queues_after_move i to s) (move_record i (Some to) s) d refl refl in
    record { fits = r.fits; undone = r.undone; distinct = distinct-moved i to s d }

arrival-undone : (t : Option Arrival) (s : Queues) → IsDistinct s → UndoesMove s (queues_after_arrival t s) (arrival_record t s)
arrival-undone None s d = record { fits = tt; undone = refl; distinct = d }
arrival-undone (Some t) s d = move-undone t.item t.to s d

transfer-undone : (t : Option Transfer) (s : Queues) → IsDistinct s → UndoesMove s (queues_after_transfer t s) (transfer_record t s)
transfer-undone None s d = record { fits = tt; undone = refl; distinct = d }
transfer-undone (Some t) s d = move-undone t.item t.to s d

pub removal-undone : (l : Option Leaver) (s : Queues) → IsDistinct s → UndoesMove s (queues_after_leaving l s) (removal_record l s)
removal-undone v s d = grind (arith, nat_tests, out-recorded, distinct-taken)

-- ---- the moves that a record shows are those of the plan

record IsRecorded (p : Plan) (s : Queues) (m : Moves) : Type 0 where
  last : last_move m (queues_after p s) ≡ transfer_record p.last (queues_after_leaving p.leaves (queues_after_arrival p.first s))
  out : move_out (leaver_in m) ≡ removal_record p.leaves (queues_after_arrival p.first s)
  first : first_move m (queues_after_arrival p.first s) ≡ arrival_record p.first s

recorded-undone : (p : Plan) (s : Queues) (m : Moves) → IsDistinct s → IsRecorded p s m → UndoesMoves s (queues_after p s) m
recorded-undone p s m d i =
    let a : Queues = queues_after_arrival p.first s in
    let b : Queues = queues_after_leaving p.leaves a in
    let first = arrival-undone p.first s d in
    let out = removal-undone p.leaves a first.distinct in
    let last = transfer-undone p.last b out.distinct in
    record {
      fits = record {
        last = rw i.last last.fits;
        out = rw (i.last, last.undone, i.out) out.fits;
        first = rw (i.last, last.undone, i.out, out.undone, i.first) first.fits;
      };
      undone = rw (i.last, last.undone, i.out, out.undone, i.first) first.undone;
    }

-- an item stands at the old end of the queue
abbrev IsLoose : Item → Queue → Queues → Type 0
IsLoose i q s = item_place i (queue_holding i s) s ≡ Some (oldest_place q)

none-before : (l : List Item) (i : Item) → oldest_of l ≡ Some i → last_item (before i l) ≡ None
none-before v i e = grind (arith, nat_tests)

loose-oldest : (q : Queue) (i : Item) (s : Queues) → IsDistinct s → oldest_of (queue_of q s) ≡ Some i → IsLoose i q s
loose-oldest q i s d h = grind (arith, nat_tests, placed, first-stands, none-before)

-- what went to the recent end of a queue is the newest there
arrived : (i : Item) (from : Option QueuePlace) (to : Queue) (s : Queues) → IsDistinct s → item_place i (queue_holding i s) s ≡ from
    → arrival from to (queues_after_move i to s) ≡ Some (move_record i (Some to) s)
arrived i from to s d h = rw ((move-undone i to s d).fits.there, h) refl

sent-oldest : (q to : Queue) (o : Option Item) (s : Queues) → IsDistinct s → oldest_of (queue_of q s) ≡ o
    → arrival_of_sent (sent_by (transfer q to o)) (queues_after_transfer (transfer q to o) s) ≡ transfer_record (transfer q to o) s
sent-oldest q to None s d h = refl
sent-oldest q to (Some i) s d h = arrived i (Some (oldest_place q)) to s d (loose-oldest q i s d h)

-- ---- each plan

-- what leaves, and what is sent on then
record IsTail (p : Plan) (s : Queues) : Type 0 where
  out : move_out p.leaves ≡ removal_record p.leaves s
  last : arrival_of_sent (sent_by p.last) (queues_after_transfer p.last (queues_after_leaving p.leaves s)) ≡ transfer_record p.last (queues_after_leaving p.leaves s)

-- the oldest item of a queue leaves
leaving-tail : (p : Plan) (q : Queue) (i : Item) (s : Queues) → p.leaves ≡ leaver q (Some i) → p.last ≡ None → IsLoose i q s → IsTail p s
leaving-tail p q i s a b h = rw (a, b) record { out = rw h refl; last = refl }

contest-tail : (a : ℕ → ℕ → Bool) (c : Item) (o : Option Item) (s : Queues) → IsDistinct s → oldest_of s.window ≡ Some c → oldest_of s.probation ≡ o
    → IsTail (contest_plan a c o) s
contest-tail a c None s d h g = leaving-tail (contest_plan a c None) Window c s refl refl (loose-oldest Window c s d h)
contest-tail a c (Some v) s d h g =
    let out = loose-oldest Probation v s d g in
    let there = ap (λ (x : Queues). oldest_of x.window) (taken-first Probation v s d g) ∙ h in
    let last = sent-oldest Window Probation (Some c) (queues_without v s) (distinct-taken v s d) there in
    grind (arith, nat_tests, leaving-tail (contest_plan a c (Some v)) Window c s, loose-oldest Window c s d h)

eviction-tail : (r : Rules) (a : ℕ → ℕ → Bool) (s : Queues) → IsDistinct s → IsTail (eviction_plan r a s) s
eviction-tail r a s d = grind (arith, nat_tests, by)
  where
    by : (o : Option Item) → (o ≡ None) ⊎ (o ≡ oldest_of s.window) → IsTail (eviction_of r a o s) s
    by None h = record { out = refl; last = refl }
    by (Some c) h = grind (arith, nat_tests, contest-tail a c (oldest_of s.probation) s d, sent-oldest Window Probation (Some c) s d)

-- a plan that moves nothing first
tail-undone : (p : Plan) (s : Queues) → IsDistinct s → p.first ≡ None → IsTail p s → UndoesMoves s (queues_after p s) (moves_of p s)
tail-undone p s d none tail = recorded-undone p s (moves_of p s) d (rw none record { last = tail.last; out = tail.out; first = refl })

pub eviction-undone : (r : Rules) (a : ℕ → ℕ → Bool) (s : Queues) → IsDistinct s → UndoesMoves s (queues_after (eviction_plan r a s) s) (moves_of (eviction_plan r a s) s)
eviction-undone r a s d = tail-undone (eviction_plan r a s) s d (evicts-first r a s) (eviction-tail r a s d)

-- a plan by which a new item comes to a queue first
joined-undone : (q : Queue) (i : Item) (p : Plan) (s : Queues) → IsDistinct s → queue_holding i s ≡ None → IsTail p (queues_after_move i q s)
    → UndoesMoves s (queues_after (joining_first q i p) s) (moves_of (joining_first q i p) s)
joined-undone q i p s d h tail =
    recorded-undone (joining_first q i p) s (moves_of (joining_first q i p) s) d
    record { last = tail.last; out = tail.out; first = arrived i None q s d (rw h refl) }

-- a new item comes to the recent end of a queue, and nothing else is done
pub join-undone : (q : Queue) (i : Item) (s : Queues) → IsDistinct s → queue_holding i s ≡ None
    → UndoesMoves s (queues_after (joining_plan q i) s) (moves_of (joining_plan q i) s)
join-undone q i s d h = joined-undone q i (still_plan Kept) s d h record { out = refl; last = refl }

direct-undone : (r : Rules) (a : ℕ → ℕ → Bool) (q : Queue) (i : Item) (s : Queues) → IsDistinct s → queue_holding i s ≡ None
    → UndoesMoves s (queues_after (direct_plan r a q i s) s) (moves_of (direct_plan r a q i s) s)
direct-undone r a q i s d h = grind (arith, nat_tests, join-undone q i s d h, by (oldest_of (queue_of q s)) refl)
  where
    still : UndoesMoves s (queues_after (still_plan (Rejected i.key)) s) (moves_of (still_plan (Rejected i.key)) s)
    still = tail-undone (still_plan (Rejected i.key)) s d refl record { out = refl; last = refl }

    by : (o : Option Item) → oldest_of (queue_of q s) ≡ o → UndoesMoves s (queues_after (replacing_plan a q i o) s) (moves_of (replacing_plan a q i o) s)
    by None e = still
    by (Some v) e =
        let there = loose-oldest q v (queues_after_move i q s) (distinct-moved i q s d) (oldest-joined q i v s h e) in
        let p = leaving_plan q v (Evicted v.key) in
        let come = joined-undone q i p s d h (leaving-tail p q v (queues_after_move i q s) refl refl there) in
        grind (arith, nat_tests, still)

demoted-sent : (size : ℕ) (s : Queues) → IsDistinct s → arrival_of_sent (sent_by (demotion size s)) (queues_after_transfer (demotion size s) s) ≡ transfer_record (demotion size s) s
demoted-sent size s d = grind (arith, nat_tests, sent-oldest Protected Probation (oldest_of s.protected) s d refl)

planned-hit-undone : (size : ℕ) (i : Item) (q : Queue) (s : Queues) → IsDistinct s → queue_holding i s ≡ Some q
    → UndoesMoves s (queues_after (hit_plan size i q s) s) (moves_of (hit_plan size i q s) s)
planned-hit-undone size i q s d h =
    recorded-undone (hit_plan size i q s) s (moves_of (hit_plan size i q s) s) d
    record { last = by q; out = refl; first = arrived i (item_place i (Some q) s) (queue_after_access q) s d (rw h refl) }
  where
    after : Queue → Queues
    after q = queues_after_move i (queue_after_access q) s

    by : (q : Queue) → arrival_of_sent (sent_by (settling size q (after q))) (queues_after_transfer (settling size q (after q)) (after q)) ≡ transfer_record (settling size q (after q)) (after q)
    by Window = refl
    by Probation = demoted-sent size (after Probation) (distinct-moved i Protected s d)
    by Protected = refl

pub hit-undone : (size : ℕ) (i : Item) (s t : Queues) (m : Moves) → IsDistinct s → IsHit size i s t m → UndoesMoves s t m
hit-undone size i s t m d h = rw (h.lists, h.moves) (planned-hit-undone size i h.queue s d h.place)

-- any access
pub access-undone : (r : Rules) (a : ℕ → ℕ → Bool) (i : Item) (s : Queues) → IsDistinct s → UndoesMoves s (queues_after (plan r a i s) s) (moves_of (plan r a i s) s)
access-undone r a i s d = rw (plan-at r a i s (queue_holding i s) refl) (by (queue_holding i s) refl)
  where
    missed : (p : Placement) → queue_holding i s ≡ None → UndoesMoves s (queues_after (miss_plan_by p r a i s) s) (moves_of (miss_plan_by p r a i s) s)
    missed (Direct q) h = direct-undone r a q i s d h
    missed Windowed h =
        joined-undone Window i (eviction_plan r a (queues_after_move i Window s)) s d h
        (eviction-tail r a (queues_after_move i Window s) (distinct-moved i Window s d))

    by : (p : Option Queue) → queue_holding i s ≡ p → UndoesMoves s (queues_after (plan_in r a i p s) s) (moves_of (plan_in r a i p s) s)
    by None h = missed r.placement h
    by (Some q) h = planned-hit-undone r.protected i q s d h
