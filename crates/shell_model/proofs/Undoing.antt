-- Each step's change fits what the step left, and undoes it.
use Rattle.std.proofs.Common.{◌≡◌, ℕ, suc, zero, ◌+◌, ◌-◌, ◌<◌, ◌≤◌, Bool, true, cond, ◌&&◌, eqb, nat_lt, Option, Some, None, option_map, List, [], ◌∷◌, ◌++◌, length, set, drop, ap, refl, arith, inl, inr, length-append}
use Rattle.std.proofs.lemmas.Bool.{and_parts, cases_Bool, cond_both, eqb-false, ltb-true}
use Rattle.std.proofs.lemmas.List.{take_at, get_or-set_same, set-set, set-get_or, length-set}
use Rattle.engine_base.specs.declared.step.Act.TheVariants as a
use Rattle.engine_base.specs.declared.drain.Phase.TheVariants.{Writes, Evictions}
use Rattle.engine_base.specs.declared.step.Reply.TheVariants as reply
use Rattle.segments.specs.declared.records.Queue.TheVariants.{Window, Probation}
use Rattle.segments.specs.Items.{Item, is_same_item, occurrences, oldest_of}
use Rattle.segments.specs.Queues.{Queues, queue_holding, queues_after_push, queues_after_move, IsDistinct}
use Rattle.segments.proofs.QueueLists.{same-refl, same-true, is_absent, pushed-moved}
use Rattle.replacement.specs.Rules.{three_queues}
use Rattle.replacement.specs.Table.{Queue, hit_in}
use Rattle.replacement.specs.Plan.{Plan, candidate_of, eviction_plan}
use Rattle.replacement.specs.declared.record.Leaver.{Leaver}
use Rattle.replacement.specs.PlanMoves.{queues_after, response_of_plan, moves_of, leaver_in, undone_moves, UndoesMoves}
use Rattle.replacement.proofs.Carrying.{UndoesMove, removal-undone, hit-undone, join-undone, eviction-undone}
use Rattle.replacement.proofs.Leaving.{leaver-of}
use Rattle.replacement.proofs.Planned.{hits_planned, evictions_planned, evicts-first}
use Rattle.shell_model.specs.declared.task.Task.TheVariants.{Add, Update, Remove}
use Rattle.shell_model.specs.declared.record.Change.TheVariants.{Nothing, Offered, Removed, Passed, Ended}
use Rattle.shell_model.specs.Frequency.{frequency_unrecorded, admits}
use Rattle.shell_model.specs.Buffers.{stripe_at, all_but_newest}
use Rattle.shell_model.specs.ShellState.{Holder, Task, Phase, Shell, shell_protected_size, is_over, node_of, is_listed, unlisted, unlisted_by, cleared_from, holder_in_phase}
use Rattle.shell_model.specs.Changes.{Change, UseRecord, shell_after_touch, shell_after_task, holder_after_task, shell_eviction, after_change, holder_with_task, entered, before_change, IsNewest, FitsTouched, IsInPhase, HasLeft, IsOut, FitsChange}
use Rattle.shell_model.specs.Shell.{Reply, Act, offer_reply, put_at, put_reply, remove_at, begin_reply, hit_moves, touched_of, added_of, cleared_of, read_reply, task_reply, write_reply, evict_effect, leaves_table, planned_change, evict_change, drain_at_end, end_reply, may_read, may_write, is_stripe, some_if, act_reply}
use Rattle.replacement.specs.Counts.{queue_occurrences}
use Rattle.shell_model.specs.Consistency.{IsConsistent, waiting_adds, leaving, IsAscending}
use Rattle.replacement.proofs.Counting.{queued-moved}
use Rattle.shell_model.proofs.Counting.{without-placed, node_of-placed, placed-without, node_of-without, listed-times, node-listed}
use Rattle.shell_model.proofs.Making.{when-held}
use Rattle.shell_model.proofs.Frequency.{fits_recorded, unrecorded-recorded}

-- the change fits what it leaves, and leads back
pub record Goes (x : Shell) (c : Change) : Type 0 where
  pub fits : FitsChange c (after_change c x)
  pub back : before_change c (after_change c x) ≡ x

abbrev pub GoesTo : Shell → Option (Reply × Change) → Type 0
GoesTo x None = Unit {0}
GoesTo x (Some p) = Goes x p.1

nothing-goes : (x : Shell) → Goes x Nothing
nothing-goes x = record { fits = tt; back = refl }

pub but_newest-push : {A : Type 0} → (l : List A) (e : A) → all_but_newest (l ++ e ∷ []) ≡ l
but_newest-push l e =
    let n : length (l ++ e ∷ []) - 1 ≡ length l = omega (arith, length-append l (e ∷ [])) in
    rw n (take_at l (e ∷ []) (length l) refl)

pub newest-push : {A : Type 0} → (l : List A) (e : A) → IsNewest e (l ++ e ∷ [])
newest-push l e = rw (but_newest-push l e) refl

-- offers

offer-goes : (s : ℕ) (i : Item) (x : Shell) → s < length x.stripes → Goes x (offer_reply s i x).1
offer-goes s i x h =
    let same : stripe_at s (set x.stripes s (stripe_at s x.stripes ++ i ∷ [])) ≡ stripe_at s x.stripes ++ i ∷ [] = get_or-set_same x.stripes s (stripe_at s x.stripes ++ i ∷ []) [] h in
    cond_both (nat_lt (length (stripe_at s x.stripes)) 16) (reply.Kept, Offered s i) (reply.Full, Nothing) (λ (p : Reply × Change). Goes x p.1)
    (λ e. record {
      fits = (omega (arith, h, length-set x.stripes s (stripe_at s x.stripes ++ i ∷ [])), rw same (newest-push (stripe_at s x.stripes) i));
      back = rw (same, but_newest-push (stripe_at s x.stripes) i, set-set x.stripes s (stripe_at s x.stripes ++ i ∷ []) (stripe_at s x.stripes), set-get_or x.stripes s []) refl;
    }) (λ e. nothing-goes x)

-- puts

pub fresh-none : (x : Shell) (k : ℕ) → IsConsistent x → occurrences record { key = k; node = x.next } x.table ≡ 0
fresh-none x k w = let n : occurrences record { key = k; node = x.next } x.table + leaving record { key = k; node = x.next } x.writes ≡ 0 = none (occurrences record { key = k; node = x.next } x.table + leaving record { key = k; node = x.next } x.writes) (w.placed.below record { key = k; node = x.next }) in omega (arith, n)
  where
    none : (n : ℕ) → (1 ≤ n → x.next < x.next) → n ≡ 0
    none zero f = refl
    none (suc n) f = absurd (let no : x.next < x.next = f (omega arith) in omega arith)

put_at-goes : (k : ℕ) (o : Option ℕ) (x : Shell) → node_of k x.table ≡ o → IsConsistent x → Goes x (put_at k o x).1
put_at-goes k (Some n) x e w =
    let i : Item = record { key = k; node = n } in
    record { fits = newest-push x.writes (Update i); back = rw (but_newest-push x.writes (Update i)) refl }
put_at-goes k None x e w =
    record {
      fits = (newest-push x.writes (Add record { key = k; node = x.next }), node_of-placed record { key = k; node = x.next } x.table e, refl);
      back =
          let n : x.next + 1 - 1 ≡ x.next = omega arith in
          rw (but_newest-push x.writes (Add record { key = k; node = x.next }), without-placed record { key = k; node = x.next } x.table (fresh-none x k w), n) refl;
    }

put-goes : (k : ℕ) (x : Shell) → IsConsistent x → Goes x (put_reply k x).1
put-goes k x w =
    cond_both (nat_lt (length x.writes) 128) (put_at k (node_of k x.table) x) (reply.WritesFull, Nothing) (λ (p : Reply × Change). Goes x p.1)
    (λ e. put_at-goes k (node_of k x.table) x refl w) (λ e. nothing-goes x)

remove-goes : (k : ℕ) (o : Option ℕ) (x : Shell) → node_of k x.table ≡ o → IsConsistent x → Goes x (remove_at k o x).1
remove-goes k None x e w = nothing-goes x
remove-goes k (Some n) x e w =
    let h : 1 ≤ occurrences record { key = k; node = n } x.table = listed-times record { key = k; node = n } x.table (node-listed record { key = k; node = n } x.table e) in
    cond_both (nat_lt (length x.writes) 128) (reply.Removed n, Removed record { key = k; node = n }) (reply.WritesFull, Nothing) (λ (p : Reply × Change). Goes x p.1)
    (λ t. record {
      fits = (newest-push x.writes (Remove record { key = k; node = n }), node_of-without record { key = k; node = n } x.table w.placed.ascending h);
      back = rw (but_newest-push x.writes (Remove record { key = k; node = n }), placed-without record { key = k; node = n } x.table w.placed.ascending h) refl;
    }) (λ t. nothing-goes x)

begin-goes : (w : ℕ) (o : Option Holder) (x : Shell) → x.holder ≡ o → Goes x (begin_reply w o x).1
begin-goes w (Some h) x e = nothing-goes x
begin-goes w None x e = record { fits = (refl, refl); back = rw (← e) refl }

-- hits

pub hit-back : (size : ℕ) (i : Item) (q : Queues) (p : Option Queue) → IsDistinct q → queue_holding i q ≡ p
    → UndoesMoves q (hit_in size i p q) (hit_moves size i p q)
hit-back size i q None d h = record { fits = record { last = tt; out = tt; first = tt }; undone = refl }
hit-back size i q (Some p) d h =
    hit-undone size i q (hit_in size i (Some p) q) (hit_moves size i (Some p) q) d
    record { queue = p; place = h; lists = hits_planned size i p q; moves = refl }

hit-stays : (size : ℕ) (i : Item) (q : Queues) (p : Option Queue) → leaver_in (hit_moves size i p q) ≡ None
hit-stays size i q None = refl
hit-stays size i q (Some p) = refl

pub sound-distinct : (x : Shell) → IsConsistent x → IsDistinct x.queues
sound-distinct x w j = omega (arith, w.placed.known j, w.placed.once j)

-- what touching an item does besides, where y is x but for stripes, writes and holder
pub record TouchBack (t : UseRecord) (x y : Shell) : Type 0 where
  pub fits : FitsTouched t y
  pub queues : undone_moves t.moves y.queues ≡ x.queues
  pub frequency : frequency_unrecorded t.frequency y.frequency ≡ x.frequency

touch-back : (i : Item) (x : Shell) → IsConsistent x → TouchBack (touched_of i x) x (shell_after_touch i x)
touch-back i x w =
    let b = hit-back (shell_protected_size x.config) i x.queues (queue_holding i x.queues) (sound-distinct x w) refl in
    record {
      fits = record {
        moves = b.fits;
        frequency = fits_recorded x.frequency i.key w.frequency;
        stays = hit-stays (shell_protected_size x.config) i x.queues (queue_holding i x.queues);
      };
      queues = b.undone;
      frequency = unrecorded-recorded x.frequency i.key w.frequency;
    }

-- reads

read-goes : (s : ℕ) (l : List Item) (x : Shell) → stripe_at s x.stripes ≡ l → s < length x.stripes → IsConsistent x → Goes x (read_reply s l x).1
read-goes s [] x e h w = nothing-goes x
read-goes s (i ∷ rest) x e h w =
    let b = touch-back i x w in
    let oldest : drop 1 (stripe_at s x.stripes) ≡ rest = rw e refl in
    let same : stripe_at s (set x.stripes s rest) ≡ rest = get_or-set_same x.stripes s rest [] h in
    let few : suc (length rest) ≤ 16 = rw e at (w.stripes s) in
    let whole : set x.stripes s (i ∷ rest) ≡ x.stripes = rw (← e) (set-get_or x.stripes s []) in
    record {
      fits = (record { moves = b.fits.moves; frequency = b.fits.frequency; stays = b.fits.stays }, omega (arith, h, length-set x.stripes s (drop 1 (stripe_at s x.stripes))), rw (oldest, same) (omega (arith, few)));
      back = rw (b.queues, b.frequency, oldest, same, set-set x.stripes s rest (i ∷ rest), whole) refl;
    }

-- writes

pub queued-waits : (i : Item) (rest : List Task) (x : Shell) → x.writes ≡ Add i ∷ rest → IsConsistent x → queue_occurrences i x.queues ≡ 0
queued-waits i rest x e w =
    let a : queue_occurrences i x.queues + waiting_adds i x.writes ≤ 1 = omega (arith, w.placed.known i, w.placed.once i) in
    let b : queue_occurrences i x.queues + (cond (is_same_item i i) 1 0 + waiting_adds i rest) ≤ 1 = rw e at a in
    let c : queue_occurrences i x.queues + (1 + waiting_adds i rest) ≤ 1 = rw (same-refl i) at b in
    omega (arith, c)

added-back : (i : Item) (rest : List Task) (x : Shell) → x.writes ≡ Add i ∷ rest → IsConsistent x → TouchBack (added_of i x) x (shell_after_task (Add i) x)
added-back i rest x e w =
    let none : queue_occurrences i x.queues ≡ 0 = queued-waits i rest x e w in
    let absent : queue_holding i x.queues ≡ None = is_absent i x.queues record { window = omega arith; probation = omega arith; protected = omega arith } in
    let b : UndoesMoves x.queues (queues_after_push Window i x.queues) (added_of i x).moves =
    rw (pushed-moved i Window x.queues absent) (join-undone Window i x.queues (sound-distinct x w) absent) in
    record {
      fits = record { moves = b.fits; frequency = fits_recorded x.frequency i.key w.frequency; stays = refl };
      queues = b.undone;
      frequency = unrecorded-recorded x.frequency i.key w.frequency;
    }

-- an item is taken out, where it is queued
pub cleared-back : (i : Item) (q : Queues) (p : Option Queue) → IsDistinct q → UndoesMove q (cleared_from i p q) (cleared_of i p q)
cleared-back i q None d = removal-undone None q d
cleared-back i q (Some p) d = removal-undone (Some record { item = i; from = p }) q d

-- where a task is applied, a task fits before the rest again, and another one is left to the holder
record IsTaken (h : Holder) (t : Task) (x : Shell) : Type 0 where
  room : length (drop 1 x.writes) < 128
  phase : IsInPhase Writes (holder_after_task x.holder)
  left : HasLeft (holder_after_task x.holder)
  writes : t ∷ drop 1 x.writes ≡ x.writes
  holder : holder_with_task h.phase (holder_after_task x.holder) ≡ x.holder

is-taken : (t : Task) (rest : List Task) (h : Holder) (x : Shell) → x.writes ≡ t ∷ rest → x.holder ≡ Some h → 1 ≤ h.left → IsConsistent x → IsTaken h t x
is-taken t rest h x e f more w =
    let few : suc (length rest) ≤ 128 = rw e at w.writes in
    let left : h.left ≤ 128 = rw f at w.left in
    let again : h.left - 1 + 1 ≡ h.left = omega (arith, more) in
    record { room = rw e (omega (arith, few)); phase = rw f refl; left = rw f (omega (arith, left, more)); writes = rw e refl; holder = rw f (rw again refl) }

task-goes : (t : Task) (rest : List Task) (h : Holder) (x : Shell) → x.writes ≡ t ∷ rest → x.holder ≡ Some h → 1 ≤ h.left → IsConsistent x → Goes x (task_reply h.phase t x).1
task-goes (Add i) rest h x e f more w =
    let b = added-back i rest x e w in
    let t = is-taken (Add i) rest h x e f more w in
    record {
      fits = (record { moves = b.fits.moves; frequency = b.fits.frequency; stays = b.fits.stays }, t.room, t.phase, t.left);
      back = rw (b.queues, b.frequency, t.writes, t.holder) refl;
    }
task-goes (Update i) rest h x e f more w =
    let b = touch-back i x w in
    let t = is-taken (Update i) rest h x e f more w in
    record {
      fits = (record { moves = b.fits.moves; frequency = b.fits.frequency; stays = b.fits.stays }, t.room, t.phase, t.left);
      back = rw (b.queues, b.frequency, t.writes, t.holder) refl;
    }
task-goes (Remove i) rest h x e f more w =
    let b = cleared-back i x.queues (queue_holding i x.queues) (sound-distinct x w) in
    let t = is-taken (Remove i) rest h x e f more w in
    record { fits = (b.fits, t.room, t.phase, t.left); back = rw (b.undone, t.writes, t.holder) refl }

passed-goes : (p : Phase) (h : Holder) (x : Shell) → x.holder ≡ Some h → Goes x (Passed h.phase p)
passed-goes p h x f = let same : holder_in_phase h.phase (holder_in_phase p x.holder) ≡ x.holder = rw f refl in record { fits = rw f refl; back = rw same refl }

write-goes : (h : Holder) (l : List Task) (x : Shell) → x.writes ≡ l → x.holder ≡ Some h → IsConsistent x → Goes x (write_reply h l x).1
write-goes h [] x e f w = passed-goes Writes h x f
write-goes h (t ∷ rest) x e f w =
    cond_both (eqb h.left 0) (reply.Enough, Passed h.phase Writes) (task_reply h.phase t x) (λ (p : Reply × Change). Goes x p.1)
    (λ g. passed-goes Writes h x f) (λ g. task-goes t rest h x e f (let n = eqb-false h.left 0 g in omega (arith, n)) w)

-- evictions

pub first-queued : (i : Item) (l : List Item) → oldest_of l ≡ Some i → 1 ≤ occurrences i l
first-queued i [] h = absurd (cc (h))
first-queued i (x ∷ l) h =
    let e : x ≡ i = unsome x i h in
    let s : is_same_item i x ≡ true = rw e (same-refl i) in
    rw s (omega arith)
  where
    item_in : Item → Option Item → Item
    item_in d None = d
    item_in d (Some j) = j

    unsome : (x i : Item) → Some x ≡ Some i → x ≡ i
    unsome x i h = ap (item_in x) h

-- the candidate was queued, and goes to probation, whose items were queued all
pub shifted-queued : (c v : Item) (x : Shell) → 1 ≤ queue_occurrences c x.queues → oldest_of (queues_after_move c Probation x.queues).probation ≡ Some v → 1 ≤ queue_occurrences v x.queues
shifted-queued c v x h f =
    let q : queue_occurrences v (queues_after_move c Probation x.queues) ≡ cond (is_same_item v c) 1 (queue_occurrences v x.queues) = queued-moved v c Probation x.queues in
    let n : 1 ≤ occurrences v (queues_after_move c Probation x.queues).probation = first-queued v (queues_after_move c Probation x.queues).probation f in
    let m : 1 ≤ cond (is_same_item v c) 1 (queue_occurrences v x.queues) = omega (arith, q, n) in
    elim (cases_Bool (is_same_item v c)) as (λ _. 1 ≤ queue_occurrences v x.queues) [
      | inl e ↦ let s : v ≡ c = same-true v c e in rw s h
      | inr e ↦ rw e at m
    ]

-- the item that left the queues is back in the table
record TableBack (b : Bool) (l : Option Leaver) (t u : List Item) : Type 0 where
  out : IsOut b l u
  back : entered b l u ≡ t

table-back : (l : Option Leaver) (t : List Item) → IsAscending t
    → TableBack (leaves_table l t) l t (unlisted_by (option_map (λ m. m.item) l) t)
table-back None t a = record { out = tt; back = refl }
table-back (Some l) t a =
    elim (cases_Bool (is_listed l.item t)) as (λ _. TableBack (is_listed l.item t) (Some l) t (unlisted l.item t)) [
      | inl e ↦
          let h : 1 ≤ occurrences l.item t = listed-times l.item t e in
          rw e record { out = node_of-without l.item t a h; back = placed-without l.item t a h }
      | inr e ↦ rw e record { out = tt; back = refl }
    ]

planned-goes : (h : Holder) (o : Option Item) (p : Plan) (x : Shell) → x.holder ≡ Some h → shell_eviction x ≡ response_of_plan p x.queues → IsConsistent x
    → leaver_in (moves_of p x.queues) ≡ p.leaves → UndoesMoves x.queues (queues_after p x.queues) (moves_of p x.queues) → Goes x (planned_change h o p x)
planned-goes h None p x f r w l m = passed-goes Evictions h x f
planned-goes h (Some c) p x f r w l m =
    let t = table-back p.leaves x.table w.placed.ascending in
    let same : holder_in_phase h.phase (holder_in_phase Evictions x.holder) ≡ x.holder = rw f refl in
    record { fits = (rw r record { moves = m.fits; table = rw l t.out }, rw f refl); back = rw (r, m.undone, l, t.back, same) refl }

evict-goes : (h : Holder) (x : Shell) → x.holder ≡ Some h → IsConsistent x → Goes x (evict_change h x)
evict-goes h x f w =
    let r = three_queues x.config in
    let a = admits x.frequency in
    let d = sound-distinct x w in
    planned-goes h (candidate_of r x.queues) (eviction_plan r a x.queues) x f (evictions_planned r a x.queues d) w
    (leaver-of (eviction_plan r a x.queues) x.queues (evicts-first r a x.queues)) (eviction-undone r a x.queues d)

end-goes : (h : Holder) (x : Shell) → x.holder ≡ Some h → Goes x (end_reply h x).1
end-goes h x f =
    cond_both (is_over x) (reply.NotYet, Nothing) ((drain_at_end x.drain).0, Ended h x.drain (drain_at_end x.drain).1) (λ (p : Reply × Change). Goes x p.1)
    (λ e. nothing-goes x) (λ e. record { fits = (refl, refl); back = rw (← f) refl })

-- every accepted act's change leads back from what it leaves
pub reply-goes : (w : ℕ) (b : Act) (x : Shell) → IsConsistent x → GoesTo x (act_reply w b x)
reply-goes w (a.Look k) x v = nothing-goes x
reply-goes w (a.Offer s i) x v =
    cond_both (is_stripe s x && nat_lt i.node x.next) (Some (offer_reply s i x)) None (GoesTo x)
    (λ t. offer-goes s i x (ltb-true s (length x.stripes) (and_parts (is_stripe s x) (nat_lt i.node x.next) t).0)) (λ t. tt)
reply-goes w (a.Lose s i) x v = cond_both (is_stripe s x && nat_lt i.node x.next) (Some (reply.Lost, Nothing)) None (GoesTo x) (λ t. nothing-goes x) (λ t. tt)
reply-goes w (a.Put k) x v = put-goes k x v
reply-goes w (a.Remove k) x v = remove-goes k (node_of k x.table) x refl v
reply-goes w (a.AfterRead b) x v = nothing-goes x
reply-goes w a.AfterWrite x v = record { fits = refl; back = refl }
reply-goes w a.Begin x v = begin-goes w x.holder x refl
reply-goes w (a.DrainRead s) x v =
    when-held (GoesTo x) (λ h. some_if (is_stripe s x && may_read h.phase) (read_reply s (stripe_at s x.stripes) x)) w x tt
    (λ h f. cond_both (is_stripe s x && may_read h.phase) (Some (read_reply s (stripe_at s x.stripes) x)) None (GoesTo x)
    (λ t. read-goes s (stripe_at s x.stripes) x refl (ltb-true s (length x.stripes) (and_parts (is_stripe s x) (may_read h.phase) t).0) v) (λ t. tt))
reply-goes w a.DrainWrite x v =
    when-held (GoesTo x) (λ h. some_if (may_write h.phase) (write_reply h x.writes x)) w x tt
    (λ h f. cond_both (may_write h.phase) (Some (write_reply h x.writes x)) None (GoesTo x) (λ t. write-goes h x.writes x refl f.is v) (λ t. tt))
reply-goes w a.Evict x v = when-held (GoesTo x) (λ h. Some ((evict_effect x).0, evict_change h x)) w x tt (λ h f. evict-goes h x f.is v)
reply-goes w a.End x v = when-held (GoesTo x) (λ h. Some (end_reply h x)) w x tt (λ h f. end-goes h x f.is)
