-- A step is one of the cases.
use Rattle.std.proofs.Common.{◌≡◌, ℕ, ◌<◌, ◌≤◌, true, false, ◌&&◌, eqb, nat_lt, Option, Some, None, List, [], ◌∷◌, length, ap, subst, sym, ◌∙◌, refl, arith, inl, inr}
use Rattle.std.proofs.lemmas.Bool.{and_parts, cases_Bool, cond_both, eqb-true, eqb-false, ltb-true, ltb-false}
use Rattle.engine_base.specs.declared.step.Answer.TheVariants as answer
use Rattle.engine_base.specs.declared.step.Act.TheVariants as a
use Rattle.engine_base.specs.declared.drain.Drain.TheVariants as drain
use Rattle.engine_base.specs.declared.drain.Phase.TheVariants.{Writes, Evictions}
use Rattle.engine_base.specs.declared.step.Reply.TheVariants as reply
use Rattle.replacement.specs.Rules.{three_queues}
use Rattle.replacement.specs.Plan.{Item, Plan, candidate_of, eviction_plan}
use Rattle.shell_model.specs.declared.task.Task.TheVariants.{Add, Update, Remove}
use Rattle.shell_model.specs.Buffers.{stripe_at}
use Rattle.shell_model.specs.declared.record.Change.TheVariants as change
use Rattle.shell_model.specs.Frequency.{admits}
use Rattle.shell_model.specs.Changes.{Change, Holder, Task, after_change, shell_eviction}
use Rattle.shell_model.specs.Shell.{Reply, Drain, Act, Answer, Shell, node_of, held_by, in_phase, is_over, look_reply, offer_reply, put_at, put_reply, remove_at, after_read, after_write, begin_reply, read_reply, write_reply, task_reply, evict_effect, evicted_by, planned_change, evict_change, end_reply, drain_at_end, may_read, may_write, is_stripe, some_if, if_held, act_reply, with_shell, act_effect, counted_up, counted_reply}
use Rattle.shell_model.specs.ShellEviction.{Evicts}
use Rattle.shell_model.specs.ShellEviction as evicts
use Rattle.shell_model.specs.ShellSteps.{MayOffer, Holds, MayRead, MayWrite, Makes, Steps, StepsByReply}
use Rattle.shell_model.specs.ShellSteps as m
use Rattle.shell_model.specs.Laws.{MadeStep}
use Rattle.shell_model.proofs.Evicting.{evictions-by-reply}

-- whoever is w: the holder that stands, or none
pub when-held : {A : Type 0} (P : Option A → Type 0) (f : Holder → Option A) (w : ℕ) (x : Shell) → P None → ((h : Holder) → Holds w h x → P (f h)) → P (if_held f (held_by w x.holder))
when-held P f w x n k = by_holder x.holder refl
  where
    by_holder : (o : Option Holder) → x.holder ≡ o → P (if_held f (held_by w o))
    by_holder None e = n
    by_holder (Some h) e = cond_both (eqb w h.worker) (Some h) None (λ o. P (if_held f o)) (λ t. k h record { is = e; by = eqb-true w h.worker t }) (λ t. n)

-- the reply belongs to a case, and the change leaves the state of that case
abbrev MakesBy : ℕ → Shell → Act → Reply × Change → Type 0
MakesBy w x b p = Makes w x b p.0 (after_change p.1 x)

abbrev MakesTo : ℕ → Shell → Act → Option (Reply × Change) → Type 0
MakesTo w x b None = Unit {0}
MakesTo w x b (Some p) = MakesBy w x b p

may-offer : (s : ℕ) (i : Item) (x : Shell) → (is_stripe s x && nat_lt i.node x.next) ≡ true → MayOffer s i x
may-offer s i x t =
    let p = and_parts (is_stripe s x) (nat_lt i.node x.next) t in
    record { stripe = ltb-true s (length x.stripes) p.0; node = ltb-true i.node x.next p.1 }

look-makes : (w : ℕ) (x : Shell) (k : ℕ) (o : Option ℕ) → node_of k x.table ≡ o → Makes w x (a.Look k) (look_reply o) x
look-makes w x k None e = m.miss k e
look-makes w x k (Some n) e = m.hit k n e

offer-makes : (w : ℕ) (x : Shell) (s : ℕ) (i : Item) → MayOffer s i x → MakesBy w x (a.Offer s i) (offer_reply s i x)
offer-makes w x s i h =
    cond_both (nat_lt (length (stripe_at s x.stripes)) 16) (reply.Kept, change.Offered s i) (reply.Full, change.Nothing) (MakesBy w x (a.Offer s i))
    (λ t. m.kept s i h (ltb-true (length (stripe_at s x.stripes)) 16 t)) (λ t. m.full s i h (ltb-false (length (stripe_at s x.stripes)) 16 t))

put_at-makes : (w : ℕ) (x : Shell) (k : ℕ) (o : Option ℕ) → node_of k x.table ≡ o → length x.writes < 128 → MakesBy w x (a.Put k) (put_at k o x)
put_at-makes w x k (Some n) e l = m.present k n e l
put_at-makes w x k None e l = m.added k e l

put-makes : (w : ℕ) (x : Shell) (k : ℕ) → MakesBy w x (a.Put k) (put_reply k x)
put-makes w x k =
    cond_both (nat_lt (length x.writes) 128) (put_at k (node_of k x.table) x) (reply.WritesFull, change.Nothing) (MakesBy w x (a.Put k))
    (λ t. put_at-makes w x k (node_of k x.table) refl (ltb-true (length x.writes) 128 t)) (λ t. m.writes_full k (ltb-false (length x.writes) 128 t))

remove-makes : (w : ℕ) (x : Shell) (k : ℕ) (o : Option ℕ) → node_of k x.table ≡ o → MakesBy w x (a.Remove k) (remove_at k o x)
remove-makes w x k None e = m.absent k e
remove-makes w x k (Some n) e =
    cond_both (nat_lt (length x.writes) 128) (reply.Removed n, change.Removed record { key = k; node = n }) (reply.WritesFull, change.Nothing) (MakesBy w x (a.Remove k))
    (λ t. m.removed k n e (ltb-true (length x.writes) 128 t)) (λ t. m.remove_full k n e (ltb-false (length x.writes) 128 t))

after_read-makes : (w : ℕ) (x : Shell) (d : Drain) (b : Answer) → x.drain ≡ d → Makes w x (a.AfterRead b) (after_read d b) x
after_read-makes w x drain.Idle answer.Kept e = m.read_go answer.Kept (rw e refl)
after_read-makes w x drain.Idle answer.Full e = m.read_drain answer.Full (rw e refl)
after_read-makes w x drain.Idle answer.Lost e = m.read_go answer.Lost (rw e refl)
after_read-makes w x drain.Required b e = m.read_drain b (rw e refl)
after_read-makes w x drain.ToIdle b e = m.read_go b (rw e refl)
after_read-makes w x drain.ToRequired b e = m.read_go b (rw e refl)

after_write-makes : (w : ℕ) (x : Shell) (d : Drain) → x.drain ≡ d → MakesBy w x a.AfterWrite ((after_write d).0, change.Requested x.drain (after_write d).1)
after_write-makes w x drain.Idle e = m.write_drain drain.Required (rw e refl)
after_write-makes w x drain.Required e = m.write_drain drain.Required (rw e refl)
after_write-makes w x drain.ToIdle e = m.write_go drain.ToRequired (rw e refl)
after_write-makes w x drain.ToRequired e = m.write_go drain.ToRequired (rw e refl)

begin-makes : (w : ℕ) (x : Shell) (o : Option Holder) → x.holder ≡ o → MakesBy w x a.Begin (begin_reply w o x)
begin-makes w x (Some h) e = m.busy h e
begin-makes w x None e = m.began e

read-makes : (w : ℕ) (x : Shell) (s : ℕ) (l : List Item) → MayRead w s x → stripe_at s x.stripes ≡ l → MakesBy w x (a.DrainRead s) (read_reply s l x)
read-makes w x s [] h e = m.read_empty s h e
read-makes w x s (i ∷ rest) h e = m.drained s i rest h e

task-makes : (w : ℕ) (x : Shell) (h : Holder) (t : Task) (rest : List Task) → MayWrite w h x → x.writes ≡ t ∷ rest → 1 ≤ h.left → MakesBy w x a.DrainWrite (task_reply h.phase t x)
task-makes w x h (Add i) rest f e l = m.applied_add h i rest f e l
task-makes w x h (Update i) rest f e l = m.applied_update h i rest f e l
task-makes w x h (Remove i) rest f e l = m.applied_remove h i rest f e l

write-makes : (w : ℕ) (x : Shell) (h : Holder) (l : List Task) → MayWrite w h x → x.writes ≡ l → MakesBy w x a.DrainWrite (write_reply h l x)
write-makes w x h [] f e = m.write_empty h f e
write-makes w x h (t ∷ rest) f e =
    cond_both (eqb h.left 0) (reply.Enough, change.Passed h.phase Writes) (task_reply h.phase t x) (MakesBy w x a.DrainWrite)
    (λ g. m.enough h t rest f e (eqb-true h.left 0 g)) (λ g. task-makes w x h t rest f e (let n = eqb-false h.left 0 g in omega (arith, n)))

evict-makes : (w : ℕ) (x : Shell) (h : Holder) → Holds w h x → (r : Reply) (y : Shell) → Evicts (in_phase Evictions x) r y → Makes w x a.Evict r y
evict-makes w x h f r y (evicts.fits i) = m.fits h f i
evict-makes w x h f r y (evicts.shifted c k i) = m.shifted h c f record { over = k.over; oldest = k.oldest } i
evict-makes w x h f r y (evicts.evicted c v k l i g) = m.evicted h c v f record { over = k.over; oldest = k.oldest } record { over = l.over; oldest = l.oldest } i g
evict-makes w x h f r y (evicts.rejected c v k l i) = m.rejected h c v f record { over = k.over; oldest = k.oldest } record { over = l.over; oldest = l.oldest } i

-- the change of an eviction leaves what the eviction leaves, and the reply is its own
evict-changes : (h : Holder) (o : Option Item) (p : Plan) (x : Shell)
    → evicted_by o (shell_eviction x) (in_phase Evictions x) ≡ ((evicted_by o (shell_eviction x) x).0, after_change (planned_change h o p x) x)
evict-changes h None p x = refl
evict-changes h (Some c) p x = refl

pub evict-is : (w : ℕ) (h : Holder) (x : Shell) → held_by w x.holder ≡ Some h → act_effect w a.Evict x ≡ Some (evict_effect (in_phase Evictions x))
evict-is w h x e =
    ap (λ (o : Option Holder). with_shell x (if_held (λ k. Some ((evict_effect x).0, evict_change k x)) o)) e
    ∙ ap Some (sym (evict-changes h (candidate_of (three_queues x.config) x.queues) (eviction_plan (three_queues x.config) (admits x.frequency) x.queues) x))

ended-makes : (w : ℕ) (x : Shell) (h : Holder) (d : Drain) → Holds w h x → is_over x ≡ false → x.drain ≡ d → MakesBy w x a.End ((drain_at_end d).0, change.Ended h x.drain (drain_at_end d).1)
ended-makes w x h drain.ToRequired f o e = m.again h drain.Required f o (rw e refl)
ended-makes w x h drain.Required f o e = m.idle h drain.Idle f o (rw e refl)
ended-makes w x h drain.ToIdle f o e = m.idle h drain.Idle f o (rw e refl)
ended-makes w x h drain.Idle f o e = m.idle h drain.Idle f o (rw e refl)

end-makes : (w : ℕ) (x : Shell) (h : Holder) → Holds w h x → MakesBy w x a.End (end_reply h x)
end-makes w x h f =
    cond_both (is_over x) (reply.NotYet, change.Nothing) ((drain_at_end x.drain).0, change.Ended h x.drain (drain_at_end x.drain).1) (MakesBy w x a.End)
    (λ o. m.not_yet h f o) (λ o. ended-makes w x h x.drain f o refl)

reply-makes : (w : ℕ) (x : Shell) (b : Act) → MakesTo w x b (act_reply w b x)
reply-makes w x (a.Look k) = look-makes w x k (node_of k x.table) refl
reply-makes w x (a.Offer s i) = cond_both (is_stripe s x && nat_lt i.node x.next) (Some (offer_reply s i x)) None (MakesTo w x (a.Offer s i)) (λ t. offer-makes w x s i (may-offer s i x t)) (λ t. tt)
reply-makes w x (a.Lose s i) = cond_both (is_stripe s x && nat_lt i.node x.next) (Some (reply.Lost, change.Nothing)) None (MakesTo w x (a.Lose s i)) (λ t. m.lost s i (may-offer s i x t)) (λ t. tt)
reply-makes w x (a.Put k) = put-makes w x k
reply-makes w x (a.Remove k) = remove-makes w x k (node_of k x.table) refl
reply-makes w x (a.AfterRead b) = after_read-makes w x x.drain b refl
reply-makes w x a.AfterWrite = after_write-makes w x x.drain refl
reply-makes w x a.Begin = begin-makes w x x.holder refl
reply-makes w x (a.DrainRead s) =
    when-held (MakesTo w x (a.DrainRead s)) (λ h. some_if (is_stripe s x && may_read h.phase) (read_reply s (stripe_at s x.stripes) x)) w x tt
    (λ h f. cond_both (is_stripe s x && may_read h.phase) (Some (read_reply s (stripe_at s x.stripes) x)) None (MakesTo w x (a.DrainRead s))
    (λ t. (let p = and_parts (is_stripe s x) (may_read h.phase) t in
    read-makes w x s (stripe_at s x.stripes) record { holder = h; holds = f; phase = p.1; stripe = ltb-true s (length x.stripes) p.0 } refl)) (λ t. tt))
reply-makes w x a.DrainWrite =
    when-held (MakesTo w x a.DrainWrite) (λ h. some_if (may_write h.phase) (write_reply h x.writes x)) w x tt
    (λ h f. cond_both (may_write h.phase) (Some (write_reply h x.writes x)) None (MakesTo w x a.DrainWrite)
    (λ t. write-makes w x h x.writes record { holds = f; phase = t } refl) (λ t. tt))
reply-makes w x a.Evict =
    when-held (MakesTo w x a.Evict) (λ h. Some ((evict_effect x).0, evict_change h x)) w x tt
    (λ h f. evict-makes w x h f (evict_effect x).0 (after_change (evict_change h x) x)
    (subst (λ (p : Reply × Shell). Evicts (in_phase Evictions x) p.0 p.1)
    (evict-changes h (candidate_of (three_queues x.config) x.queues) (eviction_plan (three_queues x.config) (admits x.frequency) x.queues) x)
    (evictions-by-reply (in_phase Evictions x))))
reply-makes w x a.End = when-held (MakesTo w x a.End) (λ h. Some (end_reply h x)) w x tt (λ h f. end-makes w x h f)

-- one accepted step

reply_in : Reply → Option (Reply × Shell) → Reply
reply_in r None = r
reply_in r (Some p) = p.0

shell_in : Shell → Option (Reply × Shell) → Shell
shell_in x None = x
shell_in x (Some p) = p.1

counted-makes : (x : Shell) (e : MadeStep) (z : Shell) (o : Option (Reply × Change)) → MakesTo e.step.worker x e.step.act o → counted_reply (with_shell x o) ≡ Some (e.reply, z) → Steps x e z
unfolding reply_in shell_in
counted-makes x e z None h i = absurd (cc i)
counted-makes x e z (Some p) h i =
    let r : p.0 ≡ e.reply = ap (reply_in p.0) i in
    record {
      left = after_change p.1 x;
      made = subst (λ (q : Reply). Makes e.step.worker x e.step.act q (after_change p.1 x)) r h;
      is = sym (ap (shell_in x) i) ∙ ap (λ (q : Reply). counted_up q (after_change p.1 x)) r;
    }

pub stepped : StepsByReply
stepped x e z h =
    elim (cases_Bool (nat_lt x.applied 4294967296)) [
      | inl t ↦ counted-makes x e z (act_reply e.step.worker e.step.act x) (reply-makes e.step.worker x e.step.act) (rw t at h)
      | inr t ↦ absurd (let no : None ≡ Some (e.reply, z) = rw t at h in cc no)
    ]
