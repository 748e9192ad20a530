-- The nodes that acts and replies of the concurrent cache name are at most as many as the nodes given out.
use Rattle.std.proofs.Common.{◌≡◌, ℕ, suc, zero, ◌+◌, ◌<◌, ◌≤◌, true, false, eqb, Some, List, [], ◌∷◌, ◌++◌, length, set, drop, replicate, sym, subst, refl, arith, inl, inr}
use Rattle.std.proofs.lemmas.Bool.{cases_Bool, eqb-true, eq-eqb}
use Rattle.std.proofs.lemmas.List.{get_or-set_same, get_or-set_other}
use Rattle.std.specs.List.{AllByRecursion}
use Rattle.engine_base.specs.declared.limits.TheConstants.{MAX_STEPS}
use Rattle.engine_base.specs.declared.step.Act.TheVariants as a
use Rattle.engine_base.specs.declared.step.Reply.TheVariants as reply
use Rattle.engine_base.specs.History.{next_data, data_after, IsLegal}
use Rattle.segments.specs.Items.{Item, occurrences, oldest_of}
use Rattle.shell_model.specs.declared.task.Task.TheVariants.{Add, Update, Remove}
use Rattle.shell_model.specs.Buffers.{stripe_at}
use Rattle.shell_model.specs.declared.task.Task.{Task}
use Rattle.shell_model.specs.Shell.{Reply, Act, Shell, node_of, counted_up, act}
use Rattle.replacement.specs.Counts.{queue_occurrences}
use Rattle.shell_model.specs.Consistency.{IsConsistent}
use Rattle.shell_model.specs.Laws.{Config, MadeStep, empty_shell}
use Rattle.shell_model.specs.ReachableShell.{IsReachable, IsBounded}
use Rattle.admission.specs.Shape.{Shape}
use Rattle.shell_model.proofs.Counting.{node-listed, listed-times}
use Rattle.shell_model.proofs.Undoing.{first-queued, shifted-queued}
use Rattle.shell_model.proofs.Preserving.{queued-below}
use Rattle.shell_model.specs.ShellSteps as k
use Rattle.shell_model.specs.ShellSteps.{Makes, Steps}
use Rattle.shell_model.proofs.Making.{stepped}
use Rattle.shell_model.proofs.Histories.{after-sound}
use Rattle.shell_model.proofs.Holding.{opened-sound}
use Rattle.shell_model.proofs.Reached.{reached-sound}
use Rattle.shell_model.proofs.Bounding.{bound-law, after-bound}

-- the node of an act, 0 where it names none
abbrev pub act_node : Act → ℕ
act_node (a.Offer s i) = i.node
act_node (a.Lose s i) = i.node
act_node b = 0

-- the node of a reply, 0 where it names none
abbrev pub reply_node : Reply → ℕ
reply_node (reply.Hit node) = node
reply_node (reply.Added node) = node
reply_node (reply.Present node) = node
reply_node (reply.Removed node) = node
reply_node (reply.Drained i) = i.node
reply_node (reply.Applied i) = i.node
reply_node (reply.Cleared i) = i.node
reply_node (reply.Shifted i) = i.node
reply_node (reply.Evicted i) = i.node
reply_node (reply.Rejected i) = i.node
reply_node r = 0

-- ---- what waits names no other nodes

abbrev task_node : Task → ℕ
task_node (Add i) = i.node
task_node (Update i) = i.node
task_node (Remove i) = i.node

abbrev AreNumbered : ℕ → List Item → Type 0
AreNumbered n is = AllByRecursion (λ (i : Item). i.node ≤ n) is

abbrev AreTasks : ℕ → List Task → Type 0
AreTasks n ts = AllByRecursion (λ t. task_node t ≤ n) ts

record IsNumbered (x : Shell) : Type 0 where
  pub stripes : (s : ℕ) → AreNumbered x.next (stripe_at s x.stripes)
  pub writes : AreTasks x.next x.writes

more-items : (m n : ℕ) (is : List Item) → m ≤ n → AreNumbered m is → AreNumbered n is
more-items m n [] l h = tt
more-items m n (i ∷ is) l h = (omega (arith, h.0, l), more-items m n is l h.1)

more-tasks : (m n : ℕ) (ts : List Task) → m ≤ n → AreTasks m ts → AreTasks n ts
more-tasks m n [] l h = tt
more-tasks m n (t ∷ ts) l h = (omega (arith, h.0, l), more-tasks m n ts l h.1)

last-item : (n : ℕ) (is : List Item) (i : Item) → i.node ≤ n → AreNumbered n is → AreNumbered n (is ++ i ∷ [])
last-item n [] i l h = (l, tt)
last-item n (j ∷ is) i l h = (h.0, last-item n is i l h.1)

last-task : (n : ℕ) (ts : List Task) (t : Task) → task_node t ≤ n → AreTasks n ts → AreTasks n (ts ++ t ∷ [])
last-task n [] t l h = (l, tt)
last-task n (u ∷ ts) t l h = (h.0, last-task n ts t l h.1)

set-numbered : (n : ℕ) (ls : List (List Item)) (s : ℕ) (l : List Item) → s < length ls → AreNumbered n l
    → ((j : ℕ) → AreNumbered n (stripe_at j ls)) → (j : ℕ) → AreNumbered n (stripe_at j (set ls s l))
set-numbered n ls s l h m few j =
    elim (cases_Bool (eqb j s)) [
      | inl e ↦ let t : j ≡ s = eqb-true j s e in rw (t, get_or-set_same ls s l [] h) m
      | inr e ↦ let f : (j ≡ s → ⊥) = (λ (g : j ≡ s). let no : true ≡ false = rw (eq-eqb j s g) at e in cc (no)) in rw (get_or-set_other ls s j l [] f) (few j)
    ]

-- ---- one step

listed-below : (x : Shell) (k n : ℕ) → IsConsistent x → node_of k x.table ≡ Some n → n < x.next
listed-below x k n c e =
    let i : Item = record { key = k; node = n } in
    let once : 1 ≤ occurrences i x.table = listed-times i x.table (node-listed i x.table e) in
    c.placed.below i (omega (arith, once))

window-below : (x : Shell) (i : Item) → IsConsistent x → oldest_of x.queues.window ≡ Some i → (1 ≤ queue_occurrences i x.queues) × (i.node < x.next)
window-below x i c e =
    let once : 1 ≤ occurrences i x.queues.window = first-queued i x.queues.window e in
    let held : 1 ≤ queue_occurrences i x.queues = omega (arith, once) in
    (held, queued-below i x c held)

head-item : (n : ℕ) (l rest : List Item) (i : Item) → l ≡ i ∷ rest → AreNumbered n l → (i.node ≤ n) × AreNumbered n rest
head-item n l rest i e h = subst (λ m. AreNumbered n m) e h

head-task : (n : ℕ) (l rest : List Task) (t : Task) → l ≡ t ∷ rest → AreTasks n l → (task_node t ≤ n) × AreTasks n rest
head-task n l rest t e h = subst (λ m. AreTasks n m) e h

record IsLowStep (x : Shell) (b : Act) (r : Reply) (y : Shell) : Type 0 where
  pub of_act : act_node b ≤ x.next
  pub of_reply : reply_node r ≤ y.next
  pub next : x.next ≤ y.next
  pub numbered : IsNumbered y

low-step : (w : ℕ) (x : Shell) (b : Act) (r : Reply) (y : Shell) → Makes w x b r y → IsConsistent x → IsNumbered x → IsLowStep x b r y
low-step w x b r y (k.hit j n e) c v =
    let low = listed-below x j n c e in
    record { of_act = omega arith; of_reply = omega (arith, low); next = omega arith; numbered = v }
low-step w x b r y (k.kept t i h few) c v =
    let low : i.node < x.next = h.node in
    let on : AreNumbered x.next (stripe_at t x.stripes ++ i ∷ []) = last-item x.next (stripe_at t x.stripes) i (omega (arith, low)) (v.stripes t) in
    record {
      of_act = omega (arith, low);
      of_reply = omega arith;
      next = omega arith;
      numbered = record { stripes = set-numbered x.next x.stripes t (stripe_at t x.stripes ++ i ∷ []) h.stripe on v.stripes; writes = v.writes };
    }
low-step w x b r y (k.full t i h few) c v =
    let low : i.node < x.next = h.node in
    record { of_act = omega (arith, low); of_reply = omega arith; next = omega arith; numbered = v }
low-step w x b r y (k.lost t i h) c v =
    let low : i.node < x.next = h.node in
    record { of_act = omega (arith, low); of_reply = omega arith; next = omega arith; numbered = v }
low-step w x b r y (k.present j n e h) c v =
    let low = listed-below x j n c e in
    record {
      of_act = omega arith;
      of_reply = omega (arith, low);
      next = omega arith;
      numbered = record { stripes = v.stripes; writes = last-task x.next x.writes (Update record { key = j; node = n }) (omega (arith, low)) v.writes };
    }
low-step w x b r y (k.added j e h) c v =
    record {
      of_act = omega arith;
      of_reply = omega arith;
      next = omega arith;
      numbered = record {
        stripes = λ t. more-items x.next (x.next + 1) (stripe_at t x.stripes) (omega arith) (v.stripes t);
        writes = last-task (x.next + 1) x.writes (Add record { key = j; node = x.next }) (omega arith) (more-tasks x.next (x.next + 1) x.writes (omega arith) v.writes);
      };
    }
low-step w x b r y (k.removed j n e h) c v =
    let low = listed-below x j n c e in
    record {
      of_act = omega arith;
      of_reply = omega (arith, low);
      next = omega arith;
      numbered = record { stripes = v.stripes; writes = last-task x.next x.writes (Remove record { key = j; node = n }) (omega (arith, low)) v.writes };
    }
low-step w x b r y (k.drained t i rest h e) c v =
    let front = head-item x.next (stripe_at t x.stripes) rest i e (v.stripes t) in
    record {
      of_act = omega arith;
      of_reply = front.0;
      next = omega arith;
      numbered = record { stripes = set-numbered x.next x.stripes t (drop 1 (stripe_at t x.stripes)) h.stripe (rw e front.1) v.stripes; writes = v.writes };
    }
low-step w x b r y (k.applied_add h i rest f e l) c v =
    let front = head-task x.next x.writes rest (Add i) e v.writes in
    record { of_act = omega arith; of_reply = front.0; next = omega arith; numbered = record { stripes = v.stripes; writes = rw e front.1 } }
low-step w x b r y (k.applied_update h i rest f e l) c v =
    let front = head-task x.next x.writes rest (Update i) e v.writes in
    record { of_act = omega arith; of_reply = front.0; next = omega arith; numbered = record { stripes = v.stripes; writes = rw e front.1 } }
low-step w x b r y (k.applied_remove h i rest f e l) c v =
    let front = head-task x.next x.writes rest (Remove i) e v.writes in
    record { of_act = omega arith; of_reply = front.0; next = omega arith; numbered = record { stripes = v.stripes; writes = rw e front.1 } }
low-step w x b r y (k.shifted h i f o few) c v =
    let low = (window-below x i c o.oldest).1 in
    record { of_act = omega arith; of_reply = omega (arith, low); next = omega arith; numbered = record { stripes = v.stripes; writes = v.writes } }
low-step w x b r y (k.evicted h i j f o g n m) c v =
    let low = queued-below j x c (shifted-queued i j x (window-below x i c o.oldest).0 g.oldest) in
    record { of_act = omega arith; of_reply = omega (arith, low); next = omega arith; numbered = record { stripes = v.stripes; writes = v.writes } }
low-step w x b r y (k.rejected h i j f o g n) c v =
    let low = (window-below x i c o.oldest).1 in
    record { of_act = omega arith; of_reply = omega (arith, low); next = omega arith; numbered = record { stripes = v.stripes; writes = v.writes } }
low-step w x b r y made c v = record { of_act = omega arith; of_reply = omega arith; next = omega arith; numbered = record { stripes = v.stripes; writes = v.writes } }

-- ---- all steps

-- no node of the entry is above the greatest number of steps
pub record IsLow (e : MadeStep) : Type 0 where
  pub of_act : act_node e.step.act ≤ MAX_STEPS
  pub of_reply : reply_node e.reply ≤ MAX_STEPS

lifted : (x : Shell) (b : Act) (r : Reply) (y : Shell) → IsLowStep x b r y → IsLowStep x b r (counted_up r y)
lifted x b r y low = record {
  of_act = low.of_act;
  of_reply = low.of_reply;
  next = low.next;
  numbered = record { stripes = low.numbered.stripes; writes = low.numbered.writes };
}

low-next : (x : Shell) (e : MadeStep) (z : Shell) → IsConsistent x → IsNumbered x → act x e.step ≡ Some (e.reply, z) → IsLowStep x e.step.act e.reply z
low-next x e z c v h =
    let s : Steps x e z = stepped x e z h in
    let low : IsLowStep x e.step.act e.reply s.left = low-step e.step.worker x e.step.act e.reply s.left s.made c v in
    subst (λ u. IsLowStep x e.step.act e.reply u) (sym s.is) (lifted x e.step.act e.reply s.left low)

after-numbered : (x : Shell) (es : List MadeStep) → IsConsistent x → IsNumbered x → IsLegal act x es → IsNumbered (data_after act x es)
after-numbered x [] c v l = v
after-numbered x (e ∷ es) c v l =
    after-numbered (next_data (act x e.step) x) es (after-sound x (e ∷ []) c (l.0, tt)) (low-next x e (next_data (act x e.step) x) c v l.0).numbered l.1

no-stripes : (n k : ℕ) → stripe_at k (replicate n []) ≡ []
no-stripes zero k = refl
no-stripes (suc n) zero = refl
no-stripes (suc n) (suc k) = no-stripes n k

opened-numbered : (c : Config) (s : Shape) → IsNumbered (empty_shell c s)
opened-numbered c s = record { stripes = λ t. rw (no-stripes c.stripes t) tt; writes = tt }

reached-numbered : (x : Shell) → IsReachable x → IsNumbered x
reached-numbered x r =
    rw r.gives (after-numbered (empty_shell x.config r.shape) r.entries (opened-sound x.config r.shape r.shape_is) (opened-numbered x.config r.shape) r.legal)

all-low : (x : Shell) (es : List MadeStep) → IsConsistent x → IsBounded x → IsNumbered x → IsLegal act x es → AllByRecursion IsLow es
all-low x [] c b v l = tt
all-low x (e ∷ es) c b v l =
    let z : Shell = next_data (act x e.step) x in
    let low : IsLowStep x e.step.act e.reply z = low-next x e z c v l.0 in
    let on : IsBounded z = after-bound x (e ∷ []) b (l.0, tt) in (
      record { of_act = omega (arith, low.of_act, b.next, b.applied); of_reply = omega (arith, low.of_reply, on.next, on.applied) },
      all-low z es (after-sound x (e ∷ []) c (l.0, tt)) on low.numbered l.1,
    )

pub nodes-low : (x : Shell) (es : List MadeStep) → IsReachable x → IsLegal act x es → AllByRecursion IsLow es
nodes-low x es r l = all-low x es (reached-sound x r) (bound-law x r) (reached-numbered x r) l
