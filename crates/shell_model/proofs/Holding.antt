-- Who holds the maintenance, and in which phase.
use Rattle.std.proofs.Common.{◌≡◌, ℕ, suc, zero, ◌+◌, ◌*◌, ◌/◌, ◌≤◌, Bool, true, false, cond, Option, Some, None, List, [], ◌∷◌, replicate, ap, ◌∙◌, refl, arith}
use Rattle.engine_base.specs.declared.step.Act.TheVariants as a
use Rattle.engine_base.specs.declared.drain.Phase.TheVariants.{Reads, Writes, Evictions}
use Rattle.engine_base.specs.declared.step.Reply.TheVariants as reply
use Rattle.engine_base.specs.History.{next_data, data_after, IsLegal}
use Rattle.segments.specs.Items.{occurrences}
use Rattle.admission.specs.Shape.{Shape, IsShape}
use Rattle.admission.proofs.Doors.{part_16}
use Rattle.admission.proofs.Weighing.{frequency_is}
use Rattle.shell_model.specs.declared.stats.Counted.TheVariants as counted
use Rattle.shell_model.specs.ShellStats.{Reply, raises}
use Rattle.shell_model.specs.Buffers.{stripe_at}
use Rattle.shell_model.specs.ShellState.{Holder, Phase, Config, holder_in_phase}
use Rattle.shell_model.specs.Changes.{holder_after_task}
use Rattle.shell_model.specs.Shell.{Act, Shell, may_write, act}
use Rattle.shell_model.specs.Consistency.{IsConsistent}
use Rattle.shell_model.specs.Laws.{MadeStep, collect, IsShapeOf, empty_shell, added, is_ending, is_drain_write, is_evict, some_end, some_act, phase_after, open_from, open_began, holding_of, holding_from, AreReplies, HistoryLaws}
use Rattle.shell_model.specs.ShellSteps as k
use Rattle.shell_model.specs.ShellSteps.{Makes, Steps}
use Rattle.shell_model.proofs.Making.{stepped}
use Rattle.shell_model.proofs.Histories.{after-sound, none-counted, writes-law, stripes-law, stats-law, frequency-law, table-law}
use Rattle.shell_model.proofs.Preserving.{ordered-behind}

-- a phase that stood does not go back
abbrev at_least : Phase → Bool → Phase
at_least Reads b = cond b Writes Reads
at_least Writes b = Writes
at_least Evictions b = Evictions

abbrev phase_from : Phase → List MadeStep → Phase
phase_from p es = cond (some_act is_evict es) Evictions (at_least p (some_act is_drain_write es))

-- who holds after the entries, where o held before
abbrev later : Option (ℕ × List MadeStep) → Bool → Option (ℕ × Phase) → List MadeStep → Option (ℕ × Phase)
later (Some p) b o es = Some (p.0, phase_after Reads p.1)
later None true o es = None
later None false None es = None
later None false (Some s) es = Some (s.0, phase_from s.1 es)

from-writes : (p : Phase) (c b : Bool) → may_write p ≡ true → cond c Evictions (at_least Writes b) ≡ cond c Evictions (at_least p true)
from-writes Reads c b h = refl
from-writes Writes c b h = refl
from-writes Evictions c b h = absurd (cc (h))

from-evictions : (p q : Phase) (c : Bool) → cond c Evictions Evictions ≡ Evictions
from-evictions p q true = refl
from-evictions p q false = refl

abbrev made_of : ℕ → Act → Reply → MadeStep
made_of w b r = record { step = record { worker = w; act = b }; reply = r }

same-holding : (o : Option (ℕ × Phase)) (w : ℕ) (b : Act) (r : Reply) (es : List MadeStep) → is_evict b ≡ false → is_drain_write b ≡ false → later None false o es ≡ later None false o (made_of w b r ∷ es)
same-holding None w b r es e f = refl
same-holding (Some s) w b r es e f = rw (e, f) refl

write-holding : (w : ℕ) (r : Reply) (h : Holder) (o u : Option Holder) (es : List MadeStep) → o ≡ Some h → may_write h.phase ≡ true → holding_of u ≡ Some (h.worker, Writes)
    → later None false (holding_of u) es ≡ later None false (holding_of o) (made_of w a.DrainWrite r ∷ es)
write-holding w r h o u es f g q = rw (q, f) (ap (λ (p : Phase). Some (h.worker, p)) (from-writes h.phase (some_act is_evict es) (some_act is_drain_write es) g))

evict-holding : (w : ℕ) (r : Reply) (h : Holder) (o : Option Holder) (es : List MadeStep) → o ≡ Some h → later None false (holding_of (holder_in_phase Evictions o)) es ≡ later None false (holding_of o) (made_of w a.Evict r ∷ es)
evict-holding w r h o es f = rw f (ap (λ (p : Phase). Some (h.worker, p)) (from-evictions Reads Reads (some_act is_evict es)))

passed-holding : (p : Phase) (h : Holder) (o : Option Holder) → o ≡ Some h → holding_of (holder_in_phase p o) ≡ Some (h.worker, p)
passed-holding p h o f = rw f refl

task-holding : (h : Holder) (o : Option Holder) → o ≡ Some h → holding_of (holder_after_task o) ≡ Some (h.worker, Writes)
task-holding h o f = rw f refl

holder-step : (x : Shell) (w : ℕ) (b : Act) (r : Reply) (y : Shell) → Makes w x b r y → (es : List MadeStep)
    → later None false (holding_of y.holder) es ≡ later (cond (raises counted.Began r) (Some (w, es)) None) (is_ending r) (holding_of x.holder) (made_of w b r ∷ es)
holder-step x w b r y (k.began e) es = ap (λ (p : Phase). Some (w, p)) refl
holder-step x w b r y (k.write_empty h f e) es = write-holding w reply.Empty h x.holder _ es f.holds.is f.phase (passed-holding Writes h x.holder f.holds.is)
holder-step x w b r y (k.enough h t rest f e l) es = write-holding w reply.Enough h x.holder _ es f.holds.is f.phase (passed-holding Writes h x.holder f.holds.is)
holder-step x w b r y (k.applied_add h i rest f e l) es = write-holding w (reply.Applied i) h x.holder _ es f.holds.is f.phase (task-holding h x.holder f.holds.is)
holder-step x w b r y (k.applied_update h i rest f e l) es = write-holding w (reply.Applied i) h x.holder _ es f.holds.is f.phase (task-holding h x.holder f.holds.is)
holder-step x w b r y (k.applied_remove h i rest f e l) es = write-holding w (reply.Cleared i) h x.holder _ es f.holds.is f.phase (task-holding h x.holder f.holds.is)
holder-step x w b r y (k.fits h f o) es = evict-holding w reply.Fits h x.holder es f.is
holder-step x w b r y (k.shifted h c f o i) es = evict-holding w (reply.Shifted c) h x.holder es f.is
holder-step x w b r y (k.evicted h c v f o i n g) es = evict-holding w (reply.Evicted v) h x.holder es f.is
holder-step x w b r y (k.rejected h c v f o i n) es = evict-holding w (reply.Rejected c) h x.holder es f.is
holder-step x w b r y (k.idle h d f o e) es = refl
holder-step x w b r y (k.again h d f o e) es = refl
holder-step x w b r y made es = same-holding (holding_of x.holder) w b r es refl refl

-- what came before the entries follows from what they say of a holder
join : (e : MadeStep) (es : List MadeStep) (q : Option (ℕ × List MadeStep)) (t : Bool) (o u : Option (ℕ × Phase)) → t ≡ some_end es
    → (later None false u es ≡ later (cond (raises counted.Began e.reply) (Some (e.step.worker, es)) None) (is_ending e.reply) o (e ∷ es))
    → later q t u es ≡ later (open_from e es q) (cond (is_ending e.reply) true t) o (e ∷ es)
join e es (Some p) t o u h i = refl
join e es None true o u h i = rw (← h) (over (raises counted.Began e.reply) (is_ending e.reply))
  where
    over : (c d : Bool) → None ≡ later (cond c (cond true None (Some (e.step.worker, es))) None) (cond d true true) o (e ∷ es)
    over true true = refl
    over true false = refl
    over false true = refl
    over false false = refl
join e es None false o u h i = i ∙ rw (← h) (over (raises counted.Began e.reply) (is_ending e.reply))
  where
    over : (c d : Bool) → later (cond c (Some (e.step.worker, es)) None) d o (e ∷ es) ≡ later (cond c (cond false None (Some (e.step.worker, es))) None) (cond d true false) o (e ∷ es)
    over true true = refl
    over true false = refl
    over false true = refl
    over false false = refl

pub holder-law : (x : Shell) (es : List MadeStep) → IsLegal act x es → holding_of (data_after act x es).holder ≡ later (open_began es) (some_end es) (holding_of x.holder) es
holder-law x [] l = begin x.holder
  where
    begin : (o : Option Holder) → holding_of o ≡ later None false (holding_of o) []
    begin None = refl
    begin (Some h) = ap (λ (p : Phase). Some (h.worker, p)) (phase h.phase)
      where
        phase : (p : Phase) → p ≡ at_least p false
        phase Reads = refl
        phase Writes = refl
        phase Evictions = refl
holder-law x (e ∷ es) l =
    let s : Steps x e (next_data (act x e.step) x) = stepped x e (next_data (act x e.step) x) l.0 in
    let i = holder-law (next_data (act x e.step) x) es l.1 in
    let g : holding_of (next_data (act x e.step) x).holder ≡ holding_of s.left.holder = ap (λ (y : Shell). holding_of y.holder) s.is in
    let h = holder-step x e.step.worker e.step.act e.reply s.left s.made es in
    i ∙ ap (λ u. later (open_began es) (some_end es) u es) g ∙ join e es (open_began es) (some_end es) (holding_of x.holder) (holding_of s.left.holder) refl h

pub from-none : (q : Option (ℕ × List MadeStep)) (t : Bool) (es : List MadeStep) → later q t None es ≡ holding_from q
from-none (Some p) t es = refl
from-none None true es = refl
from-none None false es = refl

-- the empty state

no-stripes : (n k : ℕ) → stripe_at k (replicate n []) ≡ []
no-stripes zero k = refl
no-stripes (suc n) zero = refl
no-stripes (suc n) (suc k) = no-stripes n k

sixteenths : (s : Shape) → IsShape s → s.width ≡ 16 * (s.width / 16)
sixteenths s h =
    let p = h.width.0 in
    let low : 16 ≤ s.width = omega (arith, h.width.1) in
    rw p.1 (part_16 p.0 (rw p.1 at low))

pub opened-sound : (c : Config) (s : Shape) → IsShapeOf c s → IsConsistent (empty_shell c s)
opened-sound c sh k = record {
  placed = record { stands = λ i. omega arith; known = λ i. omega arith; once = λ i. omega arith; below = λ i h. absurd (omega arith); ascending = tt; ordered = tt };
  stripes = λ s. rw (no-stripes c.stripes s) (omega arith);
  writes = omega arith;
  left = tt;
  main = omega arith;
  frequency = frequency_is sh [] (omega (arith, k.is.width.1)) (sixteenths sh k.is) (omega (arith, k.is.size.1));
}

pub replies-law : (c : Config) (sh : Shape) (es : List MadeStep) → IsLegal act (empty_shell c sh) es → AreReplies (data_after act (empty_shell c sh) es).stats es
replies-law c sh es l k =
    let counted = stats-law k (empty_shell c sh) es l in
    omega (arith, counted, none-counted c sh k)

pub history-laws : HistoryLaws
history-laws c sh es k l =
    let v : IsConsistent (data_after act (empty_shell c sh) es) = after-sound (empty_shell c sh) es (opened-sound c sh k) l in
    record {
      stripes = λ j. stripes-law j (empty_shell c sh) es l ∙ rw (no-stripes c.stripes j) refl;
      writes = writes-law (empty_shell c sh) es l;
      stats = replies-law c sh es l;
      table = λ i. (let t = table-law i (empty_shell c sh) es (opened-sound c sh k) l in (
        (λ h. (let p = t.0 h in let q : 1 ≤ 0 + occurrences i (collect added es) = p.0 in (omega arith, p.1, p.2))),
        (λ p. (let q : 1 ≤ occurrences i (collect added es) = p.0 in t.1 (omega arith, p.1, p.2))),
      ));
      stands = λ i h. (let a = v.placed.stands i in let b = v.placed.known i in let d = v.placed.once i in (omega (arith, a, b, d, h), omega (arith, d, h)));
      others = λ i h m. (let b = v.placed.known i in let d = v.placed.once i in omega (arith, b, d, h, m));
      behind = λ i before rest e. ordered-behind i before rest (rw e at v.placed.ordered);
      main = v.main;
      frequency = frequency-law sh k.is [] (empty_shell c sh) es refl l;
      below = λ i h. v.placed.below i (omega (arith, h));
      holder = holder-law (empty_shell c sh) es l ∙ from-none (open_began es) (some_end es) es;
    }
