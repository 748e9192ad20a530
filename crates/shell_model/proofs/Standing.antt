-- How far a worker is in the maintenance that it holds, by its own steps alone.
use Rattle.std.proofs.Common.{◌≡◌, ℕ, ◌<◌, ◌≤◌, Bool, true, false, cond, eqb, nat_lt, Option, Some, None, [], ◌∷◌, length, refl, sym, ap, ◌∙◌, subst, arith, ◌⊎◌, inl, inr, length-set}
use Rattle.std.proofs.lemmas.Bool.{cases_Bool, eqb-true, eq-eqb}
use Rattle.std.proofs.lemmas.Bool.Decides.{nat_tests}
use Rattle.engine_base.specs.declared.entry.Entry.{Entry}
use Rattle.engine_base.specs.declared.step.Act.TheVariants as a
use Rattle.engine_base.specs.declared.step.Reply.TheVariants as reply
use Rattle.engine_base.specs.declared.drain.Phase.TheVariants.{Reads, Writes, Evictions}
use Rattle.engine_base.specs.History.{next_data, data_after, IsLegal, Entries}
use Rattle.shell_model.specs.declared.holder.Holder.{Holder}
use Rattle.shell_model.specs.declared.record.Change.{Change}
use Rattle.shell_model.specs.ShellState.{Phase, Item, Shell, held_by, is_over, holder_in_phase}
use Rattle.shell_model.specs.Changes.{holder_after_task}
use Rattle.shell_model.specs.Shell.{Step, Reply, Act, act, act_reply, with_shell, may_read, may_write, counted_reply}
use Rattle.shell_model.specs.ShellSteps as k
use Rattle.shell_model.specs.ShellSteps.{Holds, Makes, Steps}
use Rattle.shell_model.specs.Consistency.{IsConsistent}
use Rattle.shell_model.proofs.Counting.{listed-times, node-listed}
use Rattle.shell_model.proofs.Making.{stepped}
use Rattle.shell_model.proofs.Histories.{after-sound}
use Rattle.shell_model.specs.Walks.{step_of}
use Rattle.shell_model.specs.WorkerEntries.{entries_of}

-- the phase of the maintenance that the worker holds, the node that it last found, and whether its last eviction
-- was answered that the window fits
pub record Standing : Type 0 where
  pub at : Option Phase
  pub node : Option ℕ
  pub fits : Bool

abbrev held_at : Standing → Option Phase → Bool → Standing
held_at s p f = record { at = p; node = s.node; fits = f }

-- where the window fits, an End ends the maintenance, whatever it answers: NotYet does not come there
abbrev pub next_of : Standing → Act → Reply → Standing
next_of s a.Begin reply.Began = held_at s (Some Reads) false
next_of s (a.DrainRead st) r = held_at s s.at false
next_of s a.DrainWrite r = held_at s (Some Writes) false
next_of s a.Evict reply.Fits = held_at s (Some Evictions) true
next_of s a.Evict r = held_at s (Some Evictions) false
next_of s a.End reply.Idle = held_at s None false
next_of s a.End reply.Again = held_at s None false
next_of s a.End reply.NotYet = held_at s (cond s.fits None s.at) false
next_of s (a.Look key) (reply.Hit n) = record { at = s.at; node = Some n; fits = s.fits }
next_of s b r = s

abbrev pub standing : Standing → Entries → Standing
standing s [] = s
standing s (e ∷ es) = standing (next_of s e.step.act e.reply) es

abbrev pub phase_of : Option Holder → Option Phase
phase_of None = None
phase_of (Some h) = Some h.phase

-- where the worker was answered that the window fits, it holds the maintenance, and the window fits
abbrev Fitting : Standing → Shell → Type 0
Fitting s x = s.fits ≡ true → (p : Phase) × (s.at ≡ Some p) × (is_over x ≡ false)

-- the shell is so that the worker stands there
pub record Stands (w n : ℕ) (s : Standing) (x : Shell) : Type 0 where
  pub holds : phase_of (held_by w x.holder) ≡ s.at
  pub node : (m : ℕ) → s.node ≡ Some m → m < x.next
  pub stripes : length x.stripes ≡ n
  pub window : Fitting s x

-- the act is one of the holder's
abbrev is_holding : Act → Bool
is_holding (a.DrainRead s) = true
is_holding a.DrainWrite = true
is_holding a.Evict = true
is_holding a.End = true
is_holding b = false

some_same : {X : Type 0} (x y : X) → Some x ≡ Some y → x ≡ y
some_same x y e = cc

pub not_of : (w u : ℕ) → (u ≡ w → ⊥) → eqb w u ≡ false
not_of w u ne =
    elim (cases_Bool (eqb w u)) [
      | inl t ↦ absurd (ne (sym (eqb-true w u t)))
      | inr t ↦ t
    ]

pub mine : (w : ℕ) (x : Shell) (h : Holder) → x.holder ≡ Some h → h.worker ≡ w → held_by w x.holder ≡ Some h
mine w x h e f = let q : eqb w h.worker ≡ true = eq-eqb w h.worker (sym f) in rw (e, q) refl

-- another worker's step

-- where another worker holds the maintenance, w does not, and no change of that holder's phase makes it so
record IsElsewhere (w : ℕ) (x : Shell) : Type 0 where
  now : phase_of (held_by w x.holder) ≡ None
  passed : (p : Phase) → phase_of (held_by w (holder_in_phase p x.holder)) ≡ phase_of (held_by w x.holder)
  taken : phase_of (held_by w (holder_after_task x.holder)) ≡ phase_of (held_by w x.holder)

elsewhere : (w v : ℕ) (x : Shell) (h : Holder) → (v ≡ w → ⊥) → Holds v h x → IsElsewhere w x
elsewhere w v x h ne f =
    let t : eqb w h.worker ≡ false = not_of w h.worker (λ i. ne (f.by ∙ i)) in
    record { now = rw (f.is, t) refl; passed = λ p. rw (f.is, t) refl; taken = rw (f.is, t) refl }

other_holds : (w v : ℕ) (x : Shell) (b : Act) (r : Reply) (y : Shell) → Makes v x b r y → (v ≡ w → ⊥) → phase_of (held_by w y.holder) ≡ phase_of (held_by w x.holder)
other_holds w v x b r y (k.began e) ne = (let t : eqb w v ≡ false = not_of w v ne in rw (e, t) refl)
other_holds w v x b r y (k.write_empty h f e) ne = (elsewhere w v x h ne f.holds).passed Writes
other_holds w v x b r y (k.enough h t rest f e l) ne = (elsewhere w v x h ne f.holds).passed Writes
other_holds w v x b r y (k.applied_add h i rest f e l) ne = (elsewhere w v x h ne f.holds).taken
other_holds w v x b r y (k.applied_update h i rest f e l) ne = (elsewhere w v x h ne f.holds).taken
other_holds w v x b r y (k.applied_remove h i rest f e l) ne = (elsewhere w v x h ne f.holds).taken
other_holds w v x b r y (k.fits h f o) ne = (elsewhere w v x h ne f).passed Evictions
other_holds w v x b r y (k.shifted h c f o i) ne = (elsewhere w v x h ne f).passed Evictions
other_holds w v x b r y (k.evicted h c u f o i n g) ne = (elsewhere w v x h ne f).passed Evictions
other_holds w v x b r y (k.rejected h c u f o i n) ne = (elsewhere w v x h ne f).passed Evictions
other_holds w v x b r y (k.idle h d f o e) ne = sym (elsewhere w v x h ne f).now
other_holds w v x b r y (k.again h d f o e) ne = sym (elsewhere w v x h ne f).now
other_holds w v x b r y made ne = refl

-- its own step

own_phase : (w : ℕ) (p : Phase) (x : Shell) (h : Holder) → Holds w h x → phase_of (held_by w (holder_in_phase p x.holder)) ≡ Some p
own_phase w p x h f = (let t : eqb w h.worker ≡ true = eq-eqb w h.worker f.by in rw (f.is, t) refl)

own_taken : (w : ℕ) (x : Shell) (h : Holder) → Holds w h x → phase_of (held_by w (holder_after_task x.holder)) ≡ Some Writes
own_taken w x h f = (let t : eqb w h.worker ≡ true = eq-eqb w h.worker f.by in rw (f.is, t) refl)

-- an End that is too early leaves the holder where it is, and the window does not fit
too_early : (w : ℕ) (s : Standing) (x : Shell) → (is_over x ≡ true) → Fitting s x → phase_of (held_by w x.holder) ≡ s.at → (f : Bool) → s.fits ≡ f → phase_of (held_by w x.holder) ≡ cond f None s.at
too_early w s x over fit h false e = h
too_early w s x over fit h true e = absurd (let no : true ≡ false = sym over ∙ (fit e).2 in cc (no))

own_holds : (w : ℕ) (s : Standing) (x : Shell) (b : Act) (r : Reply) (y : Shell) → Makes w x b r y → Fitting s x → phase_of (held_by w x.holder) ≡ s.at → phase_of (held_by w y.holder) ≡ (next_of s b r).at
own_holds w s x b r y (k.began e) fit h = (let t : eqb w w ≡ true = eq-eqb w w refl in rw t refl)
own_holds w s x b r y (k.write_empty g f e) fit h = own_phase w Writes x g f.holds
own_holds w s x b r y (k.enough g t rest f e l) fit h = own_phase w Writes x g f.holds
own_holds w s x b r y (k.applied_add g i rest f e l) fit h = own_taken w x g f.holds
own_holds w s x b r y (k.applied_update g i rest f e l) fit h = own_taken w x g f.holds
own_holds w s x b r y (k.applied_remove g i rest f e l) fit h = own_taken w x g f.holds
own_holds w s x b r y (k.fits g f o) fit h = own_phase w Evictions x g f
own_holds w s x b r y (k.shifted g c f o i) fit h = own_phase w Evictions x g f
own_holds w s x b r y (k.evicted g c u f o i n m) fit h = own_phase w Evictions x g f
own_holds w s x b r y (k.rejected g c u f o i n) fit h = own_phase w Evictions x g f
own_holds w s x b r y (k.idle g d f o e) fit h = refl
own_holds w s x b r y (k.again g d f o e) fit h = refl
own_holds w s x b r y (k.not_yet g f over) fit h = too_early w s x over fit h s.fits refl
own_holds w s x b r y made fit h = h

-- nodes and stripes, whoever steps

next_grows : (v : ℕ) (x : Shell) (b : Act) (r : Reply) (y : Shell) → Makes v x b r y → x.next ≤ y.next
next_grows v x b r y (k.added key e h) = omega arith
next_grows v x b r y made = omega arith

stripes_stay : (v : ℕ) (x : Shell) (b : Act) (r : Reply) (y : Shell) → Makes v x b r y → length y.stripes ≡ length x.stripes
stripes_stay v x b r y (k.kept s i h few) = length-set x.stripes s _
stripes_stay v x b r y (k.drained s i rest h e) = length-set x.stripes s _
stripes_stay v x b r y made = refl

-- the window, whoever steps

-- only the holder's acts move the window
window_stays : (v : ℕ) (x : Shell) (b : Act) (r : Reply) (y : Shell) → Makes v x b r y → is_holding b ≡ false → is_over y ≡ is_over x
window_stays v x b r y (k.read_empty st f e) h = absurd (cc h)
window_stays v x b r y _ h = grind (arith)

-- a worker that makes a holder's act is the holder
not_mine : (w v : ℕ) (x : Shell) (b : Act) (r : Reply) (y : Shell) → Makes v x b r y → is_holding b ≡ true → (v ≡ w → ⊥) → (p : Phase) → phase_of (held_by w x.holder) ≡ Some p → ⊥
not_mine w v x b r y m h ne p e = none (held v x b r y m h)
  where
    held : (v : ℕ) (x : Shell) (b : Act) (r : Reply) (y : Shell) → Makes v x b r y → is_holding b ≡ true → (by : Holder) × Holds v by x
    held v x b r y (k.read_empty s f e) h = (f.holder, f.holds)
    held v x b r y (k.drained s i rest f e) h = (f.holder, f.holds)
    held v x b r y (k.write_empty g f e) h = (g, f.holds)
    held v x b r y (k.enough g t rest f e l) h = (g, f.holds)
    held v x b r y (k.applied_add g i rest f e l) h = (g, f.holds)
    held v x b r y (k.applied_update g i rest f e l) h = (g, f.holds)
    held v x b r y (k.applied_remove g i rest f e l) h = (g, f.holds)
    held v x b r y (k.fits g f o) h = (g, f)
    held v x b r y (k.shifted g c f o i) h = (g, f)
    held v x b r y (k.evicted g c u f o i n q) h = (g, f)
    held v x b r y (k.rejected g c u f o i n) h = (g, f)
    held v x b r y (k.not_yet g f o) h = (g, f)
    held v x b r y (k.idle g d f o q) h = (g, f)
    held v x b r y (k.again g d f o q) h = (g, f)
    held v x b r y made h = absurd (cc h)

    none : (by : Holder) × Holds v by x → ⊥
    none g = let no : None ≡ Some p = sym (elsewhere w v x g.0 ne g.1).now ∙ e in cc no

other_window : (w v : ℕ) (s : Standing) (x : Shell) (b : Act) (r : Reply) (y : Shell) → Makes v x b r y → (v ≡ w → ⊥) → phase_of (held_by w x.holder) ≡ s.at → Fitting s x → Fitting s y
other_window w v s x b r y m ne holds fit e =
    let was : (p : Phase) × (s.at ≡ Some p) × (is_over x ≡ false) = fit e in
    elim (cases_Bool (is_holding b)) [
      | inl t ↦ absurd (not_mine w v x b r y m t ne was.0 (holds ∙ was.1))
      | inr f ↦ (was.0, was.1, window_stays v x b r y m f ∙ was.2)
    ]

-- after an own step the worker knows that the window fits where that step was answered so, or where the step is none of the
-- holder's and it knew before
abbrev Keeps : Standing → Act → Reply → Type 0
Keeps s b r = (next_of s b r).fits ≡ true → ((b ≡ a.Evict) × (r ≡ reply.Fits)) ⊎ ((is_holding b ≡ false) × (s.fits ≡ true) × ((next_of s b r).at ≡ s.at))

keeps : (w : ℕ) (s : Standing) (x : Shell) (b : Act) (r : Reply) (y : Shell) → Makes w x b r y → Keeps s b r
keeps w s x b r y (k.fits g f o) h = inl (refl, refl)
keeps w s x b r y _ h = grind (arith)

-- an Evict that is answered Fits leaves a window that fits
fits_left : (w : ℕ) (x : Shell) (b : Act) (r : Reply) (y : Shell) → Makes w x b r y → r ≡ reply.Fits → is_over y ≡ false
fits_left w x b r y (k.fits g f o) e = o
fits_left w x b r y made e = absurd (cc e)

own_window : (w : ℕ) (s : Standing) (x : Shell) (b : Act) (r : Reply) (y : Shell) → Makes w x b r y → Fitting s x → Fitting (next_of s b r) y
own_window w s x b r y m fit e =
    elim (keeps w s x b r y m e) [
      | inl g ↦ (Evictions, ap (λ (c : Act). (next_of s c r).at) g.0 ∙ ap (λ (t : Reply). (next_of s a.Evict t).at) g.1, fits_left w x b r y m g.1)
      | inr g ↦ (let was : (p : Phase) × (s.at ≡ Some p) × (is_over x ≡ false) = fit g.1 in (was.0, g.2 ∙ was.1, window_stays w x b r y m g.0 ∙ was.2))
    ]

own_node : (w : ℕ) (s : Standing) (x : Shell) (b : Act) (r : Reply) (y : Shell) → Makes w x b r y → IsConsistent x → ((m : ℕ) → s.node ≡ Some m → m < x.next)
    → (m : ℕ) → (next_of s b r).node ≡ Some m → m < y.next
own_node w s x b r y (k.hit key m e) c h j q =
    let i : Item = record { key = key; node = m } in
    let there = listed-times i x.table (node-listed i x.table e) in
    subst (λ i. i < x.next) (some_same m j q) (c.placed.below i (omega (arith, there)))
own_node w s x b r y made c h j e = (let old = h j e in let g = next_grows w x b r y made in omega arith)

pub own_step : (n : ℕ) (s : Standing) (x : Shell) (e : Entry Step Reply) (z : Shell) → IsConsistent x → act x e.step ≡ Some (e.reply, z) → Stands e.step.worker n s x → Stands e.step.worker n (next_of s e.step.act e.reply) z
own_step n s x e z c h st =
    let t : Steps x e z = stepped x e z h in
    let holds = own_holds e.step.worker s x e.step.act e.reply t.left t.made st.window st.holds in
    let window = own_window e.step.worker s x e.step.act e.reply t.left t.made st.window in
    let node = own_node e.step.worker s x e.step.act e.reply t.left t.made c st.node in
    record {
      holds = ap (λ (y : Shell). phase_of (held_by e.step.worker y.holder)) t.is ∙ holds;
      node = λ m f. subst (λ (y : Shell). m < y.next) (sym t.is) (node m f);
      stripes = ap (λ (y : Shell). length y.stripes) t.is ∙ stripes_stay e.step.worker x e.step.act e.reply t.left t.made ∙ st.stripes;
      window = λ f. (let m = window f in (m.0, m.1, ap is_over t.is ∙ m.2));
    }

pub other_step : (w n : ℕ) (s : Standing) (x : Shell) (e : Entry Step Reply) (z : Shell) → (e.step.worker ≡ w → ⊥) → act x e.step ≡ Some (e.reply, z) → Stands w n s x → Stands w n s z
other_step w n s x e z ne h st =
    let t : Steps x e z = stepped x e z h in
    let holds = other_holds w e.step.worker x e.step.act e.reply t.left t.made ne in
    let grows = next_grows e.step.worker x e.step.act e.reply t.left t.made in
    let window = other_window w e.step.worker s x e.step.act e.reply t.left t.made ne st.holds st.window in
    record {
      holds = ap (λ (y : Shell). phase_of (held_by w y.holder)) t.is ∙ holds ∙ st.holds;
      node = λ m f. subst (λ (y : Shell). m < y.next) (sym t.is) (let old = st.node m f in omega arith);
      stripes = ap (λ (y : Shell). length y.stripes) t.is ∙ stripes_stay e.step.worker x e.step.act e.reply t.left t.made ∙ st.stripes;
      window = λ f. (let m = window f in (m.0, m.1, ap is_over t.is ∙ m.2));
    }

-- whatever the others do, a worker stands where its own steps led it
pub stands_after : (w n : ℕ) (s : Standing) (x : Shell) (es : Entries) → IsConsistent x → Stands w n s x → IsLegal act x es → Stands w n (standing s (entries_of w es)) (data_after act x es)
stands_after w n s x [] c st l = st
stands_after w n s x (e ∷ es) c st l =
    let z : Shell = next_data (act x e.step) x in
    let sound : IsConsistent z = after-sound x (e ∷ []) c (l.0, tt) in
    elim (cases_Bool (eqb e.step.worker w)) [
      | inl t ↦
          let q : e.step.worker ≡ w = eqb-true e.step.worker w t in
          let moved : Stands w n (next_of s e.step.act e.reply) z = subst (λ v. Stands v n (next_of s e.step.act e.reply) z) q (own_step n s x e z c l.0 (subst (λ v. Stands v n s x) (sym q) st)) in
          rw t (stands_after w n (next_of s e.step.act e.reply) z es sound moved l.1)
      | inr t ↦
          let ne : e.step.worker ≡ w → ⊥ = λ q. (let no : true ≡ false = rw (eq-eqb e.step.worker w q) at t in cc (no)) in
          rw t (stands_after w n s z es sound (other_step w n s x e z ne l.0 st) l.1)
    ]

-- which act comes next of a worker that stands there
abbrev pub ActFits : ℕ → Act → Standing → Type 0
ActFits n (a.DrainRead st) s = (s.at ≡ Some Reads) × (st < n)
ActFits n a.DrainWrite s = (p : Phase) × (s.at ≡ Some p) × (may_write p ≡ true)
ActFits n a.Evict s = (p : Phase) × (s.at ≡ Some p)
ActFits n a.End s = (p : Phase) × (s.at ≡ Some p) × (s.fits ≡ true)
ActFits n (a.Offer st i) s = (st < n) × (s.node ≡ Some i.node) × (s.at ≡ None)
ActFits n (a.Lose st i) s = ⊥
ActFits n b s = s.at ≡ None

held_of : (o : Option Holder) (p : Phase) → phase_of o ≡ Some p → (h : Holder) × (o ≡ Some h) × (h.phase ≡ p)
held_of None p e = absurd (cc (e))
held_of (Some h) p e = (h, refl, some_same h.phase p e)

pub accepts : (w n : ℕ) (s : Standing) (x : Shell) (b : Act) → Stands w n s x → ActFits n b s → act_reply w b x ≡ None → ⊥
accepts w n s x (a.Offer st i) h f e =
    let count = h.stripes in
    let below = f.0 in
    let listed = h.node i.node f.1 in
    let p : nat_lt st (length x.stripes) ≡ true = grind (arith, nat_tests, count, below) in
    let q : nat_lt i.node x.next ≡ true = grind (arith, nat_tests, listed) in
    absurd (let no : Some _ ≡ None = rw (p, q) at e in cc (no))
accepts w n s x (a.Lose st i) h f e = f
accepts w n s x (a.DrainRead st) h f e =
    let g = held_of (held_by w x.holder) Reads (h.holds ∙ f.0) in
    let count = h.stripes in
    let below = f.1 in
    let p : nat_lt st (length x.stripes) ≡ true = grind (arith, nat_tests, count, below) in
    let m : may_read g.0.phase ≡ true = ap may_read g.2 in
    absurd (let no : Some _ ≡ None = rw (g.1, p, m) at e in cc (no))
accepts w n s x a.DrainWrite h f e =
    let g = held_of (held_by w x.holder) f.0 (h.holds ∙ f.1) in
    let m : may_write g.0.phase ≡ true = ap may_write g.2 ∙ f.2 in
    absurd (let no : Some _ ≡ None = rw (g.1, m) at e in cc (no))
accepts w n s x a.Evict h f e =
    let g = held_of (held_by w x.holder) f.0 (h.holds ∙ f.1) in
    absurd (let no : Some _ ≡ None = rw g.1 at e in cc (no))
accepts w n s x a.End h f e =
    let g = held_of (held_by w x.holder) f.0 (h.holds ∙ f.1) in
    absurd (let no : Some _ ≡ None = rw g.1 at e in cc (no))
accepts w n s x b h f e = absurd (cc (e))

refused : (x : Shell) (o : Option (Reply × Change)) → counted_reply (with_shell x o) ≡ None → o ≡ None
refused x None e = refl
refused x (Some p) e = absurd (cc (e))

pub taken : (w n : ℕ) (s : Standing) (x : Shell) (b : Act) → Stands w n s x → ActFits n b s → x.applied < 4294967296 → act x (step_of w b) ≡ None → ⊥
taken w n s x b h f below e =
    let t : nat_lt x.applied 4294967296 ≡ true = grind (arith, nat_tests, below) in
    accepts w n s x b h f (refused x (act_reply w b x) (rw t at e))
