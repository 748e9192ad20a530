-- What the shell keeps as an engine: its replies belong to their acts, it counts its steps, its frequency ages as a
-- sketch does, and a record's words are those of its halving.
use Rattle.std.proofs.Common.{◌≡◌, ℕ, ◌+◌, ◌^◌, true, false, Option, Some, None, ap, subst, sym, ◌∙◌, refl, arith, inl}
use Rattle.engine_base.specs.declared.drain.Phase.TheVariants.{Writes, Evictions}
use Rattle.engine_base.specs.declared.step.Reply.TheVariants as reply
use Rattle.engine_base.specs.Answers.{is_answer, AnswersItsActs}
use Rattle.engine_base.specs.Pace.{Pace, IsPaced, words_of_halvings}
use Rattle.admission.specs.FreqRecord.{size_of}
use Rattle.admission.specs.Frequency.{FrequencyData, pace_of}
use Rattle.admission.proofs.Weighing.{recorded_paced, weight_falls}
use Rattle.shell_model.specs.declared.record.Change.TheVariants.{Nothing, Read, Applied}
use Rattle.shell_model.specs.Frequency.{FreqRecord, frequency_recorded, frequency_unrecorded, FitsFrequency}
use Rattle.shell_model.specs.ShellState.{Holder, Phase, Shell, holder_in_phase}
use Rattle.shell_model.specs.Shell.{Change, Reply, Step, Act, act}
use Rattle.shell_model.specs.Changes.{holder_after_task, before_change, FitsChange, change_size}
use Rattle.shell_model.specs.Records.{ShellRecord, undone_step, FitsStep, record_size}
use Rattle.shell_model.specs.Laws.{MadeStep, is_ending}
use Rattle.shell_model.specs.ReachableShell.{worker_of, HoldLaws}
use Rattle.shell_model.specs.ShellSteps as k
use Rattle.shell_model.specs.ShellSteps.{Holds, Makes, Steps}
use Rattle.shell_model.proofs.Making.{stepped}
use Rattle.shell_model.proofs.Bounding.{applied-step}

abbrev made_of : Step → Reply → MadeStep
made_of s r = record { step = s; reply = r }

-- replies

made-answers : (x : Shell) (w : ℕ) (b : Act) (r : Reply) (y : Shell) → Makes w x b r y → is_answer b r ≡ true
made-answers x w b r y (k.busy h e) = refl
made-answers x w b r y made = refl

pub answers_law : AnswersItsActs act
answers_law x y s r h = let t : Steps x (made_of s r) y = stepped x (made_of s r) y h in made-answers x s.worker s.act r t.left t.made

-- counts

pub act_counts : (x : Shell) (s : Step) (r : Reply) (y : Shell) → act x s ≡ Some (r, y) → y.applied ≡ x.applied + 1
act_counts x s r y h =
    let t : Steps x (made_of s r) y = stepped x (made_of s r) y h in
    let c : y.applied ≡ t.left.applied + 1 = ap (λ (z : Shell). z.applied) t.is in
    c ∙ ap (λ n. n + 1) (applied-step x s.worker s.act r t.left t.made)

pub act_ends : (x : Shell) (s : Step) → x.applied ≡ 2 ^ 32 → act x s ≡ None
act_ends x s h = rw h refl

-- the frequency

same-paced : (p : Pace) → IsPaced p p
same-paced p = record { period = refl; words = refl; moves = inl record { halvings = refl; older = omega arith; by_one = omega arith; below = λ h. h } }

key-paced : (f : FrequencyData) (n : ℕ) → IsPaced (pace_of f) (pace_of (frequency_recorded f n))
unfolding frequency_recorded
key-paced f n = recorded_paced f n

made-paced : (x : Shell) (w : ℕ) (b : Act) (r : Reply) (y : Shell) → Makes w x b r y → IsPaced (pace_of x.frequency) (pace_of y.frequency)
made-paced x w b r y (k.drained s i rest h e) = key-paced x.frequency i.key
made-paced x w b r y (k.applied_add h i rest f e l) = key-paced x.frequency i.key
made-paced x w b r y (k.applied_update h i rest f e l) = key-paced x.frequency i.key
made-paced x w b r y made = same-paced (pace_of x.frequency)

pub act_paced : (x : Shell) (s : Step) (r : Reply) (y : Shell) → act x s ≡ Some (r, y) → IsPaced (pace_of x.frequency) (pace_of y.frequency)
act_paced x s r y h =
    let t : Steps x (made_of s r) y = stepped x (made_of s r) y h in
    let f : t.left.frequency ≡ y.frequency = sym (ap (λ (z : Shell). z.frequency) t.is) in
    subst (λ (g : FrequencyData). IsPaced (pace_of x.frequency) (pace_of g)) f (made-paced x s.worker s.act r t.left t.made)

-- words

key-weighs : (f : FrequencyData) (r : FreqRecord) → FitsFrequency r f → words_of_halvings (pace_of f) ≡ words_of_halvings (pace_of (frequency_unrecorded r f)) + size_of r
unfolding FitsFrequency frequency_unrecorded
key-weighs f r h = weight_falls f r h

change-weighs : (c : Change) (x : Shell) → FitsChange c x → words_of_halvings (pace_of x.frequency) ≡ words_of_halvings (pace_of (before_change c x).frequency) + change_size c
change-weighs (Read s i u) x h = key-weighs x.frequency u.frequency h.0.frequency
change-weighs (Applied p n i u) x h = key-weighs x.frequency u.frequency h.0.frequency
change-weighs Nothing x h = omega arith
change-weighs c x h = omega arith

pub step_weighs : (r : ShellRecord) (x : Shell) → FitsStep r x → words_of_halvings (pace_of x.frequency) ≡ words_of_halvings (pace_of (undone_step r x).frequency) + record_size r
step_weighs r x h = change-weighs r.change x h.change

-- the holder

same-worker : (p : Phase) (o : Option Holder) → worker_of (holder_in_phase p o) ≡ worker_of o
same-worker p None = refl
same-worker p (Some h) = refl

same-after : (o : Option Holder) → worker_of (holder_after_task o) ≡ worker_of o
same-after None = refl
same-after (Some h) = refl

own : (x : Shell) (w : ℕ) (h : Holder) → Holds w h x → (n : ℕ) → worker_of x.holder ≡ Some n → w ≡ n
own x w h f n g = f.by ∙ (let s : Some h.worker ≡ Some n = sym (ap worker_of f.is) ∙ g in cc)

made-holds : (x : Shell) (w : ℕ) (b : Act) (r : Reply) (y : Shell) → Makes w x b r y → (n : ℕ) → worker_of x.holder ≡ Some n → (w ≡ n → is_ending r ≡ false) → worker_of y.holder ≡ Some n
made-holds x w b r y (k.began e) n g i = absurd (let no : None ≡ Some n = rw e at g in cc (no))
made-holds x w b r y (k.write_empty h f e) n g i = same-worker Writes x.holder ∙ g
made-holds x w b r y (k.enough h t rest f e l) n g i = same-worker Writes x.holder ∙ g
made-holds x w b r y (k.applied_add h j rest f e l) n g i = same-after x.holder ∙ g
made-holds x w b r y (k.applied_update h j rest f e l) n g i = same-after x.holder ∙ g
made-holds x w b r y (k.applied_remove h j rest f e l) n g i = same-after x.holder ∙ g
made-holds x w b r y (k.fits h f o) n g i = same-worker Evictions x.holder ∙ g
made-holds x w b r y (k.shifted h c f o j) n g i = same-worker Evictions x.holder ∙ g
made-holds x w b r y (k.evicted h c v f o j m q) n g i = same-worker Evictions x.holder ∙ g
made-holds x w b r y (k.rejected h c v f o j m) n g i = same-worker Evictions x.holder ∙ g
made-holds x w b r y (k.idle h d f o e) n g i = absurd (let no : true ≡ false = i (own x w h f n g) in cc no)
made-holds x w b r y (k.again h d f o e) n g i = absurd (let no : true ≡ false = i (own x w h f n g) in cc no)
made-holds x w b r y made n g i = g

made-begins : (x : Shell) (w : ℕ) (b : Act) (r : Reply) (y : Shell) → Makes w x b r y → r ≡ reply.Began → worker_of y.holder ≡ Some w
made-begins x w b r y (k.began e) h = refl
made-begins x w b r y made h = absurd (cc (h))

pub hold_laws : HoldLaws
hold_laws = record {
  begins = λ x y s h. (let t : Steps x (made_of s reply.Began) y = stepped x (made_of s reply.Began) y h in
      ap (λ (z : Shell). worker_of z.holder) t.is ∙ made-begins x s.worker s.act reply.Began t.left t.made refl);
  holds = λ x y s r n g h i. (let t : Steps x (made_of s r) y = stepped x (made_of s r) y h in
      ap (λ (z : Shell). worker_of z.holder) t.is ∙ made-holds x s.worker s.act r t.left t.made n g i);
}
