-- What the entries of a walk come to, read one after another: the definition of the cache fixes each reply.
use Rattle.std.proofs.Common.{◌≡◌, ℕ, nat_lt, Option, Some, None, List, [], ◌∷◌, ap, subst, ◌∙◌, sym, refl, inl, inr}
use Rattle.std.proofs.lemmas.Bool.{cases_Bool}
use Rattle.engine_base.specs.declared.drain.Drain.TheVariants as drain
use Rattle.engine_base.specs.History.{next_data, data_after, IsLegal, Entries}
use Rattle.admission.specs.Frequency.{FrequencyData}
use Rattle.segments.specs.Queues.{Queues}
use Rattle.shell_model.specs.declared.holder.Holder.{Holder}
use Rattle.shell_model.specs.declared.stats.ShellStats.{ShellStats}
use Rattle.shell_model.specs.declared.task.Task.{Task}
use Rattle.shell_model.specs.Shell.{Phase, Drain, Reply, Act, Outcome, Item, Shell, act_effect, counted_up, act}
use Rattle.shell_model.specs.Laws.{Config, MadeStep}
use Rattle.shell_model.specs.Walks.{Opens, step_of}
use Rattle.quiet_run.specs.Outcomes.{outcome_with_reply, outcome_from}
use Rattle.quiet_run.specs.QuietWalks.{reply_with_round, with_rounds}

-- entries of the walk that are legal from x come to the outcome, where o was found so far, and Q holds of what they leave
abbrev pub Leads : (Entries → Type 0) → Shell → Outcome → Outcome → (Shell → Type 0) → Type 0
Leads Walk x o goal Q = (es : Entries) → Walk es → IsLegal act x es → (outcome_from o es ≡ goal) × Q (data_after act x es)

reply_in : Reply → Option (Reply × Shell) → Reply
reply_in r None = r
reply_in r (Some p) = p.0

-- an accepted step has the reply and leaves the state that the definition gives
record IsStep (e : MadeStep) (z : Shell) (r : Reply) (y : Shell) : Type 0 where
  reply : e.reply ≡ r
  leaves : z ≡ y

accepted : (x : Shell) (e : MadeStep) (b : Act) (r : Reply) (y : Shell) → e.step ≡ step_of 0 b → act x e.step ≡ Some (e.reply, next_data (act x e.step) x)
    → act_effect 0 b x ≡ Some (r, y) → IsStep e (next_data (act x e.step) x) r (counted_up r y)
unfolding reply_in
accepted x e b r y s l h =
    elim (cases_Bool (nat_lt x.applied 4294967296)) [
      | inl t ↦
          let f : act x e.step ≡ Some (r, counted_up r y) = ap (act x) s ∙ (rw (t, h) refl) in
          record { reply = ap (reply_in r) (sym l ∙ f); leaves = ap (λ (o : Option (Reply × Shell)). next_data o x) f }
      | inr t ↦
          let f : act x e.step ≡ None = ap (act x) s ∙ (rw t refl) in
          absurd (let no : None ≡ Some (e.reply, next_data (act x e.step) x) = sym f ∙ l in cc (no))
    ]

pub opens : (n : ℕ) (b : Act) (Follows : Reply → Entries → Type 0) (x : Shell) (o goal : Outcome) (Q : Shell → Type 0) (r : Reply) (y : Shell)
    → act_effect 0 b x ≡ Some (r, y) → Leads (Follows r) (counted_up r y) (outcome_with_reply o r) goal Q → Leads (λ es. Opens 0 n b Follows es) x o goal Q
opens n b Follows x o goal Q r y h k [] w l = absurd w
opens n b Follows x o goal Q r y h k (e ∷ es) w l =
    let p = accepted x e b r y w.0 l.0 h in
    let m = k es (subst (λ z. Follows z es) p.reply w.1) (subst (λ z. IsLegal act z es) p.leaves l.1) in
    (ap (λ z. outcome_from (outcome_with_reply o z) es) p.reply ∙ m.0, subst (λ z. Q (data_after act z es)) (sym p.leaves) m.1)

-- the same of a walk with a round behind each report
pub opens-with : (n : ℕ) (b : Act) (Follows : Reply → Entries → Type 0) (x : Shell) (o goal : Outcome) (Q : Shell → Type 0) (r : Reply) (y : Shell)
    → act_effect 0 b x ≡ Some (r, y) → Leads (λ es. Follows (reply_with_round r) (with_rounds es)) (counted_up r y) (outcome_with_reply o r) goal Q → Leads (λ es. Opens 0 n b Follows (with_rounds es)) x o goal Q
opens-with n b Follows x o goal Q r y h k [] w l = absurd w
opens-with n b Follows x o goal Q r y h k (e ∷ es) w l = opens n b (λ t fs. Follows (reply_with_round t) (with_rounds fs)) x o goal Q r y h k (e ∷ es) w l

-- nothing follows
pub over : (x : Shell) (o : Outcome) (Q : Shell → Type 0) → Q x → Leads (λ es. es ≡ []) x o o Q
over x o Q q [] w l = (refl, q)
over x o Q q (e ∷ es) w l = absurd (cc (w))

-- a state by its parts
abbrev pub state : Config → List Item → ℕ → Queues → List (List Item) → List Task → FrequencyData → Drain → Option Holder → ShellStats → ℕ → Shell
state c t n q l ws f d h s m = record { config = c; table = t; next = n; queues = q; stripes = l; writes = ws; frequency = f; drain = d; holder = h; stats = s; applied = m }

-- held by worker 0
abbrev pub held : Phase → ℕ → Option Holder
held p left = Some record { worker = 0; phase = p; left = left }

-- whatever the counts, Q holds of what is left
abbrev pub Leaves : (Shell → Type 0) → Config → List Item → ℕ → Queues → List (List Item) → FrequencyData → Type 0
Leaves Q c t n q l f = (s : ShellStats) (m : ℕ) → Q (state c t n q l [] f drain.Idle None s m)
