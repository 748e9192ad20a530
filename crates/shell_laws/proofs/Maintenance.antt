-- A maintenance takes no more items out of the window than it applied tasks.
use Rattle.std.proofs.Common.{◌≡◌, ℕ, ◌+◌, ◌-◌, ◌≤◌, Bool, true, false, cond, Some, None, List, [], ◌∷◌, length, ap, ◌∙◌, refl, arith, inl, inr}
use Rattle.std.proofs.lemmas.Bool.{cases_lt}
use Rattle.engine_base.specs.History.{next_data, data_after, IsLegal}
use Rattle.engine_base.specs.declared.step.Act.TheVariants as a
use Rattle.engine_base.specs.declared.step.Reply.TheVariants as reply
use Rattle.shell_model.specs.Shell.{Reply, Act, Shell, window_size, act}
use Rattle.shell_model.specs.ShellSteps as k
use Rattle.shell_model.specs.ShellSteps.{Makes, Steps}
use Rattle.shell_model.proofs.Making.{stepped}
use Rattle.shell_model.specs.Consistency.{IsConsistent}
use Rattle.shell_model.specs.Laws.{Config, MadeStep, tally, is_ending, some_end}
use Rattle.shell_model.specs.ReachableShell.{IsReachable, worker_of}
use Rattle.shell_model.proofs.Engines.{hold_laws}
use Rattle.shell_model.proofs.Reached.{reached-sound, reached-on}
use Rattle.shell_laws.specs.Capacity.{tasks_applied}
use Rattle.shell_laws.specs.Evictions.{IsEvictStep}
use Rattle.shell_laws.specs.Maintenance.{window_exits, MaintenanceLaw}
use Rattle.shell_laws.proofs.Windows.{IsWithin, made-within}
use Rattle.shell_laws.proofs.Capacity.{near-capacity}
use Rattle.shell_laws.proofs.Evictions.{eviction-law}

-- a step that does not end the maintenance keeps what others keep

made-keeps : (c : Config) (more bound least : ℕ) (x : Shell) (w u : ℕ) (b : Act) (r : Reply) (y : Shell) → Makes w x b r y → worker_of x.holder ≡ Some u → is_ending r ≡ false → IsConsistent x
    → IsWithin c more bound least x → IsWithin c more bound least y
made-keeps c more bound least x w u b r y (k.began e) h f s v = absurd (let no : None ≡ Some u = rw e at h in cc no)
made-keeps c more bound least x w u b r y (k.idle i d g o e) h f s v = absurd (cc f)
made-keeps c more bound least x w u b r y (k.again i d g o e) h f s v = absurd (cc f)
made-keeps c more bound least x w u b r y made h f s v = made-within c more bound least x w b r y made refl s v

-- over the window's size
abbrev excess : Shell → ℕ
excess x = length x.queues.window - window_size x.config

-- what an Evict takes out, it takes off the excess

exits-one : (r : Reply) → window_exits a.Evict r ≤ 1
exits-one (reply.Shifted i) = omega arith
exits-one (reply.Evicted i) = omega arith
exits-one (reply.Rejected i) = omega arith
exits-one _ = omega arith

evict-spends : (x y : Shell) (r : Reply) → y.config ≡ x.config → IsEvictStep x r y → window_exits a.Evict r + excess y ≤ excess x
evict-spends x y r c s =
    let size : window_size y.config ≡ window_size x.config = ap window_size c in
    elim (cases_lt (window_size x.config) (length x.queues.window)) [
      | inl above ↦ (let less = (s.over above).1 in omega (arith, above, less, size, exits-one r))
      | inr within ↦ (
          let t = s.fits within in
          let none : window_exits a.Evict r ≡ 0 = ap (window_exits a.Evict) t.0 in
          let same : length y.queues.window ≡ length x.queues.window = ap (λ q. length q.window) t.1 in
          omega (arith, none, same, size))
    ]

spends : (x y : Shell) (w : ℕ) (b : Act) (r : Reply) → IsReachable x → act x record { worker = w; act = b } ≡ Some (r, y) → y.config ≡ x.config
    → tasks_applied x.holder + length y.queues.window ≤ length x.queues.window + tasks_applied y.holder → tasks_applied x.holder ≤ tasks_applied y.holder
    → window_exits b r + excess y + tasks_applied x.holder ≤ excess x + tasks_applied y.holder
spends x y w a.Evict r h e c most grows = let less = evict-spends x y r c (eviction-law x y w r h e) in omega (arith, less, grows)
spends x y w b r h e c most grows = let size : window_size y.config ≡ window_size x.config = ap window_size c in omega (arith, most, grows, size)

ending-parts : (b t : Bool) → cond b true t ≡ false → (b ≡ false) × (t ≡ false)
ending-parts true t h = absurd (cc h)
ending-parts false t h = (refl, h)

-- from any state of a maintenance, in which n items were taken out

spent-after : (n u : ℕ) (x : Shell) (es : List MadeStep) → IsReachable x → worker_of x.holder ≡ Some u → n + excess x ≤ tasks_applied x.holder → IsLegal act x es → some_end es ≡ false
    → n + tally window_exits es ≤ tasks_applied (data_after act x es).holder
spent-after n u x [] h held few l unended = omega (arith, few)
spent-after n u x (e ∷ es) h held few l unended =
    let y : Shell = next_data (act x e.step) x in
    let parts = ending-parts (is_ending e.reply) (some_end es) unended in
    let t : Steps x e y = stepped x e y l.0 in
    let kept : IsWithin x.config (tasks_applied x.holder) (length x.queues.window) (tasks_applied x.holder) t.left =
    made-keeps x.config (tasks_applied x.holder) (length x.queues.window) (tasks_applied x.holder) x e.step.worker u e.step.act e.reply t.left t.made held parts.0 (reached-sound x h) (refl, omega arith, omega arith) in
    let v : IsWithin x.config (tasks_applied x.holder) (length x.queues.window) (tasks_applied x.holder) (next_data (act x e.step) x) = rw t.is kept in
    let gone = spends x (next_data (act x e.step) x) e.step.worker e.step.act e.reply h l.0 v.0 v.1 v.2 in
    let still : worker_of (next_data (act x e.step) x).holder ≡ Some u = hold_laws.holds x (next_data (act x e.step) x) e.step e.reply u held l.0 (λ f. parts.0) in
    let rest = spent-after (n + window_exits e.step.act e.reply) u (next_data (act x e.step) x) es (reached-on x (next_data (act x e.step) x) e.step e.reply h l.0) still (omega (arith, few, gone)) l.1 parts.1 in
    omega (arith, rest)

pub maintenance-law : MaintenanceLaw
maintenance-law x h es r held left legal unended =
    let none : tasks_applied x.holder ≡ 0 = ap tasks_applied held ∙ (let e = left in omega arith) in
    let window = (near-capacity x r).window in
    let all = spent-after 0 h.worker x es r (ap worker_of held) (omega (arith, window, none)) legal unended in
    omega (arith, all)
