-- Keys one after another.
use Rattle.std.proofs.Common.{◌≡◌, ℕ, ◌≤◌, Some, Ok, List, [], ◌∷◌, ◌++◌, ap, subst, ◌∙◌, sym, refl, arith}
use Rattle.engine_base.specs.Config.{config_fault}
use Rattle.engine_base.specs.History.{next_data, data_after, IsLegal, Entries}
use Rattle.engine_base.specs.Machine.{state_after_all, outcomes_of_all}
use Rattle.engine_base.proofs.Machine.{state-append, outcomes-append}
use Rattle.admission.specs.Shape.{Shape}
use Rattle.admission.specs.Frequency.{FrequencyData, frequency_of, pace_of}
use Rattle.replacement.specs.Shape.{Config, shape_of}
use Rattle.replacement.proofs.Shape.{own-shape}
use Rattle.queue_cache.specs.declared.design.QueueSetup.{QueueSetup}
use Rattle.queue_cache.specs.QueueCache.{Outcome, QueueState, queue_access, empty_queue_state as opened_policy, outcomes_after, state_after}
use Rattle.queue_cache.proofs.Balance.{after-stands}
use Rattle.shell_model.specs.Shell.{Shell, act}
use Rattle.shell_model.specs.Consistency.{IsConsistent}
use Rattle.shell_model.specs.ReachableShell.{IsReachable}
use Rattle.shell_model.specs.Laws.{MadeStep, IsShapeOf, empty_shell}
use Rattle.shell_model.proofs.Reached.{reached-sound}
use Rattle.shell_model.proofs.Striped.{stripes_checked}
use Rattle.maintenance.specs.EmptyShell.{IsOpened}
use Rattle.journal.specs.Session.{IsSoundSession}
use Rattle.quiet_run.specs.QuietWalks.{IsQuietWalk, AreQuietWalks}
use Rattle.quiet_run.specs.Quiet.{IsQuiet, quiet_setup}
use Rattle.quiet_run.specs.Settle.{ShellSession, AddsSteps}
use Rattle.quiet_run.specs.QuietRuns.{IsPolicysRun, QuietGoesOn}
use Rattle.quiet_run.proofs.QuietServing.{key-served}

after-append : (x : Shell) (es fs : List MadeStep) → data_after act x (es ++ fs) ≡ data_after act (data_after act x es) fs
after-append x [] fs = refl
after-append x (e ∷ es) fs = after-append (next_data (act x e.step) x) es fs

legal-split : (x : Shell) (es fs : List MadeStep) → IsLegal act x (es ++ fs) → IsLegal act x es × IsLegal act (data_after act x es) fs
legal-split x [] fs l = (tt, l)
legal-split x (e ∷ es) fs l = let p = legal-split (next_data (act x e.step) x) es fs l.1 in ((l.0, p.0), p.1)

pub runs : (c : Config) → config_fault c ≡ Ok tt → (ks : List ℕ) (x : Shell) (d : QueueState) (os : List Outcome) (es : Entries)
    → d.setup ≡ quiet_setup c → IsConsistent x → IsQuiet x d
    → AreQuietWalks c.stripes ks os es → IsLegal act x es
    → (os ≡ outcomes_of_all queue_access d ks) × IsQuiet (data_after act x es) (state_after_all queue_access d ks)
runs c h [] x d [] es j v q w l = (refl, subst (λ (y : Entries). IsQuiet (data_after act x y) d) (sym w) q)
runs c h [] x d (o ∷ os) es j v q w l = absurd w
runs c h (k ∷ ks) x d [] es j v q w l = absurd w
runs c h (k ∷ ks) x d (o ∷ os) es j v q (walk, rest, cut, walks, outcome_is, more) l =
    let b : c ≡ x.config = ap (λ (y : QueueSetup). y.config) (sym j ∙ q.setup) in
    let p = legal-split x walk rest (subst (λ (y : Entries). IsLegal act x y) cut l) in
    let m = key-served x d k walk v q (subst (λ (y : Config). 1 ≤ y.stripes) b (stripes_checked c h).0) (subst (λ (y : Config). IsQuietWalk y.stripes k walk) b walks) p.0 in
    let e : QueueState = (queue_access k d).1 in
    let r = runs c h ks (data_after act x walk) e os rest j m.1 m.2 more p.1 in (
      ap (λ (y : Outcome). y ∷ os) (outcome_is ∙ m.0) ∙ ap (λ (y : List Outcome). (queue_access k d).0 ∷ y) r.0,
      subst (λ (y : Shell). IsQuiet y (state_after_all queue_access e ks)) (sym (after-append x walk rest) ∙ ap (data_after act x) (sym cut)) r.1,
    )

-- from a new shell

opened-quiet : (c : Config) (s : Shape) → frequency_of s [] ≡ frequency_of (shape_of c) [] → IsQuiet (empty_shell c s) (opened_policy (quiet_setup c))
opened-quiet c s e = record {
  setup = refl;
  queues = refl;
  frequency = ap (λ (f : FrequencyData). Some f) (sym e);
  table = λ i. refl;
  once = λ i h. absurd (omega (arith, h));
  window = omega arith;
  stripes = refl;
  writes = refl;
  drain = refl;
  holder = refl;
}

own-frequency : (c : Config) (s : Shape) → IsShapeOf c s → frequency_of s [] ≡ frequency_of (shape_of c) []
own-frequency c s h = own-shape c [] (frequency_of s []) record { shape = s; is = h.is; capacity_is = h.capacity; spread_is = h.spread; stands = refl }

pub new-run : (x : Shell) (c : Config) (ks : List ℕ) (os : List Outcome) (es : Entries) → IsReachable x → IsOpened c x
    → AreQuietWalks x.config.stripes ks os es → IsLegal act x es → IsPolicysRun c ks os (data_after act x es)
new-run x c ks os es r n w l =
    let same : x.config ≡ c = ap (λ (y : Shell). y.config) n.is in
    let quiet : IsQuiet x (opened_policy (quiet_setup c)) =
    subst (λ (y : Shell). IsQuiet y (opened_policy (quiet_setup c))) (sym n.is) (opened-quiet c n.shape (own-frequency c n.shape n.shape_is)) in
    runs c (subst (λ (y : Config). config_fault y ≡ Ok tt) same r.checked) ks x (opened_policy (quiet_setup c)) os es refl (reached-sound x r) quiet
    (subst (λ (y : Config). AreQuietWalks y.stripes ks os es) same w) l

-- ---- from a cache that made some accesses

pub later-run : (x : Shell) (c : Config) (past ks : List ℕ) (os : List Outcome) (es : Entries) → IsReachable x → IsQuiet x (state_after (quiet_setup c) past)
    → AreQuietWalks x.config.stripes ks os es → IsLegal act x es → QuietGoesOn c past ks os (data_after act x es)
later-run x c past ks os es r q w l =
    let first : QueueState = opened_policy (quiet_setup c) in
    let setup : (state_after (quiet_setup c) past).setup ≡ quiet_setup c = (after-stands (quiet_setup c) past).setup in
    let same : x.config ≡ c = ap (λ (y : QueueSetup). y.config) (sym q.setup ∙ setup) in
    let m = runs c (subst (λ (y : Config). config_fault y ≡ Ok tt) same r.checked) ks x (state_after (quiet_setup c) past) os es setup (reached-sound x r) q
    (subst (λ (y : Config). AreQuietWalks y.stripes ks os es) same w) l in (
      outcomes-append queue_access first past ks ∙ ap (λ (y : List Outcome). outcomes_after (quiet_setup c) past ++ y) (sym m.0),
      subst (IsQuiet (data_after act x es)) (sym (state-append queue_access first past ks)) m.1,
    )

-- ---- in a session

-- what a session says of itself
abbrev pub IsSound : ShellSession → Type 0
IsSound s = IsSoundSession act (λ (x : Shell). x.applied) (λ (x : Shell). pace_of x.frequency) (λ (x : Shell). x) s

-- what was added leads from the engine before to the engine now
pub record Leads (P : Entries → Type 0) (x z : Shell) : Type 0 where
  pub made : Entries
  pub holds : P made
  pub legal : IsLegal act x made
  pub gives : z ≡ data_after act x made

pub adds-lead : (P : Entries → Type 0) (old new : ShellSession) → IsSound old → IsSound new → new.opening ≡ old.opening → AddsSteps P old new → Leads P old.engine new.engine
adds-lead P old new s t o m =
    let kept : IsLegal act old.opening (old.kept ++ m.made) = subst (λ (y : Shell). IsLegal act y (old.kept ++ m.made)) o (subst (IsLegal act new.opening) m.entered t.legal) in
    let there : old.engine ≡ data_after act old.opening old.kept = s.stands in
    let gives : new.engine ≡ data_after act old.opening (old.kept ++ m.made) = t.stands ∙ ap (data_after act new.opening) m.entered ∙ ap (λ (y : Shell). data_after act y (old.kept ++ m.made)) o in
    record {
      made = m.made;
      holds = m.holds;
      legal = subst (λ (y : Shell). IsLegal act y m.made) (sym there) (legal-split old.opening old.kept m.made kept).1;
      gives = gives ∙ after-append old.opening old.kept m.made ∙ ap (λ (y : Shell). data_after act y m.made) (sym there);
    }

-- a session of length 0 has the engine that it was opened on
at-opening : (s : ShellSession) → IsSound s → s.kept ≡ [] → s.engine ≡ s.opening
at-opening s h k = h.stands ∙ ap (data_after act s.opening) k

pub new-session : (ks : List ℕ) (os : List Outcome) (old new : ShellSession) → IsSound old → IsSound new → IsReachable old.engine → new.opening ≡ old.opening
    → AddsSteps (AreQuietWalks old.engine.config.stripes ks os) old new → (c : Config) → IsOpened c old.opening → old.kept ≡ [] → IsPolicysRun c ks os new.engine
new-session ks os old new s t r o m c n k =
    let l = adds-lead (AreQuietWalks old.engine.config.stripes ks os) old new s t o m in
    let start : IsOpened c old.engine = subst (IsOpened c) (sym (at-opening old s k)) n in
    subst (IsPolicysRun c ks os) (sym l.gives) (new-run old.engine c ks os l.made r start l.holds l.legal)

pub later-session : (ks : List ℕ) (os : List Outcome) (old new : ShellSession) → IsSound old → IsSound new → IsReachable old.engine → new.opening ≡ old.opening
    → AddsSteps (AreQuietWalks old.engine.config.stripes ks os) old new → (c : Config) (past : List ℕ) → IsQuiet old.engine (state_after (quiet_setup c) past) → QuietGoesOn c past ks os new.engine
later-session ks os old new s t r o m c past q =
    let l = adds-lead (AreQuietWalks old.engine.config.stripes ks os) old new s t o m in
    subst (QuietGoesOn c past ks os) (sym l.gives) (later-run old.engine c past ks os l.made r q l.holds l.legal)
