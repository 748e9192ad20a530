-- Reached states, and the laws of records over them.
use Rattle.std.proofs.Common.{◌≡◌, ℕ, Some, Ok, List, [], ◌∷◌, ◌++◌, ap, subst, ◌∙◌, sym, refl, arith}
use Rattle.engine_base.specs.Config.{config_fault}
use Rattle.engine_base.specs.History.{next_data, data_after, IsLegal}
use Rattle.shell_model.specs.Shell.{Reply, Step, Act, Shell, act}
use Rattle.shell_model.specs.Consistency.{IsConsistent}
use Rattle.shell_model.specs.Records.{shell_record_of}
use Rattle.shell_model.specs.Laws.{Config, MadeStep, IsShapeOf, empty_shell, some_end, open_began}
use Rattle.shell_model.specs.ReachableShell.{IsReachable, RecordLaw, LaterLaws}
use Rattle.shell_model.proofs.Acting.{IsUndone, act-undone}
use Rattle.shell_model.specs.ShellSteps as k
use Rattle.shell_model.specs.ShellSteps.{Makes, Steps}
use Rattle.shell_model.proofs.Making.{stepped}
use Rattle.shell_model.proofs.Histories.{after-sound}
use Rattle.shell_model.proofs.Holding.{opened-sound, holder-law, from-none}

pub reached-sound : (x : Shell) → IsReachable x → IsConsistent x
reached-sound x r = rw r.gives (after-sound (empty_shell x.config r.shape) r.entries (opened-sound x.config r.shape r.shape_is) r.legal)

pub record-law : RecordLaw
record-law x y s r h e =
    let u : IsUndone (shell_record_of s x) x (act x s) = act-undone x s (reached-sound x h) in
    let v : IsUndone (shell_record_of s x) x (Some (r, y)) = rw e at u in
    (record { step = v.0; reached = rw v.1 h }, v.1)

pub later-laws : LaterLaws
later-laws x es h n l = record {
  below = λ i m. (after-sound x es (reached-sound x h) l).placed.below i (omega (arith, m));
  holder = holder-law x es l ∙ rw n (from-none (open_began es) (some_end es) es);
}

-- a step leads from a reached state to a reached one

after-append : (x : Shell) (es fs : List MadeStep) → data_after act x (es ++ fs) ≡ data_after act (data_after act x es) fs
after-append x [] fs = refl
after-append x (e ∷ es) fs = after-append (next_data (act x e.step) x) es fs

legal-append : (x : Shell) (es fs : List MadeStep) → IsLegal act x es → IsLegal act (data_after act x es) fs → IsLegal act x (es ++ fs)
legal-append x [] fs l m = m
legal-append x (e ∷ es) fs l m = (l.0, legal-append (next_data (act x e.step) x) es fs l.1 m)

config-step : (x : Shell) (w : ℕ) (b : Act) (r : Reply) (y : Shell) → Makes w x b r y → y.config ≡ x.config
config-step x w b r y (k.busy h i) = refl
config-step x w b r y made = refl

abbrev made_of : Step → Reply → MadeStep
made_of s r = record { step = s; reply = r }

config-kept : (x y : Shell) (s : Step) (r : Reply) → act x s ≡ Some (r, y) → y.config ≡ x.config
config-kept x y s r e =
    let t : Steps x (made_of s r) y = stepped x (made_of s r) y e in
    ap (λ (z : Shell). z.config) t.is ∙ config-step x s.worker s.act r t.left t.made

pub reached-on : (x y : Shell) (s : Step) (r : Reply) → IsReachable x → act x s ≡ Some (r, y) → IsReachable y
reached-on x y s r h e =
    let c : x.config ≡ y.config = sym (config-kept x y s r e) in
    let one : IsLegal act x (made_of s r ∷ []) = (rw e refl, tt) in
    let last : y ≡ data_after act x (made_of s r ∷ []) = rw e refl in
    let legal : IsLegal act (empty_shell x.config h.shape) (h.entries ++ made_of s r ∷ []) = legal-append (empty_shell x.config h.shape) h.entries (made_of s r ∷ []) h.legal (subst (λ (z : Shell). IsLegal act z (made_of s r ∷ [])) h.gives one) in
    let gives : y ≡ data_after act (empty_shell x.config h.shape) (h.entries ++ made_of s r ∷ []) = last ∙ ap (λ (z : Shell). data_after act z (made_of s r ∷ [])) h.gives ∙ sym (after-append (empty_shell x.config h.shape) h.entries (made_of s r ∷ [])) in
    record {
      checked = subst (λ (d : Config). config_fault d ≡ Ok tt) c h.checked;
      shape = h.shape;
      shape_is = subst (λ (d : Config). IsShapeOf d h.shape) c h.shape_is;
      entries = h.entries ++ made_of s r ∷ [];
      legal = subst (λ (d : Config). IsLegal act (empty_shell d h.shape) (h.entries ++ made_of s r ∷ [])) c legal;
      gives = gives ∙ ap (λ (d : Config). data_after act (empty_shell d h.shape) (h.entries ++ made_of s r ∷ [])) c;
    }
