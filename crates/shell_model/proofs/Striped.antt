-- A reachable shell has as many read buffers as its configuration says, and these are 1 to 64.
use Rattle.std.proofs.Common.{◌≡◌, ℕ, suc, zero, ◌≤◌, nat_le, true, false, ◌&&◌, Ok, List, [], ◌∷◌, length, replicate, ap, ◌∙◌, sym, refl, arith, inl, inr, length-set}
use Rattle.std.specs.Int.{is_power_of_two}
use Rattle.std.proofs.lemmas.Bool.{cases_Bool, and_parts}
use Rattle.std.proofs.lemmas.Bool.Decides.{nat_tests}
use Rattle.engine_base.specs.declared.limits.TheConstants.{MAX_CAPACITY, MAX_MAIN_PERCENT, MAX_STRIPES}
use Rattle.engine_base.specs.Config.{is_from_one, config_fault}
use Rattle.engine_base.specs.History.{next_data, data_after, IsLegal}
use Rattle.shell_model.specs.Shell.{Reply, Act, Item, Shell, act}
use Rattle.shell_model.specs.Laws.{Config, MadeStep, empty_shell}
use Rattle.shell_model.specs.ReachableShell.{IsReachable}
use Rattle.shell_model.specs.ShellSteps as k
use Rattle.shell_model.specs.ShellSteps.{Makes, Steps}
use Rattle.shell_model.proofs.Making.{stepped}

-- the buffers are as many as the configuration says
abbrev IsStriped : Shell → Type 0
IsStriped x = length x.stripes ≡ x.config.stripes

striped-step : (x : Shell) (w : ℕ) (b : Act) (r : Reply) (y : Shell) → Makes w x b r y → IsStriped x → IsStriped y
striped-step x w b r y (k.kept s i h few) v = length-set x.stripes s _ ∙ v
striped-step x w b r y (k.drained s i rest h e) v = length-set x.stripes s _ ∙ v
striped-step x w b r y made v = v

after-striped : (x : Shell) (es : List MadeStep) → IsStriped x → IsLegal act x es → IsStriped (data_after act x es)
after-striped x [] v l = v
after-striped x (e ∷ es) v l =
    let t : Steps x e (next_data (act x e.step) x) = stepped x e (next_data (act x e.step) x) l.0 in
    let u : IsStriped t.left = striped-step x e.step.worker e.step.act e.reply t.left t.made v in
    after-striped (next_data (act x e.step) x) es (ap (λ (z : Shell). length z.stripes) t.is ∙ u ∙ sym (ap (λ (z : Shell). z.config.stripes) t.is)) l.1

length-none : (n : ℕ) (l : List Item) → length (replicate n l) ≡ n
length-none zero l = refl
length-none (suc n) l = ap suc (length-none n l)

pub striped-law : (x : Shell) → IsReachable x → length x.stripes ≡ x.config.stripes
striped-law x r = rw r.gives (after-striped (empty_shell x.config r.shape) r.entries (length-none x.config.stripes []) r.legal)

powers : (n : ℕ) → is_power_of_two n ≡ true → 1 ≤ n
unfolding lib.Count.ones
powers zero h = absurd (let no : false ≡ true = h in cc no)
powers (suc n) h = omega arith

in_range : (c : Config) → (is_power_of_two c.stripes && nat_le c.stripes MAX_STRIPES) ≡ true → (1 ≤ c.stripes) × (c.stripes ≤ MAX_STRIPES)
in_range c h =
    let p = and_parts (is_power_of_two c.stripes) (nat_le c.stripes MAX_STRIPES) h in
    (powers c.stripes p.0, (let q = p.1 in grind (arith, nat_tests, q)))

pub stripes_checked : (c : Config) → config_fault c ≡ Ok tt → (1 ≤ c.stripes) × (c.stripes ≤ MAX_STRIPES)
stripes_checked c h =
    elim (cases_Bool (is_from_one MAX_CAPACITY c.capacity)) [
      | inr e ↦ absurd (let no = rw e at h in cc no)
      | inl e ↦ (let a = rw e at h in elim (cases_Bool (nat_le c.main_percent MAX_MAIN_PERCENT)) [
        | inr f ↦ absurd (let no = rw f at a in cc no)
        | inl f ↦ (let b = rw f at a in elim (cases_Bool (is_power_of_two c.stripes && nat_le c.stripes MAX_STRIPES)) [
          | inr g ↦ absurd (let no = rw g at b in cc no)
          | inl g ↦ in_range c g
        ])
      ])
    ]
