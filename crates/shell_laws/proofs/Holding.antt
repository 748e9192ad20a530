-- A worker holds the maintenance exactly where the drain state is ToIdle or ToRequired.
use Rattle.std.proofs.Common.{◌≡◌, ◌∙◌, ℕ, Option, Some, None, is_some, List, [], ◌∷◌, ap, sym, subst, refl}
use Rattle.engine_base.specs.declared.drain.Drain.TheVariants.{Idle, Required, ToIdle, ToRequired}
use Rattle.engine_base.specs.History.{next_data, data_after, IsLegal}
use Rattle.shell_model.specs.declared.holder.Holder.{Holder}
use Rattle.engine_base.specs.declared.drain.Phase.TheVariants.{Writes, Evictions}
use Rattle.shell_model.specs.ShellState.{Phase, Drain, holder_in_phase}
use Rattle.shell_model.specs.Changes.{holder_after_task}
use Rattle.shell_model.specs.Shell.{Reply, Act, Shell, act, after_write, drain_at_end}
use Rattle.shell_model.specs.Laws.{MadeStep, empty_shell}
use Rattle.shell_model.specs.ShellSteps as k
use Rattle.shell_model.specs.ShellSteps.{Makes, Steps}
use Rattle.shell_model.proofs.Making.{stepped}
use Rattle.shell_laws.specs.Holding.{is_draining, HolderLaw}

abbrev IsHeldWhileDraining : Option Holder → Drain → Type 0
IsHeldWhileDraining o d = is_some o ≡ is_draining d

same-side : (o : Option Holder) (d : Drain) → IsHeldWhileDraining o d → IsHeldWhileDraining o (after_write d).1
same-side o Idle v = v
same-side o Required v = v
same-side o ToIdle v = v
same-side o ToRequired v = v

left-side : (d : Drain) → IsHeldWhileDraining None (drain_at_end d).1
left-side Idle = refl
left-side Required = refl
left-side ToIdle = refl
left-side ToRequired = refl

same-held : (p : Phase) (o : Option Holder) → is_some (holder_in_phase p o) ≡ is_some o
same-held p None = refl
same-held p (Some h) = refl

same-after : (o : Option Holder) → is_some (holder_after_task o) ≡ is_some o
same-after None = refl
same-after (Some h) = refl

held-step : (x : Shell) (w : ℕ) (b : Act) (r : Reply) (y : Shell) → Makes w x b r y → IsHeldWhileDraining x.holder x.drain → IsHeldWhileDraining y.holder y.drain
held-step x w b r y (k.write_go d e) v = subst (λ (p : Reply × Drain). IsHeldWhileDraining x.holder p.1) e (same-side x.holder x.drain v)
held-step x w b r y (k.write_drain d e) v = subst (λ (p : Reply × Drain). IsHeldWhileDraining x.holder p.1) e (same-side x.holder x.drain v)
held-step x w b r y (k.began e) v = refl
held-step x w b r y (k.write_empty h f e) v = same-held Writes x.holder ∙ v
held-step x w b r y (k.enough h t rest f e l) v = same-held Writes x.holder ∙ v
held-step x w b r y (k.applied_add h i rest f e l) v = same-after x.holder ∙ v
held-step x w b r y (k.applied_update h i rest f e l) v = same-after x.holder ∙ v
held-step x w b r y (k.applied_remove h i rest f e l) v = same-after x.holder ∙ v
held-step x w b r y (k.fits h f o) v = same-held Evictions x.holder ∙ v
held-step x w b r y (k.shifted h c f o i) v = same-held Evictions x.holder ∙ v
held-step x w b r y (k.evicted h c u f o i n g) v = same-held Evictions x.holder ∙ v
held-step x w b r y (k.rejected h c u f o i n) v = same-held Evictions x.holder ∙ v
held-step x w b r y (k.idle h d f o e) v = subst (λ (p : Reply × Drain). IsHeldWhileDraining None p.1) e (left-side x.drain)
held-step x w b r y (k.again h d f o e) v = subst (λ (p : Reply × Drain). IsHeldWhileDraining None p.1) e (left-side x.drain)
held-step x w b r y made v = v

held-after : (x : Shell) (es : List MadeStep) → IsHeldWhileDraining x.holder x.drain → IsLegal act x es → IsHeldWhileDraining (data_after act x es).holder (data_after act x es).drain
held-after x [] v l = v
held-after x (e ∷ es) v l =
    let s : Steps x e (next_data (act x e.step) x) = stepped x e (next_data (act x e.step) x) l.0 in
    let g : (next_data (act x e.step) x).holder ≡ s.left.holder = ap (λ (y : Shell). y.holder) s.is in
    let h : (next_data (act x e.step) x).drain ≡ s.left.drain = ap (λ (y : Shell). y.drain) s.is in
    let n : IsHeldWhileDraining s.left.holder s.left.drain = held-step x e.step.worker e.step.act e.reply s.left s.made v in
    held-after (next_data (act x e.step) x) es (rw (g, h) n) l.1

pub holder-law : HolderLaw
holder-law x r =
    subst (λ (y : Shell). IsHeldWhileDraining y.holder y.drain) (sym r.gives)
    (held-after (empty_shell x.config r.shape) r.entries refl r.legal)
