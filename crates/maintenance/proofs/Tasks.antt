-- The oldest task of the write queue: what applying it comes to.
use Rattle.std.proofs.Common.{arith, ◌≡◌, ℕ, ◌≤◌, true, false, eqb, Option, Some, None, List, [], ◌∷◌, length, drop, refl, inl, inr}
use Rattle.std.proofs.lemmas.Bool.{cases_Bool, eqb-true}
use Rattle.std.specs.Prelude.{get_or}
use Rattle.engine_base.specs.declared.step.Act.TheVariants.{DrainWrite}
use Rattle.shell_model.specs.declared.task.Task.TheVariants.{Add, Update, Remove}
use Rattle.shell_model.specs.declared.task.Task.{Task}
use Rattle.shell_model.specs.Changes.{Phase, after_change, shell_after_task, without_task}
use Rattle.shell_model.specs.Shell.{Shell, act_reply, held_by, may_write, task_reply}
use Rattle.maintenance.specs.Performing.{Holder, HasTask}

pub held-is : (w : ℕ) (o : Option Holder) (h : Holder) → held_by w o ≡ Some h → o ≡ Some h
held-is w None h e = absurd (cc e)
held-is w (Some k) h e =
    elim (cases_Bool (eqb w k.worker)) as (λ _. Some k ≡ Some h) [
      | inl q ↦ rw q at e
      | inr q ↦ absurd (let no : None ≡ Some h = rw q at e in cc no)
    ]

pub has-task : (o : Option Holder) (h : Holder) → o ≡ Some h → (h.left ≡ 0 → ⊥) → HasTask o
has-task o h e l = rw e (some h.left l)
  where
    some : (n : ℕ) → (n ≡ 0 → ⊥) → 1 ≤ n
    some n l = elim (cases_Bool (eqb n 0)) as (λ _. 1 ≤ n) [ inl q ↦ absurd (l (eqb-true n 0 q)) | inr q ↦ omega (arith, l) ]

pub with-oldest : (l : List Task) (d : Task) → 1 ≤ length l → l ≡ get_or l 0 d ∷ drop 1 l
with-oldest [] d n = absurd (omega (arith, n))
with-oldest (t ∷ ts) d n = refl

-- it is the definition's
pub task-replies : (w : ℕ) (x : Shell) (h : Holder) (t : Task) (ts : List Task) → held_by w x.holder ≡ Some h → may_write h.phase ≡ true → x.writes ≡ t ∷ ts → (h.left ≡ 0 → ⊥)
    → act_reply w DrainWrite x ≡ Some (task_reply h.phase t x)
task-replies w x h t ts e m q l = rw (e, m, q, left-some h.left l) refl
  where
    left-some : (n : ℕ) → (n ≡ 0 → ⊥) → eqb n 0 ≡ false
    left-some n h = elim (cases_Bool (eqb n 0)) as (λ _. eqb n 0 ≡ false) [ inl q ↦ absurd (h (eqb-true n 0 q)) | inr q ↦ q ]

pub task-leaves : (t : Task) (p : Phase) (x : Shell) → without_task (shell_after_task t x) ≡ after_change (task_reply p t x).1 x
task-leaves (Add i) p x = refl
task-leaves (Update i) p x = refl
task-leaves (Remove i) p x = refl

pub task-holder : (t : Task) (x : Shell) → (shell_after_task t x).holder ≡ x.holder
task-holder (Add i) x = refl
task-holder (Update i) x = refl
task-holder (Remove i) x = refl
