-- What the core's step ensures gives what the engine promises of every reachable state.
use Rattle.std.proofs.Common.{◌≡◌, ◌+◌, Some, subst, sym, Ok, Err, Result}
use Rattle.std.specs.Prelude.{IfOk, OnErr}
use Rattle.engine_base.specs.declared.engine.StepFault.{StepFault}
use Rattle.engine_base.specs.Pace.{words_of_halvings}
use Rattle.admission.specs.Frequency.{pace_of}
use Rattle.shell_model.specs.declared.record.ShellRecord.{ShellRecord}
use Rattle.shell_model.specs.Shell.{Reply, Step, Shell, act}
use Rattle.shell_model.specs.Records.{undone_step, shell_record_of, record_size}
use Rattle.shell_model.specs.ReachableShell.{IsReachable, ShellFits}
use Rattle.shell_model.proofs.Reached.{record-law, reached-on}
use Rattle.shell_model.proofs.Engines.{step_weighs}

abbrev Answer : Type 0
Answer = Result (Reply × ShellRecord) StepFault

pub stands-after : (x y : Shell) (s : Step) (o : Answer) → IsReachable x → IfOk o (λ r. act x s ≡ Some (r.0, y)) → OnErr o (y ≡ x) → IsReachable y
stands-after x y s (Err f) h some err = subst IsReachable (sym err) h
stands-after x y s (Ok r) h some err = reached-on x y s r.0 h some

pub fits-after : (x y : Shell) (s : Step) (o : Answer) → IsReachable x → IfOk o (λ r. act x s ≡ Some (r.0, y)) → IfOk o (λ r. r.1 ≡ shell_record_of s x) → IfOk o (λ r. ShellFits r.1 y)
fits-after x y s (Err f) h some is = tt
fits-after x y s (Ok r) h some is = subst (λ (k : ShellRecord). ShellFits k y) (sym is) (record-law x y s r.0 h some).0

pub undone-after : (x y : Shell) (s : Step) (o : Answer) → IsReachable x → IfOk o (λ r. act x s ≡ Some (r.0, y)) → IfOk o (λ r. r.1 ≡ shell_record_of s x) → IfOk o (λ r. undone_step r.1 y ≡ x)
undone-after x y s (Err f) h some is = tt
undone-after x y s (Ok r) h some is = subst (λ (k : ShellRecord). undone_step k y ≡ x) (sym is) (record-law x y s r.0 h some).1

pub words-after : (x y : Shell) (s : Step) (o : Answer) → IsReachable x → IfOk o (λ r. act x s ≡ Some (r.0, y)) → IfOk o (λ r. r.1 ≡ shell_record_of s x)
    → IfOk o (λ r. words_of_halvings (pace_of y.frequency) ≡ words_of_halvings (pace_of (undone_step r.1 y).frequency) + record_size r.1)
words-after x y s (Err f) h some is = tt
words-after x y s (Ok r) h some is = let g : ShellFits r.1 y = fits-after x y s (Ok r) h some is in step_weighs r.1 y g.step
