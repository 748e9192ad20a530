-- The states that steps lead to from an opened shell, and where a record of the shell fits.
use Rattle.std.specs.Prelude.{◌≡◌, ℕ, ◌<◌, ◌≤◌, false, Option, Some, None, List, Ok}
use Rattle.engine_base.specs.declared.limits.TheConstants.{MAX_STEPS}
use Rattle.engine_base.specs.Config.{config_fault}
use Rattle.engine_base.specs.History.{data_after, IsLegal}
pub use Rattle.engine_base.specs.declared.step.Step.{Step}
pub use Rattle.engine_base.specs.declared.step.Reply.{Reply}
use Rattle.engine_base.specs.declared.step.Reply.TheVariants.{Began}
use Rattle.admission.specs.Shape.{Shape}
use Rattle.shell_model.specs.ShellStats.{AreAtMost}
use Rattle.shell_model.specs.Shell.{Item, Holder, Shell, act}
use Rattle.shell_model.specs.Records.{ShellRecord, undone_step, FitsStep, shell_record_of}
use Rattle.shell_model.specs.Laws.{MadeStep, IsShapeOf, empty_shell, is_ending, holding_of, holding_from, open_began}
use Rattle.segments.specs.Items.{occurrences}

pub record IsReachable (x : Shell) : Type 0 where
  pub checked : config_fault x.config ≡ Ok tt
  pub shape : Shape
  pub shape_is : IsShapeOf x.config shape
  pub entries : List MadeStep
  pub legal : IsLegal act (empty_shell x.config shape) entries
  pub gives : x ≡ data_after act (empty_shell x.config shape) entries

pub record ShellFits (r : ShellRecord) (x : Shell) : Type 0 where
  pub step : FitsStep r x
  pub reached : IsReachable (undone_step r x)

-- a step's record fits what the step left, and undoes it
abbrev pub RecordLaw : Type 0
RecordLaw = (x y : Shell) (s : Step) (r : Reply) → IsReachable x → act x s ≡ Some (r, y)
    → ShellFits (shell_record_of s x) y × (undone_step (shell_record_of s x) y ≡ x)

-- from any state that a shell stands for and that no one holds
pub record IsLaterHistory (es : List MadeStep) (y : Shell) : Type 0 where
  pub below : (i : Item) → 1 ≤ occurrences i y.table → i.node < y.next
  pub holder : holding_of y.holder ≡ holding_from (open_began es)

abbrev pub LaterLaws : Type 0
LaterLaws = (x : Shell) (es : List MadeStep) → IsReachable x → x.holder ≡ None
    → IsLegal act x es → IsLaterHistory es (data_after act x es)

-- no count passes the number of applied steps, which has a limit
pub record IsBounded (x : Shell) : Type 0 where
  pub next : x.next ≤ x.applied
  pub counts : AreAtMost x.applied x.stats
  pub halvings : x.frequency.halvings ≤ x.applied
  pub applied : x.applied ≤ MAX_STEPS

abbrev pub BoundLaw : Type 0
BoundLaw = (x : Shell) → IsReachable x → IsBounded x

-- the worker that holds the maintenance
abbrev pub worker_of : Option Holder → Option ℕ
worker_of None = None
worker_of (Some h) = Some h.worker

-- a worker holds the maintenance from the step that is answered Began on, until a step of its own is answered Idle or
-- Again, whatever the others do meanwhile
pub record HoldLaws : Type 0 where
  pub begins : (x y : Shell) (s : Step) → act x s ≡ Some (Began, y) → worker_of y.holder ≡ Some s.worker
  pub holds : (x y : Shell) (s : Step) (r : Reply) (w : ℕ) → worker_of x.holder ≡ Some w → act x s ≡ Some (r, y)
      → (s.worker ≡ w → is_ending r ≡ false) → worker_of y.holder ≡ Some w
