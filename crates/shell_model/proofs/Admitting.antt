-- The shell takes each step that walks ask of it.
use Rattle.std.proofs.Common.{◌≡◌, ℕ, ◌<◌, ◌≤◌, true, false, eqb, Option, Some, None, List, length, refl, ◌∙◌}
use Rattle.std.proofs.lemmas.Bool.{eq-eqb}
use Rattle.engine_base.specs.History.{data_after, IsLegal, Entries}
use Rattle.shell_model.specs.declared.holder.Holder.{Holder}
use Rattle.shell_model.specs.Shell.{Shell, act, held_by}
use Rattle.shell_model.specs.ReachableShell.{IsReachable}
use Rattle.shell_model.proofs.Reached.{reached-sound}
use Rattle.shell_model.specs.Walks.{Call, step_of, AreWalks}
use Rattle.shell_model.specs.WorkerEntries.{entries_of}
use Rattle.shell_model.specs.AdmittedSteps.{AdmitsWalks}
use Rattle.shell_model.proofs.Standing.{Standing, Stands, phase_of, standing, stands_after, taken}
use Rattle.shell_model.proofs.Asking.{walks_fit, walks_free}

abbrev pub at_start : Standing
at_start = record { at = None; node = None; fits = false }

pub no_node : (m : ℕ) (x : Shell) → None ≡ Some m → m < x.next
no_node m x e = absurd (cc (e))

pub starts : (w n : ℕ) (x : Shell) → x.holder ≡ None → length x.stripes ≡ n → Stands w n at_start x
starts w n x free count = record { holds = rw free refl; node = λ j e. no_node j x e; stripes = count; window = λ f. absurd (cc (f)) }

pub shell_admits : (x : Shell) (w n : ℕ) → 1 ≤ n → IsReachable x → x.holder ≡ None → length x.stripes ≡ n → AdmitsWalks act (λ y. y.applied) w n x
shell_admits x w n o h free count = λ es legal b m below none. (
    let begin : Stands w n at_start x = starts w n x free count in
    let stand = stands_after w n at_start x es (reached-sound x h) begin legal in
    taken w n (standing at_start (entries_of w es)) (data_after act x es) b stand (walks_fit w n o m.calls (entries_of w es) (record { step = step_of w b; reply = m.reply }) m.rest at_start refl m.walks) below none
    )

-- the holder is nobody, where it is none of the workers
pub nobody : (o : Option Holder) → ((w : ℕ) → phase_of (held_by w o) ≡ None) → o ≡ None
nobody None h = refl
nobody (Some g) h =
    let mine : eqb g.worker g.worker ≡ true = eq-eqb g.worker g.worker refl in
    absurd (let no : Some g.phase ≡ None = rw mine at (h g.worker) in cc (no))

-- where each worker made whole walks, nobody holds the maintenance
pub shell_freed : (x : Shell) (n : ℕ) → 1 ≤ n → IsReachable x → x.holder ≡ None → length x.stripes ≡ n → (es : Entries) → IsLegal act x es
    → ((w : ℕ) → (calls : List Call) × AreWalks w n calls (entries_of w es)) → (data_after act x es).holder ≡ None
shell_freed x n o h free count es legal walks = nobody (data_after act x es).holder (λ w. (
    (stands_after w n at_start x es (reached-sound x h) (starts w n x free count) legal).holds
    ∙ walks_free w n o (walks w).0 (entries_of w es) at_start refl (walks w).1
    ))
