-- What a run of whole walks leaves.
use Rattle.std.proofs.Common.{◌≡◌, ℕ, ◌<◌, ◌≤◌, nat_lt, List, [], ◌++◌, length, get_or, Option, Some, None, IfNone, refl, sym, ap, ◌∙◌, subst, arith, inl, inr}
use Rattle.std.proofs.lemmas.Bool.{cases_Bool}
use Rattle.std.proofs.lemmas.Bool.Decides.{nat_tests}
use Rattle.engine_base.specs.History.{data_after, IsLegal, Entries}
use Rattle.shell_model.specs.Shell.{Shell, act}
use Rattle.shell_model.specs.ReachableShell.{IsReachable}
use Rattle.shell_model.specs.Walks.{Call, AreWalks}
use Rattle.shell_model.specs.WorkerEntries.{entries_of}
use Rattle.shell_model.proofs.Admitting.{shell_freed}
use Rattle.workers.specs.Runs.{Cause, IsRun, IsRunUpTo}
use Rattle.workers.specs.WorkerStates.{ShellSession}
use Rattle.workers.proofs.RunResults.{whole_run}
use Rattle.workers.proofs.Turning.{legal_split, after_append}

-- A run of whole walks leaves the maintenance free, where it began so.
whole_frees : (s t : ShellSession) (n : ℕ) (pieces : List (List Call)) → 1 ≤ n → IsReachable s.engine → s.engine.holder ≡ None → length s.engine.stripes ≡ n
    → s.engine ≡ data_after act s.opening s.kept → IsRun (λ w. AreWalks w n) pieces s t → IsLegal act t.opening t.kept → t.engine ≡ data_after act t.opening t.kept → t.engine.holder ≡ None
whole_frees s t n pieces o h free count stood run legal stands =
    let whole : IsLegal act s.opening (s.kept ++ run.news) = subst (λ (es : Entries). IsLegal act s.opening es) run.entered (subst (λ (y : Shell). IsLegal act y t.kept) run.opening legal) in
    let later : IsLegal act s.engine run.news = subst (λ (y : Shell). IsLegal act y run.news) (sym stood) (legal_split act s.opening s.kept run.news whole) in
    let walks : (w : ℕ) → (calls : List Call) × AreWalks w n calls (entries_of w run.news) = λ w. (
    elim (cases_Bool (nat_lt w (length pieces))) [
      | inl e ↦ (let lt : w < length pieces = grind (arith, nat_tests, e) in (get_or pieces w [], run.made w lt))
      | inr e ↦ (let le : length pieces ≤ w = grind (arith, nat_tests, e) in ([], run.no_other w le))
    ]
    ) in
    let end : t.engine ≡ data_after act s.engine run.news =
    stands ∙ ap (λ (y : Shell). data_after act y t.kept) run.opening ∙ ap (λ (es : Entries). data_after act s.opening es) run.entered ∙ after_append act s.opening s.kept run.news
    ∙ ap (λ (y : Shell). data_after act y run.news) (sym stood) in
    ap (λ (y : Shell). y.holder) end ∙ shell_freed s.engine n o h free count run.news later walks

-- and so does one in which no worker was refused a step
pub run_frees : (cause : Option Cause) (s t : ShellSession) (n : ℕ) (pieces : List (List Call)) → 1 ≤ n → IsReachable s.engine → s.engine.holder ≡ None → length s.engine.stripes ≡ n
    → s.engine ≡ data_after act s.opening s.kept → IsRunUpTo cause n pieces s t → IsLegal act t.opening t.kept → t.engine ≡ data_after act t.opening t.kept → IfNone cause (t.engine.holder ≡ None)
run_frees None s t n pieces o h free count stood run legal stands =
    whole_frees s t n pieces o h free count stood (whole_run None n pieces s t refl run) legal stands
run_frees (Some cause) s t n pieces o h free count stood run legal stands = tt
