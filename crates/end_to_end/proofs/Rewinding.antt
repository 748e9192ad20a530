-- A run, and its last steps undone.
use Rattle.std.proofs.Common.{◌≡◌, ◌↔◌, ℕ, zero, suc, ◌-◌, ◌<◌, List, [], ◌∷◌, ◌++◌, Option, Some, None, Result, Ok, Err, OnOk, OnErr, get_or, map, length, take, drop, refl, sym, ap, ◌∙◌, subst, arith}
use Rattle.std.specs.Prelude.{IfErr, IfSome}
use Rattle.std.proofs.Math.Seq.{take-length, drop-length}
use Rattle.std.proofs.lemmas.List.{length-map, take-append-le, drop-append-le}
use Rattle.engine_base.specs.History.{data_after, IsLegal, Entries}
use Rattle.shell_model.specs.Shell.{Shell, act}
use Rattle.journal.specs.Session.{IsMovedTo}
use Rattle.journal.specs.Faults.{StandsBack}
use Rattle.journal.specs.declared.fault.BackFault.TheVariants as back
use Rattle.shell_model.specs.Walks.{Call, AreWalks}
use Rattle.shell_model.specs.WorkerEntries.{entries_of}
use Rattle.workers.specs.Runs.{IsRun, IsRunUpTo, AreWalksUpTo, IsCauseIn, first_cause}
use Rattle.workers.specs.WorkerStates.{ShellSession}
use Rattle.workers.proofs.Turning.{legal_split, after_append}
use Rattle.end_to_end.specs.UndoneRun.{Cause, BackFault, IsAnswered, IsRewound, undone_of}

drop_first : {X : Type 0} (xs ys : List X) → drop (length xs) (xs ++ ys) ≡ ys
drop_first xs ys = drop-append-le (length xs) xs ys (omega arith) ∙ ap (λ l. l ++ ys) (drop-length xs)

-- the steps that are left, and those that can be redone
module _ (k : ℕ) (old new : ShellSession) where
  abbrev Left : ℕ → Type 0
  Left n = (new.opening ≡ old.opening) × (new.kept ≡ take (length old.kept - n) old.kept)
      × (new.tail ≡ drop (length old.kept - n) (old.kept ++ old.tail))

  moved : (n : ℕ) → IsMovedTo (length old.kept - n) old new → Left n
  moved n m = (m.opening, m.kept ∙ take-append-le (length old.kept - n) old.kept old.tail (omega arith), m.tail)

  pub left_by : (o : Result (Unit {0}) BackFault) → OnOk o (IsMovedTo (length old.kept - k) old new) → IfErr o (StandsBack (λ x. x) old new k) → Left (undone_of k o)
  left_by (Ok done) h e = moved k h
  left_by (Err back.PastStart) h e =
      let all : length old.kept ≡ length old.kept - 0 = omega arith in (
        e.opening,
        e.kept ∙ sym (take-length old.kept) ∙ ap (λ n. take n old.kept) all,
        e.tail ∙ sym (drop_first old.kept old.tail) ∙ ap (λ n. drop n (old.kept ++ old.tail)) all,
      )
  left_by (Err (back.OutOfMemory n)) h e = moved n e.2

-- where not all of k steps were undone, fewer than k were
pub fewer_undone : (k : ℕ) (old new : ShellSession) (o : Result (Unit {0}) BackFault) → IfErr o (StandsBack (λ x. x) old new k) → (o ≡ Err back.PastStart ↔ length old.kept < k) → OnErr o (undone_of k o < k)
fewer_undone k old new (Ok done) e p = tt
fewer_undone k old new (Err back.PastStart) e p = let h : length old.kept < k = p.0 refl in omega (arith, h)
fewer_undone k old new (Err (back.OutOfMemory n)) e p = e.0

-- legal entries are answered by the definition
answered : (x : Shell) (steps : Entries) → IsLegal act x steps → IsAnswered x steps
answered x steps legal before later e is =
    let whole : IsLegal act x (before ++ e ∷ later) = subst (λ es. IsLegal act x es) is legal in
    let last : IsLegal act (data_after act x before) (e ∷ later) = legal_split act x before (e ∷ later) whole in
    last.0 ∙ ap (λ (y : Shell). Some (e.reply, y)) (sym (after_append act x before (e ∷ [])))

-- no cause for a worker with these calls
abbrev no_cause : List Call → Option Cause
no_cause calls = None

none_first : (ps : List (List Call)) → None ≡ first_cause (map no_cause ps)
none_first [] = refl
none_first (p ∷ ps) = none_first ps

none_at : (ps : List (List Call)) (w : ℕ) → get_or (map no_cause ps) w None ≡ None
none_at [] w = refl
none_at (p ∷ ps) zero = refl
none_at (p ∷ ps) (suc w) = none_at ps w

-- a run of whole walks is one in which no worker was refused a step
pub whole_up_to : (n : ℕ) (pieces : List (List Call)) (old new : ShellSession) → IsRun (λ w. AreWalks w n) pieces old new → IsRunUpTo None n pieces old new
whole_up_to n pieces old new run = record {
  refusals = map no_cause pieces;
  of_each = length-map pieces no_cause;
  first = none_first pieces;
  run = record {
    opening = run.opening;
    limit = run.limit;
    news = run.news;
    entered = run.entered;
    tail = run.tail;
    made = λ w lt. subst (λ r. AreWalksUpTo r n w (get_or pieces w []) (entries_of w run.news)) (sym (none_at pieces w)) (run.made w lt);
    no_other = run.no_other;
  };
  refused = λ w. subst (λ r. IfSome r (IsCauseIn w old.kept run.news old.limit)) (sym (none_at pieces w)) tt;
}

pub rewound : (n k : ℕ) (pieces : List (List Call)) (cause : Option Cause) (o : Result (Unit {0}) BackFault) (old whole new : ShellSession)
    → IsRunUpTo cause n pieces old whole → IsLegal act whole.opening whole.kept → new.opening ≡ whole.opening → new.kept ≡ take (length whole.kept - undone_of k o) whole.kept
    → new.tail ≡ drop (length whole.kept - undone_of k o) (whole.kept ++ whole.tail)
    → new.engine ≡ data_after act new.opening new.kept → (o ≡ Err back.PastStart ↔ length whole.kept < k) → OnErr o (undone_of k o < k) → IsRewound n k pieces cause o old new
rewound n k pieces cause o old whole new up legal opening left redo state past fewer = let run = up.run in record {
  run = run.news;
  refusals = up.refusals;
  of_each = up.of_each;
  first = up.first;
  made = run.made;
  no_other = run.no_other;
  refused = up.refused;
  answered = answered old.opening (old.kept ++ run.news) (subst (λ es. IsLegal act old.opening es) run.entered (subst (λ x. IsLegal act x whole.kept) run.opening legal));
  left = left ∙ ap (λ es. take (length es - undone_of k o) es) run.entered;
  redo = redo ∙ ap (λ (z : Entries × Entries). drop (length z.0 - undone_of k o) (z.0 ++ z.1)) (λ i. (run.entered i, run.tail i));
  state = state ∙ ap (λ x. data_after act x new.kept) (opening ∙ run.opening);
  fewer = fewer;
  past = subst (λ es. o ≡ Err back.PastStart ↔ length es < k) run.entered past;
}
