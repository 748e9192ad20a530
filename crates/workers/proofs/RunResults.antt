-- What a run hands back.
use Rattle.std.proofs.Common.{◌≡◌, ℕ, zero, suc, List, [], ◌∷◌, get_or, Option, Some, None, refl, sym, ◌∙◌, subst}
use Rattle.std.specs.Prelude.{option_map}
use Rattle.shell_model.specs.WorkerEntries.{entries_of}
use Rattle.journal.specs.Session.{SessionState}
use Rattle.shell_model.specs.declared.holder.Holder.{Holder}
use Rattle.shell_model.specs.Walks.{Step, Reply, Call, AreWalks}
use Rattle.workers.specs.Runs.{Cause, IsRun, IsRunUpTo, AreWalksUpTo, first_cause}

pub free_of : {X : Type 0} (f : Holder → X) (o : Option Holder) → option_map f o ≡ None → o ≡ None
free_of f None e = cc
free_of f (Some h) e = absurd (cc)

none_refused : (causes : List (Option Cause)) → first_cause causes ≡ None → (w : ℕ) → get_or causes w None ≡ None
none_refused [] e w = refl
none_refused (None ∷ causes) e zero = refl
none_refused (None ∷ causes) e (suc w) = none_refused causes e w
none_refused (Some cause ∷ causes) e w = absurd (cc (e))

module _ {E D : Type 0} where
  -- the run from the session that the book was opened with
  pub moved_run : (cause : Option Cause) (n n' : ℕ) (ps : List (List Call)) (o o' t : SessionState E D Step Reply)
      → n ≡ n' → o ≡ o' → IsRunUpTo cause n ps o t → IsRunUpTo cause n' ps o' t
  moved_run cause n n' ps o o' t a c h = subst (λ m. IsRunUpTo cause m ps o' t) a (subst (λ s. IsRunUpTo cause n ps s t) c h)

  -- a run without a cause is one of whole walks
  pub whole_run : (cause : Option Cause) (n : ℕ) (ps : List (List Call)) (o t : SessionState E D Step Reply) → cause ≡ None → IsRunUpTo cause n ps o t → IsRun (λ w. AreWalks w n) ps o t
  whole_run cause n ps o t none h = record {
    opening = h.run.opening;
    limit = h.run.limit;
    news = h.run.news;
    entered = h.run.entered;
    tail = h.run.tail;
    made = λ w lt. subst (λ r. AreWalksUpTo r n w (get_or ps w []) (entries_of w h.run.news)) (none_refused h.refusals (sym h.first ∙ none) w) (h.run.made w lt);
    no_other = h.run.no_other;
  }
