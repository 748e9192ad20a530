-- The act that a worker makes next may be the next of its walks.
use Rattle.std.proofs.Common.{◌≡◌, ℕ, List, [], ◌∷◌, ◌++◌, sym, ap, ◌∙◌, subst}
use Rattle.std.proofs.lemmas.List.{append_assoc}
use Rattle.engine_base.specs.declared.entry.Entry.{Entry}
use Rattle.engine_base.specs.History.{Entries}
use Rattle.shell_model.specs.declared.next.Next.TheVariants as next_act
use Rattle.shell_model.specs.Walks.{Step, Reply, Call, Act, step_of, IsWalk, AreWalks}
use Rattle.shell_model.specs.NextActs.{Next, Local, IsAheadOf, IsAskedNext}
use Rattle.shell_model.specs.WorkerEntries.{Made}
use Rattle.shell_model.specs.AdmittedSteps.{MayMake}
use Rattle.shell_model.proofs.Walking.{Completes, completion, not_done, same_step, asked_of}
use Rattle.shell_model.proofs.Asking.{first_step, walks_more}

entry_of : Step → Reply → Entry Step Reply
entry_of t r = record { step = t; reply = r }

starts : (l : Local) (es : Entries) → IsAheadOf l es → (r : Reply) × (rest : Entries) × (es ≡ entry_of (step_of l.worker l.act) r ∷ rest)
unfolding entry_of
starts l [] h = absurd (not_done l h)
starts l (y ∷ es) h = (y.reply, es, ap (λ t. entry_of t y.reply ∷ es) (first_step l.worker l.stripes l.act l.drained y es h))

pub may_make : (w n : ℕ) (c : Call) (before : List Call) (own own' : Entries) (next : Next) (a : Act) (l : Local) → AreWalks w n before own → Made (Completes w n c next) own own'
    → next ≡ next_act.Do a l → IsAskedNext w n next → MayMake w n own' a
unfolding entry_of
may_make w n c before own own' next a l h m is asks =
    let f = completion l in
    let s = starts l f.0 f.1 in
    let asked = asked_of w n next a l is asks in
    let first : f.0 ≡ entry_of (step_of w a) s.0 ∷ s.1 = s.2 ∙ ap (λ t. entry_of t s.0 ∷ s.1) (same_step w n a l asked) in
    let all : Completes w n c (next_act.Do a l) m.made = subst (λ x. Completes w n c x m.made) is m.holds in
    let walk : IsWalk w n c (m.made ++ entry_of (step_of w a) s.0 ∷ s.1) = subst (λ es. IsWalk w n c (m.made ++ es)) first (all f.0 f.1) in
    let list : own' ++ entry_of (step_of w a) s.0 ∷ s.1 ≡ own ++ (m.made ++ entry_of (step_of w a) s.0 ∷ s.1) = ap (λ x. x ++ entry_of (step_of w a) s.0 ∷ s.1) m.entered ∙ append_assoc own m.made (entry_of (step_of w a) s.0 ∷ s.1) in
    record {
      calls = before ++ c ∷ [];
      reply = s.0;
      rest = s.1;
      walks = subst (AreWalks w n (before ++ c ∷ [])) (sym list) (walks_more w n before c own (m.made ++ entry_of (step_of w a) s.0 ∷ s.1) h walk);
    }

-- one walk more is made
pub walked : (w n : ℕ) (c : Call) (before : List Call) (own own' : Entries) → AreWalks w n before own → Made (IsWalk w n c) own own' → (calls : List Call) × AreWalks w n calls own'
walked w n c before own own' h m = (before ++ c ∷ [], subst (AreWalks w n (before ++ c ∷ [])) (sym m.entered) (walks_more w n before c own m.made h m.holds))
