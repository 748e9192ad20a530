-- Steps that came to the end of a session.
use Rattle.std.proofs.Common.{◌≡◌, ℕ, ◌+◌, ◌-◌, Option, Some, None, option_map, [], ◌∷◌, ◌++◌, length, length-append, refl, sym, ap, ◌∙◌, subst, arith}
use Rattle.std.proofs.lemmas.List.{append_assoc, append-nil}
use Rattle.engine_base.specs.declared.drain.Phase.TheVariants.{Reads, Writes, Evictions}
use Rattle.engine_base.specs.History.{Entries, tail_after}
use Rattle.engine_base.proofs.Undone.{tail_joined}
use Rattle.shell_model.specs.ReachableShell.{Step, Reply, worker_of}
use Rattle.maintenance.specs.EmptyShell.{Holder, Phase, holder_parts}
use Rattle.shell_model.specs.declared.place.Local.{Local}
use Rattle.shell_model.specs.WalkPlaces.{IsWalkFrom, phase_act}
use Rattle.shell_model.specs.NextActs.{IsAheadOf}
use Rattle.quiet_run.specs.Outcomes.{Outcome, outcome_with_reply, outcome_from}
use Rattle.quiet_run.specs.QuietWalks.{Entry, with_rounds}
use Rattle.quiet_run.specs.Settle.{ShellSession, AddsSteps, IsAtStart, IsRestOfRound, IsRest}
use Rattle.quiet_run.proofs.Rounds.{reading, writing, evicting}

pub adds_none : (P : Entries → Type 0) (old new : ShellSession) → new.kept ≡ old.kept → new.tail ≡ old.tail → P [] → AddsSteps P old new
adds_none P old new k t h = record { made = []; entered = k ∙ sym (append-nil old.kept); tail = t; holds = h }

no-tail : (es : Entries) (e : Entry Step Reply) (t : Entries) → tail_after (es ++ e ∷ []) t ≡ []
no-tail [] e t = refl
no-tail (f ∷ es) e t = refl

-- one entry more
pub adds_more : (P Q : Entries → Type 0) (old now new : ShellSession) (e : Entry Step Reply) → AddsSteps P old now → new.kept ≡ now.kept ++ e ∷ [] → new.tail ≡ []
    → ((es : Entries) → P es → Q (es ++ e ∷ [])) → AddsSteps Q old new
adds_more P Q old now new e m k t f = record {
  made = m.made ++ e ∷ [];
  entered = k ∙ ap (λ l. l ++ e ∷ []) m.entered ∙ append_assoc old.kept m.made (e ∷ []);
  tail = t ∙ sym (no-tail m.made e old.tail);
  holds = f m.made m.holds;
}

-- the same entries, of which something else is said
pub adds_same : (P Q : Entries → Type 0) (old now new : ShellSession) → AddsSteps P old now → new.kept ≡ now.kept → new.tail ≡ now.tail → ((es : Entries) → P es → Q es) → AddsSteps Q old new
adds_same P Q old now new m k t f = record { made = m.made; entered = k ∙ m.entered; tail = t ∙ m.tail; holds = f m.made m.holds }

pub told_last : (o : Outcome) (es : Entries) (e : Entry Step Reply) → outcome_from o (es ++ e ∷ []) ≡ outcome_with_reply (outcome_from o es) e.reply
told_last o [] e = refl
told_last o (f ∷ es) e = told_last (outcome_with_reply o f.reply) es e

-- how many they are
pub adds_counted : (P Q : Entries → Type 0) (n : ℕ) (old new : ShellSession) → AddsSteps P old new → n ≡ length new.kept - length old.kept → ((es : Entries) → P es → Q es) → AddsSteps (λ es. Q es × (n ≡ length es)) old new
adds_counted P Q n old new m c f =
    let many : length new.kept ≡ length old.kept + length m.made = ap length m.entered ∙ length-append old.kept m.made in
    record { made = m.made; entered = m.entered; tail = m.tail; holds = (f m.made m.holds, omega (arith, c, many)) }

-- the worker of a holder that is shown as a triple
pub held_worker : (o : Option Holder) (w : ℕ) (p : Phase) (left : ℕ) → option_map holder_parts o ≡ Some (w, p, left) → worker_of o ≡ Some w
held_worker None w p left e = absurd (cc (e))
held_worker (Some g) w p left e = ap (λ (v : ℕ). Some v) (ap (λ (t : ℕ × Phase × ℕ). t.0) (let all : holder_parts g ≡ (w, p, left) = cc (e) in all))

rest-in : (w n : ℕ) (p : Phase) (es : Entries) → IsWalkFrom w n (phase_act p) 0 (with_rounds es) → IsRestOfRound w n p es
rest-in w n Reads es h = (reading w n es 0 0).0 h
rest-in w n Writes es h = (writing w n es).0 h
rest-in w n Evictions es h = (evicting w n es).0 h

held-rest : (n : ℕ) (o : Option Holder) (w : ℕ) (p : Phase) (left : ℕ) (es : Entries) → option_map holder_parts o ≡ Some (w, p, left) → IsWalkFrom w n (phase_act p) 0 (with_rounds es) → IsRest n o es
held-rest n None w p left es e h = absurd (cc (e))
held-rest n (Some g) w p left es e h =
    let all : holder_parts g ≡ (w, p, left) = cc (e) in
    let worker : w ≡ g.worker = sym (ap (λ (t : ℕ × Phase × ℕ). t.0) all) in
    let phase : p ≡ g.phase = sym (ap (λ (t : ℕ × Phase × ℕ). t.1) all) in
    subst (λ (q : Phase). IsRestOfRound g.worker n q es) phase (subst (λ (v : ℕ). IsRestOfRound v n p es) worker (rest-in w n p es h))

-- what is ahead of one that stands where the holder stands is the rest of the holder's round
pub held_rest : (l : Local) (n : ℕ) (o : Option Holder) (w : ℕ) (p : Phase) (left : ℕ) → option_map holder_parts o ≡ Some (w, p, left) → l.worker ≡ w → l.stripes ≡ n → (l.act ≡ phase_act p) × (l.drained ≡ 0)
    → (es : Entries) → IsAheadOf l (with_rounds es) → IsRest n o es
held_rest l n o w p left e a b c es h =
    held-rest n o w p left es e
    (let ahead : IsWalkFrom w n (phase_act p) 0 (with_rounds es) = rw (a, b, c.0, c.1) at h in ahead)

-- and it stands at the act of the holder's phase
pub held_start : (l : Local) (o : Option Holder) (w : ℕ) (p : Phase) (left : ℕ) → option_map holder_parts o ≡ Some (w, p, left) → l.worker ≡ w → l.act ≡ phase_act p → IsAtStart o l.worker l.act
held_start l None w p left e a c = absurd (cc (e))
held_start l (Some g) w p left e a c =
    let all : holder_parts g ≡ (w, p, left) = cc (e) in
    (ap (λ (t : ℕ × Phase × ℕ). t.0) all ∙ sym a, c ∙ ap (λ (t : ℕ × Phase × ℕ). phase_act t.1) (sym all))

pub adds_joined : (P Q R : Entries → Type 0) (old now new : ShellSession) → AddsSteps P old now → AddsSteps Q now new → ((a b : Entries) → P a → Q b → R (a ++ b)) → AddsSteps R old new
adds_joined P Q R old now new m n f = record {
  made = m.made ++ n.made;
  entered = n.entered ∙ ap (λ l. l ++ n.made) m.entered ∙ append_assoc old.kept m.made n.made;
  tail = n.tail ∙ ap (tail_after n.made) m.tail ∙ tail_joined m.made n.made old.tail;
  holds = f m.made n.made m.holds n.holds;
}

pub adds_known : (P Q : Entries → Type 0) (old new : ShellSession) → AddsSteps P old new → ((es : Entries) → P es → Q es) → AddsSteps Q old new
adds_known P Q old new m f = record { made = m.made; entered = m.entered; tail = m.tail; holds = f m.made m.holds }
