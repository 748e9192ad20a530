use Rattle.std.proofs.Common.{◌≡◌, ◌≢◌, ◌≤◌, ◌<◌, ◌↔◌, ℕ, true, IsSome, Option, Some, None, Result, Ok, Err, IfErr, length, refl, sym, ap, subst, ◌∙◌, arith}
use Rattle.std.specs.Prelude.{IsErrAnd}
use Rattle.std.proofs.lemmas.Bool.{lt-ltb}
use Rattle.engine_base.specs.declared.limits.TheConstants.{MAX_STEPS}
use Rattle.engine_base.specs.Answers.{is_answer}
use Rattle.journal.specs.declared.fault.SessionFault.TheVariants.{OutOfMemory, JournalFull, NotNow}
use Rattle.shell_model.specs.declared.record.Change.{Change}
use Rattle.shell_model.specs.Shell.{Reply, Act, Shell, act, act_reply, counted_reply, with_shell}
use Rattle.shell_model.proofs.Engines.{answers_law}
use Rattle.shell_model.specs.Walks.{step_of}
use Rattle.quiet_run.specs.Outcomes.{outcome_with_reply}
use Rattle.quiet_run.specs.Settle.{SessionFault, ShellSession, IsRefusalCause}
use Rattle.shell_model.proofs.Walking.{asked_of, asks_on, on_err, answered}
use Rattle.quiet_run.proofs.Alone.{alone_first, alone_next, alone_takes, alone_over, holds_first, holds_next, holds_now, round_answers, goes_on, goes_over, goes_begun}
use Rattle.quiet_run.proofs.Adding.{adds_none, adds_more, adds_same, told_last}
use Rattle.quiet_run.proofs.round.finish_walk.Goals as goal

takes : (x : Shell) (o : Option (Reply × Change)) → IsSome o → counted_reply (with_shell x o) ≡ None → ⊥
takes x None some none = absurd (cc some)
takes x (Some p) some none = absurd (cc none)

-- an error that a `?` hands on
err_is : {X Y : Type 0} (P : Y → Type 0) (r : Result X Y) (e : Y) → IsErrAnd r (λ f. f ≡ e) → P e → IfErr r P
err_is P (Ok x) e h p = absurd h
err_is P (Err f) e h p = subst P (sym h) p

-- why a session refuses a step that its shell takes
refusal_cause : (r : Result Reply SessionFault) (f : SessionFault) → r ≡ Err f → (w : ℕ) (a : Act) (old new : ShellSession) → IsSome (act_reply w a old.engine)
    → new.kept ≡ old.kept → new.limit ≡ old.limit → length new.kept ≤ new.limit
    → (r ≡ Err JournalFull ↔ length old.kept ≡ old.limit) → (r ≡ Err NotNow → (act old.engine (step_of w a) ≡ None) × (old.engine.applied < MAX_STEPS)) → IsRefusalCause f new
refusal_cause r OutOfMemory is w a old new some kept limit within full not_now =
    let room : length old.kept ≢ old.limit = λ e. cc (full.1 e) in
    let long = ap (λ es. length es) kept in
    omega arith
refusal_cause r JournalFull is w a old new some kept limit within full not_now = ap (λ es. length es) kept ∙ full.0 is ∙ sym limit
refusal_cause r NotNow is w a old new some kept limit within full not_now =
    let refused = not_now is in
    takes old.engine (act_reply w a old.engine) some (rw (lt-ltb old.engine.applied MAX_STEPS refused.1) at refused.0)

pub loop-next-init : goal.loop-next-init
loop-next-init c = record {
  opening = refl;
  limit = refl;
  adds = adds_none _ _ _ refl refl ((λ rest left. (c.next_step-next.ensures.left rest).1 left), refl);
  asks = c.next_step-next.ensures.asks;
  worker = refl;
  alone = alone_first c.args.local c.next_step-next.result c.args.session.now.engine c.requires.reached c.requires.stripes c.requires.place c.next_step-next.ensures.asks (λ rest left. (c.next_step-next.ensures.left rest).1 left);
  holds = holds_first c.next_step-next.result c.args.session.now.engine;
}

pub returns-in_err-reply-clause-err : goal.returns-in_err-reply-clause-err
returns-in_err-reply-clause-err c = on_err _ _
    (adds_same _ _ _ c.loop-next.session _ c.loop-next.invariant.adds c.in_err-reply.ensures.err.kept c.in_err-reply.ensures.err.tail
    (λ es h. goes_begun c.args.local c.loop-next.next c.in-Do.act c.in-Do.at c.in-Do.is es h.0))

pub returns-in_err-reply-clause-held : goal.returns-in_err-reply-clause-held
returns-in_err-reply-clause-held c = on_err _ _ (holds_now c.args.session.now.engine.holder c.loop-next.next c.in-Do.act c.in-Do.at c.loop-next.session.engine _ c.in-Do.is c.loop-next.invariant.holds c.in_err-reply.ensures.err.shown)

pub returns-in_err-reply-clause-cause : goal.returns-in_err-reply-clause-cause
returns-in_err-reply-clause-cause c =
    let some = alone_takes c.args.local.worker c.args.local.stripes c.loop-next.next c.in-Do.act c.in-Do.at c.loop-next.session.engine c.in-Do.is c.loop-next.invariant.alone in
    let refused = c.in_err-reply.ensures in
    let cause : IsRefusalCause c.in_err-reply.field-0.0 c.step.new.self =
    refusal_cause _ c.in_err-reply.field-0.0 refl c.args.local.worker c.in-Do.act c.loop-next.session c.step.new.self some refused.err.kept refused.err.limit (omega (arith, refused.sound.room)) refused.full refused.not_now in
    err_is _ c.from_residual.result _ c.from_residual.ensures.1 cause

pub next_step-next-requires-in-Do : goal.next_step-next-requires-in-Do
next_step-next-requires-in-Do c =
    answered _ _ _ (asked_of c.args.local.worker c.args.local.stripes c.loop-next.next c.in-Do.act c.in-Do.at c.in-Do.is c.loop-next.invariant.asks).0
    (subst (λ (q : Reply). is_answer c.in-Do.act q ≡ true) (sym c.with_round.ensures) (round_answers c.in-Do.act c.in_ok-reply.reply (answers_law _ _ _ _ c.in_ok-reply.ensures.accepted)))

pub loop-next-preserved : goal.loop-next-preserved
loop-next-preserved c = record {
  opening = c.in_ok-reply.ensures.opening ∙ c.loop-next.invariant.opening;
  limit = c.in_ok-reply.ensures.limit ∙ c.loop-next.invariant.limit;
  adds = adds_more _ _ _ c.loop-next.session _ (record { step = step_of c.args.local.worker c.in-Do.act; reply = c.in_ok-reply.reply }) c.loop-next.invariant.adds c.in_ok-reply.ensures.ok c.in_ok-reply.ensures.tail
      (λ es h. (
        goes_on c.args.local c.args.local.worker c.args.local.stripes c.loop-next.next c.next_step-next-in-Do.result c.in-Do.act c.in-Do.at c.in_ok-reply.reply c.with_round.result c.in-Do.is c.loop-next.invariant.asks c.with_round.ensures
            (λ rest left. (c.next_step-next-in-Do.ensures.left rest).1 left) es h.0,
        c.outcome_with-outcome.ensures ∙ ap (λ o. outcome_with_reply o c.in_ok-reply.reply) h.1 ∙ sym (told_last c.args.start es (record { step = step_of c.args.local.worker c.in-Do.act; reply = c.in_ok-reply.reply })),
      ));
  asks = asks_on c.args.local.worker c.args.local.stripes c.loop-next.next c.next_step-next-in-Do.result c.in-Do.act c.in-Do.at c.in-Do.is c.loop-next.invariant.asks c.next_step-next-in-Do.ensures.asks;
  worker = refl;
  alone = alone_next c.args.local.worker c.args.local.stripes c.loop-next.next c.next_step-next-in-Do.result c.in-Do.act c.in-Do.at c.loop-next.session.engine _ c.in_ok-reply.reply c.with_round.result c.in-Do.is c.loop-next.invariant.asks c.loop-next.invariant.alone
      c.in_ok-reply.ensures.accepted c.with_round.ensures c.next_step-next-in-Do.ensures.asks (λ rest left. (c.next_step-next-in-Do.ensures.left rest).1 left);
  holds = holds_next c.args.session.now.engine.holder c.args.local.worker c.loop-next.next c.next_step-next-in-Do.result c.in-Do.act c.in-Do.at c.loop-next.session.engine _ c.in_ok-reply.reply c.with_round.result c.in-Do.is c.loop-next.invariant.holds
      c.in_ok-reply.ensures.accepted c.with_round.ensures (λ rest left. (c.next_step-next-in-Do.ensures.left rest).1 left);
}

pub returns-clause-ok : goal.returns-clause-ok
returns-clause-ok c =
    adds_same _ _ _ c.loop-next.session _ c.loop-next.invariant.adds refl refl
    (λ es h. (goes_over c.args.local c.loop-next.next c.in_default.is es h.0, h.1))

pub returns-clause-none : goal.returns-clause-none
returns-clause-none c = alone_over c.args.local.worker c.args.local.stripes c.loop-next.next c.loop-next.session.engine c.in_default.is c.loop-next.invariant.alone

pub returns-clause-reached : goal.returns-clause-reached
returns-clause-reached c = c.loop-next.invariant.alone.1.reached

pub returns-clause-stripes : goal.returns-clause-stripes
returns-clause-stripes c = c.loop-next.invariant.alone.1.own.stripes

pub returns-in_err-reply-clause-stripes : goal.returns-in_err-reply-clause-stripes
returns-in_err-reply-clause-stripes c = ap (λ (x : Shell). length x.stripes) c.in_err-reply.ensures.err.shown ∙ c.loop-next.invariant.alone.1.own.stripes
