-- From each act on, a walk can be completed.
use Rattle.std.proofs.Common.{◌≡◌, ℕ, zero, suc, ◌+◌, ◌-◌, ◌<◌, ◌%◌, ◌==◌, nat_lt, Bool, true, false, List, [], ◌∷◌, ◌++◌, refl, sym, subst, arith, MatchBool}
use Rattle.std.proofs.lemmas.Bool.{eq-eqb, ltb-true, and_parts}
use Rattle.engine_base.specs.declared.entry.Entry.{Entry}
use Rattle.engine_base.specs.declared.step.Act.TheVariants as act
use Rattle.engine_base.specs.declared.step.Answer.TheVariants as answer
use Rattle.engine_base.specs.declared.step.Call.TheVariants as call
use Rattle.engine_base.specs.declared.step.Reply.{Reply}
use Rattle.engine_base.specs.declared.step.Reply.TheVariants as reply
use Rattle.engine_base.specs.declared.step.Step.{Step}
use Rattle.engine_base.specs.History.{Entries}
use Rattle.shell_model.specs.Walks.{Call, Act, Item, step_of, IsWalk, AreWalks, IsReading, IsWriting, IsEvicting, IsEnding}
use Rattle.shell_model.specs.WalkPlaces.{IsWalkFrom, is_place}

module _ (w : ℕ) (n : ℕ) where
  abbrev said : Act → Reply → Entry Step Reply
  said a r = record { step = step_of w a; reply = r }

  abbrev the_end : Entries
  the_end = said act.End reply.Idle ∷ []

  abbrev the_evictions : Entries
  the_evictions = said act.Evict reply.Fits ∷ the_end

  abbrev the_writes : Entries
  the_writes = said act.DrainWrite reply.Empty ∷ the_evictions

  ends : IsEnding w n the_end
  ends = (refl, refl)

  evicts : IsEvicting w n the_evictions
  evicts = (refl, ends)

  writes : IsWriting w n the_writes
  writes = (refl, evicts)

  -- what follows the stripe s, where k stripes come after it
  abbrev Later : ℕ → Type 0
  Later s = (es : Entries) × MatchBool (s + 1 == n) (IsWriting w n es) (IsReading w n (s + 1) 0 es)

  later : (k s : ℕ) → s + k + 1 ≡ n → Later s
  later zero s e = (
    the_writes,
    (let last : s + 1 ≡ n = omega arith in
        let P : Bool → Type 0 = λ b. MatchBool b (IsWriting w n the_writes) (IsReading w n (s + 1) 0 the_writes) in subst P (sym (eq-eqb (s + 1) n last)) writes),
  )
  later (suc k) s e =
      let more : Later (s + 1) = later k (s + 1) (omega arith) in
      elim (s + 1 == n) as (λ b. (es : Entries) × MatchBool b (IsWriting w n es) (IsReading w n (s + 1) 0 es)) [
        | true ↦ (the_writes, writes)
        | false ↦ (said (act.DrainRead (s + 1)) reply.Empty ∷ more.0, (refl, more.1))
      ]

  reads : (s j : ℕ) → s < n → (es : Entries) × IsReading w n s j es
  reads s j below =
      let more : Later s = later (n - s - 1) s (omega arith) in
      (said (act.DrainRead s) reply.Empty ∷ more.0, (refl, more.1))

  abbrev the_round : Entries
  the_round = said act.Begin reply.Busy ∷ []

  abbrev the_report : Act → Entries
  the_report a = said a reply.Go ∷ []

  abbrev the_offer : ℕ → Item → Entries
  the_offer s i = said (act.Offer s i) reply.Kept ∷ the_report (act.AfterRead answer.Kept)

  pub finish : (a : Act) (j : ℕ) → is_place n a j ≡ true → (es : Entries) × IsWalkFrom w n a j es
  finish (act.Look k) j h = (said (act.Look k) (reply.Hit 0) ∷ the_offer (w % n) (record { key = k; node = 0 }), (refl, (refl, (refl, refl))))
  finish (act.Offer s i) j h = (the_offer s i, (refl, (refl, refl)))
  finish (act.AfterRead a) j h = (the_report (act.AfterRead a), (refl, refl))
  finish (act.Put k) j h = (said (act.Put k) reply.WritesFull ∷ the_round, (refl, (refl, refl)))
  finish (act.Remove k) j h = (said (act.Remove k) reply.Absent ∷ [], (refl, refl))
  finish act.AfterWrite j h = (the_report act.AfterWrite, (refl, refl))
  finish act.Begin j h = (the_round, (refl, refl))
  finish (act.DrainRead s) j h = reads s j (ltb-true s n ((and_parts (nat_lt s n) (nat_lt j 16) h).0))
  finish act.DrainWrite j h = (the_writes, writes)
  finish act.Evict j h = (the_evictions, evicts)
  finish act.End j h = (the_end, ends)
  finish (act.Lose s i) j h = absurd (cc h)

  finish_call : (c : Call) → (es : Entries) × IsWalk w n c es
  finish_call (call.Read k) = finish (act.Look k) 0 refl
  finish_call (call.Remove k) = finish (act.Remove k) 0 refl

  pub finish_calls : (cs : List Call) → (es : Entries) × AreWalks w n cs es
  finish_calls [] = ([], refl)
  finish_calls (c ∷ cs) =
      let one : (es : Entries) × IsWalk w n c es = finish_call c in
      let more : (es : Entries) × AreWalks w n cs es = finish_calls cs in
      (one.0 ++ more.0, (one.0, more.0, refl, one.1, more.1))
