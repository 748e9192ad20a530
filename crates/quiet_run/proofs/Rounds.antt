-- A round has no report: it is the same with a round behind each report.
use Rattle.std.proofs.Common.{◌≡◌, ℕ, ◌+◌, ◌==◌, ◌↔◌, Bool, true, false, [], ◌∷◌, refl, MatchBool}
use Rattle.engine_base.specs.declared.step.Act.TheVariants as act
use Rattle.engine_base.specs.declared.step.Answer.TheVariants as answer
use Rattle.engine_base.specs.declared.step.Reply.TheVariants as reply
use Rattle.engine_base.specs.History.{Entries}
use Rattle.shell_model.specs.Walks.{Step, Reply, Act, step_of, IsRound, FollowsBegin, IsReading, FollowsDrainRead, IsWriting, FollowsDrainWrite, IsEvicting, FollowsEvict, IsEnding, FollowsEnd}
use Rattle.shell_model.specs.WalkPlaces.{IsWalkFrom, is_place}
use Rattle.shell_model.proofs.Finishing.{finish}
use Rattle.quiet_run.specs.QuietWalks.{Entry, reply_with_round, with_rounds}

none : (es : Entries) → (with_rounds es ≡ []) ↔ (es ≡ [])
none [] = ((λ h. refl), (λ h. refl))
none (e ∷ es) = ((λ h. absurd (cc h)), (λ h. absurd (cc h)))

module _ (w n : ℕ) where
  after-end : (r : Reply) (es : Entries) → FollowsEnd w n (reply_with_round r) (with_rounds es) ↔ FollowsEnd w n r es
  after-end reply.Idle es = none es
  after-end reply.Again es = none es
  after-end reply.NotYet es = none es
  after-end r es = ((λ h. h), (λ h. h))

  ending : (es : Entries) → IsEnding w n (with_rounds es) ↔ IsEnding w n es
  ending [] = ((λ h. h), (λ h. h))
  ending (e ∷ es) = let f = after-end e.reply es in ((λ h. (h.0, f.0 h.1)), (λ h. (h.0, f.1 h.1)))

  after-evict : (A B : Type 0) → A ↔ B → (r : Reply) (es : Entries) → FollowsEvict w n A (reply_with_round r) (with_rounds es) ↔ FollowsEvict w n B r es
  after-evict A B m (reply.Shifted i) es = m
  after-evict A B m (reply.Evicted i) es = m
  after-evict A B m (reply.Rejected i) es = m
  after-evict A B m reply.Fits es = ending es
  after-evict A B m r es = ((λ h. h), (λ h. h))

  pub evicting : (es : Entries) → IsEvicting w n (with_rounds es) ↔ IsEvicting w n es
  evicting [] = ((λ h. h), (λ h. h))
  evicting (e ∷ es) =
      let f = after-evict (IsEvicting w n (with_rounds es)) (IsEvicting w n es) (evicting es) e.reply es in
      ((λ h. (h.0, f.0 h.1)), (λ h. (h.0, f.1 h.1)))

  after-write : (A B : Type 0) → A ↔ B → (r : Reply) (es : Entries) → FollowsDrainWrite w n A (reply_with_round r) (with_rounds es) ↔ FollowsDrainWrite w n B r es
  after-write A B m (reply.Applied i) es = m
  after-write A B m (reply.Cleared i) es = m
  after-write A B m reply.Empty es = evicting es
  after-write A B m reply.Enough es = evicting es
  after-write A B m r es = ((λ h. h), (λ h. h))

  pub writing : (es : Entries) → IsWriting w n (with_rounds es) ↔ IsWriting w n es
  writing [] = ((λ h. h), (λ h. h))
  writing (e ∷ es) =
      let f = after-write (IsWriting w n (with_rounds es)) (IsWriting w n es) (writing es) e.reply es in
      ((λ h. (h.0, f.0 h.1)), (λ h. (h.0, f.1 h.1)))

  after-read : (A B C D : Type 0) → A ↔ B → C ↔ D → (r : Reply) → FollowsDrainRead w n A C (reply_with_round r) ↔ FollowsDrainRead w n B D r
  after-read A B C D m k (reply.Drained i) = m
  after-read A B C D m k reply.Empty = k
  after-read A B C D m k r = ((λ h. h), (λ h. h))

  either : (b : Bool) (A B C D : Type 0) → A ↔ B → C ↔ D → MatchBool b A C ↔ MatchBool b B D
  either true A B C D m k = m
  either false A B C D m k = k

  -- what follows the last entry of a stripe
  abbrev Next : ℕ → Entries → Type 0
  Next s es = MatchBool (s + 1 == n) (IsWriting w n es) (IsReading w n (s + 1) 0 es)

  abbrev More : ℕ → ℕ → Entries → Type 0
  More s j es = MatchBool (j + 1 == 16) (Next s es) (IsReading w n s (j + 1) es)

  pub reading : (es : Entries) (s j : ℕ) → IsReading w n s j (with_rounds es) ↔ IsReading w n s j es
  reading [] s j = ((λ h. h), (λ h. h))
  reading (e ∷ es) s j =
      let next : Next s (with_rounds es) ↔ Next s es = either (s + 1 == n) (IsWriting w n (with_rounds es)) (IsWriting w n es) (IsReading w n (s + 1) 0 (with_rounds es)) (IsReading w n (s + 1) 0 es) (writing es) (reading es (s + 1) 0) in
      let more : More s j (with_rounds es) ↔ More s j es = either (j + 1 == 16) (Next s (with_rounds es)) (Next s es) (IsReading w n s (j + 1) (with_rounds es)) (IsReading w n s (j + 1) es) next (reading es s (j + 1)) in
      let f = after-read (More s j (with_rounds es)) (More s j es) (Next s (with_rounds es)) (Next s es) more next e.reply in
      ((λ h. (h.0, f.0 h.1)), (λ h. (h.0, f.1 h.1)))

  after-begin : (r : Reply) (es : Entries) → FollowsBegin w n (reply_with_round r) (with_rounds es) → FollowsBegin w n r es
  after-begin reply.Busy es h = (none es).0 h
  after-begin reply.Began es h = (reading es 0 0).0 h
  after-begin r es h = absurd h

  pub round : (es : Entries) → IsRound w n (with_rounds es) → IsRound w n es
  round [] h = h
  round (e ∷ es) h = (h.0, after-begin e.reply es h.1)

  -- ---- from each act on a walk with rounds can be completed

  abbrev said : Act → Reply → Entry Step Reply
  said b r = record { step = step_of w b; reply = r }

  abbrev the_round : Entries
  the_round = said act.Begin reply.Busy ∷ []

  pub finish_rounds : (a : Act) (j : ℕ) → is_place n a j ≡ true → (es : Entries) × IsWalkFrom w n a j (with_rounds es)
  finish_rounds (act.Look k) j h = (said (act.Look k) reply.Miss ∷ said (act.Put k) reply.WritesFull ∷ the_round, (refl, (refl, (refl, refl))))
  finish_rounds (act.Offer s i) j h = (said (act.Offer s i) reply.Kept ∷ said (act.AfterRead answer.Kept) reply.Drain ∷ the_round, (refl, (refl, (refl, refl))))
  finish_rounds (act.AfterRead q) j h = (said (act.AfterRead q) reply.Drain ∷ the_round, (refl, (refl, refl)))
  finish_rounds (act.Put k) j h = (said (act.Put k) reply.WritesFull ∷ the_round, (refl, (refl, refl)))
  finish_rounds (act.Remove k) j h = (said (act.Remove k) reply.Absent ∷ [], (refl, refl))
  finish_rounds act.AfterWrite j h = (said act.AfterWrite reply.Drain ∷ the_round, (refl, (refl, refl)))
  finish_rounds act.Begin j h = (the_round, (refl, refl))
  finish_rounds (act.DrainRead s) j h = let f = finish w n (act.DrainRead s) j h in (f.0, (reading f.0 s j).1 f.1)
  finish_rounds act.DrainWrite j h = let f = finish w n act.DrainWrite j h in (f.0, (writing f.0).1 f.1)
  finish_rounds act.Evict j h = let f = finish w n act.Evict j h in (f.0, (evicting f.0).1 f.1)
  finish_rounds act.End j h = let f = finish w n act.End j h in (f.0, (ending f.0).1 f.1)
  finish_rounds (act.Lose s i) j h = absurd (cc h)
