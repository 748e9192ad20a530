-- The walk of one worker over one call, as a grammar of the entries that it makes. (This project's own.)
use Rattle.std.specs.Prelude.{◌≡◌, ℕ, ◌+◌, ◌%◌, ◌==◌, List, [], ◌∷◌, ◌++◌, MatchBool}
pub use Rattle.engine_base.specs.declared.item.Item.{Item}
pub use Rattle.engine_base.specs.declared.step.Act.{Act}
use Rattle.engine_base.specs.declared.step.Act.TheVariants as act
use Rattle.engine_base.specs.declared.step.Answer.TheVariants as answer
pub use Rattle.engine_base.specs.declared.step.Call.{Call}
use Rattle.engine_base.specs.declared.step.Call.TheVariants as call
pub use Rattle.engine_base.specs.declared.step.Reply.{Reply}
use Rattle.engine_base.specs.declared.step.Reply.TheVariants as reply
pub use Rattle.engine_base.specs.declared.step.Step.{Step}
use Rattle.engine_base.specs.History.{Entries}
use Rattle.shell_model.specs.declared.stripes.TheConstants.{MAX_ITEMS}

-- the worker w makes the act a
abbrev pub step_of : ℕ → Act → Step
step_of w a = record { worker = w; act = a }

-- w is the worker, and n the number of stripes
module _ (w : ℕ) (n : ℕ) where
  -- the first entry is the act a, and what follows it is what may follow its reply
  abbrev pub Opens : Act → (Reply → Entries → Type 0) → Entries → Type 0
  Opens a Follows [] = ⊥
  Opens a Follows (e ∷ es) = (e.step ≡ step_of w a) × Follows e.reply es

  -- Nothing follows an End, whatever it answers.
  abbrev pub FollowsEnd : Reply → Entries → Type 0
  FollowsEnd reply.Idle es = es ≡ []
  FollowsEnd reply.Again es = es ≡ []
  FollowsEnd reply.NotYet es = es ≡ []
  FollowsEnd _ es = ⊥

  abbrev pub IsEnding : Entries → Type 0
  IsEnding es = Opens act.End FollowsEnd es

  -- After an Evict come more of them, until one answers that the window fits.
  abbrev pub FollowsEvict : Type 0 → Reply → Entries → Type 0
  FollowsEvict More (reply.Shifted i) es = More
  FollowsEvict More (reply.Evicted i) es = More
  FollowsEvict More (reply.Rejected i) es = More
  FollowsEvict More reply.Fits es = IsEnding es
  FollowsEvict More _ es = ⊥

  -- Evicts up to one Fits, and what follows
  abbrev pub IsEvicting : Entries → Type 0
  IsEvicting [] = ⊥
  IsEvicting (e ∷ es) = (e.step ≡ step_of w act.Evict) × FollowsEvict (IsEvicting es) e.reply es

  abbrev pub FollowsDrainWrite : Type 0 → Reply → Entries → Type 0
  FollowsDrainWrite More (reply.Applied i) es = More
  FollowsDrainWrite More (reply.Cleared i) es = More
  FollowsDrainWrite More reply.Empty es = IsEvicting es
  FollowsDrainWrite More reply.Enough es = IsEvicting es
  FollowsDrainWrite More _ es = ⊥

  -- DrainWrites, Applied or Cleared, up to one Empty or Enough, and what follows
  abbrev pub IsWriting : Entries → Type 0
  IsWriting [] = ⊥
  IsWriting (e ∷ es) = (e.step ≡ step_of w act.DrainWrite) × FollowsDrainWrite (IsWriting es) e.reply es

  -- More: of this stripe; Next: what follows its last entry
  abbrev pub FollowsDrainRead : Type 0 → Type 0 → Reply → Type 0
  FollowsDrainRead More Next (reply.Drained i) = More
  FollowsDrainRead More Next reply.Empty = Next
  FollowsDrainRead More Next _ = ⊥

  -- DrainReads of the stripe s, of which j were Drained already, up to MAX_ITEMS Drained or one
  -- Empty; then those of the stripes after it; and what follows
  abbrev pub IsReading : ℕ → ℕ → Entries → Type 0
  IsReading s j [] = ⊥
  IsReading s j (e ∷ es) = (e.step ≡ step_of w (act.DrainRead s))
      × FollowsDrainRead
      (MatchBool (j + 1 == MAX_ITEMS) (MatchBool (s + 1 == n) (IsWriting es) (IsReading (s + 1) 0 es))
      (IsReading s (j + 1) es))
      (MatchBool (s + 1 == n) (IsWriting es) (IsReading (s + 1) 0 es))
      e.reply

  abbrev pub FollowsBegin : Reply → Entries → Type 0
  FollowsBegin reply.Busy es = es ≡ []
  FollowsBegin reply.Began es = IsReading 0 0 es
  FollowsBegin _ es = ⊥

  -- a round of maintenance, or the finding that another worker is at it
  abbrev pub IsRound : Entries → Type 0
  IsRound es = Opens act.Begin FollowsBegin es

  abbrev pub FollowsReport : Reply → Entries → Type 0
  FollowsReport reply.Go es = es ≡ []
  FollowsReport reply.Drain es = IsRound es
  FollowsReport _ es = ⊥

  -- the worker reports its read or write, and then goes on or makes a round
  abbrev pub IsReport : Act → Entries → Type 0
  IsReport a es = Opens a FollowsReport es

  abbrev pub FollowsOffer : Reply → Entries → Type 0
  FollowsOffer reply.Kept es = IsReport (act.AfterRead answer.Kept) es
  FollowsOffer reply.Full es = IsReport (act.AfterRead answer.Full) es
  FollowsOffer _ es = ⊥

  -- the item is offered to the worker's stripe, and the answer reported
  abbrev pub IsOffer : Item → Entries → Type 0
  IsOffer i es = Opens (act.Offer (w % n) i) FollowsOffer es

  abbrev pub FollowsPut : Reply → Entries → Type 0
  FollowsPut (reply.Added node) es = IsReport act.AfterWrite es
  FollowsPut (reply.Present node) es = IsReport act.AfterWrite es
  FollowsPut reply.WritesFull es = IsRound es
  FollowsPut _ es = ⊥

  abbrev pub IsPut : ℕ → Entries → Type 0
  IsPut key es = Opens (act.Put key) FollowsPut es

  abbrev pub FollowsRemove : Reply → Entries → Type 0
  FollowsRemove reply.Absent es = es ≡ []
  FollowsRemove (reply.Removed node) es = IsReport act.AfterWrite es
  FollowsRemove reply.WritesFull es = IsRound es
  FollowsRemove _ es = ⊥

  abbrev pub FollowsLook : ℕ → Reply → Entries → Type 0
  FollowsLook key (reply.Hit node) es = IsOffer (record { key = key; node = node }) es
  FollowsLook key reply.Miss es = IsPut key es
  FollowsLook key _ es = ⊥

  -- the walk of one call
  abbrev pub IsWalk : Call → Entries → Type 0
  IsWalk (call.Read key) es = Opens (act.Look key) (FollowsLook key) es
  IsWalk (call.Remove key) es = Opens (act.Remove key) FollowsRemove es

  -- one walk for each call, in order
  abbrev pub AreWalks : List Call → Entries → Type 0
  AreWalks [] es = es ≡ []
  AreWalks (c ∷ cs) es = (walk : Entries) × (rest : Entries) × (es ≡ walk ++ rest) × IsWalk c walk × AreWalks cs rest
