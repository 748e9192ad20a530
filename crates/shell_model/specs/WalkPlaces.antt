-- What is left of a walk, by the act that its worker was asked to make last.
use Rattle.std.specs.Prelude.{ℕ, nat_lt, Bool, true, false, ◌&&◌}
use Rattle.engine_base.specs.declared.drain.Phase.{Phase}
use Rattle.engine_base.specs.declared.drain.Phase.TheVariants.{Reads, Writes, Evictions}
use Rattle.engine_base.specs.declared.step.Act.TheVariants as act
use Rattle.engine_base.specs.declared.step.Call.TheVariants as call
use Rattle.engine_base.specs.History.{Entries}
use Rattle.shell_model.specs.declared.stripes.TheConstants.{MAX_ITEMS}
use Rattle.shell_model.specs.Walks.{Call, Act, Opens, FollowsOffer, IsReport, IsPut, FollowsLook, FollowsRemove, IsRound}
use Rattle.shell_model.specs.Walks.{IsReading, IsWriting, IsEvicting, IsEnding}

-- The entries that complete the walk, from that act on. Of the stripe of a DrainRead, j items were drained already.
abbrev pub IsWalkFrom : ℕ → ℕ → Act → ℕ → Entries → Type 0
IsWalkFrom w n (act.Look k) j es = Opens w n (act.Look k) (FollowsLook w n k) es
IsWalkFrom w n (act.Offer s i) j es = Opens w n (act.Offer s i) (FollowsOffer w n) es
IsWalkFrom w n (act.Lose s i) j es = ⊥
IsWalkFrom w n (act.AfterRead a) j es = IsReport w n (act.AfterRead a) es
IsWalkFrom w n (act.Put k) j es = IsPut w n k es
IsWalkFrom w n (act.Remove k) j es = Opens w n (act.Remove k) (FollowsRemove w n) es
IsWalkFrom w n act.AfterWrite j es = IsReport w n act.AfterWrite es
IsWalkFrom w n act.Begin j es = IsRound w n es
IsWalkFrom w n (act.DrainRead s) j es = IsReading w n s j es
IsWalkFrom w n act.DrainWrite j es = IsWriting w n es
IsWalkFrom w n act.Evict j es = IsEvicting w n es
IsWalkFrom w n act.End j es = IsEnding w n es

-- No walk asks for a Lose. A DrainRead is of one of n stripes, of which fewer than MAX_ITEMS items were drained.
abbrev pub is_place : ℕ → Act → ℕ → Bool
is_place n (act.DrainRead s) j = nat_lt s n && nat_lt j MAX_ITEMS
is_place n (act.Lose s i) j = false
is_place n _ j = true

-- the act at which the walk of a call begins
abbrev pub call_act : Call → Act
call_act (call.Read k) = act.Look k
call_act (call.Remove k) = act.Remove k

-- the act at which a holder stands in its phase
abbrev pub phase_act : Phase → Act
phase_act Reads = act.DrainRead 0
phase_act Writes = act.DrainWrite
phase_act Evictions = act.Evict
