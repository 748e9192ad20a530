-- Where a session is left that was to go to a number of steps and back.
use Rattle.std.specs.Prelude.{ℕ, ◌+◌, ◌<◌, length}
use Rattle.engine_base.specs.declared.outcome.Outcome.{Outcome}
use Rattle.journal.specs.Session.{SessionState, IsMovedTo}
use Rattle.journal.specs.declared.fault.GotoFault.{GotoFault}
use Rattle.journal.specs.declared.fault.GotoFault.TheVariants.{OutOfMemory, PastEnd}
use Rattle.policies.specs.declared.any_policy.AnyPolicy.{AnyPolicy}

abbrev pub PolicySession : Type 0
PolicySession = SessionState AnyPolicy AnyPolicy ℕ Outcome

-- There are fewer than n steps, and it is where it was; or it has the same steps, of which so many are applied.
abbrev pub IsLeftAt : ℕ → PolicySession → PolicySession → GotoFault → Type 0
IsLeftAt n old new PastEnd = (length old.kept + length old.tail < n) × IsMovedTo (length old.kept) old new
IsLeftAt n old new (OutOfMemory at) = IsMovedTo at old new
