-- What the replies of a key's steps come to, as a policy's outcome.
use Rattle.std.specs.Prelude.{[], ◌∷◌}
pub use Rattle.engine_base.specs.declared.outcome.Outcome.{Outcome}
use Rattle.engine_base.specs.declared.outcome.Outcome.TheVariants as outcome
use Rattle.engine_base.specs.declared.step.Reply.{Reply}
use Rattle.engine_base.specs.declared.step.Reply.TheVariants as reply
use Rattle.engine_base.specs.History.{Entries}

abbrev pub unless_hit : Outcome → Outcome → Outcome
unless_hit outcome.Hit p = outcome.Hit
unless_hit o p = p

-- a Hit stays; else the key that left last counts
abbrev pub outcome_with_reply : Outcome → Reply → Outcome
outcome_with_reply o (reply.Hit n) = outcome.Hit
outcome_with_reply o (reply.Evicted i) = unless_hit o (outcome.Evicted i.key)
outcome_with_reply o (reply.Rejected i) = unless_hit o (outcome.Rejected i.key)
outcome_with_reply o r = o

abbrev pub outcome_from : Outcome → Entries → Outcome
outcome_from o [] = o
outcome_from o (e ∷ es) = outcome_from (outcome_with_reply o e.reply) es
