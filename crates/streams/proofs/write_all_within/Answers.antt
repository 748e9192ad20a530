use Rattle.std.proofs.Common.{arith, rules}
use Rattle.std.proofs.KnownBytes.{Appends-kept}
use Rattle.std.proofs.lemmas.Grind.{elements}
use Rattle.streams.proofs.Results.{at_fault, at_success}
use Rattle.streams.proofs.Tallies.{further, later}
use Rattle.streams.proofs.write_all_within.Goals as goal

pub returns-clause-bytes : goal.returns-clause-bytes
returns-clause-bytes g c =
    at_success c.flush.result _ _ (Appends-kept (g.W.CountedWrite.contents c.args.writer.now) (g.W.CountedWrite.contents c.write_some.new.writer) (g.W.CountedWrite.contents c.flush.new.writer)
    c.args.bytes.now c.in_ok-write_some.ensures.bytes) c.flush.ensures.bytes

pub returns-clause-part : goal.returns-clause-part
returns-clause-part g c = grind (arith, elements)

pub returns-clause-flushed : goal.returns-clause-flushed
returns-clause-flushed g c = search rules

pub returns-clause-spent : goal.returns-clause-spent
returns-clause-spent g c = at_success c.flush.result _ _ (further _ _ _ _ _ _ c.in_ok-write_some.ensures.spent) c.flush.ensures.spent

pub returns-clause-exhausted : goal.returns-clause-exhausted
returns-clause-exhausted g c = at_fault c.flush.result _ _ (later _ _ _ _ _ c.in_ok-write_some.ensures.spent) c.flush.ensures.exhausted
