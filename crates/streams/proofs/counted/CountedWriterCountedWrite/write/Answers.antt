use Rattle.std.proofs.Common.{rules}
use Rattle.streams.proofs.counted.CountedWriterCountedWrite.write.Goals as goal

pub returns-in-Ok-eq0-clause-unflushed : goal.returns-in-Ok-eq0-clause-unflushed
returns-in-Ok-eq0-clause-unflushed g c = search rules

pub returns-in-Ok-clause-unflushed : goal.returns-in-Ok-clause-unflushed
returns-in-Ok-clause-unflushed g c = search rules

pub returns-in-Err-clause-unflushed : goal.returns-in-Err-clause-unflushed
returns-in-Err-clause-unflushed g c = search rules
