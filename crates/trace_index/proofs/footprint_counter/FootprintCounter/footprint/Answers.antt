use Rattle.trace_index.proofs.footprint_counter.FootprintCounter.footprint.Goals as goal

pub returns : goal.returns
returns c = λ done has. has.counts
