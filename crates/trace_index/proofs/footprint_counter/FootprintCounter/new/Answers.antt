use Rattle.std.proofs.Common.{◌%◌, ◌==◌, ap, refl}
use Rattle.std.specs.Prelude.{option_map}
use Rattle.trace_index.specs.Footprint.{footprint_of}
use Rattle.trace_index.proofs.footprint_counter.FootprintCounter.new.Goals as goal

pub returns : goal.returns
unfolding footprint_of
returns c = record { counts = refl; marks = λ block. ap (option_map (λ place. place % 2 == 1)) (c.new.ensures block) }
