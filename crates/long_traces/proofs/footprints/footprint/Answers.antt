use Rattle.std.proofs.Common.{◌≡◌, [], List, ℕ, arith, length, subst, take_all}
use Rattle.std.proofs.lemmas.Option.{IfSome_then}
use Rattle.sweeps.specs.Taking.{Task}
use Rattle.trace_index.specs.FootprintCounter.{HasCounted}
use Rattle.trace_read.specs.TraceText.{keys_in}
use Rattle.long_traces.proofs.footprints.footprint.Goals as goal

-- no jobs
none : Task
none = record { jobs = []; every = 1 }

pub taken_by-requires-clause-begins : goal.taken_by-requires-clause-begins
taken_by-requires-clause-begins g c κs within = (none, λ opened taker made trace over. made)

pub returns-clause-footprint : goal.returns-clause-footprint
returns-clause-footprint g c = IfSome_then (g.R.CountedRead.remaining c.args.reader.now) c.in_ok-counted.ensures.taken (λ b has.
    let all = keys_in c.args.format b in
    c.footprint.ensures all
    (subst (λ (keys : List ℕ). HasCounted keys c.in_ok-counted.counted.counter) (take_all (length all) all (omega arith)) (has none (λ opened taker made trace over. made))))
