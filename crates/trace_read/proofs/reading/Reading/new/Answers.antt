use Rattle.std.proofs.Common.{arith, refl, rules, subst, sym}
use Rattle.streams.proofs.Tallies.{unspent}
use Rattle.streams.specs.Tally.{Spends}
use Rattle.streams.specs.declared.retry_budget.TheConstants.{INTERRUPTIONS}
use Rattle.trace_read.proofs.Readings.{begun}
use Rattle.trace_read.proofs.reading.Reading.new.Goals as goal

pub returns-clause-new : goal.returns-clause-new
returns-clause-new c = λ bytes tally. record {
  same_limits = refl;
  same_format = refl;
  count = omega (arith, c.new.ensures.handed_on);
  reading = record {
    scan = c.new.ensures.scan;
    none = c.new.ensures.none;
    pending = omega (arith, c.none.ensures.count);
    place = (omega arith, omega arith);
    lines = omega (arith, c.new.ensures.line, c.new-2.ensures.room);
    room = omega (arith, c.new-2.ensures.room);
    bytes = c.requires;
    accesses = search rules;
    limit = c.new.ensures.limit;
    since = begun c.args.limits c.args.format c.new.result c.none.result c.new-2.result.room bytes c.new-2.ensures.room c.new.ensures.handed_on c.none.ensures.keys c.new.ensures.fault c.new.ensures.keys;
    spent = subst (λ n. Spends INTERRUPTIONS n tally tally) (sym c.new-2.ensures.budget) (unspent INTERRUPTIONS tally);
    ended = λ e. absurd (cc e);
  };
}
