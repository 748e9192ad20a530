use Rattle.sweeps.proofs.prepared_trace.PreparedTrace.of.Goals as goal

pub invariant_of-result : goal.invariant_of-result
invariant_of-result c = record {
  known = c.in_ok-uses.ensures.uses;
  noted = c.in_ok-reuses.ensures.reuses;
  found = c.in_ok-curve.ensures.curve;
  numbered = c.in_ok-numbers.ensures.numbers;
}
