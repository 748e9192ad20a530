use Rattle.std.proofs.Common.{arith, sym, ap, ◌∙◌, ◌++◌}
use Rattle.std.proofs.lemmas.Grind.{common_steps}
use Rattle.std.proofs.lemmas.List.{append-nil}
use Rattle.trace_read.proofs.Runs.{run_more, run_none}
use Rattle.trace_read.proofs.arc.push_reserved_run.Goals as goal

pub loop-i-init : goal.loop-i-init
loop-i-init c = record {
  items = sym (ap (λ ks. c.args.keys.now.items ++ ks) (run_none c.args.start) ∙ append-nil c.args.keys.now.items);
  room = omega (arith, c.requires.room);
  len = omega arith;
}

pub loop-i-preserved : goal.loop-i-preserved
loop-i-preserved c = record {
  items = rw (run_more c.args.start c.loop-i.i) (grind (arith, common_steps));
  room = omega (arith, c.push_reserved.ensures.len, c.push_reserved.ensures.capacity, c.loop-i.invariant.room);
  len = omega (arith, c.push_reserved.ensures.len, c.loop-i.invariant.len);
}
