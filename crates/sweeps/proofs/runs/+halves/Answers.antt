use Rattle.std.proofs.Common.{◌∙◌, ap, map, sym}
use Rattle.sweeps.proofs.Halves.{back, front, on-success, part, whole}
use Rattle.sweeps.proofs.runs.+halves.Goals as goal

pub make_each-make_halves-requires-clause-front : goal.make_each-make_halves-requires-clause-front
make_each-make_halves-requires-clause-front g t c κs within =
    let some = c.requires in
    let cut = c.split_at_mut-front in
    record {
      task = part g.R.Run.job_of g.R.Run.has_run some.task cut.result.0.now;
      can = record {
        trace = some.can.trace;
        place = some.can.place;
        next = some.can.next;
        few = some.can.few;
        taken = front g.R.Run.job_of g.R.Run.has_run some.task some.can.trace some.can.place _ c.args.runs.now cut.result.0.now cut.ensures.front some.can.taken;
      };
    }

pub make_each-make_halves-requires-clause-back : goal.make_each-make_halves-requires-clause-back
make_each-make_halves-requires-clause-back g t c κs within =
    let some = c.requires in
    let cut = c.split_at_mut-front in
    record {
      task = part g.R.Run.job_of g.R.Run.has_run some.task cut.result.1.now;
      can = record {
        trace = some.can.trace;
        place = some.can.place;
        next = some.can.next;
        few = some.can.few;
        taken = back g.R.Run.job_of g.R.Run.has_run some.task some.can.trace some.can.place _ c.args.runs.now cut.result.1.now cut.ensures.back some.can.taken;
      };
    }

pub make_each-returns : goal.make_each-returns
make_each-returns g t c = λ task trace n next have.
    let cut = c.split_at_mut-front in
    let job_of = g.R.Run.job_of in
    let has_run = g.R.Run.has_run in
    whole job_of has_run c.make_halves.result task trace _ cut.result.0.now cut.result.1.now c.make_halves.new.front c.make_halves.new.back
    (ap (map job_of) (sym cut.ensures.value) ∙ have.jobs)
    (c.make_halves.ensures.front (part job_of has_run task cut.result.0.now) trace n next (front job_of has_run task trace n _ c.args.runs.now cut.result.0.now cut.ensures.front have))
    (c.make_halves.ensures.back (part job_of has_run task cut.result.1.now) trace n next (back job_of has_run task trace n _ c.args.runs.now cut.result.1.now cut.ensures.back have))

pub make_halves-returns-then-halvings-eq0-clause-front : goal.make_halves-returns-then-halvings-eq0-clause-front
make_halves-returns-then-halvings-eq0-clause-front g t c = λ task trace n next have.
    on-success c.make_each-then-halvings-eq0.result (c.in_ok-make_each.ensures task trace n next have)
