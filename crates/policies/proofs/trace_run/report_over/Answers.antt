use Rattle.std.proofs.Common.{[], ◌∙◌, sym, append-nil, subst, arith}
use Rattle.policies.specs.AnyPolicy.{HasAccessed}
use Rattle.policies.proofs.trace_run.report_over.Goals as goal

pub access_in_batches-made-requires : goal.access_in_batches-made-requires
access_in_batches-made-requires g c = (
  c.type_bounds.sync-G,
  record {
    job = c.args.job.now;
    trace = c.args.trace.now;
    before = [];
    rest = [];
    stands = c.in_ok-cache.ensures;
    ahead = sym (append-nil _ ∙ c.keys.ensures.keys);
    few = omega (arith, c.keys.ensures.few);
  },
)

pub returns : goal.returns
returns g c =
    let trace = c.args.trace.now in
    let e = c.in_ok-made.ensures.all c.args.job.now trace [] c.in_ok-cache.ensures in
    c.report_by-report.ensures trace (subst (λ l. HasAccessed c.args.job.now trace l c.access_in_batches-made.new.cache) c.keys.ensures.keys e)
