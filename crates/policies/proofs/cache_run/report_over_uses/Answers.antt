use Rattle.std.proofs.Common.{[], ap, ◌∙◌, sym, append-nil, arith}
use Rattle.policies.specs.Reports.{report_on}
use Rattle.policies.proofs.cache_run.report_over_uses.Goals as goal

pub access_all_uses-requires : goal.access_all_uses-requires
access_all_uses-requires c =
    record {
      job = c.args.job.now;
      trace = c.in_ok-uses.uses;
      before = [];
      rest = [];
      stands = c.in_ok-cache.ensures.stands;
      ahead = sym (append-nil c.in_ok-uses.uses);
      few = omega (arith, c.bounded.ensures);
    }

pub returns : goal.returns
returns c =
    c.report_by.ensures c.in_ok-uses.uses (c.in_ok-access_all_uses.ensures.all c.args.job.now c.in_ok-uses.uses [] c.in_ok-cache.ensures.stands)
    ∙ ap (report_on c.args.job.now) c.in_ok-uses.ensures
