use Rattle.std.proofs.Common.{◌+◌, ◌≤◌, ◌^◌, ◌∙◌, ap, arith, rules, sym, Ok}
use Rattle.trace_read.proofs.LineFeeds.{digits_no_feed}
use Rattle.trace_read.proofs.Runs.{run_is, run_one}
use Rattle.trace_read.proofs.lirs.usual_number.Goals as goal

pub returns : goal.returns
returns c =
    let r = c.requires in
    let key = c.in-Some.ensures in
    let fits : c.in-Some.start + 1 ≤ 2 ^ 64 = search rules in
    record {
      end = record {
        runs = r.runs;
        same = r.same;
        behind = r.behind;
        order = r.order;
        within = r.within;
        none = digits_no_feed _ _ _ r.digits;
        feed = key.feed;
      };
      fits = fits;
      few = omega (arith, c.if-room-eq0.false);
      is = key.line ∙ ap Ok (sym (run_one c.in-Some.start)) ∙ sym (run_is c.in-Some.start 1 fits);
    }
