use Rattle.std.proofs.Common.{◌∙◌, ◌+◌, ◌++◌, ℕ, List, length, take, ap, arith}
use Rattle.std.specs.Option.{option_to_list}
use Rattle.sweeps.specs.CurrentInterval.{AreMade, over_with}
use Rattle.sweeps.specs.Intervals.{Interval}
use Rattle.sweeps.specs.JobRuns.{HasRun}
use Rattle.sweeps.specs.Taking.{AreNext}
use Rattle.sweeps.proofs.Cuts.{over-more, slice-is}
use Rattle.sweeps.proofs.Next.{made, ready}
use Rattle.sweeps.proofs.job_run.JobRun.make_piece.Goals.{In_ok-access_all}
use Rattle.sweeps.proofs.job_run.JobRun.make_piece.Goals as goal

pub access_all-requires : goal.access_all-requires
access_all-requires c =
    let n = c.requires.next.1 in
    ready c.args.self.now.job n.trace c.args.piece.now n.place c.args.self.now.cache n.next n.few n.taken.current.stands

-- the accesses were made of the interval that is not over
all-made : (c : In_ok-access_all) (every : ℕ) (trace : List ℕ) (n : ℕ) (next : AreNext trace n c.args.piece.now) (has : HasRun every trace n c.args.self.now)
    → AreMade c.args.self.now.job every trace has.done n (n + length c.args.piece.now) c.access_all.new.cache c.args.self.now.current
all-made c every trace n next has = record {
  old = c.args.self.now.cache;
  current = has.current;
  fits = omega (arith, c.requires.within, has.current.size);
  within = next.within;
  stands = made c.args.self.now.job trace c.args.piece.now n c.access_all.new.cache next
      (c.in_ok-access_all.ensures.all c.args.self.now.job trace (take n trace) has.current.stands);
}

pub advance-over-requires : goal.advance-over-requires
advance-over-requires c =
    let n = c.requires.next.1 in
    (c.requires.next.0, n.trace, n.taken.done, n.place, all-made ((goal.at.advance-over-requires c).In_ok-access_all) c.requires.next.0 n.trace n.place n.next n.taken)

pub returns-clause-made : goal.returns-clause-made
returns-clause-made c = λ every trace n next has.
    let over = c.advance-over.result in
    let all = all-made ((goal.at.returns-clause-made c).In_ok-access_all) every trace n next has in
    let advanced = c.advance-over.ensures every trace has.done n all in
    record {
      done = over_with has.done over;
      current = advanced.current;
      rows = c.in_ok-extend_from_slice.ensures.items
          ∙ ap (λ (l : List Interval). c.args.self.now.rows.items ++ l) (slice-is over c.as_slice.result.now c.as_slice.ensures)
          ∙ ap (λ (l : List Interval). l ++ option_to_list over) has.rows
          ∙ over-more c.args.self.now.job every trace has.done _ over advanced.over;
    }
