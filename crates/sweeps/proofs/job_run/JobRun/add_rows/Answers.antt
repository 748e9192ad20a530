use Rattle.std.proofs.Common.{◌∙◌, ◌++◌, List, ap, append_assoc, sym}
use Rattle.std.specs.Option.{option_to_list}
use Rattle.sweeps.specs.Intervals.{Interval}
use Rattle.sweeps.proofs.Cuts.{slice-is}
use Rattle.sweeps.proofs.job_run.JobRun.add_rows.Goals as goal

pub last-last-requires : goal.last-last-requires
last-last-requires c = let (every, all) = c.requires in (every, all.trace, all.taken.done, all.taken.current)

pub returns : goal.returns
returns c = λ every trace has.
    let old : List Interval = c.args.rows.now.items in
    let last : List Interval = option_to_list c.last-last.result in
    c.in_ok-extend_from_slice-2.ensures.items
    ∙ ap (λ (l : List Interval). c.extend_from_slice.new.self.items ++ l) (slice-is c.last-last.result c.as_slice-2.result.now c.as_slice-2.ensures)
    ∙ ap (λ (l : List Interval). l ++ last)
    (c.in_ok-extend_from_slice.ensures.items ∙ ap (λ (l : List Interval). old ++ l) (c.as_slice.ensures.value ∙ has.rows))
    ∙ append_assoc old _ last
    ∙ ap (λ (l : List Interval). old ++ l) (sym (c.last-last.ensures every trace has.done has.current).1)
