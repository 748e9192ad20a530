use Rattle.std.proofs.Common.{◌∙◌, ◌++◌, ◌*◌, ℕ, None, Some, List, length, ap, append-nil, refl, subst, sym}
use Rattle.policy_comparison.specs.QueueRows.{queue_rows}
use Rattle.policy_comparison.specs.QueueRun.{AreLeft}
use Rattle.policy_comparison.proofs.Ended.{ends-at, queue-rows-all}
use Rattle.policy_comparison.proofs.queue_run.QueueRun.push_rows.Goals as goal

pub last-requires : goal.last-requires
last-requires c =
    let (every, all) = c.requires in (every, all.trace, all.taken.done, all.taken.current)

pub returns-in_ok-push_interval_rows : goal.returns-in_ok-push_interval_rows
returns-in_ok-push_interval_rows c = λ every trace has.
    let run = c.args.self.now in
    let text : List ℕ = c.extend_from_slice.new.self.items in
    let is = c.in-Some.ensures every trace has.done has.current in
    let are = subst (AreLeft run.job trace (has.done * every) (length trace)) (sym c.deref.ensures.value) has.left in
    c.in_ok-push_interval_rows.ensures run.job trace
    (ends-at run.job every trace has.done (length trace) c.in-Some.last c.deref.result.now run.cache is.0 has.current.within has.current.stands are)
    ∙ ap (λ (l : List ℕ). text ++ l) (sym (append-nil (queue_rows run.job trace c.in-Some.last)))
    ∙ queue-rows-all run.job trace every has.done (Some c.in-Some.last) (Some c.in-Some.last) c.args.text.now.items run.rows.items text is.1 refl has.rows
    (c.in_ok-extend_from_slice.ensures.items ∙ ap (λ (l : List ℕ). c.args.text.now.items ++ l) c.as_slice.ensures.value)

pub returns-in_default : goal.returns-in_default
returns-in_default c = λ every trace has.
    let run = c.args.self.now in
    let text : List ℕ = c.extend_from_slice.new.self.items in
    let is = c.last.ensures every trace has.done has.current in
    sym (append-nil text)
    ∙ queue-rows-all run.job trace every has.done c.last.result None c.args.text.now.items run.rows.items text is.1 c.in_default.is has.rows
    (c.in_ok-extend_from_slice.ensures.items ∙ ap (λ (l : List ℕ). c.args.text.now.items ++ l) c.as_slice.ensures.value)
