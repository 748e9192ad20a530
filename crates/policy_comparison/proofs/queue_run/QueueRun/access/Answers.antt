use Rattle.std.proofs.Common.{◌∙◌, ◌+◌, ◌++◌, ◌*◌, ◌-◌, ℕ, suc, None, Option, Some, List, ap, append-nil, arith, refl, subst, sym}
use Rattle.std.specs.Prelude.{slice_index}
use Rattle.sweeps.specs.CurrentInterval.{AreMade, over_with}
use Rattle.sweeps.specs.Intervals.{Interval}
use Rattle.policy_comparison.specs.QueueRows.{queue_rows}
use Rattle.policy_comparison.specs.QueueRun.{AreLeft, HasQueueRows, StandsAt}
use Rattle.policy_comparison.proofs.Ended.{ends-at, none-left, queue-rows-more}
use Rattle.policy_comparison.proofs.LeftKeys.{left-few}
use Rattle.policy_comparison.proofs.queue_run.QueueRun.access.Goals.{In_ok-access_counted}
use Rattle.policy_comparison.proofs.queue_run.QueueRun.access.Goals as goal

pub access_counted-requires-clause-ready : goal.access_counted-requires-clause-ready
access_counted-requires-clause-ready c =
    let some = c.requires.ready in
    record {
      job = c.args.self.now.job;
      trace = some.trace;
      place = some.place;
      next = some.next;
      few = some.few;
      stands = some.has.current.stands;
    }

pub access_counted-requires-clause-few : goal.access_counted-requires-clause-few
access_counted-requires-clause-few c = λ row.
    let some = c.requires.ready in
    let run = c.args.self.now in
    let few = left-few run.job some.trace row (some.has.done * some.every) (some.place - some.has.done * some.every) in
    omega (arith, some.has.left row, few, some.next.within, some.few)

-- the cache made one access more, and the keys are counted that left since the last interval
module _ (c : In_ok-access_counted) (every : ℕ) (trace : List ℕ) (n : ℕ) (next : StandsAt trace n (slice_index c.args.keys.now c.args.i))
    (has : HasQueueRows every trace n c.args.self.now) where
  made : AreMade c.args.self.now.job every trace has.done n (n + 1) c.access_counted.new.cache c.args.self.now.current
  made = record {
    old = c.args.self.now.cache;
    current = has.current;
    fits = omega (arith, has.current.used);
    within = omega (arith, next.within);
    stands = c.in_ok-access_counted.ensures.stands c.args.self.now.job trace n next has.current.stands;
  }

  left : AreLeft c.args.self.now.job trace (has.done * every) (n + 1) c.access_counted.new.left.items
  left = c.in_ok-access_counted.ensures.left c.args.self.now.job trace (has.done * every) n (omega (arith, has.current.place)) next has.current.stands has.left

pub advance-requires : goal.advance-requires
advance-requires c =
    let some = c.requires.ready in
    (some.every, some.trace, some.has.done, some.place, made ((goal.at.advance-requires c).In_ok-access_counted) some.every some.trace some.place some.next some.has)

pub returns-in_ok-push_interval_rows-clause-rows : goal.returns-in_ok-push_interval_rows-clause-rows
returns-in_ok-push_interval_rows-clause-rows c = λ every trace n next has.
    let run = c.args.self.now in
    let before = (goal.at.returns-in_ok-push_interval_rows-clause-rows c).In_ok-access_counted in
    let all = made before every trace n next has in
    let over = c.in-Some.ensures every trace has.done n all in
    let are = subst (AreLeft run.job trace (has.done * every) (n + 1)) (sym c.deref.ensures.value) (left before every trace n next has) in
    record {
      done = suc has.done;
      current = over.current;
      left = none-left run.job trace (suc has.done * every) (n + 1) c.clear.new.self.items (omega (arith, all.fits, has.current.place)) c.clear.ensures.items;
      rows = queue-rows-more run.job trace over (Some c.in-Some.over) run.rows.items c.push_interval_rows.new.text.items refl has.rows
          (c.in_ok-push_interval_rows.ensures run.job trace
          (ends-at run.job every trace has.done (n + 1) c.in-Some.over c.deref.result.now c.access_counted.new.cache over.over all.within all.stands are)
          ∙ ap (λ (l : List ℕ). run.rows.items ++ l) (sym (append-nil (queue_rows run.job trace c.in-Some.over))));
    }

pub returns-in_default-clause-rows : goal.returns-in_default-clause-rows
returns-in_default-clause-rows c = λ every trace n next has.
    let run = c.args.self.now in
    let before = (goal.at.returns-in_default-clause-rows c).In_ok-access_counted in
    let all = made before every trace n next has in
    let over = c.advance.ensures every trace has.done n all in
    record {
      done = over_with has.done c.advance.result;
      current = over.current;
      left = subst (λ (o : Option Interval). AreLeft run.job trace (over_with has.done o * every) (n + 1) c.access_counted.new.left.items)
          (sym c.in_default.is) (left before every trace n next has);
      rows = queue-rows-more run.job trace over None run.rows.items run.rows.items c.in_default.is has.rows (sym (append-nil run.rows.items));
    }
