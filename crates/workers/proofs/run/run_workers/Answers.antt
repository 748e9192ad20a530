use Rattle.std.proofs.lemmas.Grind.{common_steps, elements}
use Rattle.std.proofs.Common.{arith, ◌≤◌, ◌<◌, map, vec_items, length, sym, ap, subst, ◌∙◌}
use Rattle.std.proofs.lemmas.List.{length-map}
use Rattle.turn_book.specs.declared.book.TheConstants.{MAX_TURNS}
use Rattle.workers.specs.Runs.{IsRunUpTo}
use Rattle.engine_base.specs.History.{data_after}
use Rattle.shell_model.specs.Shell.{act}
use Rattle.shell_model.specs.ReachableShell.{IsReachable}
use Rattle.shell_model.specs.AdmittedSteps.{AdmitsWalks}
use Rattle.shell_model.proofs.Admitting.{shell_admits}
use Rattle.workers.proofs.Collecting.{came_back, every_map, hold_passes, run_up_to}
use Rattle.workers.proofs.Freeing.{run_frees}
use Rattle.workers.proofs.RunResults.{moved_run}
use Rattle.workers.proofs.Turning.{within_first}
use Rattle.workers.proofs.run.run_workers.Goals as goal
use Rattle.workers.proofs.run.run_workers.Goals.{After-sound}

-- the run from the session that was handed in
run-of : (g : _) (c : goal.After-sound g) → IsRunUpTo c.collect_passes-passes.result.1 c.args.session.engine.config.stripes (map (λ p. vec_items p) c.args.pieces.now) c.args.session c.close-session.result
run-of g c =
    let r = came_back _ _ _ _ _ _ c.collect_passes-passes.ensures.passes c.work_all-states.ensures.holds c.work_all-states.ensures.counts.0 in
    let pieces = map (λ p. vec_items p) c.args.pieces.now in
    let stripes = c.stripes-stripes.ensures.stripes ∙ ap (λ x. x.config.stripes) c.engine.ensures.engine in
    let room : length c.close-session.result.kept ≤ c.close-session.result.limit = let sound = c.sound.ensures.room in omega arith in
    moved_run _ _ _ _ _ _ _ stripes c.in-Ok-open.ensures.opens.0
    (run_up_to c.stripes-stripes.result c.collect_passes-passes.result.1 pieces c.in-Ok-open.book.opening c.close-session.result _ c.work_all-states.result.items c.close-session.ensures r.order room c.collect_passes-passes.ensures.passes r.owns
    c.work_all-states.ensures.counts.0 (c.work_all-states.ensures.counts.1 ∙ sym (length-map c.args.pieces.now (λ p. vec_items p)))
    (every_map _ _ _ (λ d h. h.1) c.work_all-states.ensures.holds) c.collect_passes-passes.ensures.cause)

pub returns-in-Ok-open-clause-run : goal.returns-in-Ok-open-clause-run
returns-in-Ok-open-clause-run g c = run-of g (goal.at.returns-in-Ok-open-clause-run g c).After-sound

pub returns-in-Ok-open-clause-free : goal.returns-in-Ok-open-clause-free
returns-in-Ok-open-clause-free g c =
    let shell = c.engine.ensures.engine in
    let stripes = c.stripes-stripes.ensures in
    run_frees _ c.args.session c.close-session.result c.args.session.engine.config.stripes _ (subst (λ n. 1 ≤ n) (stripes.stripes ∙ ap (λ x. x.config.stripes) shell) stripes.range.0) (subst IsReachable shell stripes.reached) c.requires.free
    (ap (λ x. length x.stripes) (sym shell) ∙ stripes.count ∙ stripes.stripes ∙ ap (λ x. x.config.stripes) shell) c.engine.ensures.sound.stands
    (run-of g (goal.at.returns-in-Ok-open-clause-free g c).After-sound) c.sound.ensures.legal c.sound.ensures.stands

pub work_all-states-requires-clause-holds : goal.work_all-states-requires-clause-holds
work_all-states-requires-clause-holds g c κs within =
    let room = c.engine.ensures.sound.room in
    let limit = ap (λ s. s.limit) c.in-Ok-open.ensures.opens.0 in
    let passes = c.assign_passes-states.ensures in
    hold_passes _ _ _ _ 0 passes.passes c.in-Ok-open.ensures.all.0 passes.counts.0 c.in-Ok-open.ensures.own
    (every_map _ _ _ (λ p h. (h.0, within_first _ p c.args.session.kept h.0 h.1 h.2 (omega (arith, room, limit)))) c.in-Ok-open.ensures.fresh)

pub work_all-states-requires-clause-turns : goal.work_all-states-requires-clause-turns
work_all-states-requires-clause-turns g c κs within =
    let limit = ap (λ s. s.limit) c.in-Ok-open.ensures.opens.0 in
    let turns = c.in-Ok-open.ensures.opens.2 in
    let few = c.engine.ensures.sound.countable in
    omega (arith, limit, turns, few)

pub work_all-states-requires-clause-admits : goal.work_all-states-requires-clause-admits
work_all-states-requires-clause-admits g c κs within = λ w.
    let free = ap (λ x. x.holder) c.engine.ensures.engine ∙ c.requires.free in
    let stood = c.engine.ensures.engine ∙ c.engine.ensures.sound.stands ∙ ap (λ s. data_after act s.opening s.kept) (sym c.in-Ok-open.ensures.opens.0) in
    subst (λ y. AdmitsWalks act (λ z. z.applied) w c.stripes-stripes.result y) stood
    (shell_admits c.engine.result.now w c.stripes-stripes.result c.stripes-stripes.ensures.range.0 c.stripes-stripes.ensures.reached free c.stripes-stripes.ensures.count)

pub work_all-states-requires-clause-counts : goal.work_all-states-requires-clause-counts
work_all-states-requires-clause-counts g c = grind (arith, common_steps)

pub collect_passes-passes-requires-clause-holds : goal.collect_passes-passes-requires-clause-holds
collect_passes-passes-requires-clause-holds g c = grind (arith, elements)

pub close-session-requires-clause-own : goal.close-session-requires-clause-own
close-session-requires-clause-own g c =
    (came_back _ _ _ _ _ _ c.collect_passes-passes.ensures.passes c.work_all-states.ensures.holds c.work_all-states.ensures.counts.0).books

pub close-session-requires-clause-all : goal.close-session-requires-clause-all
close-session-requires-clause-all g c =
    let r = came_back _ _ _ _ _ _ c.collect_passes-passes.ensures.passes c.work_all-states.ensures.holds c.work_all-states.ensures.counts.0 in
    let same = r.same in
    let many = c.work_all-states.ensures.counts.1 in
    let few = c.requires.few in
    let pieces = length-map c.args.pieces.now (λ p. vec_items p) in
    let workers = c.in-Ok-open.ensures.opens.1 in
    (r.order, omega arith)

pub close-session-requires-clause-some : goal.close-session-requires-clause-some
close-session-requires-clause-some g c =
    let same = (came_back _ _ _ _ _ _ c.collect_passes-passes.ensures.passes c.work_all-states.ensures.holds c.work_all-states.ensures.counts.0).same in
    let many = c.work_all-states.ensures.counts.1 in
    let some = c.requires.some in
    let pieces = length-map c.args.pieces.now (λ p. vec_items p) in
    let ok = c.collect_passes-passes.result.0.ok.0 in
    omega arith

pub unreachable-requires : goal.unreachable-requires
unreachable-requires g c =
    let pieces = length-map c.args.pieces.now (λ p. vec_items p) in
    let least = c.requires.some in
    let few = c.requires.few in
    let some : 1 ≤ length c.args.pieces.now = omega (arith, pieces, least) in
    let many = (rw c.in-Err-Workers.field-0-is at c.in-Err-Workers.ensures.cause) some in
    absurd (omega (arith, pieces, few, many))

pub unreachable-requires-in-Err-Turns : goal.unreachable-requires-in-Err-Turns
unreachable-requires-in-Err-Turns g c =
    let cause = rw c.in-Err-Turns.field-0-is at c.in-Err-Turns.ensures.cause in
    let much : MAX_TURNS < MAX_TURNS = cause.2 (omega arith) in
    absurd (omega (much, arith))
