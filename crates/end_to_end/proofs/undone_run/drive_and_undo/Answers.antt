use Rattle.std.proofs.Common.{Option, Some, None, map, subst, sym, vec_items}
use Rattle.workers.specs.DriveFaults.{LeavesFault}
use Rattle.end_to_end.specs.UndoneRun.{Cause, IsRewound}
use Rattle.end_to_end.proofs.Rewinding.{rewound, whole_up_to}
use Rattle.end_to_end.proofs.undone_run.drive_and_undo.Goals as goal

pub returns-in-Ok-clause-rewound : goal.returns-in-Ok-clause-rewound
returns-in-Ok-clause-rewound g c =
    let u = c.undo.ensures in
    let r = c.undo.result in
    let n = c.args.session.engine.config.stripes in
    let pieces = map (λ p. vec_items p) c.args.pieces.items in
    let s = c.in-Ok.driven.session in
    let whole = rewound n c.args.k pieces None r.undone c.args.session s r.session (whole_up_to n pieces c.args.session s c.in-Ok.ensures.run) c.in-Ok.ensures.legal u.opening u.left u.redo u.state u.past u.fewer in
    subst (λ (o : Option Cause). IsRewound n c.args.k pieces o r.undone c.args.session r.session) (sym u.cause) whole

pub returns-in-Err-Stopped-clause-rewound : goal.returns-in-Err-Stopped-clause-rewound
returns-in-Err-Stopped-clause-rewound g c =
    let u = c.undo-in-Err-Stopped.ensures in
    let r = c.undo-in-Err-Stopped.result in
    let n = c.args.session.engine.config.stripes in
    let pieces = map (λ p. vec_items p) c.args.pieces.items in
    let s = c.in-Err-Stopped.driven.session in
    let left = subst (λ f. LeavesFault f pieces c.args.session) c.in-Err-Stopped.field-0-is c.in-Err-Stopped.ensures.fault in
    let whole = rewound n c.args.k pieces (Some c.in-Err-Stopped.cause) r.undone c.args.session s r.session left.2 left.1 u.opening u.left u.redo u.state u.past u.fewer in
    subst (λ (o : Option Cause). IsRewound n c.args.k pieces o r.undone c.args.session r.session) (sym u.cause) whole
