use Rattle.std.proofs.Common.{◌≡◌, ◌∙◌, ◌+◌, ◌-◌, ℕ, length, take, drop, refl, subst, arith, length-drop, length-take}
use Rattle.sweeps.specs.JobRuns.{HasRun}
use Rattle.sweeps.proofs.Next.{piece-next}
use Rattle.sweeps.proofs.job_run.JobRunRun.make.Goals as goal

pub pieces-init : goal.pieces-init
pieces-init c = (
  omega arith,
  refl,
  λ every trace n next has. let none : n ≡ n + 0 = omega arith in subst (λ (m : ℕ). HasRun every trace m c.args.self.now) none has,
)

pub room-requires : goal.room-requires
room-requires c =
    let n = c.requires.1 in
    let has = c.pieces.invariant.2 c.requires.0 n.trace n.place n.next n.taken in
    omega (arith, has.current.used, has.current.size)

pub make_piece-requires : goal.make_piece-requires
make_piece-requires c =
    let n = c.requires.1 in
    let at = c.pieces.at in
    let has = c.pieces.invariant.2 c.requires.0 n.trace n.place n.next n.taken in
    let rest = length-drop at c.args.keys.now in
    let size = length-take (at + c.min.result - at) (drop at c.args.keys.now) in
    record {
      next = (
        c.requires.0,
        record {
          trace = n.trace;
          place = n.place + at;
          next = piece-next n.trace c.args.keys.now _ n.place at (at + c.min.result - at) n.next refl (omega (arith, c.min.ensures, c.pieces-test.true));
          few = n.few;
          taken = has;
        },
      );
      within = omega (arith, c.min.ensures, c.room.ensures, has.current.used, has.current.size, rest, size);
    }

pub pieces-smaller : goal.pieces-smaller
pieces-smaller c =
    let n = c.requires.1 in
    let has = c.pieces.invariant.2 c.requires.0 n.trace n.place n.next n.taken in
    omega (arith, c.min.ensures, c.room.ensures, c.pieces-test.true, has.current.used, has.current.size)

pub pieces-preserved : goal.pieces-preserved
pieces-preserved c =
    let at = c.pieces.at in
    let rest = length-drop at c.args.keys.now in
    let size = length-take (at + c.min.result - at) (drop at c.args.keys.now) in (
      omega (arith, c.min.ensures, c.pieces-test.true),
      c.make_piece.ensures.job ∙ c.pieces.invariant.1,
      λ every trace n next has.
          let piece = piece-next trace c.args.keys.now _ n at (at + c.min.result - at) next refl (omega (arith, c.min.ensures, c.pieces-test.true)) in
          let end : n + at + length (take (at + c.min.result - at) (drop at c.args.keys.now)) ≡ n + (at + c.min.result) =
          omega (arith, c.min.ensures, c.pieces-test.true, rest, size) in
          subst (λ (m : ℕ). HasRun every trace m c.make_piece.new.self) end (c.in_ok-make_piece.ensures.made every trace (n + at) piece (c.pieces.invariant.2 every trace n next has)),
    )

pub returns-clause-made : goal.returns-clause-made
returns-clause-made c = λ every trace n next has.
    let all : c.pieces.at ≡ length c.args.keys.now = omega (arith, c.pieces.invariant.0, c.pieces-test.false) in
    subst (λ (m : ℕ). HasRun every trace (n + m) c.pieces.self) all (c.pieces.invariant.2 every trace n next has)
