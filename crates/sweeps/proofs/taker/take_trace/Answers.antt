use Rattle.std.proofs.Common.{◌≡◌, ◌+◌, ℕ, length, subst, arith}
use Rattle.std.specs.Int.{div_ceil}
use Rattle.sweeps.specs.declared.taker.TheConstants.{AT_A_TIME}
use Rattle.sweeps.proofs.Cut.{next, more, whole}
use Rattle.sweeps.proofs.taker.take_trace.Goals as goal

pub loop-number-init : goal.loop-number-init
loop-number-init g c = record {
  done = 0;
  cut = record { place = omega arith; left = c.keys-rest.ensures.keys };
  taken = λ task taken. taken;
}

pub take-requires-clause-next : goal.take-requires-clause-next
take-requires-clause-next g c =
    let i = c.loop-number.invariant in
    let (task, taken) = c.requires in
    record {
      task = task;
      can = record {
        trace = c.args.trace.now;
        place = i.done;
        next = next AT_A_TIME c.args.trace.now c.loop-number.number c.loop-number.rest.now i.done i.cut c.min.result c.split_at.result.0.now c.min.ensures c.split_at.ensures.front;
        few = omega (arith, c.bounded.ensures);
        taken = i.taken task taken;
      };
    }

pub loop-number-preserved : goal.loop-number-preserved
loop-number-preserved g c =
    let i = c.loop-number.invariant in
    let trace = c.args.trace.now in
    let piece = c.split_at.result.0.now in
    let comes = next AT_A_TIME trace c.loop-number.number c.loop-number.rest.now i.done i.cut c.min.result piece c.min.ensures c.split_at.ensures.front in
    record {
      done = i.done + length piece;
      cut = more AT_A_TIME trace c.loop-number.number c.loop-number.rest.now i.done i.cut c.min.result piece c.split_at.result.1.now c.min.ensures c.split_at.ensures.front c.split_at.ensures.back;
      taken = λ task taken. c.in_ok-take.ensures task trace i.done comes (i.taken task taken);
    }

pub returns : goal.returns
returns g c =
    let i = c.loop-number.invariant in
    let trace = c.args.trace.now in
    let all : div_ceil (length trace) AT_A_TIME ≡ c.loop-number.number =
    omega (arith, c.pieces_of-number-end.ensures, c.loop-number-test.false, c.loop-number.auto.number-end) in
    let done = whole AT_A_TIME trace c.loop-number.number c.loop-number.rest.now i.done i.cut (omega arith) (omega (arith, all)) in
    λ task taken. subst (λ (n : ℕ). g.K.Taker.has_taken task trace n c.loop-number.taker) done (i.taken task taken)
