use Rattle.std.proofs.Common.{◌+◌, length, arith}
use Rattle.engine_base.specs.declared.limits.TheConstants.{MAX_BATCH}
use Rattle.demand_cache.proofs.Accesses.{room-for-piece, piece-made}
use Rattle.sweeps.proofs.Cut.{next, more}
use Rattle.sweeps.proofs.numbered_report.access_in_batches.Goals as goal

pub access_all-requires : goal.access_all-requires
access_all-requires g c =
    let i = c.loop-number.invariant in
    let numbers = c.args.numbers.now in
    let comes = next MAX_BATCH numbers c.loop-number.number c.loop-number.rest.now i.done i.cut c.min.result c.split_at.result.0.now c.min.ensures c.split_at.ensures.front in
    room-for-piece numbers c.split_at.result.0.now i.done (length c.split_at.result.0.now) c.args.cache.now c.loop-number.cache i.made comes.piece
    c.requires (omega (arith, comes.within)) comes.within

pub loop-number-preserved : goal.loop-number-preserved
loop-number-preserved g c =
    let i = c.loop-number.invariant in
    let numbers = c.args.numbers.now in
    let piece = c.split_at.result.0.now in
    let comes = next MAX_BATCH numbers c.loop-number.number c.loop-number.rest.now i.done i.cut c.min.result piece c.min.ensures c.split_at.ensures.front in
    record {
      done = i.done + length piece;
      cut = more MAX_BATCH numbers c.loop-number.number c.loop-number.rest.now i.done i.cut c.min.result piece c.split_at.result.1.now c.min.ensures c.split_at.ensures.front c.split_at.ensures.back;
      made = piece-made numbers piece i.done (length piece) c.args.cache.now c.loop-number.cache i.made comes.piece c.access_all.new.self c.in_ok-access_all.ensures.all;
    }
