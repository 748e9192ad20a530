use Rattle.std.proofs.Common.{◌≡◌, arith, length, length-take, take}
use Rattle.trace_read.proofs.Eights.{bytes_of, fits-take}
use Rattle.trace_read.proofs.OtherBits.{others_are}
use Rattle.trace_read.proofs.digit_runs.others_in.Goals as goal

pub returns : goal.returns
returns c =
    let xs = take 64 c.args.bytes.now in
    let long : length xs ≡ 64 = omega (arith, length-take 64 c.args.bytes.now) in
    others_are xs 64 long (omega arith) (fits-take 256 64 c.args.bytes.now (bytes_of c.args.bytes.now (λ k. (c.type_inv.bytes k).fits)))
