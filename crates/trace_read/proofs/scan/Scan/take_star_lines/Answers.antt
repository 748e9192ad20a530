use Rattle.std.proofs.Common.{◌+◌, arith}
use Rattle.trace_read.proofs.Taken.{at_line, four_taken, star_taken, taken_then}
use Rattle.trace_read.proofs.scan.Scan.take_star_lines.Goals as goal

pub fours-init : goal.fours-init
fours-init c = (omega arith, star_taken c.args.self.now c.args.bytes.now c.args.start c.requires.scan c.requires.format c.requires.partial_line c.requires.within c.requires.star)

pub fours-preserved : goal.fours-preserved
fours-preserved c =
    let i = c.fours.invariant in
    let stars = four_taken (at_line c.args.self.now c.fours.line) c.args.bytes.now c.fours.end i.1.scan c.requires.format i.1.partial_line (omega (arith, c.fours-test.true)) (c.are_four_stars.ensures c.if-are_four_stars.true) in
    (omega (arith, i.0), taken_then c.args.self.now _ _ c.args.bytes.now c.args.start c.fours.end (c.fours.end + 8) i.1 stars)

pub stars-preserved : goal.stars-preserved
stars-preserved c =
    let i = c.stars.invariant in
    let star = star_taken (at_line c.args.self.now c.stars.line) c.args.bytes.now c.stars.end i.1.scan c.requires.format i.1.partial_line (omega (arith, c.stars-test.true)) (c.are_at.ensures c.if-are_at.true) in
    (omega (arith, i.0), taken_then c.args.self.now _ _ c.args.bytes.now c.args.start c.stars.end (c.stars.end + 2) i.1 star)
