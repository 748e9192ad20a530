use Rattle.std.proofs.Common.{rules, take_all, ◌≡◌, ◌∙◌, ◌+◌, ◌++◌, Ok, ap, arith, length, length-append, take, sym}
use Rattle.std.specs.Prelude.{IfSome}
use Rattle.trace_read.proofs.Nexts.{ended, failed, gave_up, kept_on}
use Rattle.trace_read.proofs.Readings.{always, both}
use Rattle.trace_read.specs.TraceText.{keys_in}
use Rattle.trace_read.proofs.reader.read_trace_within.Goals as goal

pub pieces-init : goal.pieces-init
pieces-init g c =
    let has = c.new-reading.ensures.new (g.R.CountedRead.remaining c.args.reader.now) (g.R.CountedRead.tally c.args.reader.now) in
    let none = c.new-all.ensures.items in
    record {
      reading = record { same_limits = has.same_limits; same_format = has.same_format; count = omega (arith, has.count, ap length c.new-all.ensures.items); reading = has.reading };
      kept = always _ (λ b. none ∙ sym (ap (λ l. take (length l) (keys_in c.args.format b)) none));
    }

pub returns-in_err-next : goal.returns-in_err-next
returns-in_err-next g c =
    let handed = c.from_residual in
    let whole = failed c.pieces.invariant.reading c.in_err-next.ensures.next handed.result handed.ensures.1 in
    record { ok = search rules; read = whole.read; tally = whole.tally }

pub returns-in_err-extend_from_slice : goal.returns-in_err-extend_from_slice
returns-in_err-extend_from_slice g c =
    let next = c.in_ok-next.ensures.next _ _ _ _ _ c.pieces.invariant.reading in
    let handed = c.from_residual-in_err-extend_from_slice in
    let whole = gave_up next.goes_on handed.result handed.ensures.1 in
    record { ok = search rules; read = whole.read; tally = whole.tally }

pub pieces-preserved : goal.pieces-preserved
pieces-preserved g c =
    let i = c.pieces.invariant in
    let next = c.in_ok-next.ensures.next _ _ _ _ _ i.reading in
    let keys = c.next.new.keys.items in
    let all = c.extend_from_slice.new.self.items in
    let on = next.goes_on in
    let is : all ≡ c.pieces.all.items ++ keys = c.in_ok-extend_from_slice.ensures.items ∙ ap (λ l. c.pieces.all.items ++ l) c.as_slice.ensures.value in
    let len : length all ≡ length c.pieces.all.items + length keys = ap length is ∙ length-append c.pieces.all.items keys in
    record {
      reading = record { same_limits = on.same_limits; same_format = on.same_format; count = omega (arith, on.count, len); reading = on.reading };
      kept = kept_on _ c.args.format 0 _ c.pieces.all.items keys all (omega arith) is i.kept next.gives.next;
    }

pub new-requires : goal.new-requires
new-requires g c = omega (arith, (c.in_ok-next.ensures.next _ _ _ _ _ c.pieces.invariant.reading).few, c.requires.accesses)

pub returns : goal.returns
returns g c =
    let i = c.pieces.invariant in
    let next = c.in_ok-next.ensures.next _ _ _ _ _ i.reading in
    let read = ended c.new.result _ c.if-branch.false next in
    let none = ap length (next.none (ap Ok c.if-branch.false)) in
    let first = g.R.CountedRead.remaining c.args.reader.now in
    let all : IfSome first (λ b. c.pieces.all.items ≡ keys_in c.args.format b) =
    both first (next.gives.last c.if-branch.false) i.kept (λ b l k.
    k ∙ take_all (length c.pieces.all.items) (keys_in c.args.format b) (omega (arith, l, none))) in
    record {
      ok = both first read.read.ok all (λ b r k. (r.0, r.1, c.new.ensures ∙ k));
      read = read.read;
      tally = read.tally;
    }
