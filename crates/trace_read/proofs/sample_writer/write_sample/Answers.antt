use Rattle.std.proofs.Common.{◌≡◌, ◌∙◌, ◌+◌, length, ap, subst, refl, arith}
use Rattle.std.proofs.lemmas.Option.{IfSome_then}
use Rattle.std.specs.Prelude.{IfSome}
use Rattle.streams.proofs.Tallies.{further, later, unspent}
use Rattle.streams.specs.declared.retry_budget.TheConstants.{INTERRUPTIONS}
use Rattle.trace_read.specs.TraceText.{keys_in}
use Rattle.trace_read.proofs.Readings.{always, both, fails_as, spent_only}
use Rattle.trace_read.proofs.Ended.{fault_at, kept_more}
use Rattle.trace_read.proofs.Sampled.{IsSampled, nothing_sampled, sampled_all, sampled_counts, sampled_on, sampled_part, sampled_so_far}
use Rattle.trace_read.proofs.sample_writer.write_sample.Goals as goal
use Rattle.trace_read.proofs.sample_writer.write_sample.Goals.{After-pass_on}

pub pieces-init : goal.pieces-init
pieces-init g c = record {
  reading = c.new-reading.ensures.new (g.R.CountedRead.remaining c.args.reader.now) (g.R.CountedRead.tally c.args.reader.now);
  rule = c.new-sample.ensures.rule;
  few = omega (arith, c.new-sample.ensures.none.accesses);
  sampled = always _ (λ b. nothing_sampled _ _ c.new-sample.result _ _ c.new-sample.ensures.none);
  spent = rw c.new-budget.ensures (unspent _ _);
}

-- the clauses of an error
failed : {A B C D : Type 0} → A → B → C → D
    → record { sound : Unit {0}; text : Unit {0}; counts : Unit {0}; end : Unit {0}; flushed : Unit {0}; part : A; fault : B; reads : C; writes : D }
failed part fault reads writes = record { sound = tt; text = tt; counts = tt; end = tt; flushed = tt; part = part; fault = fault; reads = reads; writes = writes }

pub returns-in-Err : goal.returns-in-Err
returns-in-Err g c =
    let i = c.pieces.invariant in
    let next = c.in-Err.ensures.next _ _ _ _ _ i.reading in
    failed (IfSome_then _ i.sampled (λ b s. sampled_so_far _ _ c.pieces.accesses _ c.pieces.sample _ _ s))
    (fault_at _ _ _ c.in-Err.fault (next.end (λ q. absurd (cc q))))
    (fails_as (λ q. cc q) (λ q. cc q) next.tally) (spent_only c.pieces.budget (λ q. absurd (cc q)) i.spent)

pub returns-in-Err-add : goal.returns-in-Err-add
returns-in-Err-add g c =
    let i = c.pieces.invariant in
    let next = c.in-Ok.ensures.next _ _ _ _ _ i.reading in
    failed (IfSome_then _ i.sampled (λ b s. sampled_so_far _ _ c.pieces.accesses _ c.pieces.sample _ _ s)) tt
    (fails_as (λ q. absurd (cc q)) (λ q. absurd (cc q)) next.tally) (spent_only c.pieces.budget (λ q. absurd (cc q)) i.spent)

-- the accesses of the piece were kept
kept : (g : _) (c : goal.After-pass_on g) → IfSome (g.R.CountedRead.remaining c.args.reader.now) (λ bytes. IsSampled c.args.rule.inverse c.args.rule.seed
    (c.pieces.accesses + length c.next.new.keys.items) c.add.new.self (g.W.CountedWrite.contents c.args.writer.now) (g.W.CountedWrite.contents c.pieces.writer) (keys_in c.args.format bytes))
kept g c = kept_more c.args.rule _ _ _ _ _ _ _ _ _ _ (c.in-Ok.ensures.next _ _ _ _ _ c.pieces.invariant.reading).gives c.pieces.invariant.rule c.as_slice.ensures.value c.in_default.ensures.kept c.pieces.invariant.sampled

pub returns-in-Err-pass_on : goal.returns-in-Err-pass_on
returns-in-Err-pass_on g c =
    let i = c.pieces.invariant in
    let next = c.in-Ok.ensures.next _ _ _ _ _ i.reading in
    let at = (goal.at.returns-in-Err-pass_on g c).After-pass_on in
    let pass = c.in-Err-pass_on.ensures in
    failed (IfSome_then _ (kept g at) (λ b s. sampled_part _ _ _ _ c.add.new.self _ _ _ pass.part s)) tt
    (fails_as (λ q. absurd (cc q)) (λ q. absurd (cc q)) next.tally)
    (record { failing = λ q. later INTERRUPTIONS c.pieces.budget _ _ _ i.spent pass.exhausted; served = λ q. absurd (q refl) })

pub returns-then-not-more : goal.returns-then-not-more
returns-then-not-more g c =
    let i = c.pieces.invariant in
    let next = c.in-Ok.ensures.next _ _ _ _ _ i.reading in
    let at = (goal.at.returns-then-not-more g c).After-pass_on in
    let last = next.gives.last c.if-not-more.true in
    let read = next.end (λ q. absurd (cc (q, c.if-not-more.true))) in
    let len : c.len.result ≡ length c.next.new.keys.items = c.len.ensures ∙ c.next.new.keys.ok.0 in
    let on = IfSome_then _ (kept g at) (λ b s. sampled_on _ _ _ _ c.add.new.self c.pass_on.new.sample _ _ _ c.pass_on.ensures.same.1 c.pass_on.ensures.same.2 c.in_default-pass_on.ensures.written s) in
    record {
      sound = read.ok;
      text = both _ on last (λ b s l. sampled_all _ _ _ _ c.pass_on.new.sample _ _ l (c.in_default-pass_on.ensures.none c.if-not-more.true) s);
      counts = both _ on last (λ b s l. sampled_counts _ _ _ _ c.pass_on.new.sample _ _ c.counts.result l
          (c.counts.ensures.accesses.0 ∙ ap (λ n. c.pieces.accesses + n) len, c.counts.ensures.accesses.1) c.counts.ensures.blocks s);
      end = read.end;
      flushed = c.in_default-pass_on.ensures.flushed c.if-not-more.true;
      part = tt;
      fault = tt;
      reads = fails_as (λ q. absurd (cc q)) (λ q. absurd (cc q)) next.tally;
      writes = spent_only c.pass_on.new.budget (λ q. absurd (cc q)) (further _ _ _ _ _ _ i.spent c.in_default-pass_on.ensures.spent);
    }

pub pieces-preserved : goal.pieces-preserved
pieces-preserved g c =
    let i = c.pieces.invariant in
    let next = c.in-Ok.ensures.next _ _ _ _ _ i.reading in
    let same = c.pass_on.ensures.same in
    let len : c.len.result ≡ length c.next.new.keys.items = c.len.ensures ∙ c.next.new.keys.ok.0 in
    let on = next.goes_on in
    let count : c.pieces.accesses + length c.next.new.keys.items ≡ c.pieces.accesses + c.len.result = omega (arith, len) in
    record {
      reading = record { same_limits = on.same_limits; same_format = on.same_format; count = on.count ∙ count; reading = on.reading };
      rule = ap (λ t. t.rule) same.0 ∙ c.add.ensures.rule ∙ i.rule;
      few = omega (arith, same.2, c.add.ensures.few, i.few, len, ap length c.as_slice.ensures.value);
      sampled = IfSome_then _ (kept g (goal.at.pieces-preserved g c).After-pass_on) (λ b s. subst (λ n. IsSampled c.args.rule.inverse c.args.rule.seed n c.pass_on.new.sample
          (g.W.CountedWrite.contents c.args.writer.now) (g.W.CountedWrite.contents c.pass_on.new.writer) (keys_in c.args.format b)) count
          (sampled_on _ _ _ _ c.add.new.self c.pass_on.new.sample _ _ _ same.1 same.2 c.in_default-pass_on.ensures.written s));
      spent = further _ _ _ _ _ _ i.spent c.in_default-pass_on.ensures.spent;
    }
