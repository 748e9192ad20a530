use Rattle.std.proofs.Common.{◌-◌, ◌*◌, true, false, arith, ap, ◌∙◌}
use Rattle.clairvoyant.specs.declared.optimal_record.OptimalRecord.TheVariants.{Evicted, Rejected}
use Rattle.clairvoyant.proofs.Records.{stands, record-hit, record-kept, record-rejected, record-evicted, tested, hit-tied, kept-tied, rejected-tied, none-out, evicted-tied, least-out}
use Rattle.clairvoyant.proofs.clairvoyant.OptimalCore.serve.Goals as goal

pub returns-then-has-clause-record : goal.returns-then-has-clause-record
returns-then-has-clause-record c =
    record-hit c.args.self.now.capacity c.args.self.now.uses c.args.place
    (tested c.args.self.now.capacity c.args.self.now.uses c.args.place c.requires.place _ c.requires.tied true _ (ap (λ n. 2 * n - 1 - c.args.place) c.len.ensures.len) c.if-has.ensures)

pub returns-then-has-clause-tied : goal.returns-then-has-clause-tied
returns-then-has-clause-tied c =
    hit-tied c.args.self.now.capacity c.args.self.now.uses c.args.place c.requires.place _ _ c.rank-rank.ensures.rank (stands c.args.self.now.capacity c.args.self.now.uses c.args.place _ (returns-then-has-clause-record c)) _ _ _ (ap (λ n. 2 * n - 1 - c.args.place) c.len.ensures.len)
    (record { size = c.take.ensures.size; tests = c.take.ensures.takes }) (record { size = c.put.ensures.size; tests = c.put.ensures.puts }) c.requires.tied

pub returns-then-held-self-clause-record : goal.returns-then-held-self-clause-record
returns-then-held-self-clause-record c =
    let miss = tested c.args.self.now.capacity c.args.self.now.uses c.args.place c.requires.place _ c.requires.tied false _ (ap (λ n. 2 * n - 1 - c.args.place) c.len.ensures.len) c.if-has.ensures in
    record-kept c.args.self.now.capacity c.args.self.now.uses c.args.place miss (omega (arith, c.requires.held))

pub returns-then-held-self-clause-tied : goal.returns-then-held-self-clause-tied
returns-then-held-self-clause-tied c =
    kept-tied c.args.self.now.capacity c.args.self.now.uses c.args.place c.requires.place _ _ c.rank-rank.ensures.rank
    (stands c.args.self.now.capacity c.args.self.now.uses c.args.place _ (returns-then-held-self-clause-record c)) _
    (record { size = c.put-then-held-self.ensures.size; tests = c.put-then-held-self.ensures.puts }) c.requires.tied

pub returns-in-Some-clause-record : goal.returns-in-Some-clause-record
returns-in-Some-clause-record c =
    let miss = tested c.args.self.now.capacity c.args.self.now.uses c.args.place c.requires.place _ c.requires.tied false _ (ap (λ n. 2 * n - 1 - c.args.place) c.len.ensures.len) c.if-has.ensures in
    let e = c.in-Some.ensures in
    let m = c.in-Some.least in
    let out = least-out c.args.self.now.capacity c.args.self.now.uses c.args.place c.requires.place _ c.requires.tied miss _ c.rank-rank.ensures.rank m e.0 e.1 (omega (arith, e.0, c.rank-rank.ensures.within)) e.2 in
    ap (λ k. Evicted record { key = k; rank = m }) c.key_at.ensures
    ∙ record-evicted c.args.self.now.capacity c.args.self.now.uses c.args.place miss (omega (arith, c.requires.held)) _ m out.0 out.1 out.2

pub returns-in-Some-clause-tied : goal.returns-in-Some-clause-tied
returns-in-Some-clause-tied c =
    evicted-tied c.args.self.now.capacity c.args.self.now.uses c.args.place c.requires.place _ _ c.rank-rank.ensures.rank _ (stands c.args.self.now.capacity c.args.self.now.uses c.args.place _ (returns-in-Some-clause-record c)) _ _
    (record { size = c.take-in-Some.ensures.size; tests = c.take-in-Some.ensures.takes })
    (record { size = c.put-in-Some.ensures.size; tests = c.put-in-Some.ensures.puts }) c.requires.tied

pub returns-in-None-clause-record : goal.returns-in-None-clause-record
returns-in-None-clause-record c =
    let miss = tested c.args.self.now.capacity c.args.self.now.uses c.args.place c.requires.place _ c.requires.tied false _ (ap (λ n. 2 * n - 1 - c.args.place) c.len.ensures.len) c.if-has.ensures in
    ap Rejected c.key.ensures
    ∙ record-rejected c.args.self.now.capacity c.args.self.now.uses c.args.place miss (omega (arith, c.requires.held)) (none-out c.args.self.now.capacity c.args.self.now.uses c.args.place c.requires.place _ c.requires.tied miss _ c.rank-rank.ensures.rank c.in-None.ensures)

pub returns-in-None-clause-tied : goal.returns-in-None-clause-tied
returns-in-None-clause-tied c = search (arith, rejected-tied, stands, returns-in-None-clause-record c)
