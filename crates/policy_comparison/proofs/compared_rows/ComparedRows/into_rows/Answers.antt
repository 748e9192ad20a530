use Rattle.std.proofs.Common.{◌≡◌, ◌∙◌, ◌+◌, ◌*◌, ◌≤◌, Bool, ℕ, List, drop, length, ap, sym, arith, length-drop}
use Rattle.std.proofs.lemmas.List.{take_all}
use Rattle.policy_comparison.specs.ComparedIntervals.{first_compared}
use Rattle.policy_comparison.specs.ComparedRows.{ComparedRows, EndsRow, HasCounted, rows_in}
use Rattle.policy_comparison.proofs.CutHits.{all-are, rows-more}
use Rattle.sweeps.proofs.Covers.{covers-part, covers-whole}
use Rattle.policy_comparison.proofs.compared_rows.ComparedRows.into_rows.Goals as goal

-- the last accesses end an interval, which may be shorter than the others
last : (every : ℕ) (hits : List (Bool × Bool)) (c : ComparedRows) → HasCounted every hits (length hits) c → EndsRow every hits (length hits) c
last every hits c has =
    let piece = drop (rows_in c * every) hits in
    let long : length piece ≡ c.interval.accesses = omega (arith, has.cut.place, length-drop (rows_in c * every) hits) in
    record { cut = has.cut; end = take_all c.interval.accesses piece (omega (arith, long)) ∙ sym (take_all every piece (omega (arith, long, has.cut.size, has.few))) }

pub returns-then-self-eq0 : goal.returns-then-self-eq0
returns-then-self-eq0 c = λ every hits has.
    let run = c.args.self in
    let is : length hits ≡ rows_in run * every + 0 = omega (arith, has.cut.place, c.if-self-eq0.true) in
    has.cut.rows ∙ ap (first_compared every hits) (sym (covers-whole (rows_in run) every (length hits) has.cut.some is))

pub row-row-requires : goal.row-row-requires
row-row-requires c =
    let all = c.requires in
    record { some = omega (arith, c.if-self-eq0.false); part = omega (arith, all-are all.every all.hits (length all.hits) c.args.self all.counted.cut) }

pub returns : goal.returns
returns c = λ every hits has.
    let run = c.args.self in
    let some : 1 ≤ run.interval.accesses = omega (arith, c.if-self-eq0.false) in
    rows-more every hits run.rows.items _ c.row-row.result has.cut.rows c.in_ok-push.ensures.items (c.row-row.ensures every hits (length hits) (last every hits run has))
    ∙ ap (first_compared every hits)
    (sym (covers-part (rows_in run) every run.interval.accesses (length hits) has.cut.some some (omega (arith, has.cut.size, has.few)) has.cut.place))
