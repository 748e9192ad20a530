use Rattle.std.proofs.Common.{◌≡◌, ◌≤◌, ◌+◌, ◌-◌, ◌∙◌, ap, arith, drop, get_or, get_or-drop, inl, inr, drop-drop, length, length-drop, subst, sym, take}
use Rattle.std.specs.Str.{all_ascii_digits}
use Rattle.std.specs.Str.Parse.{digits_value}
use Rattle.std.proofs.lemmas.Bool.{cases_lt, true≢false}
use Rattle.trace_read.proofs.LineFeeds.{digits_no_feed}
use Rattle.trace_read.proofs.RunLines.{ends_by, gap_no_feed, run_at}
use Rattle.trace_read.specs.DigitRuns.{IsLineEnd}
use Rattle.trace_read.specs.Lines.{is_feed, is_gap}
use Rattle.trace_read.proofs.arc.usual_run.Goals as goal

pub returns : goal.returns
returns c =
    let bytes = c.args.bytes.now in
    let first = c.args.first in
    let numbers = c.in-Some.numbers in
    let second = numbers.second in
    let end = c.in-Some-line_end.end.end in
    let t = c.in-Some.ensures in
    let l = subst (λ b. IsLineEnd b second.start c.in-Some-line_end.end) t.found.same c.in-Some-line_end.ensures.line in
    let text = drop first.start bytes in
    let n = first.end - first.start in
    let m = second.end - second.start in
    let past = c.in-Some-line_end.ensures.past in
    let within : n + 1 + m ≤ end - first.start = omega (arith, past, t.behind, t.start.some, t.count.some) in
    let long : end - first.start ≤ length text = omega (arith, l.within, length-drop first.start bytes) in
    let tail : drop (n + 1) text ≡ drop second.start bytes = drop-drop (n + 1) first.start bytes ∙ ap (λ k. drop k bytes) (omega (arith, t.behind, t.start.some)) in
    let gap = ap is_gap (get_or-drop first.start bytes n 0 ∙ ap (λ k. get_or bytes k 0) {y = first.end} (omega (arith, t.start.some))) ∙ t.gap in
    let behind : first.start + (n + 1 + m) ≡ second.end = omega (arith, t.behind, t.start.some, t.count.some) in
    let at : get_or text (n + 1 + m) 0 ≡ get_or bytes second.end 0 = get_or-drop first.start bytes (n + 1 + m) 0 ∙ ap (λ k. get_or bytes k 0) behind in
    let is = run_at text (end - first.start) n m (omega (arith, t.start.some)) (omega (arith, t.count.some)) within long numbers.run.start numbers.run.count (omega (arith, t.start.below)) (omega (arith, t.count.below))
    t.start.digits t.start.value gap (ap (λ l. all_ascii_digits (take m l)) tail ∙ t.count.digits) (t.count.value ∙ ap (λ l. digits_value 10 (take m l)) (sym tail))
    (ends_by text (n + 1 + m) (end - first.start - (n + 1 + m)) (λ some. elim (t.ends (l.none second.end (omega (arith, t.count.some)) (omega (arith, some, behind, t.start.some)))) [
      | inl gap ↦ inl (ap is_gap at ∙ gap)
      | inr last ↦ inr (
        at ∙ last.0,
        elim (cases_lt (second.end + 1) end) [
          | inl more ↦ absurd (true≢false (sym (ap is_feed last.1) ∙ l.none (second.end + 1) (omega (arith, t.count.some)) more))
          | inr none ↦ omega (arith, none, some, behind, t.start.some)
        ],
      )
    ])) in
    record {
      end = record {
        runs = l.runs;
        same = l.same;
        behind = l.behind;
        order = omega (arith, within);
        within = l.within;
        none = λ k low high. elim (cases_lt k second.start) [
          | inr later ↦ l.none k later high
          | inl before ↦ elim (cases_lt k first.end) [
            | inl digit ↦ digits_no_feed bytes first.start first.end c.requires.digits k low digit
            | inr at_gap ↦ ap (λ j. is_feed (get_or bytes j 0)) {y = first.end} (omega (arith, t.behind)) ∙ gap_no_feed _ t.gap
          ]
        ];
        feed = l.feed;
      };
      fits = omega (arith, t.start.below, t.count.below);
      few = omega (arith, c.if-numbers-room.false);
      is = is;
    }
