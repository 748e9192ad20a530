-- What a scan that took the lines before a place of some bytes comes to.
use Rattle.std.proofs.Common.{◌≡◌, ◌∙◌, ◌<◌, ◌≤◌, ◌+◌, ◌-◌, ℕ, List, [], ◌∷◌, ◌++◌, length, drop, take, get_or, refl, sym, ap, subst, arith, inl, inr, Some, None, Ok, length-drop, drop-drop}
use Rattle.std.specs.Global.{Vec}
use Rattle.std.proofs.Math.Seq.{drop-cons}
use Rattle.std.proofs.lemmas.Bool.{cond-false, le-ltb}
use Rattle.std.proofs.lemmas.List.{append-nil}
use Rattle.streams.proofs.Feeds.{cut_line}
use Rattle.trace_read.proofs.LineFeeds.{feed_at}
use Rattle.trace_read.specs.DigitRuns.{NoFeedBetween}
use Rattle.streams.specs.Feeds.{feed_in}
use Rattle.trace_read.proofs.Given.{given_more}
use Rattle.trace_read.proofs.Steps.{of_line, refused_here}
use Rattle.trace_read.specs.Lines.{Format, is_feed, line_of, run_of}
use Rattle.trace_read.specs.UsualLine.{AreFourStars, IsStarLine}
use Rattle.streams.specs.Blanks.{trimmed_text}
use Rattle.trace_read.specs.declared.format.Format.TheVariants.{Lirs}
use Rattle.trace_read.specs.TraceText.{TraceFault, fault_after, keys_or_none, IsRead, IsTraceRefused}
use Rattle.trace_read.specs.ScanState.{Scan, fault_ahead, keys_ahead, IsLineGiven, IsRefusedFrom, IsScan, IsTakenUpTo}

pub taken_then : (first mid last : Scan) (bytes : List ℕ) (start middle end : ℕ) → IsTakenUpTo first bytes start middle mid → IsTakenUpTo mid bytes middle end last → IsTakenUpTo first bytes start end last
taken_then first mid last bytes start middle end one two = record {
  scan = two.scan;
  partial_line = two.partial_line;
  format = two.format ∙ one.format;
  handed_on = two.handed_on ∙ one.handed_on;
  limit = two.limit ∙ one.limit;
  order = (omega (arith, one.order, two.order), two.order.1);
  lines = omega (arith, one.lines, two.lines);
  fault = λ more. two.fault more ∙ one.fault more;
  keys = λ more. two.keys more ∙ one.keys more;
}

pub refused_then : (first mid : Scan) (bytes : List ℕ) (start middle : ℕ) (e : TraceFault) → IsTakenUpTo first bytes start middle mid → IsRefusedFrom mid bytes middle e → IsRefusedFrom first bytes start e
refused_then first mid bytes start middle e one refused = elim refused [
  | inl none ↦ inl none
  | inr fault ↦ inr (fault.0, λ more. sym (one.fault more) ∙ fault.1 more)
]

-- a line between two places
module _ (now : Scan) (bytes : List ℕ) (start end : ℕ) (scan : IsScan now) (none : now.partial_line.items ≡ []) (order : start ≤ end) (within : end < length bytes)
    (no_feed : NoFeedBetween bytes start end) (here : get_or bytes end 0 ≡ 10) where
  abbrev rest : List ℕ
  rest = drop start bytes

  lt : end - start < length rest
  lt = omega (arith, length-drop start bytes)

  feed : end - start ≡ feed_in rest
  feed = feed_at bytes start end order within no_feed here

  behind : drop (end - start + 1) rest ≡ drop (end + 1) bytes
  behind = drop-drop (end - start + 1) start bytes ∙ ap (λ k. drop k bytes) (omega arith)

  uncut : now.partial_line.items ++ take (end - start) rest ≡ take (end - start) rest
  uncut = ap (λ l. l ++ take (end - start) rest) none

  pub line_taken : (keys : Vec ℕ) → now.handed_on + length keys.items ≤ now.max_accesses
      → IsRead now.format now.max_accesses now.line now.handed_on now.keys.items (take (end - start) rest) keys.items
      → IsTakenUpTo now bytes start (end + 1) (record now { keys = keys; line = now.line + 1 })
  line_taken keys few read =
      let next : Scan = record now { keys = keys; line = now.line + 1 } in
      let given : IsLineGiven now (now.partial_line.items ++ take (end - start) rest) [] next =
      rw uncut (record {
        sound = read.sound;
        keys = read.added;
        count = omega arith;
        partial_line = none;
        line = refl;
        format = refl;
        limit = refl;
      }) in
      let step = λ (more : List ℕ). given_more now _ [] next (rest ++ more) given (drop (end - start + 1) rest ++ more)
      (cut_line now.partial_line.items rest more (end - start) scan.partial_line feed lt) in
      record {
        scan = record { few = few; partial_line = scan.partial_line };
        partial_line = none;
        format = refl;
        handed_on = refl;
        limit = refl;
        order = (omega arith, omega arith);
        lines = omega arith;
        fault = λ more. ap (λ l. fault_ahead next (l ++ more)) (sym behind) ∙ (step more).0;
        keys = λ more. ap (λ l. keys_ahead next (l ++ more)) (sym behind) ∙ (step more).1;
      }

  pub line_refused : (e : TraceFault)
      → IsTraceRefused now.format now.max_accesses now.line now.handed_on now.keys.items (take (end - start) rest) e
      → IsRefusedFrom now bytes start e
  line_refused e refused = elim refused [
    | inl memory ↦ inl memory.0
    | inr fault ↦
        let refused : (more : List ℕ) → fault_ahead now (rest ++ more) ≡ Some e = λ more.
        let is = cut_line now.partial_line.items rest more (end - start) scan.partial_line feed lt in
        refused_here now.format now.max_accesses now.line now.handed_on now.keys.items _ []
        (now.partial_line.items ++ (rest ++ more)) _ _ is (rw uncut fault) in
        inr (of_line now.format _ now.max_accesses now.line _ _ (refused []), refused)
  ]

-- a line that stands for a run
pub run_read : (format : Format) (most n handed_on start count : ℕ) (old text new : List ℕ)
    → line_of format text ≡ run_of (Some start) (Some count)
    → fault_after most n (handed_on + length old) (run_of (Some start) (Some count)) ≡ None
    → new ≡ old ++ keys_or_none (run_of (Some start) (Some count))
    → IsRead format most n handed_on old text new
run_read format most n handed_on start count old text new is sound added = record {
  sound = ap (fault_after most n (handed_on + length old)) is ∙ sound;
  added = added ∙ ap (λ r. old ++ keys_or_none r) (sym is);
}

-- a line of a lone `*`, which gives nothing
star_gives : line_of Lirs (42 ∷ []) ≡ Ok []
unfolding trimmed_text
star_gives = refl

-- the scan, with the number of a later line
abbrev pub at_line : Scan → ℕ → Scan
at_line s line = record s { line = line }

pub star_taken : (now : Scan) (bytes : List ℕ) (place : ℕ) → IsScan now → now.format ≡ Lirs → now.partial_line.items ≡ [] → place + 2 ≤ length bytes → IsStarLine bytes place
    → IsTakenUpTo now bytes place (place + 2) (at_line now (now.line + 1))
star_taken now bytes place scan lirs none room star =
    let text = take (place + 1 - place) (drop place bytes) in
    let lone : text ≡ 42 ∷ [] = ap (λ k. take k (drop place bytes)) {y = 1} (omega arith) ∙ ap (take 1) (drop-cons bytes place 0 (omega arith)) ∙ ap (λ b. b ∷ []) star.0 in
    let gives : line_of now.format text ≡ Ok [] = ap (λ f. line_of f text) lirs ∙ ap (line_of Lirs) lone ∙ star_gives in
    let few : now.handed_on + length now.keys.items + 0 ≤ now.max_accesses = omega (arith, scan.few) in
    let taken = line_taken now bytes place (place + 1) scan none (omega arith) (omega arith) before star.1
    now.keys scan.few (record {
      sound = ap (fault_after now.max_accesses now.line (now.handed_on + length now.keys.items)) gives ∙ cond-false _ _ _ (le-ltb now.max_accesses _ few);
      added = sym (append-nil now.keys.items) ∙ ap (λ r. now.keys.items ++ keys_or_none r) (sym gives);
    }) in
    subst (λ n. IsTakenUpTo now bytes place n (at_line now (now.line + 1))) {x = place + 1 + 1} (omega arith) taken
  where
    before : NoFeedBetween bytes place (place + 1)
    before k low high = ap (λ j. is_feed (get_or bytes j 0)) {y = place} (omega arith) ∙ ap is_feed star.0

pub four_taken : (now : Scan) (bytes : List ℕ) (place : ℕ) → IsScan now → now.format ≡ Lirs → now.partial_line.items ≡ [] → place + 8 ≤ length bytes → AreFourStars bytes place
    → IsTakenUpTo now bytes place (place + 8) (at_line now (now.line + 4))
four_taken now bytes place scan lirs none room stars =
    taken_then now (at_line now (now.line + 2)) _ bytes place (place + 4) (place + 8)
    (taken_then now (at_line now (now.line + 1)) _ bytes place (place + 2) (place + 4) (one now.line _ place _ refl refl (omega arith) stars.0) (one _ _ _ _ (omega arith) (omega arith) (omega arith) stars.1))
    (taken_then (at_line now (now.line + 2)) (at_line now (now.line + 3)) _ bytes (place + 4) (place + 6) (place + 8) (one _ _ _ _ (omega arith) (omega arith) (omega arith) stars.2) (one _ _ _ _ (omega arith) (omega arith) (omega arith) stars.3))
  where
    one : (line next place end : ℕ) → next ≡ line + 1 → end ≡ place + 2 → end ≤ length bytes → IsStarLine bytes place → IsTakenUpTo (at_line now line) bytes place end (at_line now next)
    one line next place end f e room star = rw (f, e) (star_taken (at_line now line) bytes place (record { few = scan.few; partial_line = scan.partial_line }) lirs none (omega arith) star)
