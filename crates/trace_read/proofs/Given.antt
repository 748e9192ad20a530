-- Accesses that are handed over while lines are taken.
use Rattle.std.proofs.Common.{◌≡◌, ◌∙◌, ◌≤◌, ◌+◌, ◌-◌, ◌^◌, ℕ, zero, suc, List, [], ◌∷◌, ◌++◌, length, drop, refl, ap, sym, arith, Some, None, append_assoc, length-append, length-drop, drop-drop}
use Rattle.std.proofs.lemmas.List.{append-nil, drop_all}
use Rattle.streams.proofs.Feeds.{cut_line}
use Rattle.streams.specs.Feeds.{feed_in, lines_of}
use Rattle.trace_read.proofs.Steps.{goes_on}
use Rattle.trace_read.proofs.Runs.{length_run, run_fits, run_is, run_none}
use Rattle.trace_read.specs.Lines.{Format, line_of, run_from, run_of}
use Rattle.trace_read.specs.Pending.{Pending, pending_count, pending_keys}
use Rattle.trace_read.specs.ScanState.{Scan, Taken, fault_ahead, keys_ahead, IsLastEnded, IsLineGiven, IsNextEnded, IsSameLine, IsScan, IsTaken, IsTakenUpTo}
use Rattle.trace_read.specs.UsualLine.{BlockRun, IsLongRun}
use Rattle.trace_read.specs.TraceText.{all_keys, fault_after, first_fault, keys_or_none, line_fault, line_keys, IsRead}

pub run_split : (s k n : ℕ) → run_from s (k + n) ≡ run_from s k ++ run_from (s + k) n
unfolding run_from
run_split s zero n =
    let e : zero + n ≡ n = omega arith in
    let f : s ≡ s + zero = omega arith in
    ap (run_from s) e ∙ ap (λ x. run_from x n) f
run_split s (suc k) n =
    let e : suc k + n ≡ suc (k + n) = omega arith in
    let f : s + 1 + k ≡ s + suc k = omega arith in
    ap (run_from s) e ∙ ap (λ xs. s ∷ xs) (run_split (s + 1) k n) ∙ ap (λ x. s ∷ (run_from (s + 1) k ++ run_from x n)) f

-- ---- a run that is pending

pub none_pending : (run : Pending) → pending_count run ≡ 0 → pending_keys run ≡ []
none_pending run none = ap (run_from (run.run.start + run.done)) none ∙ run_none (run.run.start + run.done)

-- what is given and what is pending counts as handed on
pub all_counted : (keys : List ℕ) (run : Pending) (old new : ℕ) → new ≡ old + length (keys ++ pending_keys run) → new ≡ old + length keys + pending_count run
all_counted keys run old new is =
    let len : length (keys ++ pending_keys run) ≡ length keys + pending_count run = length-append keys (pending_keys run) ∙ ap (λ n. length keys + n) (length_run (run.run.start + run.done) (pending_count run)) in
    omega (arith, is, len)

-- ---- a line

module _ (old : Scan) (text given : List ℕ) (new : Scan) (xs : List ℕ) (is : IsLineGiven old text given new) where
  abbrev whole : List ℕ
  whole = old.keys.items ++ line_keys old.format text

  read : IsRead old.format old.max_accesses old.line old.handed_on old.keys.items text whole
  read = record { sound = is.sound; added = refl }

  pub given_ahead : (ls : List (List ℕ)) → lines_of (old.partial_line.items ++ xs) ≡ text ∷ ls
      → (first_fault new.format new.max_accesses new.line (new.handed_on + length new.keys.items) ls ≡ fault_ahead old xs)
      × (given ++ (new.keys.items ++ all_keys new.format ls) ≡ keys_ahead old xs)
  given_ahead ls lines =
      let next = goes_on old.format old.max_accesses old.line old.handed_on old.keys.items text whole (old.partial_line.items ++ xs) ls lines read in
      let len : length given + length new.keys.items ≡ length whole = sym (length-append given new.keys.items) ∙ ap length is.keys in
      let count : new.handed_on + length new.keys.items ≡ old.handed_on + length whole = omega (arith, is.count, len) in (cc, cc (append_assoc given new.keys.items (all_keys new.format ls)))

  pub given_more : (ys : List ℕ) → lines_of (old.partial_line.items ++ xs) ≡ text ∷ lines_of ys
      → (fault_ahead new ys ≡ fault_ahead old xs) × (given ++ keys_ahead new ys ≡ keys_ahead old xs)
  given_more ys lines =
      let next = given_ahead (lines_of ys) lines in
      let rest : new.partial_line.items ++ ys ≡ ys = ap (λ l. l ++ ys) is.partial_line in (cc, cc)

-- the last line
pub last_given : (old : Scan) (text given : List ℕ) (new : Scan) → IsLineGiven old text given new → lines_of (old.partial_line.items ++ []) ≡ text ∷ []
    → (fault_ahead old [] ≡ None) × (given ++ new.keys.items ≡ keys_ahead old [])
unfolding first_fault all_keys
last_given old text given new is lines =
    let next = given_ahead old text given new [] is [] lines in
    (sym next.0, ap (λ l. given ++ l) (sym (append-nil new.keys.items)) ∙ next.1)

pub last_many : (old : Scan) (text given : List ℕ) (new : Scan) → IsLineGiven old text given new → lines_of (old.partial_line.items ++ []) ≡ text ∷ [] → new.keys.items ≡ [] → IsLastEnded old given new
last_many old text given new is lines none =
    let last = last_given old text given new is lines in
    record { sound = last.0; keys = sym (append-nil given) ∙ ap (λ k. given ++ k) (sym none) ∙ last.1; count = is.count; limit = is.limit; partial_line = is.partial_line; line = is.line }

pub last_few : (old : Scan) (text first given : List ℕ) (mid new : Scan) → IsLineGiven old text first mid → lines_of (old.partial_line.items ++ []) ≡ text ∷ [] → first ≡ [] → given ≡ mid.keys.items
    → new.handed_on ≡ mid.handed_on + length mid.keys.items → IsSameLine mid new → IsLastEnded old given new
last_few old text first given mid new is lines none gives count same =
    let last = last_given old text first mid is lines in
    record {
      sound = last.0;
      keys = gives ∙ ap (λ g. g ++ mid.keys.items) (sym none) ∙ last.1;
      count = omega (arith, count, is.count, ap length none, ap length gives);
      limit = same.limit ∙ is.limit;
      partial_line = same.partial_line ∙ is.partial_line;
      line = same.line ∙ is.line;
    }

-- a line that is a run
module _ (format : Format) (text : List ℕ) (start count : ℕ) (fits : start + count ≤ 2 ^ 64) (is : line_of format text ≡ run_of (Some start) (Some count)) where
  pub run_keys : line_keys format text ≡ run_from start count
  run_keys = ap keys_or_none (is ∙ run_is start count fits)

  pub run_sound : (most n before : ℕ) → before + count ≤ most → line_fault format most n before text ≡ None
  run_sound most n before few = ap (fault_after most n before) is ∙ (run_fits most n before start count fits few).0

-- a line of many, of which the accesses before it were handed over
pub run_given : (old new : Scan) (text given : List ℕ) (room : ℕ) (run : BlockRun) → IsLongRun old.format text room run → old.handed_on + length old.keys.items + run.count ≤ old.max_accesses
    → given ≡ old.keys.items ++ run_from run.start run.count → new.keys.items ≡ [] → new.handed_on ≡ old.handed_on + length old.keys.items + run.count
    → new.line ≡ old.line + 1 → new.partial_line.items ≡ [] → new.format ≡ old.format → new.max_accesses ≡ old.max_accesses → IsLineGiven old text given new
run_given old new text given room run is few gives none count line part format limit =
    let len : length given ≡ length old.keys.items + run.count = ap length gives ∙ length-append old.keys.items (run_from run.start run.count) ∙ ap (λ n. length old.keys.items + n) (length_run run.start run.count) in
    record {
      sound = run_sound old.format text run.start run.count is.fits is.is old.max_accesses old.line (old.handed_on + length old.keys.items) few;
      keys = ap (λ k. given ++ k) none ∙ append-nil given ∙ gives ∙ ap (λ l. old.keys.items ++ l) (sym (run_keys old.format text run.start run.count is.fits is.is));
      count = omega (arith, count, len);
      partial_line = part;
      line = line;
      format = format;
      limit = limit;
    }

-- ---- a piece

module _ (first scan : Scan) (piece : List ℕ) (at : ℕ) (is : IsTaken first piece at [] scan) where
  abbrev rest : List ℕ
  rest = drop at piece

  behind : (n : ℕ) → drop (at + n) piece ≡ drop n rest
  behind n = sym (drop-drop n at piece ∙ ap (λ k. drop k piece) (omega arith))

  left : length rest ≡ length piece - at
  left = length-drop at piece

  -- the next line
  pub line_ended : (new : Scan) (keys : List ℕ) (line : Taken) → IsScan scan → IsNextEnded scan rest keys line new → IsTaken first piece (at + line.bytes) (keys ++ pending_keys line.run) new
  line_ended new keys line kept ended = record {
    fault = λ more. ap (λ l. fault_ahead new (l ++ more)) over ∙ (next more).0 ∙ is.fault more;
    keys = λ more. ap (λ l. (keys ++ pending_keys line.run) ++ keys_ahead new (l ++ more)) over ∙ (next more).1 ∙ is.keys more;
    count = omega (arith, ended.given.count, is.count);
    limit = ended.given.limit ∙ is.limit;
    within = omega (arith, ended.place, ended.within, left, is.within);
    lines = omega (arith, ended.given.line, ended.place, is.lines);
  }
    where
      over : drop (at + line.bytes) piece ≡ drop (feed_in rest + 1) rest
      over = behind line.bytes ∙ ap (λ k. drop k rest) ended.place

      next : (more : List ℕ) → (fault_ahead new (drop (feed_in rest + 1) rest ++ more) ≡ fault_ahead scan (rest ++ more))
          × ((keys ++ pending_keys line.run) ++ keys_ahead new (drop (feed_in rest + 1) rest ++ more) ≡ keys_ahead scan (rest ++ more))
      next more = given_more scan _ (keys ++ pending_keys line.run) new (rest ++ more) ended.given (drop (feed_in rest + 1) rest ++ more)
          (cut_line scan.partial_line.items rest more (feed_in rest) kept.partial_line refl ended.within)

  -- the lines up to a place
  pub lines_taken : (new : Scan) (n : ℕ) → IsTakenUpTo scan rest 0 n new → IsTaken first piece (at + n) [] new
  lines_taken new n taken = record {
    fault = λ more. ap (λ l. fault_ahead new (l ++ more)) (behind n) ∙ taken.fault more ∙ is.fault more;
    keys = λ more. ap (λ l. keys_ahead new (l ++ more)) (behind n) ∙ taken.keys more ∙ is.keys more;
    count = taken.handed_on ∙ is.count;
    limit = taken.limit ∙ is.limit;
    within = omega (arith, taken.order, left, is.within);
    lines = omega (arith, taken.lines, is.lines);
  }

  -- the bytes behind the last line feed
  pub rest_taken : (new : Scan) (given : List ℕ) → new.partial_line.items ≡ scan.partial_line.items ++ rest → given ≡ scan.keys.items → new.keys.items ≡ []
      → new.handed_on ≡ scan.handed_on + length scan.keys.items → new.line ≡ scan.line → new.format ≡ scan.format → new.max_accesses ≡ scan.max_accesses → IsTaken first piece (length piece) given new
  rest_taken new given part gives none count line format limit = record {
    fault = λ more. (next more).0 ∙ is.fault more;
    keys = λ more. (next more).1 ∙ is.keys more;
    count = omega (arith, count, is.count, ap length gives);
    limit = limit ∙ is.limit;
    within = omega arith;
    lines = omega (arith, line, is.lines, is.within);
  }
    where
      held : new.handed_on + length new.keys.items ≡ scan.handed_on + length scan.keys.items
      held = omega (arith, count, ap length none)

      ahead : (more : List ℕ) → new.partial_line.items ++ (drop (length piece) piece ++ more) ≡ scan.partial_line.items ++ (rest ++ more)
      ahead more = ap (λ l. new.partial_line.items ++ (l ++ more)) (drop_all (length piece) piece (omega arith)) ∙ ap (λ l. l ++ more) part ∙ append_assoc scan.partial_line.items rest more

      next : (more : List ℕ) → (fault_ahead new (drop (length piece) piece ++ more) ≡ fault_ahead scan (rest ++ more))
          × (given ++ keys_ahead new (drop (length piece) piece ++ more) ≡ keys_ahead scan (rest ++ more))
      next more = let at = ahead more in (cc held, cc none)
