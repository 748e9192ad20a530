-- What was written of a dialogue where a call failed: a beginning of its text.
use Rattle.std.proofs.Common.{◌≡◌, ◌∙◌, ◌+◌, ◌-◌, ℕ, Bool, true, false, Option, Some, None, List, [], ◌∷◌, ◌++◌, length, refl, ap, sym, subst, arith, append_assoc}
use Rattle.std.proofs.KnownBytes.{Consumes-nil}
use Rattle.std.proofs.lemmas.List.{append-nil}
use Rattle.std.specs.Io.KnownBytes.{Appends, Consumes, IsAtEnd, append_known}
use Rattle.std.specs.Prelude.{IfSome}
use Rattle.streams.specs.Part.{AppendsPart}
use Rattle.streams.specs.Feeds.{lines_of}
use Rattle.streams.proofs.Feeds.{has_lines, lines_fed, one_unfed}
use Rattle.streams.proofs.Parts.{none_sent, part_behind, part_of_more}
use Rattle.debug_commands.specs.Answers.{Breakpoint, TimelinePlace, CommandResponse, answer_to}
use Rattle.debug_commands.specs.Commands.{command_line_of}
use Rattle.debug_commands.specs.Dialogue.{Dialogue, dialogue_from, dialogue_of, is_quit}
use Rattle.debug_commands.specs.Timeline.{TimelineData}
use Rattle.debug_commands.proofs.Ahead.{IsAhead, Round, always, at_the_end, behind, fed_read, fed_room, fed_step, last_step, quit_answer, quit_step, unfed_read, unfed_room}

pub appends_known : (known : Option (List ℕ)) (bytes : List ℕ) → Appends known (append_known known bytes) bytes
appends_known None bytes = tt
appends_known (Some xs) bytes = refl

-- the dialogue ahead begins with this text
abbrev IsNext : TimelineData → TimelinePlace → ℕ → List ℕ → List ℕ → List ℕ → Type 0
IsNext t p room used text bytes = (tail : List ℕ) × ((dialogue_from t room (lines_of (used ++ bytes)) p).text ≡ text ++ tail)

part_over : (t : TimelineData) (first : ℕ) (p : TimelinePlace) (room : ℕ) (given left rest had has more : Option (List ℕ)) (used text : List ℕ)
    → IsAhead t first p room given left had has → Consumes left rest used → AppendsPart has more text → IfSome rest (IsNext t p room used text)
    → IfSome given (λ bytes. AppendsPart had more (dialogue_of t first bytes).text)
part_over t first p room None left rest had has more used text a c w e = tt
part_over t first p room (Some xs) None rest had has more used text a c w e = absurd a.consumed
part_over t first p room (Some xs) (Some ys) None had has more used text a c w e = absurd c
part_over t first p room (Some xs) (Some ys) (Some zs) had has more used text a c w e =
    let d : Dialogue = dialogue_from t room (lines_of (used ++ zs)) p in
    let whole : dialogue_of t first xs ≡ behind a.written d = ap (dialogue_of t first) (a.consumed ∙ ap (λ b. a.read ++ b) c) ∙ a.follows (used ++ zs) in
    let all : (dialogue_of t first xs).text ≡ (a.written ++ text) ++ e.0 =
    ap (λ (x : Dialogue). x.text) whole ∙ ap (λ b. a.written ++ b) e.1 ∙ sym (append_assoc a.written text e.0) in
    subst (AppendsPart had more) (sym all) (part_of_more had more (a.written ++ text) e.0 (part_behind had has more a.written text a.appended w))

-- nothing more was written
pub stops_here : {t : TimelineData} {first : ℕ} {p : TimelinePlace} {room : ℕ} {given left had has : Option (List ℕ)}
    → IsAhead t first p room given left had has → IfSome given (λ bytes. AppendsPart had has (dialogue_of t first bytes).text)
stops_here {t} {first} {p} {room} {given} {left} {had} {has} a =
    part_over t first p room given left left had has has [] [] a (Consumes-nil left) (none_sent has [])
    (always left (IsNext t p room [] []) (λ bytes. ((dialogue_from t room (lines_of bytes) p).text, refl)))

module _ {t : TimelineData} {first : ℕ} {p : TimelinePlace} {room less : ℕ} {given left rest had has more : Option (List ℕ)} {l text : List ℕ}
    {at : ℕ} {breaks : List Breakpoint} (cut : Option (List ℕ)) where
  -- a beginning of the answer to the last line, which had no line feed
  cut_at_last : (fed : Bool) → fed ≡ false → Round t first p room less given left rest had has more fed l text at breaks → IsAtEnd rest → AppendsPart has cut text
      → IfSome given (λ bytes. AppendsPart had cut (dialogue_of t first bytes).text)
  cut_at_last fed no_feed round end part =
      let r = answer_to t p (command_line_of t.dialect l) in
      let e : less + length l + 0 ≡ room = unfed_room fed less (length l) room no_feed round.spent in
      let is : (dialogue_from t room (lines_of ((l ++ []) ++ [])) p).text ≡ text ++ [] =
      ap (λ b. (dialogue_from t room (lines_of b) p).text) (append-nil (l ++ []) ∙ append-nil l)
      ∙ ap (λ ls. (dialogue_from t room ls p).text) (one_unfed l round.feeds)
      ∙ ap (λ (x : Dialogue). x.text) (last_step t room l p (omega (arith, e)))
      ∙ ap (λ x. x ++ []) (sym round.answer.text) in
      part_over t first p room given left rest had has cut (l ++ []) text round.ahead (unfed_read fed left rest l no_feed round.read) part
      (at_the_end rest (IsNext t p room (l ++ []) text) end ([], is))

  -- of nothing, which is the answer to `quit`
  cut_at_quit : (fed : Bool) → fed ≡ true → is_quit (command_line_of t.dialect l) ≡ true → Round t first p room less given left rest had has more fed l text at breaks
      → AppendsPart has cut text → IfSome given (λ bytes. AppendsPart had cut (dialogue_of t first bytes).text)
  cut_at_quit fed has_feed quits round part =
      let e : less + length l + 1 ≡ room = fed_room fed less (length l) room has_feed round.spent in
      let none : text ≡ [] = round.answer.text ∙ ap (λ (x : CommandResponse). x.text) (quit_answer t p l quits) in
      part_over t first p room given left rest had has cut (l ++ 10 ∷ []) text round.ahead (fed_read fed left rest l has_feed round.read) part
      (always rest (IsNext t p room (l ++ 10 ∷ []) text) (λ bytes. (
        [],
        ap (λ ls. (dialogue_from t room ls p).text) (lines_fed l bytes round.feeds)
            ∙ ap (λ (x : Dialogue). x.text) (quit_step t room l (lines_of bytes) p (has_lines bytes) (omega (arith, e)) quits)
            ∙ sym (append-nil text ∙ none),
      )))

  -- of the answer to a line with others behind it
  cut_between : (fed : Bool) → fed ≡ true → is_quit (command_line_of t.dialect l) ≡ false → Round t first p room less given left rest had has more fed l text at breaks
      → AppendsPart has cut text → IfSome given (λ bytes. AppendsPart had cut (dialogue_of t first bytes).text)
  cut_between fed has_feed other round part =
      let r = answer_to t p (command_line_of t.dialect l) in
      let e : less + length l + 1 ≡ room = fed_room fed less (length l) room has_feed round.spent in
      part_over t first p room given left rest had has cut (l ++ 10 ∷ []) text round.ahead (fed_read fed left rest l has_feed round.read) part
      (always rest (IsNext t p room (l ++ 10 ∷ []) text) (λ bytes.
      let later = (dialogue_from t (room - (length l + 1)) (lines_of bytes) r.place).text in (
        later,
        ap (λ ls. (dialogue_from t room ls p).text) (lines_fed l bytes round.feeds)
            ∙ ap (λ (x : Dialogue). x.text) (fed_step t room l (lines_of bytes) p (has_lines bytes) (omega (arith, e)) other)
            ∙ ap (λ x. x ++ later) (sym round.answer.text),
      )))

  by_quit : (fed quits : Bool) → fed ≡ true → is_quit (command_line_of t.dialect l) ≡ quits → Round t first p room less given left rest had has more fed l text at breaks
      → AppendsPart has cut text → IfSome given (λ bytes. AppendsPart had cut (dialogue_of t first bytes).text)
  by_quit fed true has_feed quits round part = cut_at_quit fed has_feed quits round part
  by_quit fed false has_feed other round part = cut_between fed has_feed other round part

  -- of the answer to a line
  pub cut_off : (fed : Bool) → Round t first p room less given left rest had has more fed l text at breaks → (fed ≡ false → IsAtEnd rest) → AppendsPart has cut text
      → IfSome given (λ bytes. AppendsPart had cut (dialogue_of t first bytes).text)
  cut_off true round end part = by_quit true (is_quit (command_line_of t.dialect l)) refl refl round part
  cut_off false round end part = cut_at_last false refl round (end refl) part
