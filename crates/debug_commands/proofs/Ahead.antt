-- What is ahead in a dialogue: the text so far, and the dialogue over the bytes that still follow, whatever they are.
use Rattle.std.proofs.Common.{◌≡◌, ◌∙◌, ◌≤◌, ◌<◌, ◌+◌, ◌-◌, ◌==◌, ℕ, Bool, true, false, inl, inr, Option, Some, None, List, [], ◌∷◌, ◌++◌, length, refl, ap, sym, subst, arith, append_assoc, length-append, true≢false}
use Rattle.std.proofs.KnownBytes.{Appends-nil, Appends-trans, Consumes-nil, Consumes-trans}
use Rattle.std.proofs.lemmas.Bool.{cond-true, cond-false, eqb-true, lt-ltb, le-ltb}
use Rattle.std.proofs.lemmas.List.{append-nil}
use Rattle.std.proofs.lemmas.List.Elements.{All-head, All-tail, All-push}
use Rattle.std.proofs.lemmas.List.Splits.{slice_split-cons_no}
use Rattle.std.specs.Io.KnownBytes.{Appends, Consumes, IsAtEnd}
use Rattle.std.specs.List.{onto_first}
use Rattle.std.specs.Prelude.{◌||◌, ◌⊎◌, not, IfSome}
use Rattle.debug_commands.specs.AnswerText.{Breakpoint, IsAnswer}
use Rattle.debug_commands.specs.Answers.{InputLine, TimelinePlace, CommandResponse, answer_to, response_to}
use Rattle.debug_commands.specs.Commands.{Dialect, command_line_of}
use Rattle.debug_commands.specs.Dialogue.{Dialogue, answers, dialogue_from, dialogue_of, ends, is_last, is_quit, WritesDialogue}
use Rattle.debug_commands.specs.InputBytes.{feed, IsTooLarge}
use Rattle.streams.proofs.Feeds.{has_lines, lines_fed, one_unfed}
use Rattle.streams.specs.Feeds.{lines_of, HasNoFeed}
use Rattle.debug_commands.specs.Timeline.{TimelineData}
use Rattle.debug_commands.specs.declared.command.Command.TheVariants as command
use Rattle.debug_commands.specs.declared.command.InputLine.TheVariants.{Empty, Unknown, Known}
use Rattle.debug_commands.specs.declared.dialogue.TheConstants.{MAX_COMMAND_BYTES}

-- a text before a dialogue
abbrev pub behind : List ℕ → Dialogue → Dialogue
behind w d = record { text = w ++ d.text; at = d.at; fits = d.fits }

behind_behind : (w v : List ℕ) (d : Dialogue) → behind w (behind v d) ≡ behind (w ++ v) d
behind_behind w v d = ap (λ t. record { text = t; at = d.at; fits = d.fits }) (sym (append_assoc w v d.text))

-- ---- the first line

module _ (t : TimelineData) where
  pub fed_step : (room : ℕ) (l : List ℕ) (ls : List (List ℕ)) (p : TimelinePlace) → (ls ≡ [] → ⊥) → length l + 1 ≤ room → is_quit (command_line_of t.dialect l) ≡ false
      → dialogue_from t room (l ∷ ls) p ≡ answers (answer_to t p (command_line_of t.dialect l)) (dialogue_from t (room - (length l + 1)) ls)
  unfolding dialogue_from
  fed_step room l [] p some within other = absurd (some refl)
  fed_step room l (m ∷ ms) p some within other = cond-false _ _ _ (le-ltb room (length l + 1) within) ∙ cond-false _ _ _ other

  pub quit_step : (room : ℕ) (l : List ℕ) (ls : List (List ℕ)) (p : TimelinePlace) → (ls ≡ [] → ⊥) → length l + 1 ≤ room → is_quit (command_line_of t.dialect l) ≡ true
      → dialogue_from t room (l ∷ ls) p ≡ ends p true
  unfolding dialogue_from
  quit_step room l [] p some within quits = absurd (some refl)
  quit_step room l (m ∷ ms) p some within quits = cond-false _ _ _ (le-ltb room (length l + 1) within) ∙ cond-true _ _ _ quits

  pub last_step : (room : ℕ) (l : List ℕ) (p : TimelinePlace) → length l ≤ room
      → dialogue_from t room (l ∷ []) p ≡ answers (answer_to t p (command_line_of t.dialect l)) (λ q. ends q true)
  unfolding dialogue_from
  last_step room l p within = cond-false _ _ _ (le-ltb room (length l) within)

  large_step : (room : ℕ) (l : List ℕ) (ls : List (List ℕ)) (p : TimelinePlace) → room < length l → dialogue_from t room (l ∷ ls) p ≡ ends p false
  unfolding dialogue_from
  large_step room l [] p over = cond-true _ _ _ (lt-ltb room (length l) over)
  large_step room l (m ∷ ms) p over = cond-true _ _ _ (lt-ltb room (length l + 1) (omega (arith, over)))

  large_fed : (room : ℕ) (l : List ℕ) (ls : List (List ℕ)) (p : TimelinePlace) → (ls ≡ [] → ⊥) → room < length l + 1 → dialogue_from t room (l ∷ ls) p ≡ ends p false
  unfolding dialogue_from
  large_fed room l [] p some over = absurd (some refl)
  large_fed room l (m ∷ ms) p some over = cond-true _ _ _ (lt-ltb room (length l + 1) over)

-- ---- what was read of a line

pub fed_read : (fed : Bool) (left rest : Option (List ℕ)) (l : List ℕ) → fed ≡ true → Consumes left rest (l ++ feed fed) → Consumes left rest (l ++ 10 ∷ [])
fed_read true left rest l h c = c
fed_read false left rest l h c = absurd (true≢false (sym h))

pub unfed_read : (fed : Bool) (left rest : Option (List ℕ)) (l : List ℕ) → fed ≡ false → Consumes left rest (l ++ feed fed) → Consumes left rest (l ++ [])
unfed_read false left rest l h c = c
unfed_read true left rest l h c = absurd (true≢false h)

pub fed_room : (fed : Bool) (less n room : ℕ) → fed ≡ true → less + n + length (feed fed) ≡ room → less + n + 1 ≡ room
fed_room true less n room h e = omega (arith, e)
fed_room false less n room h e = absurd (true≢false (sym h))

pub unfed_room : (fed : Bool) (less n room : ℕ) → fed ≡ false → less + n + length (feed fed) ≡ room → less + n + 0 ≡ room
unfed_room false less n room h e = omega (arith, e)
unfed_room true less n room h e = absurd (true≢false h)

either : (fed quits : Bool) → (not fed || quits) ≡ true → (fed ≡ false) ⊎ ((fed ≡ true) × (quits ≡ true))
either false quits last = inl refl
either true quits last = inr (refl, last)

neither : (fed quits : Bool) → (not fed || quits) ≡ false → (fed ≡ true) × (quits ≡ false)
neither false quits more = absurd (true≢false more)
neither true quits more = (refl, more)

-- ---- the whole so far

-- what was read and written so far, and what follows from here
pub record IsAhead (t : TimelineData) (first : ℕ) (p : TimelinePlace) (room : ℕ) (given left had has : Option (List ℕ)) : Type 0 where
  pub read : List ℕ
  pub written : List ℕ
  pub consumed : Consumes given left read
  pub appended : Appends had has written
  pub follows : (bytes : List ℕ) → dialogue_of t first (read ++ bytes) ≡ behind written (dialogue_from t room (lines_of bytes) p)

pub begins : (t : TimelineData) (first room : ℕ) (breaks : List Breakpoint) (given had : Option (List ℕ)) → breaks ≡ [] → room ≡ MAX_COMMAND_BYTES
    → IsAhead t first (record { at = first; breaks = breaks }) room given given had had
begins t first room breaks given had none all = record {
  read = [];
  written = [];
  consumed = Consumes-nil given;
  appended = Appends-nil had;
  follows = λ bytes. sym (ap (λ r. dialogue_from t r (lines_of bytes) (record { at = first; breaks = breaks })) all
      ∙ ap (λ b. dialogue_from t MAX_COMMAND_BYTES (lines_of bytes) (record { at = first; breaks = b })) none);
}

place_is : (p : TimelinePlace) (at : ℕ) (breaks : List Breakpoint) → at ≡ p.at → breaks ≡ p.breaks → record { at = at; breaks = breaks } ≡ p
place_is p at breaks e h =
    ap (λ a. record { at = a; breaks = breaks }) e ∙ ap (λ b. record { at = p.at; breaks = b }) h

-- a line was read and answered, and the answer was sent
pub record Round (t : TimelineData) (first : ℕ) (p : TimelinePlace) (room less : ℕ) (given left rest had has more : Option (List ℕ)) (fed : Bool) (l text : List ℕ)
    (at : ℕ) (breaks : List Breakpoint) : Type 0 where
  pub ahead : IsAhead t first p room given left had has
  pub read : Consumes left rest (l ++ feed fed)
  pub feeds : HasNoFeed l
  pub spent : less + length l + length (feed fed) ≡ room
  pub answer : IsAnswer (answer_to t p (command_line_of t.dialect l)) [] text at breaks
  pub sent : Appends has more text

-- a line with others behind it was answered
pub goes_on : {t : TimelineData} {first : ℕ} {p : TimelinePlace} {room less : ℕ} {given left rest had has more : Option (List ℕ)} {fed : Bool} {l text : List ℕ} {at : ℕ}
    {breaks : List Breakpoint} → Round t first p room less given left rest had has more fed l text at breaks
    → is_last fed (command_line_of t.dialect l) ≡ false → IsAhead t first (record { at = at; breaks = breaks }) less given rest had more
goes_on {t} {first} {p} {room} {less} {given} {left} {rest} {had} {has} {more} {fed} {l} {text} {at} {breaks} round others =
    let has_feed = (neither fed (is_quit (command_line_of t.dialect l)) others).0 in
    let other = (neither fed (is_quit (command_line_of t.dialect l)) others).1 in
    let a = round.ahead in
    let r = answer_to t p (command_line_of t.dialect l) in
    let now : record { at = at; breaks = breaks } ≡ r.place = place_is r.place at breaks round.answer.at round.answer.breaks in
    let e : less + length l + 1 ≡ room = fed_room fed less (length l) room has_feed round.spent in
    let fewer : room - (length l + 1) ≡ less = omega (arith, e) in
    record {
      read = a.read ++ (l ++ 10 ∷ []);
      written = a.written ++ r.text;
      consumed = Consumes-trans given left rest a.read (l ++ 10 ∷ []) a.consumed (fed_read fed left rest l has_feed round.read);
      appended = Appends-trans had has more a.written r.text a.appended (subst (Appends has more) round.answer.text round.sent);
      follows = λ bytes.
          ap (dialogue_of t first) (append_assoc a.read (l ++ 10 ∷ []) bytes)
          ∙ a.follows ((l ++ 10 ∷ []) ++ bytes)
          ∙ ap (λ ls. behind a.written (dialogue_from t room ls p)) (lines_fed l bytes round.feeds)
          ∙ ap (behind a.written) (fed_step t room l (lines_of bytes) p (has_lines bytes) (omega (arith, e)) other)
          ∙ behind_behind a.written r.text (dialogue_from t (room - (length l + 1)) (lines_of bytes) r.place)
          ∙ ap (λ k. behind (a.written ++ r.text) (dialogue_from t k (lines_of bytes) r.place)) fewer
          ∙ ap (λ q. behind (a.written ++ r.text) (dialogue_from t less (lines_of bytes) q)) (sym now);
    }

-- ---- the end

-- the dialogue over the last bytes that were read ends it, whatever follows them
over : (t : TimelineData) (first : ℕ) (p : TimelinePlace) (room : ℕ) (given left rest had has more : Option (List ℕ)) (used : List ℕ) (d : Dialogue)
    → IsAhead t first p room given left had has → Consumes left rest used → Appends has more d.text
    → IfSome rest (λ bytes. dialogue_from t room (lines_of (used ++ bytes)) p ≡ d)
    → IfSome given (λ bytes. WritesDialogue (dialogue_of t first bytes) d.fits had more d.at)
over t first p room None left rest had has more used d a c w e = tt
over t first p room (Some xs) None rest had has more used d a c w e = absurd a.consumed
over t first p room (Some xs) (Some ys) None had has more used d a c w e = absurd c
over t first p room (Some xs) (Some ys) (Some zs) had has more used d a c w e =
    let whole : dialogue_of t first xs ≡ behind a.written d =
    ap (dialogue_of t first) (a.consumed ∙ ap (λ b. a.read ++ b) c) ∙ a.follows (used ++ zs) ∙ ap (behind a.written) e in
    record {
      fits = ap (λ (x : Dialogue). x.fits) whole;
      text = subst (Appends had more) (sym (ap (λ (x : Dialogue). x.text) whole)) (Appends-trans had has more a.written d.text a.appended w);
      at = sym (ap (λ (x : Dialogue). x.at) whole);
    }

pub always : (rest : Option (List ℕ)) (P : List ℕ → Type 0) → ((bytes : List ℕ) → P bytes) → IfSome rest P
always None P h = tt
always (Some xs) P h = h xs

pub at_the_end : (rest : Option (List ℕ)) (P : List ℕ → Type 0) → IsAtEnd rest → P [] → IfSome rest P
at_the_end None P e h = tt
at_the_end (Some xs) P e h = subst P (sym e) h

-- the last line was answered, which had no line feed
ends_at_last : {t : TimelineData} {first : ℕ} {p : TimelinePlace} {room less : ℕ} {given left rest had has more : Option (List ℕ)} {fed : Bool} {l text : List ℕ}
    {at : ℕ} {breaks : List Breakpoint} → Round t first p room less given left rest had has more fed l text at breaks → fed ≡ false → IsAtEnd rest
    → IfSome given (λ bytes. WritesDialogue (dialogue_of t first bytes) true had more at)
ends_at_last {t} {first} {p} {room} {less} {given} {left} {rest} {had} {has} {more} {fed} {l} {text} {at} {breaks} round no_feed end =
    let d : Dialogue = record { text = text; at = at; fits = true } in
    let r = answer_to t p (command_line_of t.dialect l) in
    let e : less + length l + 0 ≡ room = unfed_room fed less (length l) room no_feed round.spent in
    let is : dialogue_from t room (lines_of ((l ++ []) ++ [])) p ≡ d =
    ap (λ b. dialogue_from t room (lines_of b) p) (append-nil (l ++ []) ∙ append-nil l)
    ∙ ap (λ ls. dialogue_from t room ls p) (one_unfed l round.feeds)
    ∙ last_step t room l p (omega (arith, e))
    ∙ ap (λ x. record { text = x; at = r.place.at; fits = true }) (append-nil r.text ∙ sym round.answer.text)
    ∙ ap (λ x. record { text = text; at = x; fits = true }) (sym round.answer.at) in
    over t first p room given left rest had has more (l ++ []) d round.ahead (unfed_read fed left rest l no_feed round.read) round.sent
    (at_the_end rest (λ bytes. dialogue_from t room (lines_of ((l ++ []) ++ bytes)) p ≡ d) end is)

quit_line : (t : TimelineData) (p : TimelinePlace) (line : InputLine) → is_quit line ≡ true → answer_to t p line ≡ record { text = []; place = p }
unfolding response_to
quit_line t p Empty h = absurd (true≢false (sym h))
quit_line t p Unknown h = absurd (true≢false (sym h))
quit_line t p (Known (command.Step n)) h = absurd (true≢false (sym h))
quit_line t p (Known (command.Back n)) h = absurd (true≢false (sym h))
quit_line t p (Known (command.Goto n)) h = absurd (true≢false (sym h))
quit_line t p (Known command.Run) h = absurd (true≢false (sym h))
quit_line t p (Known (command.Break b)) h = absurd (true≢false (sym h))
quit_line t p (Known command.Clear) h = absurd (true≢false (sym h))
quit_line t p (Known command.Show) h = absurd (true≢false (sym h))
quit_line t p (Known (command.View v)) h = absurd (true≢false (sym h))
quit_line t p (Known command.Own) h = absurd (true≢false (sym h))
quit_line t p (Known command.Quit) h = refl

pub quit_answer : (t : TimelineData) (p : TimelinePlace) (l : List ℕ) → is_quit (command_line_of t.dialect l) ≡ true
    → answer_to t p (command_line_of t.dialect l) ≡ record { text = []; place = p }
quit_answer t p l h = quit_line t p (command_line_of t.dialect l) h

-- a `quit` was read
ends_at_quit : {t : TimelineData} {first : ℕ} {p : TimelinePlace} {room less : ℕ} {given left rest had has more : Option (List ℕ)} {fed : Bool} {l text : List ℕ}
    {at : ℕ} {breaks : List Breakpoint} → Round t first p room less given left rest had has more fed l text at breaks → fed ≡ true
    → is_quit (command_line_of t.dialect l) ≡ true → IfSome given (λ bytes. WritesDialogue (dialogue_of t first bytes) true had more at)
ends_at_quit {t} {first} {p} {room} {less} {given} {left} {rest} {had} {has} {more} {fed} {l} {text} {at} {breaks} round has_feed quits =
    let d : Dialogue = record { text = text; at = at; fits = true } in
    let e : less + length l + 1 ≡ room = fed_room fed less (length l) room has_feed round.spent in
    let none = quit_answer t p l quits in
    let is : (bytes : List ℕ) → dialogue_from t room (lines_of ((l ++ 10 ∷ []) ++ bytes)) p ≡ d = λ bytes.
    ap (λ ls. dialogue_from t room ls p) (lines_fed l bytes round.feeds)
    ∙ quit_step t room l (lines_of bytes) p (has_lines bytes) (omega (arith, e)) quits
    ∙ ap (λ x. record { text = x; at = p.at; fits = true }) (sym (round.answer.text ∙ ap (λ (x : CommandResponse). x.text) none))
    ∙ ap (λ x. record { text = text; at = x; fits = true }) (sym (round.answer.at ∙ ap (λ (x : CommandResponse). x.place.at) none)) in
    over t first p room given left rest had has more (l ++ 10 ∷ []) d round.ahead (fed_read fed left rest l has_feed round.read) round.sent
    (always rest (λ bytes. dialogue_from t room (lines_of ((l ++ 10 ∷ []) ++ bytes)) p ≡ d) is)

-- either of the two
pub ends_here : {t : TimelineData} {first : ℕ} {p : TimelinePlace} {room less : ℕ} {given left rest had has more : Option (List ℕ)} {fed : Bool} {l text : List ℕ}
    {at : ℕ} {breaks : List Breakpoint} → Round t first p room less given left rest had has more fed l text at breaks
    → is_last fed (command_line_of t.dialect l) ≡ true → (fed ≡ false → IsAtEnd rest)
    → IfSome given (λ bytes. WritesDialogue (dialogue_of t first bytes) true had more at)
ends_here {t} {first} {p} {room} {less} {given} {left} {rest} {had} {has} {more} {fed} {l} round last end =
    elim (either fed (is_quit (command_line_of t.dialect l)) last) [
      | inl no_feed ↦ ends_at_last round no_feed (end no_feed)
      | inr quits ↦ ends_at_quit round quits.0 quits.1
    ]

-- ---- a line that is too large

-- the first line of the bytes has at least so many of them
pub record IsLong (front rest : List ℕ) : Type 0 where
  pub first : List ℕ
  pub later : List (List ℕ)
  pub lines : lines_of (front ++ rest) ≡ first ∷ later
  pub long : length front ≤ length first

long_none : (rest : List ℕ) (ls : List (List ℕ)) → lines_of rest ≡ ls → IsLong [] rest
long_none rest [] e = absurd (has_lines rest e)
long_none rest (l ∷ ls) e = record { first = l; later = ls; lines = e; long = omega arith }

long_first : (front rest : List ℕ) → HasNoFeed front → IsLong front rest
long_first [] rest h = long_none rest (lines_of rest) refl
long_first (x ∷ xs) rest h =
    let more = long_first xs rest (All-tail (λ b. (b == 10) ≡ false) x xs h) in
    record {
      first = x ∷ more.first;
      later = more.later;
      lines = slice_split-cons_no (λ b. b == 10) x (xs ++ rest) (All-head (λ b. (b == 10) ≡ false) x xs h) ∙ ap (onto_first x) more.lines;
      long = omega (arith, more.long);
    }

large_by : (t : TimelineData) (p : TimelinePlace) (room byte : ℕ) (front rest : List ℕ) (b : Bool) → (byte == 10) ≡ b → HasNoFeed front → length front ≡ room
    → dialogue_from t room (lines_of ((front ++ byte ∷ []) ++ rest)) p ≡ ends p false
large_by t p room byte front rest true is h full =
    ap (λ b. dialogue_from t room (lines_of ((front ++ b ∷ []) ++ rest)) p) (eqb-true byte 10 is)
    ∙ ap (λ ls. dialogue_from t room ls p) (lines_fed front rest h)
    ∙ large_fed t room front (lines_of rest) p (has_lines rest) (omega (arith, full))
large_by t p room byte front rest false is h full =
    let long = long_first (front ++ byte ∷ []) rest (All-push (λ b. (b == 10) ≡ false) front byte h is) in
    let more : length (front ++ byte ∷ []) ≡ length front + 1 = length-append front (byte ∷ []) in
    ap (λ ls. dialogue_from t room ls p) long.lines ∙ large_step t room long.first long.later p (omega (arith, full, more, long.long))

-- a line was too large, and the lines before it were answered
pub ends_at_large : {t : TimelineData} {first : ℕ} {p : TimelinePlace} {room : ℕ} {given left rest had has : Option (List ℕ)}
    → IsAhead t first p room given left had has → IsTooLarge room left rest
    → IfSome given (λ bytes. WritesDialogue (dialogue_of t first bytes) false had has p.at)
ends_at_large {t} {first} {p} {room} {given} {left} {rest} {had} {has} a large =
    over t first p room given left rest had has has (large.front ++ large.byte ∷ []) (ends p false) a large.consumed (Appends-nil has)
    (always rest (λ bytes. dialogue_from t room (lines_of ((large.front ++ large.byte ∷ []) ++ bytes)) p ≡ ends p false)
    (λ bytes. large_by t p room large.byte large.front bytes (large.byte == 10) refl large.feeds large.full))

-- ---- what the calls of a round say

pub said_is : {u t : TimelineData} {d : Dialect} {slice l : List ℕ} {line : InputLine} → u ≡ t → d ≡ u.dialect → slice ≡ l → line ≡ command_line_of d slice
    → line ≡ command_line_of t.dialect l
said_is {u} {t} {d} {slice} {l} same dialect is said =
    said ∙ ap (λ x. command_line_of x slice) (dialect ∙ ap (λ (x : TimelineData). x.dialect) same) ∙ ap (command_line_of t.dialect) is

-- the line as it was read from the buffer, and its answer, are those of the timeline at the start
pub a_round : {t u : TimelineData} {first : ℕ} {p : TimelinePlace} {room less : ℕ} {given left had has : Option (List ℕ)} {fed : Bool} {l slice before text shown : List ℕ}
    {at : ℕ} {breaks : List Breakpoint} {d : Dialect} {line : InputLine} (rest more : Option (List ℕ))
    → IsAhead t first p room given left had has → u ≡ t → d ≡ u.dialect → slice ≡ l → line ≡ command_line_of d slice
    → before ≡ [] → IsAnswer (answer_to u p line) before text at breaks
    → Consumes left rest (l ++ feed fed) → HasNoFeed l → less + length l + length (feed fed) ≡ room → shown ≡ text → Appends has more shown
    → Round t first p room less given left rest had has more fed l text at breaks
a_round {t} {u} {first} {p} {room} {less} {given} {left} {had} {has} {fed} {l} {slice} {before} {text} {shown} {at} {breaks} {d} {line} rest more
    ahead same dialect is said none answer read feeds spent as_text sent =
    let whole : line ≡ command_line_of t.dialect l = said_is same dialect is said in
    record {
      ahead = ahead;
      read = read;
      feeds = feeds;
      spent = spent;
      answer = subst (λ x. IsAnswer (answer_to x p (command_line_of t.dialect l)) [] text at breaks) same
          (subst (λ x. IsAnswer (answer_to u p x) [] text at breaks) whole
          (subst (λ x. IsAnswer (answer_to u p line) x text at breaks) none answer));
      sent = subst (Appends has more) as_text sent;
    }
