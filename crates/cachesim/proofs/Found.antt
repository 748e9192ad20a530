-- Which fault is found, from what the parts of a call say.
use Rattle.std.proofs.Common.{◌≡◌, ◌<◌, ◌∙◌, ◌⊎◌, refl, subst, sym, inl, inr, ℕ, List, Option, Result, Ok, Err, length, ◌+◌, ◌-◌, arith, false, suc, [], ◌∷◌, length-append}
use Rattle.std.specs.Prelude.{IfErr, IfSome, IsErrAnd, nat_lt}
use Rattle.std.proofs.lemmas.Option.{IfSome_then}
use Rattle.std.specs.List.{join_with_byte}
use Rattle.std.proofs.lemmas.Bool.{cases_Bool, cond-false, cond-true, ltb-false, ltb-true}
use Rattle.std.proofs.lemmas.List.Splits.{join_with_byte-slice_split}
use Rattle.debug_commands.specs.declared.fault.DebugFault.TheVariants as debug
use Rattle.debug_commands.specs.declared.dialogue.TheConstants.{MAX_COMMAND_BYTES}
use Rattle.streams.specs.Feeds.{lines_of}
use Rattle.debug_commands.specs.Answers.{TimelinePlace}
use Rattle.debug_commands.specs.Commands.{command_line_of}
use Rattle.debug_commands.specs.Dialogue.{Dialogue, dialogue_from, dialogue_of, is_quit}
use Rattle.debug_commands.specs.Timeline.{TimelineData}
use Rattle.cachesim.specs.DebugOutput.{KnownFiles}
use Rattle.cachesim.specs.Fault.{Fault, DebugFault, of_debug}
use Rattle.cachesim.specs.FaultCauses.{IsOfMachine, LeavesAnswers}
use Rattle.cachesim.specs.declared.fault.Fault.TheVariants as fault

-- an error that a `?` hands on
pub err_is : {X Y : Type 0} (P : Y → Type 0) (r : Result X Y) (e : Y) → IsErrAnd r (λ f. f ≡ e) → P e → IfErr r P
err_is P (Ok x) e h p = absurd h
err_is P (Err f) e h p = subst P (sym h) p

-- the bytes that were read are those of the file, where these are known
pub known_text : (known : KnownFiles) (path file bytes text : List ℕ) → path ≡ file → IfSome (known path) (λ xs. bytes ≡ xs) → text ≡ bytes → IfSome (known file) (λ xs. text ≡ xs)
known_text known path file bytes text named has is =
    IfSome_then (known file) (subst (λ (p : List ℕ). IfSome (known p) (λ xs. bytes ≡ xs)) named has) (λ xs h. is ∙ h)

pub of_text : (file : Option (List ℕ)) (text : List ℕ) (P : List ℕ → Type 0) → IfSome file (λ xs. text ≡ xs) → P text → IfSome file P
of_text file text P has h = IfSome_then file has (λ xs is. subst P is h)

-- a fault of a debugger of which no configuration is refused is one of the machine, or that of a line that is too large
pub of_dialogue : (Q : Fault → Type 0) (commands : Option (List ℕ)) (e : DebugFault)
    → (IfSome commands (λ bytes. MAX_COMMAND_BYTES < length bytes) → Q (fault.Debug debug.TooLarge)) → ((i : ℕ) → e ≡ debug.Config i → ⊥)
    → (e ≡ debug.TooLarge → IfSome commands (λ bytes. MAX_COMMAND_BYTES < length bytes)) → IsOfMachine (of_debug e) ⊎ Q (of_debug e)
of_dialogue Q commands debug.OutOfMemory large none past = inl tt
of_dialogue Q commands debug.Read large none past = inl tt
of_dialogue Q commands debug.Write large none past = inl tt
of_dialogue Q commands debug.TooLarge large none past = inr (large (past refl))
of_dialogue Q commands (debug.Config i) large none past = absurd (none i refl)

-- what a debugger leaves at a fault
pub answers_left : (Answered Begun Kept : Type 0) (e : DebugFault) → (e ≡ debug.TooLarge → Answered) → Begun
    → LeavesAnswers Answered Begun (of_debug e) Kept
answers_left Answered Begun Kept debug.OutOfMemory large begun = (λ before. absurd before, inr begun)
answers_left Answered Begun Kept debug.Read large begun = (λ before. absurd before, inr begun)
answers_left Answered Begun Kept debug.Write large begun = (λ before. absurd before, inr begun)
answers_left Answered Begun Kept debug.TooLarge large begun = large refl
answers_left Answered Begun Kept (debug.Config i) large begun = (λ before. absurd before, inr begun)

at_false : (d e : Dialogue) → d ≡ e → d.fits ≡ false → e.fits ≡ false
at_false d e same past = subst (λ (x : Dialogue). x.fits ≡ false) same past

-- where a line goes past the room that there is, all lines do
past_room : (t : TimelineData) (room : ℕ) (ls : List (List ℕ)) (p : TimelinePlace) → (dialogue_from t room ls p).fits ≡ false → room < length (join_with_byte 10 ls)
unfolding dialogue_from
past_room t room [] p past = absurd (cc past)
past_room t room (l ∷ []) p past = elim (cases_Bool (nat_lt room (length l))) [
  | inl over ↦ ltb-true room (length l) over
  | inr has ↦ absurd (cc (at_false _ _ (cond-false _ _ _ has) past))
]
past_room t room (l ∷ m ∷ ls) p past =
    let size : length (join_with_byte 10 (l ∷ m ∷ ls)) ≡ length l + suc (length (join_with_byte 10 (m ∷ ls))) = length-append l _ in
    elim (cases_Bool (nat_lt room (length l + 1))) [
      | inl over ↦ (let less = ltb-true room (length l + 1) over in omega (less, size, arith))
      | inr has ↦
          let least = ltb-false room (length l + 1) has in
          let here = at_false _ _ (cond-false _ _ _ has) past in
          elim (cases_Bool (is_quit (command_line_of t.dialect l))) [
            | inl quits ↦ absurd (cc (at_false _ _ (cond-true _ _ _ quits) here))
            | inr other ↦
                let rest = past_room t (room - (length l + 1)) (m ∷ ls) _ (at_false _ _ (cond-false _ _ _ other) here) in
                omega (rest, least, size, arith)
          ]
    ]

-- so commands that do not fit have more bytes than are read
pub past_limit : (t : TimelineData) (at : ℕ) (bytes : List ℕ) → (dialogue_of t at bytes).fits ≡ false → MAX_COMMAND_BYTES < length bytes
past_limit t at bytes past =
    subst (λ (l : List ℕ). MAX_COMMAND_BYTES < length l) (join_with_byte-slice_split 10 bytes) (past_room t MAX_COMMAND_BYTES (lines_of bytes) _ past)
