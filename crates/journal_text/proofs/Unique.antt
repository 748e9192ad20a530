-- One text is the journal of one list of entries.
use Rattle.std.proofs.Common.{◌≡◌, ◌≢◌, ◌∙◌, ◌<◌, ◌^◌, ℕ, List, [], ◌∷◌, ◌++◌, length, get_or, ap, sym, refl, subst, arith, Some, append_assoc, length-append}
use Rattle.std.proofs.lemmas.List.{append-nil, append_cancel_left}
use Rattle.std.proofs.lemmas.List.Elements.{All-head, All-tail}
use Rattle.std.specs.List.{flat_map}
use Rattle.journal_text.specs.Journal.{Entry, begun, closing_line, ended_line, entry_line, header, journal_of, AreLines}
use Rattle.journal_text.specs.LineGrammar.{JournalLine, line_in}
use Rattle.journal_text.specs.Table.{text_of, IsLine}
use Rattle.journal_text.specs.declared.line.JournalLine.TheVariants.{Made, Steps}
use Rattle.journal_text.specs.declared.version.Version.{Version}
use Rattle.journal_text.specs.declared.version.Version.TheVariants.{One, Two}
use Rattle.journal_text.proofs.Fronts.{header_lacks, same_line}
use Rattle.journal_text.proofs.LineLaws.{line_again, line_lacks}
use Rattle.engine_base.specs.declared.step.Reply.{Reply}
use Rattle.engine_base.specs.declared.step.Step.{Step}
use Rattle.engine_base.specs.History.{Entries}

same_some : {A : Type 0} {x y : A} → Some x ≡ Some y → x ≡ y
same_some h = cc

-- one line has one spelling, and one text is the spelling of one line
pub one_line : (v : Version) (l m : JournalLine) → IsLine v l → IsLine v m → text_of l ≡ text_of m → l ≡ m
one_line v l m h k e = same_some (sym (line_again v l h) ∙ ap line_in e ∙ line_again v m k)

-- the first of two lines that end is one line, and what is behind it is one rest
pub front_line : (v : Version) (l m : JournalLine) (x y : List ℕ) → IsLine v l → IsLine v m → ended_line (text_of l) ++ x ≡ ended_line (text_of m) ++ y → (l ≡ m) × (x ≡ y)
front_line v l m x y h k e =
    let text = (same_line (text_of l) (text_of m) x y (line_lacks v l h) (line_lacks v m k) e).0 in
    (one_line v l m h k text, append_cancel_left (ended_line (text_of l)) x y (e ∙ ap (λ t. ended_line t ++ y) (sym text)))

pub made_same : {e f : Entry Step Reply} → Made e ≡ Made f → e ≡ f
made_same h = cc

pub count_line : (n : ℕ) → n < 2 ^ 64 → IsLine Two (Steps n)
unfolding IsLine
count_line n h = ((tt, (h, tt)), refl)

pub nothing_ended : (t x : List ℕ) → [] ≢ ended_line t ++ x
nothing_ended t x e =
    let count : 0 ≡ length (ended_line t ++ x) = ap length e in
    omega (arith, length-append (ended_line t) x, length-append t (10 ∷ []))

-- what closes a journal is no line of an entry
pub no_entry : (v : Version) (n : ℕ) (f : Entry Step Reply) (y : List ℕ) → n < 2 ^ 64 → IsLine v (Made f) → closing_line v n ≢ entry_line f ++ y
no_entry One n f y h k e = nothing_ended (text_of (Made f)) y e
no_entry Two n f y h k e =
    let both = front_line Two (Steps n) (Made f) [] y (count_line n h) k (append-nil (ended_line (text_of (Steps n))) ∙ e) in
    let line : Steps n ≡ Made f = both.0 in
    absurd (cc)

rest_same : (v : Version) (m n : ℕ) (es fs : Entries) → m < 2 ^ 64 → n < 2 ^ 64 → AreLines v es → AreLines v fs
    → flat_map entry_line es ++ closing_line v m ≡ flat_map entry_line fs ++ closing_line v n → es ≡ fs
rest_same v m n [] [] hm hn he hf e = refl
rest_same v m n [] (f ∷ fs) hm hn he hf e =
    absurd (no_entry v m f (flat_map entry_line fs ++ closing_line v n) hm (All-head (λ x. IsLine v (Made x)) f fs hf) (e ∙ append_assoc (entry_line f) (flat_map entry_line fs) (closing_line v n)))
rest_same v m n (f ∷ es) [] hm hn he hf e =
    absurd (no_entry v n f (flat_map entry_line es ++ closing_line v m) hn (All-head (λ x. IsLine v (Made x)) f es he) (sym e ∙ append_assoc (entry_line f) (flat_map entry_line es) (closing_line v m)))
rest_same v m n (x ∷ es) (y ∷ fs) hm hn he hf e =
    let both = front_line v (Made x) (Made y) (flat_map entry_line es ++ closing_line v m) (flat_map entry_line fs ++ closing_line v n)
    (All-head (λ z. IsLine v (Made z)) x es he) (All-head (λ z. IsLine v (Made z)) y fs hf)
    (sym (append_assoc (entry_line x) (flat_map entry_line es) (closing_line v m)) ∙ e ∙ append_assoc (entry_line y) (flat_map entry_line fs) (closing_line v n)) in
    let first : x ≡ y = made_same both.0 in
    let later : es ≡ fs = rest_same v m n es fs hm hn (All-tail (λ z. IsLine v (Made z)) x es he) (All-tail (λ z. IsLine v (Made z)) y fs hf) both.1 in
    cc

digits_apart : ◌≡◌ {A = ℕ} 49 50 → ⊥
digits_apart h = omega arith

pub one_header : (v w : Version) → header v ≡ header w → v ≡ w
one_header One One e = refl
one_header One Two e = absurd (digits_apart (ap (λ (h : List ℕ). get_or h 17 0) e))
one_header Two One e = absurd (digits_apart (ap (λ (h : List ℕ). get_or h 17 0) (sym e)))
one_header Two Two e = refl

-- So a text that was written and is read gives the entries that were written.
pub one_journal : (v w : Version) (es fs : Entries) → length es < 2 ^ 64 → length fs < 2 ^ 64 → AreLines v es → AreLines w fs
    → journal_of v es ≡ journal_of w fs → (v ≡ w) × (es ≡ fs)
unfolding begun
one_journal v w es fs m n he hf e =
    let left = append_assoc (ended_line (header v)) (flat_map entry_line es) (closing_line v (length es)) in
    let right = append_assoc (ended_line (header w)) (flat_map entry_line fs) (closing_line w (length fs)) in
    let whole = sym left ∙ e ∙ right in
    let heads = (same_line (header v) (header w) _ _ (header_lacks v) (header_lacks w) whole).0 in
    let version = one_header v w heads in
    let rest = append_cancel_left (ended_line (header v)) _ _ (whole ∙ ap (λ h. ended_line h ++ (flat_map entry_line fs ++ closing_line w (length fs))) (sym heads)) in
    (version, rest_same v (length es) (length fs) es fs m n he (subst (λ u. AreLines u fs) (sym version) hf) (rest ∙ ap (λ u. flat_map entry_line fs ++ closing_line u (length fs)) (sym version)))
