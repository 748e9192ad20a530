-- The bytes of a journal, line by line.
use Rattle.std.proofs.Common.{◌≡◌, ◌≢◌, ◌∙◌, ◌==◌, ℕ, Bool, true, false, List, [], ◌∷◌, ◌++◌, ap, sym, refl, subst, append_assoc, length, take, drop}
use Rattle.std.specs.List.{flat_map}
use Rattle.std.proofs.lemmas.Grind.{flat_map-append}
use Rattle.std.proofs.lemmas.List.Elements.{All-from_recursion, All-push}
use Rattle.std.proofs.lemmas.List.{append-nil, flat_map_more, take-append-drop}
use Rattle.journal_text.specs.Faults.{Step, Reply, Entry, Version, TakesLine}
use Rattle.journal_text.specs.Journal.{begun, ended_line, entry_line, header, journal_of, AreLines}
use Rattle.journal_text.specs.Table.{text_of, IsLine}
use Rattle.journal_text.specs.declared.line.JournalLine.TheVariants.{Made, Steps}
use Rattle.journal_text.specs.declared.version.Version.TheVariants.{One, Two}
use Rattle.engine_base.specs.History.{Entries}
use Rattle.streams.proofs.Feeds.{has_lines, lines_fed, one_unfed}
use Rattle.streams.specs.Feeds.{lines_of, HasNoFeed}

pub begun_none : (v : Version) → begun v [] ≡ ended_line (header v)
unfolding begun
begun_none v = append-nil (ended_line (header v))

pub begun_more : (v : Version) (es : Entries) (e : Entry Step Reply) → begun v (es ++ e ∷ []) ≡ begun v es ++ entry_line e
unfolding begun
begun_more v es e = sym (flat_map_more entry_line (ended_line (header v)) es e)

-- the lines of the first entries come before those of the others
pub begun_front : (v : Version) (n : ℕ) (es : Entries) → begun v es ≡ begun v (take n es) ++ flat_map entry_line (drop n es)
unfolding begun
begun_front v n es =
    ap (λ l. ended_line (header v) ++ flat_map entry_line l) (sym (take-append-drop n es))
    ∙ ap (λ b. ended_line (header v) ++ b) (flat_map-append entry_line (take n es) (drop n es))
    ∙ sym (append_assoc (ended_line (header v)) (flat_map entry_line (take n es)) (flat_map entry_line (drop n es)))

-- the first line is one line
pub same_line : (a b x y : List ℕ) → HasNoFeed a → HasNoFeed b → ended_line a ++ x ≡ ended_line b ++ y → (a ≡ b) × (lines_of x ≡ lines_of y)
same_line a b x y h k e =
    let both : a ∷ lines_of x ≡ b ∷ lines_of y = sym (lines_fed a x h) ∙ ap lines_of e ∙ lines_fed b y k in
    (cc, cc)

-- a text without a line feed has no line that ended
pub no_line : (a b y : List ℕ) → HasNoFeed a → HasNoFeed b → a ≢ ended_line b ++ y
no_line a b y h k e =
    let both : a ∷ [] ≡ b ∷ lines_of y = sym (one_unfed a h) ∙ ap lines_of e ∙ lines_fed b y k in
    let none : [] ≡ lines_of y = cc in
    has_lines y (sym none)

pub header_lacks : (v : Version) → HasNoFeed (header v)
header_lacks One = All-from_recursion (λ b. (b == 10) ≡ false) (header One) (refl, (refl, (refl, (refl, (refl, (refl, (refl, (refl, (refl, (refl, (refl, (refl, (refl, (refl, (refl, (refl, (refl, (refl, tt))))))))))))))))))
header_lacks Two = All-from_recursion (λ b. (b == 10) ≡ false) (header Two) (refl, (refl, (refl, (refl, (refl, (refl, (refl, (refl, (refl, (refl, (refl, (refl, (refl, (refl, (refl, (refl, (refl, (refl, tt))))))))))))))))))

-- ---- the lines behind the header

-- an entry more was taken, and its line is gone
pub line_gone : (v : Version) (old new : Entries) (text rest behind whole : List ℕ) (closed : Bool) → closed ≡ false → TakesLine closed v text old new
    → begun v old ++ rest ≡ whole → rest ≡ ended_line text ++ behind → begun v new ++ behind ≡ whole
line_gone v old new text rest behind whole closed more took before line =
    let t = subst (λ b. TakesLine b v text old new) more took in
    ap (λ k. begun v k ++ behind) t.3 ∙ ap (λ t. t ++ behind) (begun_more v old t.0) ∙ append_assoc (begun v old) (entry_line t.0) behind
    ∙ ap (λ x. begun v old ++ (ended_line x ++ behind)) t.2 ∙ ap (λ r. begun v old ++ r) (sym line) ∙ before

-- and it is a line of the table too
pub line_more : (v : Version) (old new : Entries) (text : List ℕ) (closed : Bool) → closed ≡ false → TakesLine closed v text old new → AreLines v old → AreLines v new
line_more v old new text closed more took lines =
    let t = subst (λ b. TakesLine b v text old new) more took in
    subst (AreLines v) (sym t.3) (All-push (λ e. IsLine v (Made e)) old t.0 lines t.1)

-- the right count was taken, and its line is gone
pub count_gone : (v : Version) (old new : Entries) (text rest behind whole : List ℕ) → TakesLine true v text old new → AreLines v old
    → begun v old ++ rest ≡ whole → rest ≡ ended_line text ++ behind → AreLines Two new × (whole ≡ journal_of Two new ++ behind)
count_gone v old new text rest behind whole t lines before line =
    let count = ended_line (text_of (Steps (length old))) in (
      subst (AreLines Two) (sym t.2) (subst (λ u. AreLines u old) t.0 lines),
      sym before ∙ ap (λ r. begun v old ++ r) line ∙ ap (λ x. begun v old ++ (ended_line x ++ behind)) (sym t.1)
          ∙ sym (append_assoc (begun v old) count behind) ∙ ap (λ u. (begun u old ++ count) ++ behind) t.0 ∙ ap (λ n. journal_of Two n ++ behind) (sym t.2),
    )
