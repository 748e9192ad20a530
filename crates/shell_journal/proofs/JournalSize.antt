-- The text of a concurrent cache's journal fits what a reader takes.
use Rattle.std.proofs.Common.{◌≡◌, ◌∙◌, ℕ, ◌+◌, ◌^◌, ◌<◌, ◌≤◌, List, [], ◌∷◌, ◌++◌, codes, length, ap, arith, length-append}
use Rattle.std.proofs.lemmas.Fmt.{length-decimal-le}
use Rattle.std.specs.Fmt.{decimal}
use Rattle.std.specs.List.{flat_map}
use Rattle.engine_base.specs.History.{Entries}
use Rattle.journal_text.specs.Journal.{begun, closing_line, ended_line, entry_line, header, journal_of}
use Rattle.journal_text.specs.Table.{count_words, spaced, spaced_words, text_of, Named, Wide}
use Rattle.journal_text.specs.declared.version.Version.TheVariants.{Two}
use Rattle.journal_text.proofs.Spacing.{spelled_spaced}
use Rattle.shell_journal.proofs.LineLengths.{lines-length, none-more, one-more}
use Rattle.shell_journal.proofs.NodeBounds.{nodes-low}
use Rattle.shell_journal.specs.JournalSize.{TextSizeLaw}

count-length : (n : ℕ) → n < 2 ^ 64 → length (closing_line Two n) ≤ 32
unfolding text_of
count-length n h =
    let text : spaced_words (count_words n) ≡ codes "steps" ++ spaced (Wide n ∷ []) = spelled_spaced (Named (codes "steps")) (Wide n ∷ []) in
    let sizes : length (spaced_words (count_words n)) ≡ length (codes "steps") + length (spaced (Wide n ∷ [])) =
    ap (λ (t : List ℕ). length t) text ∙ length-append (codes "steps") (spaced (Wide n ∷ [])) in
    let ended : length (closing_line Two n) ≡ length (spaced_words (count_words n)) + 1 = length-append (spaced_words (count_words n)) (10 ∷ []) in
    let digits : length (decimal n) ≤ 20 = length-decimal-le 20 n (omega arith) (omega arith) h in
    omega (arith, sizes, ended, digits, one-more (Wide n) [], none-more)

begun-length : (es : Entries) → length (begun Two es) ≡ 19 + length (flat_map entry_line es)
unfolding begun
begun-length es = length-append (ended_line (header Two)) (flat_map entry_line es)

pub text-size-law : TextSizeLaw
text-size-law x es r legal lines few =
    let all = lines-length es lines (nodes-low x es r legal) in
    let front = begun-length es in
    let last = count-length (length es) (omega (arith, few)) in
    let both : length (journal_of Two es) ≡ length (begun Two es) + length (closing_line Two (length es)) = length-append (begun Two es) (closing_line Two (length es)) in
    omega (arith, all, front, last, both, few)
