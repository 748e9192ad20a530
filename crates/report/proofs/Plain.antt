-- A record of fields that want no quotes is written as they are, between commas.
use Rattle.std.proofs.Common.{◌≡◌, ◌∙◌, ◌<◌, ◌≤◌, ◌^◌, ◌/◌, ◌%◌, ◌==◌, ℕ, suc, false, List, [], ◌∷◌, ◌++◌, Option, Some, None, refl, ap, get_or, map, subst, arith}
use Rattle.std.proofs.lemmas.List.{append-nil}
use Rattle.std.proofs.lemmas.List.Folds.{list_any-append}
use Rattle.std.proofs.lemmas.Bool.{ne_eqb, or_from}
use Rattle.std.proofs.lemmas.Str.Parse.{digit_from_value}
use Rattle.std.proofs.lemmas.Fmt.{decimal_is_IsNumeral_wide}
use Rattle.std.specs.Prelude.{codes}
use Rattle.std.specs.Io.KnownBytes.{Appends}
use Rattle.std.specs.List.{join_with_byte, list_any}
use Rattle.std.specs.Fmt.{decimal}
use Rattle.std.specs.Str.Parse.{AllDigits}
use Rattle.csv.specs.Writing.{default_writer, field_text, fields_text, is_blank, needs_byte, row_body, row_text}
use Rattle.policies.specs.Reports.{rate_of}
use Rattle.report.specs.Text.{Report, line_text, rate_text_of, row_fields}
use Rattle.report.specs.ShortSizes.{AreShort, IsShort}
use Rattle.step_record.specs.Job.{name_of, word_of}
use Rattle.step_record.specs.Sizes.{size_text, sizes_text}
use Rattle.step_record.specs.declared.sizes.Sizes.{Sizes}
use Rattle.step_record.specs.declared.job.Policy.{Policy}
use Rattle.step_record.specs.declared.job.Policy.TheVariants.{Lru}

abbrev pub IsPlain : List ℕ → Type 0
IsPlain field = list_any (needs_byte default_writer) field ≡ false

abbrev pub AllPlain : List (List ℕ) → Type 0
AllPlain [] = Unit {0}
AllPlain (f ∷ fs) = IsPlain f × AllPlain fs

plain_text : (f : List ℕ) → IsPlain f → field_text default_writer f ≡ f
plain_text f h = rw h refl

body : (f : List ℕ) (fs : List (List ℕ)) → AllPlain (f ∷ fs) → row_body default_writer (f ∷ fs) ≡ join_with_byte 44 (f ∷ fs)
unfolding fields_text
body f [] h = append-nil (field_text default_writer f) ∙ plain_text f h.0
body f (g ∷ gs) h = ap (λ t. t ++ (44 ∷ row_body default_writer (g ∷ gs))) (plain_text f h.0) ∙ ap (λ t. f ++ (44 ∷ t)) (body g gs h.1)

pub plain_row : (f g : List ℕ) (fs : List (List ℕ)) → AllPlain (f ∷ g ∷ fs) → row_text default_writer (f ∷ g ∷ fs) ≡ line_text (f ∷ g ∷ fs)
unfolding line_text is_blank
plain_row f g fs h = ap (λ t. t ++ 10 ∷ []) (body f (g ∷ fs) h)

-- ---- which fields want no quotes

digit_plain : (b : ℕ) → 48 ≤ b → b ≤ 57 → needs_byte default_writer b ≡ false
digit_plain b low high =
    let comma : (b == 44) ≡ false = ne_eqb _ _ (λ e. omega arith) in
    let quote : (b == 34) ≡ false = ne_eqb _ _ (λ e. omega arith) in
    let cr : (b == 13) ≡ false = ne_eqb _ _ (λ e. omega arith) in
    let lf : (b == 10) ≡ false = ne_eqb _ _ (λ e. omega arith) in
    rw (comma, quote, cr, lf) refl

digits_plain : (ds : List ℕ) → AllDigits 10 ds → IsPlain ds
digits_plain [] h = refl
digits_plain (d ∷ ds) h =
    let r = digit_from_value d h.0 in
    or_from _ _ (digit_plain d (omega arith) (omega arith)) (digits_plain ds h.1)

pub decimal_plain : (n : ℕ) → n < 10 ^ 64 → IsPlain (decimal n)
decimal_plain n h = digits_plain (decimal n) (decimal_is_IsNumeral_wide n h).0.1

append_plain : (xs ys : List ℕ) → IsPlain xs → IsPlain ys → IsPlain (xs ++ ys)
append_plain xs ys h k = list_any-append _ xs ys ∙ or_from _ _ h k

pub rate_plain : (n : ℕ) → n < 10 ^ 64 → IsPlain (rate_text_of n)
unfolding rate_text_of
rate_plain n h =
    let tens = decimal (n % 100 / 10) in
    let ones = decimal (n % 10) in
    append_plain (decimal (n / 100)) (46 ∷ (tens ++ ones)) (decimal_plain (n / 100) (omega arith))
    (append_plain (46 ∷ []) (tens ++ ones) refl
    (append_plain tens ones (decimal_plain (n % 100 / 10) (omega arith)) (decimal_plain (n % 10) (omega arith))))

pub word_plain : (p : Policy) → IsPlain (word_of p)
word_plain Lru = refl
word_plain _ = refl

size_plain : (name : List ℕ) (size : Option ℕ) → IsPlain name → IsShort size → IsPlain (size_text name size)
size_plain name None h few = refl
size_plain name (Some n) h few = append_plain name (decimal n) h (decimal_plain n (omega (arith, few)))

size_first : (name : List ℕ) (size : Option ℕ) (rest : List ℕ) → IsPlain name → IsShort size → IsPlain rest → IsPlain (size_text name size ++ rest)
size_first name size rest h few k = append_plain (size_text name size) rest (size_plain name size h few) k

sizes_plain : (s : Sizes) → AreShort s → IsPlain (sizes_text s)
sizes_plain s few =
    let small = size_text (codes ":small=") s.small in
    let kout = size_text (codes ":out=") s.kout ++ small in
    let kin = size_text (codes ":in=") s.kin ++ kout in
    let period = size_text (codes ":period=") s.period ++ kin in
    size_first (codes ":main=") s.main period refl few.main
    (size_first (codes ":period=") s.period kin refl few.period
    (size_first (codes ":in=") s.kin kout refl few.kin
    (size_first (codes ":out=") s.kout small refl few.kout
    (size_plain (codes ":small=") s.small refl few.small))))

name_plain : (p : Policy) (s : Sizes) → AreShort s → IsPlain (name_of p s)
name_plain p s few = append_plain (word_of p) (sizes_text s) (word_plain p) (sizes_plain s few)

numbers_plain : (numbers : List ℕ) (rate : ℕ) → ((k : ℕ) → get_or numbers k 0 < 2 ^ 64) → rate < 10 ^ 64 → AllPlain (map decimal numbers ++ rate_text_of rate ∷ [])
numbers_plain [] rate small few = (rate_plain rate few, tt)
numbers_plain (n ∷ numbers) rate small few = (decimal_plain n (omega (arith, small 0)), numbers_plain numbers rate (λ k. small (suc k)) few)

-- a row is written as it is
pub row_plain : (r : Report) (numbers : List ℕ) → ((k : ℕ) → get_or numbers k 0 < 2 ^ 64) → rate_of r < 10 ^ 64 → AreShort r.sizes → row_text default_writer (row_fields r numbers) ≡ line_text (row_fields r numbers)
row_plain r [] small few sizes = plain_row _ _ _ (name_plain r.policy r.sizes sizes, numbers_plain [] _ small few)
row_plain r (n ∷ numbers) small few sizes = plain_row _ _ _ (name_plain r.policy r.sizes sizes, numbers_plain (n ∷ numbers) _ small few)

-- what a writer of known bytes wrote besides
pub appended : (old : Option (List ℕ)) (x y z w : List ℕ) → old ≡ Some x → Appends old (Some y) z → z ≡ w → Some y ≡ Some (x ++ w)
appended old x y z w is h e =
    let k : Appends (Some x) (Some y) z = subst (λ o. Appends o (Some y) z) is h in
    ap Some (k ∙ ap (λ l. x ++ l) e)
