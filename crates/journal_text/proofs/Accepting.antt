-- No line of a journal that is legal is at fault.
use Rattle.std.proofs.Common.{◌≡◌, ◌∙◌, ◌<◌, ◌≤◌, ◌+◌, ◌^◌, ◌⊎◌, inl, inr, ℕ, List, [], ◌∷◌, ◌++◌, length, ap, sym, refl, subst, arith, Option, Some, None, Result, Ok, Err, append_assoc, length-append}
use Rattle.std.proofs.lemmas.List.{append-nil, append_cancel_left}
use Rattle.std.proofs.lemmas.List.Elements.{All-head, All-tail}
use Rattle.std.specs.List.{flat_map}
use Rattle.std.specs.Prelude.{IfErr, OnOk}
use Rattle.journal_text.specs.Faults.{Step, Reply, Entry, Version, JournalFault, Accepts, IsAtLine, IsFault, IsWrong}
use Rattle.journal_text.specs.Journal.{begun, closing_line, ended_line, entry_line, header, journal_of, AreLines, IsJournalText, IsTextOf}
use Rattle.journal_text.specs.declared.reader.TheConstants.{MAX_JOURNAL_BYTES}
use Rattle.journal_text.specs.Table.{text_of, IsLine}
use Rattle.journal_text.specs.declared.fault.JournalFault.TheVariants as fault
use Rattle.journal_text.specs.declared.line.JournalLine.TheVariants.{Made, Steps}
use Rattle.journal_text.specs.declared.version.Version.TheVariants.{One, Two}
use Rattle.journal_text.proofs.Fronts.{header_lacks, no_line, same_line}
use Rattle.journal_text.proofs.LineLaws.{line_lacks}
use Rattle.journal_text.proofs.Unique.{count_line, front_line, made_same, no_entry, nothing_ended, one_header, one_journal, one_line}
use Rattle.engine_base.specs.History.{data_after, next_data, IsLegal, Entries}
use Rattle.streams.specs.Feeds.{HasNoFeed}

-- what stands behind the lines of the first entries
record Rest (v : Version) (n : ℕ) (es fs : Entries) (z : List ℕ) : Type 0 where
  gs : Entries
  whole : es ≡ fs ++ gs
  text : z ≡ flat_map entry_line gs ++ closing_line v n
  lines : AreLines v gs

rest_of : (v : Version) (n : ℕ) (es fs : Entries) (z : List ℕ) → n < 2 ^ 64 → AreLines v es → AreLines v fs
    → flat_map entry_line es ++ closing_line v n ≡ flat_map entry_line fs ++ z → Rest v n es fs z
rest_of v n es [] z h he hf e = record { gs = es; whole = refl; text = sym e; lines = he }
rest_of v n [] (f ∷ fs) z h he hf e =
    absurd (no_entry v n f (flat_map entry_line fs ++ z) h (All-head (λ x. IsLine v (Made x)) f fs hf) (e ∙ append_assoc (entry_line f) (flat_map entry_line fs) z))
rest_of v n (x ∷ es) (y ∷ fs) z h he hf e =
    let both = front_line v (Made x) (Made y) (flat_map entry_line es ++ closing_line v n) (flat_map entry_line fs ++ z)
    (All-head (λ z. IsLine v (Made z)) x es he) (All-head (λ z. IsLine v (Made z)) y fs hf)
    (sym (append_assoc (entry_line x) (flat_map entry_line es) (closing_line v n)) ∙ e ∙ append_assoc (entry_line y) (flat_map entry_line fs) z) in
    let later = rest_of v n es fs z h (All-tail (λ z. IsLine v (Made z)) x es he) (All-tail (λ z. IsLine v (Made z)) y fs hf) both.1 in
    let first : x ≡ y = made_same both.0 in
    record { gs = later.gs; whole = ap (λ t. x ∷ t) later.whole ∙ ap (λ t. t ∷ (fs ++ later.gs)) first; text = later.text; lines = later.lines }

journal_rest : (v w : Version) (es fs : Entries) (z : List ℕ) → length es < 2 ^ 64 → AreLines v es → AreLines w fs
    → journal_of v es ≡ begun w fs ++ z → (v ≡ w) × Rest v (length es) es fs z
unfolding begun
journal_rest v w es fs z h he hf e =
    let left = append_assoc (ended_line (header v)) (flat_map entry_line es) (closing_line v (length es)) in
    let right = append_assoc (ended_line (header w)) (flat_map entry_line fs) z in
    let whole = sym left ∙ e ∙ right in
    let heads = (same_line (header v) (header w) _ _ (header_lacks v) (header_lacks w) whole).0 in
    let version = one_header v w heads in
    let rest = append_cancel_left (ended_line (header v)) _ _ (whole ∙ ap (λ t. ended_line t ++ (flat_map entry_line fs ++ z)) (sym heads)) in
    (version, rest_of v (length es) es fs z h he (subst (λ u. AreLines u fs) (sym version) hf) rest)

-- the line that stands there: the count, or an entry
data Next (v : Version) (n : ℕ) (es fs : Entries) (text : List ℕ) : Type 0 where
  Closes : v ≡ Two → es ≡ fs → text ≡ text_of (Steps n) → Next v n es fs text
  Goes : (g : Entry Step Reply) (gs : Entries) → es ≡ fs ++ g ∷ gs → IsLine v (Made g) → text ≡ text_of (Made g) → Next v n es fs text

next_none : (v : Version) (n : ℕ) (es fs : Entries) (text more : List ℕ) → n < 2 ^ 64 → HasNoFeed text → es ≡ fs → ended_line text ++ more ≡ closing_line v n → Next v n es fs text
next_none One n es fs text more h k same e = absurd (nothing_ended text more (sym e))
next_none Two n es fs text more h k same e =
    Closes refl same (same_line text (text_of (Steps n)) more [] k (line_lacks Two (Steps n) (count_line n h)) (e ∙ sym (append-nil (ended_line (text_of (Steps n)))))).0

next_of : (v : Version) (n : ℕ) (es fs : Entries) (text more : List ℕ) (gs : Entries) → n < 2 ^ 64 → HasNoFeed text → AreLines v gs → es ≡ fs ++ gs
    → ended_line text ++ more ≡ flat_map entry_line gs ++ closing_line v n → Next v n es fs text
next_of v n es fs text more [] h k l w e = next_none v n es fs text more h k (w ∙ append-nil fs) e
next_of v n es fs text more (g ∷ gs) h k l w e =
    let line = All-head (λ x. IsLine v (Made x)) g gs l in
    Goes g gs w line (same_line text (text_of (Made g)) more (flat_map entry_line gs ++ closing_line v n) k (line_lacks v (Made g) line)
    (e ∙ append_assoc (entry_line g) (flat_map entry_line gs) (closing_line v n))).0

count_apart : (v : Version) (n : ℕ) (e : Entry Step Reply) → v ≡ Two → n < 2 ^ 64 → IsLine v (Made e) → text_of (Steps n) ≡ text_of (Made e) → ⊥
count_apart v n e two h k t =
    let line : Steps n ≡ Made e = one_line Two (Steps n) (Made e) (count_line n h) (subst (λ u. IsLine u (Made e)) two k) t in
    absurd (cc)

module _ {D : Type 0} (act : D → Step → Option (Reply × D)) where
  legal_at : (x : D) (fs : Entries) (g : Entry Step Reply) (gs : Entries) → IsLegal act x (fs ++ g ∷ gs)
      → act (data_after act x fs) g.step ≡ Some (g.reply, next_data (act (data_after act x fs) g.step) (data_after act x fs))
  legal_at x [] g gs h = h.0
  legal_at x (f ∷ fs) g gs h = legal_at (next_data (act x f.step) x) fs g gs h.1

pair_same : {A B : Type 0} (p q : A × B) → Some p ≡ Some q → p.0 ≡ q.0
pair_same p q h = let same : p ≡ q = cc in ap (λ r. r.0) same

past_count : (m n : ℕ) (gs : Entries) (more : List ℕ) → m < 2 ^ 64 → n < 2 ^ 64 → AreLines Two gs
    → ended_line (text_of (Steps m)) ++ more ≡ flat_map entry_line gs ++ closing_line Two n → more ≡ []
past_count m n [] more hm hn l e =
    (front_line Two (Steps m) (Steps n) more [] (count_line m hm) (count_line n hn) (e ∙ sym (append-nil (ended_line (text_of (Steps n)))))).1
past_count m n (g ∷ gs) more hm hn l e =
    let line : Steps m ≡ Made g = (front_line Two (Steps m) (Made g) more (flat_map entry_line gs ++ closing_line Two n) (count_line m hm) (All-head (λ y. IsLine Two (Made y)) g gs l)
    (e ∙ append_assoc (entry_line g) (flat_map entry_line gs) (closing_line Two n))).0 in
    absurd (cc)

cut_short : (v : Version) (n : ℕ) (gs : Entries) (rest : List ℕ) → n < 2 ^ 64 → AreLines v gs → HasNoFeed rest → (v ≡ One → 0 < length rest)
    → rest ≡ flat_map entry_line gs ++ closing_line v n → ⊥
cut_short One n [] rest h l k some e =
    let none : length rest ≡ 0 = ap length e in
    omega (arith, some refl, none)
cut_short Two n [] rest h l k some e = no_line rest (text_of (Steps n)) [] k (line_lacks Two (Steps n) (count_line n h)) (e ∙ sym (append-nil (ended_line (text_of (Steps n)))))
cut_short v n (g ∷ gs) rest h l k some e =
    no_line rest (text_of (Made g)) (flat_map entry_line gs ++ closing_line v n) k (line_lacks v (Made g) (All-head (λ y. IsLine v (Made y)) g gs l))
    (e ∙ append_assoc (entry_line g) (flat_map entry_line gs) (closing_line v n))

header_front : (v : Version) (es : Entries) → journal_of v es ≡ ended_line (header v) ++ (flat_map entry_line es ++ closing_line v (length es))
unfolding begun
header_front v es = append_assoc (ended_line (header v)) (flat_map entry_line es) (closing_line v (length es))

-- what is known of a text that the session takes
record Fine {D : Type 0} (act : D → Step → Option (Reply × D)) (x : D) (limit : ℕ) (es : Entries) : Type 0 where
  legal : IsLegal act x es
  room : length es ≤ limit
  few : length es < 2 ^ 64

-- a fault that says nothing of the text
abbrev IsOutside : JournalFault → Type 0
IsOutside f = (f ≡ fault.OutOfMemory) ⊎ (f ≡ fault.Read)

-- a journal has a byte for each entry
lines_enough : (es : Entries) → length es ≤ length (flat_map entry_line es)
lines_enough [] = omega arith
lines_enough (e ∷ es) =
    omega (arith, lines_enough es, length-append (entry_line e) (flat_map entry_line es), length-append (text_of (Made e)) (10 ∷ []))

enough : (v : Version) (es : Entries) → length es ≤ length (journal_of v es)
unfolding begun
enough v es =
    omega (arith, lines_enough es, length-append (begun v es) (closing_line v (length es)), length-append (ended_line (header v)) (flat_map entry_line es))

module _ {D : Type 0} (act : D → Step → Option (Reply × D)) (x : D) (limit : ℕ) (v : Version) (es kept : Entries) where
  never : (f : JournalFault) (fs : Entries) (text : List ℕ) → Fine act x limit es → Next v (length es) es fs text → IsWrong act x limit f v fs text kept → IsOutside f
  never fault.OutOfMemory fs text ok next h = inl refl
  never (fault.Line n) fs text ok (Closes two same t) h = absurd (h.2 (Steps (length es)) (subst (λ u. IsLine u (Steps (length es))) (sym two) (count_line (length es) ok.few)) (sym t))
  never (fault.Line n) fs text ok (Goes g gs w line t) h = absurd (h.2 (Made g) line (sym t))
  never (fault.FalseReply n) fs text ok (Closes two same t) h = absurd (count_apart v (length es) h.1.0 two ok.few h.1.2.0 (sym t ∙ sym h.1.2.1))
  never (fault.FalseReply n) fs text ok (Goes g gs w line t) h =
      let e = h.1.0 in
      let same : e ≡ g = made_same (one_line v (Made e) (Made g) h.1.2.0 line (h.1.2.1 ∙ t)) in
      let mine = h.1.5.1 in
      let right = legal_at act x fs g gs (subst (IsLegal act x) w ok.legal) in
      let both = sym mine ∙ ap (λ y. act (data_after act x fs) y.step) same ∙ right in
      absurd (h.1.4 (pair_same _ _ both ∙ ap (λ y. y.reply) (sym same)))
  never (fault.NotNow n) fs text ok (Closes two same t) h = absurd (count_apart v (length es) h.2.0 two ok.few h.2.1.0 (sym t ∙ sym h.2.1.1))
  never (fault.NotNow n) fs text ok (Goes g gs w line t) h =
      let e = h.2.0 in
      let same : e ≡ g = made_same (one_line v (Made e) (Made g) h.2.1.0 line (h.2.1.1 ∙ t)) in
      let right = legal_at act x fs g gs (subst (IsLegal act x) w ok.legal) in
      let none : None ≡ Some (g.reply, next_data (act (data_after act x fs) g.step) (data_after act x fs)) =
      sym h.2.3 ∙ ap (λ y. act (data_after act x fs) y.step) same ∙ right in
      absurd (cc)
  never (fault.JournalFull n) fs text ok (Closes two same t) h = absurd (count_apart v (length es) h.2.0 two ok.few h.2.1.0 (sym t ∙ sym h.2.1.1))
  never (fault.JournalFull n) fs text ok (Goes g gs w line t) h =
      let lengths : length es ≡ length fs + length (g ∷ gs) = ap length w ∙ length-append fs (g ∷ gs) in
      absurd (omega (arith, lengths, ok.room, h.2.2))
  never fault.Count fs text ok (Closes two same t) h =
      let count = subst (λ u. IsLine u (Steps (length es))) (sym two) (count_line (length es) ok.few) in
      let line : Steps h.1.0 ≡ Steps (length es) = one_line v (Steps h.1.0) (Steps (length es)) h.1.1 count (h.1.2 ∙ t) in
      let number : h.1.0 ≡ length es = cc in
      absurd (h.1.3 (number ∙ ap length same))
  never fault.Count fs text ok (Goes g gs w line t) h =
      let apart : Steps h.1.0 ≡ Made g = one_line v (Steps h.1.0) (Made g) h.1.1 line (h.1.2 ∙ t) in
      absurd (cc)
  never fault.Header fs text ok next h = absurd h
  never fault.Unended fs text ok next h = absurd h
  never fault.Read fs text ok next h = absurd h
  never fault.TooLarge fs text ok next h = absurd h

  -- no line of a legal journal is wrong
  no_wrong_line : (f : JournalFault) → Fine act x limit es → AreLines v es → IsAtLine act x limit f (journal_of v es) kept → IsOutside f
  no_wrong_line f ok lines a =
      let w = a.0 in
      let fs = a.1 in
      let j = journal_rest v w es fs (ended_line a.2 ++ a.3) ok.few lines a.4 a.5 in
      let wrong : IsWrong act x limit f v fs a.2 kept = subst (λ u. IsWrong act x limit f u fs a.2 kept) (sym j.0) a.7 in
      never f fs a.2 ok (next_of v (length es) es fs a.2 a.3 j.1.gs ok.few a.6 j.1.lines j.1.whole j.1.text) wrong

  -- a legal journal has no fault
  no_fault : (f : JournalFault) → Fine act x limit es → AreLines v es → length (journal_of v es) ≤ MAX_JOURNAL_BYTES
      → IsFault act x limit f (journal_of v es) kept → IsOutside f
  no_fault fault.OutOfMemory ok lines size h = inl refl
  no_fault fault.Header ok lines size h = absurd (h.1 v _ (header_front v es))
  no_fault (fault.Line n) ok lines size (inl a) = no_wrong_line (fault.Line n) ok lines a
  no_fault (fault.Line n) ok lines size (inr b) =
      let m = length kept in
      let more = b.1.0 in
      let few : m < 2 ^ 64 = omega (arith, size, ap length b.1.3, length-append (journal_of Two kept) more, enough Two kept) in
      let j = journal_rest v Two es kept (closing_line Two m ++ more) ok.few lines b.1.1 (b.1.3 ∙ append_assoc (begun Two kept) (closing_line Two m) more) in
      let none : more ≡ [] = past_count m (length es) j.1.gs more few ok.few (subst (λ u. AreLines u j.1.gs) j.0 j.1.lines)
      (j.1.text ∙ ap (λ u. flat_map entry_line j.1.gs ++ closing_line u (length es)) j.0) in
      let empty : length more ≡ 0 = ap length none in
      absurd (omega (arith, b.1.2, empty))
  no_fault (fault.FalseReply n) ok lines size h = no_wrong_line (fault.FalseReply n) ok lines h
  no_fault (fault.NotNow n) ok lines size h = no_wrong_line (fault.NotNow n) ok lines h
  no_fault (fault.JournalFull n) ok lines size h = no_wrong_line (fault.JournalFull n) ok lines h
  no_fault fault.Count ok lines size h = no_wrong_line fault.Count ok lines h
  no_fault fault.Unended ok lines size h =
      let j = journal_rest v h.0 es kept h.1 ok.few lines h.2 h.3 in
      absurd (cut_short v (length es) j.1.gs h.1 ok.few j.1.lines h.4 (λ one. h.5 (sym j.0 ∙ one)) j.1.text)
  no_fault fault.Read ok lines size h = inr refl
  no_fault fault.TooLarge ok lines size h = absurd (omega (arith, size, h.1))

-- So a journal that the session takes is accepted.
module _ {D : Type 0} (act : D → Step → Option (Reply × D)) (x : D) (limit : ℕ) (bytes : List ℕ) (es kept : Entries) where
  few_of : (fs : Entries) → IsTextOf bytes fs → length bytes ≤ MAX_JOURNAL_BYTES → length fs < 2 ^ 64
  few_of fs whole size = omega (arith, size, ap length whole.text, enough whole.version fs)

  pub accepts : {T : Type 0} (r : Result T JournalFault) → IsJournalText act x limit bytes es
      → OnOk r (IsTextOf bytes kept) → IfErr r (λ f. IsFault act x limit f bytes kept) → Accepts r kept es
  accepts (Ok u) journal mine err =
      (one_journal mine.version journal.whole.version kept es (few_of kept mine journal.size) (few_of es journal.whole journal.size)
      mine.lines journal.whole.lines (sym mine.text ∙ journal.whole.text)).1
  accepts (Err f) journal ok err =
      let v = journal.whole.version in
      let fine : Fine act x limit es = record { legal = journal.legal; room = journal.room; few = few_of es journal.whole journal.size } in
      no_fault act x limit v es kept f fine journal.whole.lines
      (subst (λ b. length b ≤ MAX_JOURNAL_BYTES) journal.whole.text journal.size)
      (subst (λ b. IsFault act x limit f b kept) journal.whole.text err)
