-- The accesses of a trace, dealt to workers.
use Rattle.std.proofs.Common.{refl, ◌≡◌, ◌≢◌, ℕ, zero, suc, ◌+◌, ◌<◌, ◌≤◌, ◌%◌, ◌==◌, true, false, List, [], ◌∷◌, ◌++◌, append_assoc, length, get_or, drop, set, map, sym, ap, ◌∙◌, subst, arith, inl, inr}
use Rattle.std.proofs.lemmas.Bool.{cases_Bool, eq-eqb, eqb-true}
use Rattle.std.proofs.lemmas.List.{at_drop_more, get_or-map, get_or-set_other, get_or-set_same, length-map, map-set}
use Rattle.engine_base.specs.declared.step.Call.TheVariants.{Read}
use Rattle.engine_base.specs.History.{Entries}
use Rattle.journal.specs.Session.{SessionState}
use Rattle.shell_model.specs.WorkerEntries.{entries_of}
use Rattle.workers.specs.Runs.{Step, Reply, Call, IsRun}
use Rattle.cachesim.specs.WorkerReads.{reads_of, IsDealt, AreOfReads}

-- a worker more has no call
pub empty_more : (ps : List (List Call)) → ((w : ℕ) → get_or ps w [] ≡ []) → (w : ℕ) → get_or (ps ++ [] ∷ []) w [] ≡ []
empty_more [] h zero = refl
empty_more [] h (suc w) = refl
empty_more (p ∷ ps) h zero = h zero
empty_more (p ∷ ps) h (suc w) = empty_more ps (λ v. h (suc v)) w

-- what a worker has and what is still ahead of it are all of its reads
abbrev pub IsDealtUpTo : ℕ → ℕ → List ℕ → List (List Call) → Type 0
IsDealtUpTo workers i keys ps =
    (w : ℕ) → w < workers → get_or ps w [] ++ reads_of workers w i (drop i keys) ≡ reads_of workers w 0 keys

-- an access more is a call of its own worker
dealt_one : (workers i : ℕ) (keys : List ℕ) (ps : List (List Call)) (p : List Call) → i < length keys → i % workers < length ps
    → p ≡ get_or ps (i % workers) [] ++ Read (get_or keys i 0) ∷ [] → IsDealtUpTo workers i keys ps → IsDealtUpTo workers (i + 1) keys (set ps (i % workers) p)
dealt_one workers i keys ps p lt worker is own w below =
    let key : ℕ = get_or keys i 0 in
    let rest : List Call = reads_of workers w (i + 1) (drop (i + 1) keys) in
    let before : get_or ps w [] ++ reads_of workers w i (key ∷ drop (i + 1) keys) ≡ reads_of workers w 0 keys =
    sym (at_drop_more (λ ks. get_or ps w [] ++ reads_of workers w i ks) keys i 0 lt) ∙ own w below in
    elim (cases_Bool (i % workers == w)) [
      | inl t ↦
          let same : i % workers ≡ w = eqb-true (i % workers) w t in
          let piece : get_or (set ps (i % workers) p) w [] ≡ get_or ps w [] ++ Read key ∷ [] =
          subst (λ k. get_or (set ps (i % workers) p) k [] ≡ get_or ps k [] ++ Read key ∷ []) same (get_or-set_same ps (i % workers) p [] worker ∙ is) in
          ap (λ l. l ++ rest) piece ∙ append_assoc (get_or ps w []) (Read key ∷ []) rest ∙ (rw t at before)
      | inr t ↦
          let ne : w ≢ i % workers = λ e. (let no : true ≡ false = sym (eq-eqb (i % workers) w (sym e)) ∙ t in cc (no)) in
          ap (λ l. l ++ rest) (get_or-set_other ps (i % workers) w p [] ne) ∙ (rw t at before)
    ]

-- the same, where each piece is kept in a vector
pub dealt_more : {V : Type 0} (f : V → List Call) (workers i : ℕ) (keys : List ℕ) (ps : List V) (p d : V) → 1 ≤ workers → i < length keys → length ps ≡ workers
    → f p ≡ f (get_or ps (i % workers) d) ++ Read (get_or keys i 0) ∷ [] → IsDealtUpTo workers i keys (map f ps) → IsDealtUpTo workers (i + 1) keys (map f (set ps (i % workers) p))
dealt_more f workers i keys ps p d some lt many is own =
    let worker : i % workers < length ps = omega (arith, some, many) in
    let mapped : i % workers < length (map f ps) = rw (length-map ps f) worker in
    subst (IsDealtUpTo workers (i + 1) keys) (sym (map-set f ps (i % workers) p))
    (dealt_one workers i keys (map f ps) (f p) lt mapped (is ∙ ap (λ l. l ++ Read (get_or keys i 0) ∷ []) (sym (get_or-map f ps (i % workers) d [] worker))) own)

-- what a run over dealt pieces makes of these it makes of the accesses
pub reads_made : {E D : Type 0} (Walks : ℕ → List Call → Entries → Type 0) (workers : ℕ) (keys : List ℕ) (pieces : List (List Call)) (old new : SessionState E D Step Reply)
    → IsDealt workers keys pieces → old.kept ≡ [] → IsRun Walks pieces old new → AreOfReads Walks workers keys new.kept
reads_made Walks workers keys pieces old new dealt none run =
    let all : new.kept ≡ run.news = run.entered ∙ ap (λ l. l ++ run.news) none in
    let many : length pieces ≡ workers = dealt.many in
    record {
      own = λ w lt. (
          let below : w < length pieces = omega (arith, lt, many) in
          subst (λ es. Walks w (reads_of workers w 0 keys) (entries_of w es)) (sym all)
          (subst (λ cs. Walks w cs (entries_of w run.news)) (dealt.own w lt) (run.made w below))
          );
      no_other = λ w le. ap (entries_of w) all ∙ run.no_other w (omega (arith, le, many));
    }
