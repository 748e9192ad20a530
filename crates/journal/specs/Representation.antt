-- How a session is kept: its entries, an undo record for each applied step, and how these lead back.
use Rattle.std.specs.Prelude.{◌≡◌, ℕ, ◌+◌, ◌-◌, ◌≤◌, Option, Some, List, [], ◌∷◌, ◌++◌, length, take, drop, sum_by, min}
use Rattle.engine_base.specs.declared.limits.TheConstants.{MAX_JOURNAL_LIMIT, MAX_STEPS}
use Rattle.engine_base.specs.History.{IsLegal}
use Rattle.engine_base.specs.Pace.{Pace, words_of_halvings}
use Rattle.journal.specs.Session.{Entry, SessionState}

-- what undoing the records, from the last to the first, makes of the data
abbrev pub opening_from : {C D : Type 0} → (C → D → D) → D → List C → D
opening_from undone d [] = d
opening_from undone d (c ∷ cs) = undone c (opening_from undone d cs)

-- the smaller of what two vectors have spare, from the capacity and the length of each
abbrev pub spare : ℕ → ℕ → ℕ → ℕ → ℕ
spare c n d m = min (c - n) (d - m)

-- the session that an engine, a limit, entries and the records of the first of them make up
abbrev pub session_of : {C E D S R : Type 0} → (C → D → D) → (C → ℕ) → (E → D) → E → ℕ → List (Entry S R) → List C → ℕ
    → SessionState E D S R
session_of undone size seen engine limit es cs room = record {
  opening = opening_from undone (seen engine) cs;
  limit = limit;
  kept = take (length cs) es;
  tail = drop (length cs) es;
  engine = engine;
  held = sum_by size cs;
  room = room;
}

-- each record fits its step and the data that it left, and undoing it leads to data from which the step gives its entry
abbrev pub LeadsBack : {C D S R : Type 0} → (D → S → Option (R × D)) → (S → C → D → Type 0) → (C → D → D) → D
    → List (Entry S R) → List C → Type 0
LeadsBack act fits undone d [] [] = Unit {0}
LeadsBack act fits undone d (e ∷ es) (c ∷ cs) =
    (act (undone c (opening_from undone d cs)) e.step ≡ Some (e.reply, opening_from undone d cs))
    × fits e.step c (opening_from undone d cs) × LeadsBack act fits undone d es cs
LeadsBack act fits undone d [] (c ∷ cs) = ⊥
LeadsBack act fits undone d (e ∷ es) [] = ⊥

-- the record fits the data that its step left, is the step's from the data before, and holds the words of the step's
-- halvings
abbrev pub FitsItsStep : {C D S : Type 0} → (S → D → C) → (C → D → Type 0) → (C → D → D) → (C → ℕ) → (D → Pace)
    → S → C → D → Type 0
FitsItsStep record_of fits undone size pace s c d =
    fits c d × (words_of_halvings (pace d) ≡ words_of_halvings (pace (undone c d)) + size c)
    × (c ≡ record_of s (undone c d))

-- one record more, which fits the new data and leads back to the old
pub record IsOneMore {C D : Type 0} (fits : C → D → Type 0) (undone : C → D → D) (x d : D)
    (cs cs' : List C) : Type 0 where
  pub last : C
  pub longer : cs' ≡ cs ++ last ∷ []
  pub fitting : fits last d
  pub leads : undone last d ≡ x

-- The entries of the applied steps have a record each and lead back by them, and the rest are legal from the data.
pub record IsJournal {C D S R : Type 0} (act : D → S → Option (R × D)) (fits : S → C → D → Type 0) (undone : C → D → D)
    (count : D → ℕ)
    (d : D) (limit : ℕ) (es : List (Entry S R)) (cs : List C) : Type 0 where
  pub within : length cs ≤ length es
  pub room : length es ≤ limit
  pub small : limit ≤ MAX_JOURNAL_LIMIT
  pub steps : count (opening_from undone d cs) + limit ≤ MAX_STEPS
  pub back : LeadsBack act fits undone d (take (length cs) es) cs
  pub redo : IsLegal act d (drop (length cs) es)

-- The invariant: a journal, and memory for a record of each of its entries, so that a step is made again without asking
-- for any.
pub record IsKeptJournal {C D S R : Type 0} (act : D → S → Option (R × D)) (fits : S → C → D → Type 0)
    (undone : C → D → D) (count : D → ℕ)
    (d : D) (limit : ℕ) (es : List (Entry S R)) (cs : List C) (capacity : ℕ) : Type 0 where
  pub journal : IsJournal act fits undone count d limit es cs
  pub reserved : length es ≤ capacity
