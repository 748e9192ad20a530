-- Histories of a machine that answers each step it accepts.
use Rattle.std.specs.Prelude.{◌≡◌, Option, Some, None, List, [], ◌∷◌}
use Rattle.engine_base.specs.declared.entry.Entry.{Entry}
use Rattle.engine_base.specs.declared.step.Reply.{Reply}
use Rattle.engine_base.specs.declared.step.Step.{Step}

-- steps of the concurrent cache, each with its reply
abbrev pub Entries : Type 0
Entries = List (Entry Step Reply)

-- the undone entries are dropped by the first entry that is made
abbrev pub tail_after : {E : Type 0} → List E → List E → List E
tail_after [] tail = tail
tail_after (e ∷ es) tail = []

-- the new data, or the old where the step was not accepted
abbrev pub next_data : {R D : Type 0} → Option (R × D) → D → D
next_data None x = x
next_data (Some p) x = p.1

-- the data after the steps
abbrev pub data_after : {D S R : Type 0} → (D → S → Option (R × D)) → D → List (Entry S R) → D
data_after act x [] = x
data_after act x (e ∷ es) = data_after act (next_data (act x e.step) x) es

-- from x each step is accepted, with the reply that is written beside it
abbrev pub IsLegal : {D S R : Type 0} → (D → S → Option (R × D)) → D → List (Entry S R) → Type 0
IsLegal act x [] = Unit {0}
IsLegal act x (e ∷ es) = (act x e.step ≡ Some (e.reply, next_data (act x e.step) x))
    × IsLegal act (next_data (act x e.step) x) es
