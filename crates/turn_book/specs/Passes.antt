-- What callers see of a book, of a pass and of a turn, and what a book promises of them.
use Rattle.std.specs.Prelude.{◌≡◌, ℕ, suc, ◌+◌, ◌≤◌, List, [], ◌∷◌, ◌++◌, length, Option, Some}
use Rattle.engine_base.specs.History.{tail_after}
use Rattle.atomic_table.specs.Seated.{TableId}
use Rattle.turn_book.specs.Turns.{Begins, Every, AddsInTurn, Shows, entries_by}

-- Which book it is: no two have one table, and it was opened with one value.
pub record BookId (T : Type 0) : Type 0 where
  pub table : TableId
  pub opening : Option T

pub record BookState (T : Type 0) : Type 0 where
  pub table : TableId
  -- the value that it was opened with
  pub opening : T
  -- how many workers have a pass
  pub workers : ℕ
  -- how many turns a pass may draw
  pub turns : ℕ

abbrev pub book_id : {T : Type 0} → TableId → T → BookId T
book_id table o = record { table = table; opening = Some o }

abbrev pub id_of : {T : Type 0} → BookState T → BookId T
id_of b = book_id b.table b.opening

pub record PassState (T E : Type 0) : Type 0 where
  pub book : BookId T
  -- the number of its worker
  pub worker : ℕ
  -- the entries that its turns made, in order
  pub own : List E
  -- the value's entries when it gave its last turn, and at first those of the opening value
  pub last : List E
  -- how many turns it has drawn
  pub draws : ℕ

pub record TurnState (T E : Type 0) : Type 0 where
  -- the pass, with this turn drawn
  pub pass : PassState T E
  -- the value as it was taken
  pub taken : T
  -- the value as it is
  pub value : T

module _ {T E : Type 0} where
  -- the pass with one turn more drawn
  abbrev pub drawn_once : PassState T E → PassState T E
  drawn_once p = record { book = p.book; worker = p.worker; own = p.own; last = p.last; draws = p.draws + 1 }

  -- the pass whose turn made these entries, and left the value with that list
  abbrev pub having_made : List E → List E → PassState T E → PassState T E
  having_made es list p = record { book = p.book; worker = p.worker; own = p.own ++ es; last = list; draws = p.draws }

  -- the passes of the workers from lo on, in order
  abbrev pub InOrder : ℕ → List (PassState T E) → Type 0
  InOrder lo [] = Unit {0}
  InOrder lo (p ∷ ps) = (p.worker ≡ lo) × InOrder (suc lo) ps

module _ {T E O : Type 0} (origin : T → O) (entries : T → List E) (by : E → ℕ) (undone : T → List E) where
  -- the pass p has taken the turn t of a book that was opened with o
  pub record Takes (o : T) (p : PassState T E) (t : TurnState T E) : Type 0 where
    pub pass : t.pass ≡ drawn_once p
    pub taken : t.taken ≡ t.value
    pub shows : Shows origin entries by undone o p.worker p.own p.last t.value

  -- the turn t was given back, with at most one entry more than it was taken with, and the pass p has it in its own
  -- list
  pub record Gives (t : TurnState T E) (p : PassState T E) : Type 0 where
    pub made : List E
    pub adds : AddsInTurn origin entries by undone t.pass.worker t.taken t.value made
    pub pass : p ≡ having_made made (entries t.value) t.pass

  -- of each worker from lo on, the entries among these are the own list of its pass
  abbrev pub OwnAll : ℕ → List (PassState T E) → List E → Type 0
  OwnAll lo [] news = Unit {0}
  OwnAll lo (p ∷ ps) news = (entries_by by lo news ≡ p.own) × OwnAll (suc lo) ps news

  -- What a book ends with, opened with o, from its passes: the value t has the opening origin. Past the opening
  -- entries those of worker w are the own list of the pass at place w, and no other worker has any. Its list begins
  -- with the one that each pass gave last. Its undone entries are the opening's where no entry was made, and else
  -- none.
  pub record Ends (o : T) (ps : List (PassState T E)) (t : T) : Type 0 where
    pub same_origin : origin t ≡ origin o
    pub news : List E
    pub list_is : entries t ≡ entries o ++ news
    pub undone_is : undone t ≡ tail_after news (undone o)
    pub own_is : OwnAll 0 ps news
    pub last_is : Every (λ p. Begins p.last (entries t)) ps
    pub no_other : (w : ℕ) → length ps ≤ w → entries_by by w news ≡ []
