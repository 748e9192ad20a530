-- What a seat at the table knows: the parts of workers that it has, its ticket, and the value that it took.
use Rattle.std.specs.Prelude.{◌≡◌, ℕ, zero, suc, ◌+◌, List, [], ◌∷◌, ◌++◌, Some, None, Option}
use Rattle.atomic_table.specs.Table.{Me}
pub use Rattle.turn_book.specs.declared.view.Part.{Part}
pub use Rattle.turn_book.specs.declared.view.View.{View}

module _ {E : Type 0} where
  -- the parts of the workers from lo on, n of them, where the value has this list
  abbrev pub parts_from : List E → ℕ → ℕ → List (Part E)
  parts_from l lo zero = []
  parts_from l lo (suc n) = record { number = lo; own = []; draws = 0; shown = l } ∷ parts_from l (suc lo) n

  abbrev pub first_part : List (Part E) → List (Part E)
  first_part [] = []
  first_part (p ∷ ps) = p ∷ []

  abbrev pub later_parts : List (Part E) → List (Part E)
  later_parts [] = []
  later_parts (p ∷ ps) = ps

  -- one more ticket drawn
  abbrev pub one_more : Part E → Part E
  one_more p = record { number = p.number; own = p.own; draws = p.draws + 1; shown = p.shown }

  abbrev pub with_new : List E → List E → Part E → Part E
  with_new es l p = record { number = p.number; own = p.own ++ es; draws = p.draws; shown = l }

  abbrev pub part_number : List (Part E) → ℕ
  part_number [] = 0
  part_number (p ∷ ps) = p.number

  abbrev pub own_in : List (Part E) → List E
  own_in [] = []
  own_in (p ∷ ps) = p.own

-- 1 for a ticket
abbrev pub ticket_count : Option ℕ → ℕ
ticket_count None = 0
ticket_count (Some n) = 1

module _ {T E : Type 0} where
  -- a seat with no ticket
  abbrev pub resting : T → List (Part E) → List E → View T E
  resting o ps last = record { opening = Some o; parts = ps; last = last; ticket = None; held = None }

  -- a seat that has drawn the ticket n
  abbrev pub waiting : T → List (Part E) → List E → ℕ → View T E
  waiting o ps last n = record { opening = Some o; parts = ps; last = last; ticket = Some n; held = None }

  -- a seat whose turn has come, with the value that it took
  abbrev pub holding : T → List (Part E) → List E → ℕ → T → View T E
  holding o ps last n t = record { opening = Some o; parts = ps; last = last; ticket = Some n; held = Some t }

  -- how many seats have a ticket: it was drawn, and its turn was not given back
  abbrev pub tickets_out : List (View T E) → ℕ
  tickets_out [] = 0
  tickets_out (v ∷ vs) = ticket_count v.ticket + tickets_out vs

  abbrev pub seat_number : View T E → ℕ
  seat_number v = part_number v.parts

  abbrev pub own_of : View T E → List E
  own_of v = own_in v.parts

  -- it has these parts, and no ticket or slot
  pub record Rests (me : Me (Option T) (View T E)) (ps : List (Part E)) (last : List E) : Type 0 where
    pub opening : T
    pub is : me ≡ (resting opening ps last, [])

  -- it has the parts of the workers from one on
  pub record Cuts (me : Me (Option T) (View T E)) : Type 0 where
    pub lo : ℕ
    pub n : ℕ
    pub last : List E
    pub rests : Rests me (parts_from last lo (suc n)) last

  -- it has no ticket and no slot; afterwards it has the ticket n
  pub record Draws (me : Me (Option T) (View T E)) (n : ℕ) (after : Me (Option T) (View T E)) : Type 0 where
    pub opening : T
    pub part : Part E
    pub last : List E
    pub before_is : me ≡ (resting opening (part ∷ []) last, [])
    pub after_is : after ≡ (waiting opening (one_more part ∷ []) last n, [])

  -- it waits for the turn n
  pub record Waits (me : Me (Option T) (View T E)) (n : ℕ) : Type 0 where
    pub opening : T
    pub part : Part E
    pub last : List E
    pub is : me ≡ (waiting opening (part ∷ []) last n, [])

  abbrev pub spent : View T E
  spent = record { opening = None; parts = []; last = []; ticket = None; held = None }

  abbrev pub left_of : View T E → View T E
  left_of v = record {
    opening = v.opening;
    parts = later_parts v.parts;
    last = v.last;
    ticket = v.ticket;
    held = v.held;
  }

  abbrev pub right_of : View T E → View T E
  right_of v = record { opening = v.opening; parts = first_part v.parts; last = v.last; ticket = None; held = None }

  abbrev pub both_of : View T E → View T E → View T E
  both_of v w = record {
    opening = v.opening;
    parts = w.parts ++ v.parts;
    last = v.last;
    ticket = v.ticket;
    held = v.held;
  }
