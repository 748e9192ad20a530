-- How a seat at the table stands for a pass or a turn.
use Rattle.std.specs.Prelude.{◌≡◌, ℕ, ◌≤◌, [], ◌∷◌, Some, None, Option}
use Rattle.atomic_table.specs.Table.{Me}
use Rattle.atomic_table.specs.Seated.{TableId}
use Rattle.engine_base.specs.declared.worker.TheConstants.{MAX_WORKERS}
use Rattle.turn_book.specs.Views.{View, Part, seat_number, own_of}
use Rattle.turn_book.specs.Passes.{PassState, TurnState}

-- a table of two words and one slot, for at most MAX_WORKERS workers
abbrev pub IsBoard : TableId → ℕ → Type 0
IsBoard id workers = (id.words ≡ 2) × (id.slots ≡ 1) × (workers ≤ MAX_WORKERS)

module _ {T E : Type 0} where
  abbrev pub part_of : PassState T E → Part E
  part_of p = record { number = p.worker; own = p.own; draws = p.draws; shown = p.last }

  -- the view of a pass's seat, which has no ticket
  abbrev pub pass_view : PassState T E → View T E
  pass_view p = record { opening = p.book.opening; parts = part_of p ∷ []; last = p.last; ticket = None; held = None }

  -- the view of a turn's seat, whose ticket n is served
  abbrev pub turn_view : PassState T E → ℕ → T → View T E
  turn_view p n t = record {
    opening = p.book.opening;
    parts = part_of p ∷ [];
    last = p.last;
    ticket = Some n;
    held = Some t;
  }

  -- the pass of a seat that has drawn so many turns
  abbrev pub pass_in : TableId → View T E → ℕ → PassState T E
  pass_in id v drawn = record {
    book = record { table = id; opening = v.opening };
    worker = seat_number v;
    own = own_of v;
    last = v.last;
    draws = drawn;
  }

  abbrev pub turn_in : TableId → View T E → ℕ → T → T → TurnState T E
  turn_in id v drawn taken value = record { pass = pass_in id v drawn; taken = taken; value = value }

  -- the seat stands for that pass
  abbrev pub IsPassAt : TableId → Me (Option T) (View T E) → ℕ → Type 0
  IsPassAt id me drawn = me ≡ (pass_view (pass_in id me.0 drawn), [])

  -- the seat stands for a turn, and has taken the value out of the slot
  pub record IsTurnAt (id : TableId) (me : Me (Option T) (View T E)) (drawn : ℕ) (taken : T) : Type 0 where
    pub ticket : ℕ
    pub is : me ≡ (turn_view (pass_in id me.0 drawn) ticket taken, (0, None) ∷ [])
