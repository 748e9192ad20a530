-- The lists of the buffers, oldest first.
use Rattle.std.specs.Prelude.{ℕ, ◌-◌, List, [], length, take, get_or}
use Rattle.arrayvec.specs.ArrayVec.{ArrayVec}
pub use Rattle.engine_base.specs.declared.item.Item.{Item}

-- the items of a stripe; none of a stripe that is not there
abbrev pub stripe_at : ℕ → List (List Item) → List Item
stripe_at s stripes = get_or stripes s []

-- the list without its newest element
abbrev pub all_but_newest : {A : Type 0} → List A → List A
all_but_newest l = take (length l - 1) l

-- what a buffer of fixed capacity holds
abbrev pub items_of : ArrayVec Item → List Item
items_of buffer = buffer.items
