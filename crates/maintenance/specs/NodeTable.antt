-- The entries of a map from keys to nodes, as items.
use Rattle.std.specs.Prelude.{ℕ, List, [], ◌∷◌}
use Rattle.engine_base.specs.declared.item.Item.{Item}

abbrev pub table_items : List (ℕ × ℕ) → List Item
table_items [] = []
table_items (e ∷ es) = record { key = e.0; node = e.1 } ∷ table_items es
