-- Lists of items, oldest first.
use Rattle.std.specs.Prelude.{◌≡◌, ℕ, ◌+◌, Bool, cond, ◌&&◌, eqb, Option, Some, None, List, [], ◌∷◌, ◌++◌}
pub use Rattle.engine_base.specs.declared.item.Item.{Item}

-- one key with one node: two stays of a key are different items
abbrev pub is_same_item : Item → Item → Bool
is_same_item a b = eqb a.key b.key && eqb a.node b.node

-- how often the item stands in the list
abbrev pub occurrences : Item → List Item → ℕ
occurrences i [] = 0
occurrences i (x ∷ l) = cond (is_same_item i x) 1 0 + occurrences i l

-- the list with the item taken out
abbrev pub items_without : Item → List Item → List Item
items_without i [] = []
items_without i (x ∷ l) = cond (is_same_item i x) (items_without i l) (x ∷ items_without i l)

-- the oldest of a list
abbrev pub oldest_of : {A : Type 0} → List A → Option A
oldest_of [] = None
oldest_of (x ∷ l) = Some x

-- the newest of a list, or what was found before where there is none
abbrev pub newest_from : {A : Type 0} → Option A → List A → Option A
newest_from found [] = found
newest_from found (x ∷ l) = newest_from (Some x) l

-- the newest of a list
abbrev pub newest_of : {A : Type 0} → List A → Option A
newest_of l = newest_from None l

-- what stands before the item
abbrev pub before : Item → List Item → List Item
before i [] = []
before i (x ∷ l) = cond (is_same_item i x) [] (x ∷ before i l)

-- the older neighbour of a place stands there: the list may be cut right after it, in front of all where there is none
pub record IsGap (older : Option Item) (l : List Item) : Type 0 where
  pub before : List Item
  pub behind : List Item
  pub whole : l ≡ before ++ behind
  pub older_last : newest_of before ≡ older

-- x put right after what has the older item, in front of all where there is none
abbrev pub put_behind_by : {A : Type 0} → (A → Item) → Option Item → A → List A → List A
put_behind_by of None x l = x ∷ l
put_behind_by of (Some a) x [] = x ∷ []
put_behind_by of (Some a) x (y ∷ l) = cond (is_same_item a (of y)) (y ∷ x ∷ l) (y ∷ put_behind_by of (Some a) x l)
