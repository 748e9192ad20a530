-- Lists of entries, oldest first: an item with a small count beside it.
use Rattle.std.specs.Prelude.{ℕ, cond, Option, List, [], ◌∷◌, map}
use Rattle.queue_table.specs.Items
pub use Rattle.queue_table.specs.Items.{Item, is_same_item, oldest_of, newest_from, newest_of}
pub use Rattle.queue_table.specs.declared.records.Entry.{Entry}

-- an item with a count beside it
abbrev pub entry : Item → ℕ → Entry
entry i n = record { item = i; count = n }

-- the items of the entries
abbrev pub items_of : List Entry → List Item
items_of l = map (λ (e : Entry). e.item) l

-- how often the item stands in the list
abbrev pub occurrences : Item → List Entry → ℕ
occurrences i l = Items.occurrences i (items_of l)

-- the list with the item taken out
abbrev pub entries_without : Item → List Entry → List Entry
entries_without i [] = []
entries_without i (e ∷ l) = cond (is_same_item i e.item) (entries_without i l) (e ∷ entries_without i l)

-- the list with another count beside the item
abbrev pub entries_counted : Item → ℕ → List Entry → List Entry
entries_counted i n [] = []
entries_counted i n (e ∷ l) =
    cond (is_same_item i e.item) (entry e.item n ∷ entries_counted i n l) (e ∷ entries_counted i n l)

-- the newest item
abbrev pub last_item : List Entry → Option Item
last_item l = newest_of (items_of l)

-- what stands before the item
abbrev pub before : Item → List Entry → List Entry
before i [] = []
before i (e ∷ l) = cond (is_same_item i e.item) [] (e ∷ before i l)

-- the older neighbour of a place stands there
abbrev pub IsGap : Option Item → List Entry → Type 0
IsGap older l = Items.IsGap older (items_of l)

-- the entry put right after its older neighbour, in front of all where there is none
abbrev pub put_behind : Option Item → Entry → List Entry → List Entry
put_behind older e l = Items.put_behind_by (λ (x : Entry). x.item) older e l
