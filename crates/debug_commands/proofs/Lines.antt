-- A line of a name and of what is said of each item.
use Rattle.std.proofs.Common.{◌≡◌, ◌∙◌, ◌≤◌, ℕ, List, ◌++◌, length, take, ap, append_assoc, Result, Ok, Err}
use Rattle.std.specs.Prelude.{if◌then◌else◌, is_ok, OnOk}
use Rattle.std.specs.List.{flat_map}
use Rattle.std.proofs.lemmas.List.{take_all}

pub line_ends : {A T E : Type 0} (r : Result T E) (f : A → List ℕ) (items : List A) (i : ℕ) (before name start text last end : List ℕ) → length items ≤ i
    → start ≡ before ++ name → text ≡ start ++ flat_map f (take i items) → last ≡ (if is_ok r then text ++ end else text)
    → OnOk r (last ≡ before ++ (name ++ (flat_map f items ++ end)))
line_ends (Ok u) f items i before name start text last end le s t l =
    l ∙ ap (λ x. x ++ end) (t ∙ ap (λ xs. start ++ flat_map f xs) (take_all i items le) ∙ ap (λ x. x ++ flat_map f items) s)
    ∙ append_assoc (before ++ name) (flat_map f items) end
    ∙ append_assoc before name (flat_map f items ++ end)
line_ends (Err e) f items i before name start text last end le s t l = tt
