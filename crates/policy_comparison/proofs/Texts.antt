-- Pieces of a text, one behind another.
use Rattle.std.proofs.Common.{◌≡◌, ◌∙◌, ℕ, List, [], ◌++◌, ap, append_assoc, Result, Ok, Err}
use Rattle.std.specs.Prelude.{OnOk}

-- a piece, and what comes behind it
pub piece : (a b c x rest : List ℕ) → b ≡ a ++ x → c ≡ b ++ rest → c ≡ a ++ (x ++ rest)
piece a b c x rest h k = k ∙ ap (λ t. t ++ rest) h ∙ append_assoc a x rest

-- pieces one behind another, and what comes behind them
pub three : (a b c d rest : List ℕ) → (a ++ (b ++ (c ++ d))) ++ rest ≡ a ++ (b ++ (c ++ (d ++ rest)))
three a b c d rest =
    append_assoc a (b ++ (c ++ d)) rest
    ∙ ap (λ t. a ++ t) (append_assoc b (c ++ d) rest ∙ ap (λ t. b ++ t) (append_assoc c d rest))

-- three pieces, and what the last call adds behind them
pub added_behind : {E : Type 0} (r : Result (Unit {0}) E) (text a b c rest mid last : List ℕ) → mid ≡ text ++ (a ++ (b ++ c)) → OnOk r (last ≡ mid ++ rest)
    → OnOk r (last ≡ text ++ (a ++ (b ++ (c ++ rest))))
added_behind (Ok u) text a b c rest mid last first more = more ∙ ap (λ t. t ++ rest) first ∙ three text a b c rest
added_behind (Err e) text a b c rest mid last first more = tt

pub four : (a b c d rest : List ℕ) → (a ++ (b ++ (c ++ (d ++ [])))) ++ rest ≡ a ++ (b ++ (c ++ (d ++ rest)))
four a b c d rest = three a b c (d ++ []) rest ∙ ap (λ t. a ++ (b ++ (c ++ t))) (append_assoc d [] rest)
