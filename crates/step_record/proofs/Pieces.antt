-- Pieces that are added to a text one behind another.
use Rattle.std.proofs.Common.{◌≡◌, ◌∙◌, ℕ, List, ◌++◌, ap, append_assoc}

pub five : (t u v w x a b c d e : List ℕ) → u ≡ t ++ a → v ≡ u ++ b → w ≡ v ++ c → x ≡ w ++ d
    → x ++ e ≡ t ++ (a ++ (b ++ (c ++ (d ++ e))))
five t u v w x a b c d e first second third fourth =
    ap (λ s. s ++ e) fourth ∙ append_assoc w d e
    ∙ ap (λ s. s ++ (d ++ e)) third ∙ append_assoc v c (d ++ e)
    ∙ ap (λ s. s ++ (c ++ (d ++ e))) second ∙ append_assoc u b (c ++ (d ++ e))
    ∙ ap (λ s. s ++ (b ++ (c ++ (d ++ e)))) first ∙ append_assoc t a (b ++ (c ++ (d ++ e)))
