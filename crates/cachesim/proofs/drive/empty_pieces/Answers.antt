use Rattle.std.proofs.Common.{rules, ◌≡◌, ℕ, [], ◌∷◌, ◌++◌, List, map, get_or, sym, ap, ◌∙◌, subst, vec_items}
use Rattle.std.proofs.lemmas.List.{map-append}
use Rattle.engine_base.specs.declared.step.Call.{Call}
use Rattle.cachesim.proofs.Dealing.{empty_more}
use Rattle.cachesim.proofs.drive.empty_pieces.Goals as goal

pub loop-preserved : goal.loop-preserved
loop-preserved c =
    let added = ap (map (λ p. vec_items p)) c.in_ok-push.ensures.items ∙ map-append (λ p. vec_items p) c.loop.pieces.items _ ∙ ap (λ l. map (λ p. vec_items p) c.loop.pieces.items ++ l ∷ []) c.new.ensures.items in
    record {
      many = search rules;
      empty = subst (λ (ps : List (List Call)). (w : ℕ) → get_or ps w [] ≡ []) (sym added) (empty_more (map (λ p. vec_items p) c.loop.pieces.items) c.loop.invariant.empty);
    }
