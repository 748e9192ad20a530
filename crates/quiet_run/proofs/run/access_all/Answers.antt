use Rattle.std.proofs.Common.{◌≡◌, ◌≤◌, ◌+◌, ◌++◌, [], ◌∷◌, List, length, drop, sym, ap, subst, ◌∙◌, arith}
use Rattle.std.proofs.lemmas.List.{drop_all}
use Rattle.engine_base.specs.declared.outcome.Outcome.{Outcome}
use Rattle.shell_model.proofs.Walking.{on_err}
use Rattle.quiet_run.proofs.Adding.{adds_known, adds_joined}
use Rattle.quiet_run.proofs.Keying.{drop_key, one_key, cut_here, cut_key, all_keys, Lacks}
use Rattle.quiet_run.proofs.run.access_all.Goals as goal

pub returns-then-is_err-clause-err : goal.returns-then-is_err-clause-err
returns-then-is_err-clause-err c =
    adds_known _ _ _ _ c.loop-key.invariant.adds
    (cut_here c.args.stripes c.args.keys.now _ _ _ c.loop-key.outcomes.items (drop_key c.args.keys.now c.loop-key.key-index 0 c.loop-key-test.true))

pub returns-in_err-outcome-clause-err : goal.returns-in_err-outcome-clause-err
returns-in_err-outcome-clause-err c =
    on_err _ _ (adds_joined _ _ _ _ c.loop-key.session _ c.loop-key.invariant.adds c.in_err-outcome.ensures.err
    (λ a b f h. cut_key c.args.stripes c.args.keys.now _ _ _ c.loop-key.outcomes.items (drop_key c.args.keys.now c.loop-key.key-index _ c.loop-key-test.true) a b f h.0 h.1 h.2))

pub loop-key-preserved : goal.loop-key-preserved
loop-key-preserved c =
    let items : c.push_reserved.new.self.items ≡ c.loop-key.outcomes.items ++ c.in_ok-outcome.outcome ∷ [] = c.push_reserved.ensures.items ∙ ap (λ (l : List Outcome). l ++ c.in_ok-outcome.outcome ∷ []) c.reserve.ensures.items in
    record {
      opening = c.in_ok-outcome.ensures.opening ∙ c.loop-key.invariant.opening;
      limit = c.in_ok-outcome.ensures.limit ∙ c.loop-key.invariant.limit;
      adds = adds_joined _ _ _ _ c.loop-key.session _ c.loop-key.invariant.adds c.in_ok-outcome.ensures.ok
          (λ a b f h. subst (λ (l : List Outcome). Lacks c.args.stripes c.args.keys.now (drop (c.loop-key.key-index + 1) c.args.keys.now) l (a ++ b)) (sym items)
          (one_key c.args.stripes c.args.keys.now _ _ _ c.loop-key.outcomes.items c.in_ok-outcome.outcome (drop_key c.args.keys.now c.loop-key.key-index _ c.loop-key-test.true) a b f h.0 h.1));
      stripes = c.in_ok-outcome.ensures.stripes;
      reached = c.in_ok-outcome.ensures.reached;
      none = c.in_ok-outcome.ensures.none;
    }

pub returns-clause-ok : goal.returns-clause-ok
returns-clause-ok c =
    let done : length c.args.keys.now ≤ c.loop-key.key-index = omega arith in
    adds_known _ _ _ _ c.loop-key.invariant.adds (λ es f. all_keys c.args.stripes c.args.keys.now _ c.loop-key.outcomes.items es (drop_all c.loop-key.key-index c.args.keys.now done) f)
