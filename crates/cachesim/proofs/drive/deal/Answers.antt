use Rattle.std.proofs.Common.{◌∙◌, ◌+◌, ◌%◌, [], ◌∷◌, ◌++◌, get_or, map, set, sym, ap, subst, vec_items}
use Rattle.engine_base.specs.declared.step.Call.TheVariants.{Read}
use Rattle.std.proofs.lemmas.List.{append-nil, at_drop_all, length-map, length-set}
use Rattle.cachesim.specs.WorkerReads.{IsDealt, reads_of}
use Rattle.cachesim.proofs.Dealing.{IsDealtUpTo, dealt_more}
use Rattle.cachesim.proofs.drive.deal.Goals as goal

pub loop-i-init : goal.loop-i-init
loop-i-init c = record {
  many = c.in_ok-pieces.ensures.many;
  own = λ w lt. ap (λ l. l ++ reads_of c.args.workers w 0 c.keys-keys.result.now) (c.in_ok-pieces.ensures.empty w);
}

pub loop-i-preserved : goal.loop-i-preserved
loop-i-preserved c =
    let ps = c.loop-i.pieces.items in
    let worker = ap (λ n. c.loop-i.i % n) c.from.ensures in
    let piece = c.in_ok-push.ensures.items
    ∙ ap (λ p. vec_items p ++ Read (get_or c.keys-keys.result.now c.loop-i.i 0) ∷ []) (c.index_mut.ensures.value ∙ ap (λ n. get_or ps n c.index_mut.result.now) worker) in
    record {
      many = length-set ps _ _ ∙ c.loop-i.invariant.many;
      own = subst (λ n. IsDealtUpTo c.args.workers (c.loop-i.i + 1) c.keys-keys.result.now (map (λ p. vec_items p) (set ps n c.push.new.self))) (sym worker)
          (dealt_more (λ p. vec_items p) c.args.workers c.loop-i.i c.keys-keys.result.now ps c.push.new.self c.index_mut.result.now c.requires c.loop-i-test.true c.loop-i.invariant.many piece c.loop-i.invariant.own);
    }

pub returns : goal.returns
returns c =
    let ps = map (λ p. vec_items p) c.loop-i.pieces.items in
    subst (λ keys. IsDealt c.args.workers keys ps) c.keys-keys.ensures.keys (record {
      many = length-map c.loop-i.pieces.items (λ p. vec_items p) ∙ c.loop-i.invariant.many;
      own = λ w lt. sym (append-nil (get_or ps w []))
          ∙ sym (at_drop_all (λ ks. get_or ps w [] ++ reads_of c.args.workers w c.loop-i.i ks) c.keys-keys.result.now c.loop-i.i c.loop-i-test.false) ∙ c.loop-i.invariant.own w lt;
    })
