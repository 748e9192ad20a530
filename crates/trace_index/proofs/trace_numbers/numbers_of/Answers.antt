use Rattle.std.proofs.Common.{List, ℕ, ◌∷◌, [], ◌++◌, length, take, get_or, ap, ◌∙◌, sym, subst}
use Rattle.trace_index.specs.TraceNumbers.{first_comings, HasNumbers}
use Rattle.trace_index.proofs.Numbers.{count-within, next-comings, next-count, next-numbers}
use Rattle.trace_index.proofs.trace_numbers.numbers_of.Goals as goal

pub loop-key-preserved : goal.loop-key-preserved
loop-key-preserved c =
    let t = c.args.keys.now in
    let i = c.loop-key.key-index in
    let k = get_or t i 0 in
    let keys : List ℕ = first_comings [] (take i t) in
    let (have, few) = c.loop-key.invariant in
    let comings = next-comings t i c.loop-key-test.true in
    let number = c.in_ok-number.ensures.number keys have.many have.table in (
      record {
        many = ap length comings ∙ next-count keys k c.in_ok-number.number c.loop-key.count have.many number;
        table = subst (λ ks. HasNumbers ks c.number_of.new.seen) (sym comings) (c.in_ok-number.ensures.seen keys have.many have.table);
        are = c.in_ok-push.ensures.items ∙ ap (λ l. l ++ c.in_ok-number.number ∷ []) have.are
            ∙ next-numbers t i c.in_ok-number.number c.loop-key-test.true number;
      },
      count-within c.in_ok-number.number c.loop-key.count i few,
    )
