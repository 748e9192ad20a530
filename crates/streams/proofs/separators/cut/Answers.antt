use Rattle.std.proofs.Common.{◌∙◌, ◌+◌, ◌<◌, sym, arith, length, take, subst}
use Rattle.std.proofs.lemmas.List.{append-nil}
use Rattle.streams.specs.Cuts.{byte_place, Lacks}
use Rattle.streams.proofs.Cuts.{behind, cut_at, first_part, lacks_all, lacks_before, last_part}
use Rattle.streams.proofs.separators.cut.Goals as goal

pub returns-then-place-text : goal.returns-then-place-text
returns-then-place-text c =
    let byte = c.args.byte in
    let text = c.args.text.now in
    let all = sym c.place_of-place.ensures.place ∙ c.if-place-text.true in
    record {
      front = lacks_all byte text all;
      whole = sym (append-nil text);
      parts = last_part byte text all;
    }

pub returns : goal.returns
returns c =
    let byte = c.args.byte in
    let text = c.args.text.now in
    let k = c.place_of-place.result in
    let at = c.place_of-place.ensures.place in
    let inside : byte_place byte text < length text =
    omega (arith, at, c.place_of-place.ensures.within, c.if-place-text.false) in
    record {
      front = subst (λ n. Lacks byte (take n text)) (sym at) (lacks_before byte text);
      whole = rw (behind text (k + 1)) (rw at (cut_at byte text inside));
      parts = rw (behind text (k + 1)) (rw at (first_part byte text inside));
    }
