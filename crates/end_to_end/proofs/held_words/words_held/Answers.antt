use Rattle.std.proofs.Common.{length, ◌∙◌}
use Rattle.end_to_end.proofs.Holding.{held-by-halvings}
use Rattle.end_to_end.proofs.held_words.words_held.Goals as goal

pub returns : goal.returns
returns c = λ f g opening now.
    let h = held-by-halvings c.args.session.now.opening c.args.session.now.engine (length c.args.session.now.kept) c.args.session.now.held f g c.sound.ensures.holds opening now in
    (c.held.ensures ∙ h.0, h.1)
