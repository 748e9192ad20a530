use Rattle.std.proofs.Common.{sym, ◌∙◌, ap, ◌≡◌}
use Rattle.streams.proofs.Trims.{front_none, front_stop}
use Rattle.streams.specs.Blanks.{trimmed_text, without_back, without_front}
use Rattle.streams.proofs.blanks.trimmed.Goals as goal
use Rattle.streams.proofs.blanks.trimmed.Goals.{in_default, in-len1-up+then-not-is_blank_byte}

pub returns : goal.returns
unfolding trimmed_text
returns c =
    let front : without_front c.front.rest.now ≡ c.front.rest.now = elim c.if-rest-lt1.branch [ in_default w ↦ front_none _ w.in_default.len_below | in-len1-up+then-not-is_blank_byte w ↦ front_stop c.front.rest.now (sym w.is_blank_byte.ensures ∙ w.if-not-is_blank_byte.true) ] in
    c.trimmed_back.ensures ∙ ap without_back (sym front ∙ c.front.invariant)
