use Rattle.std.proofs.Common.{◌≡◌, ◌∙◌, ◌==◌, ap, cond, false, is_some, subst, sym, Option, Some, Bool}
use Rattle.engine_base.specs.declared.limits.TheConstants.{MAX_STEPS}
use Rattle.trace_index.specs.FootprintCounter.{AreFewer, footprint_with, mark, mark_in}
use Rattle.trace_index.specs.Footprint.{Footprint, footprint_of, times}
use Rattle.trace_index.proofs.Counts.{footprint-few, footprint-more, footprint-once, mark-more}
use Rattle.trace_index.proofs.footprint_counter.FootprintCounter.count.Goals as goal

pub counted-self-requires-clause-few : goal.counted-self-requires-clause-few
counted-self-requires-clause-few c =
    let has = c.requires.1 in
    subst (λ (f : Footprint). AreFewer MAX_STEPS f) (sym has.counts) (footprint-few c.requires.0 MAX_STEPS c.requires.2)

pub counted-self-requires-clause-some : goal.counted-self-requires-clause-some
counted-self-requires-clause-some c = λ e.
    let has = c.requires.1 in
    rw has.counts (footprint-once c.requires.0 c.args.key (sym (c.in_ok-before.ensures.before ∙ has.marks c.args.key) ∙ e))

pub returns : goal.returns
returns c = λ done has. record {
  counts = c.counted-self.ensures ∙ ap (λ (b : Option Bool). footprint_with b c.args.self.now.footprint) (c.in_ok-before.ensures.before ∙ has.marks c.args.key)
      ∙ ap (λ (f : Footprint). footprint_with (mark (times c.args.key done)) f) has.counts ∙ footprint-more done c.args.key;
  marks = λ block. c.in_ok-before.ensures.after block
      ∙ ap (λ (m : Option Bool). cond (c.args.key == block) (Some (is_some (mark_in c.args.self.now.places c.args.key))) m) (has.marks block)
      ∙ mark-more done c.args.key block (mark_in c.args.self.now.places c.args.key) (has.marks c.args.key);
}
