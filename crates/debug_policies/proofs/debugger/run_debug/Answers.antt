use Rattle.std.proofs.Common.{◌≡◌, ◌∙◌, sym, Ok, true, false}
use Rattle.engine_base.specs.Config.{config_fault}
use Rattle.debug_policies.proofs.Facts.{accepted, done_held, no_fault, part_held, untouched, written_held}
use Rattle.debug_policies.proofs.debugger.run_debug.Goals as goal

pub returns-clause-done : goal.returns-clause-done
returns-clause-done g c =
    done_held c.answer_commands.result (g.R.CountedRead.remaining c.args.commands.now) _ _ _ true (g.W.CountedWrite.contents c.args.out.now)
    (g.W.CountedWrite.contents c.answer_commands.new.out) c.answer_commands.new.timeline.first.at c.in_ok-both.ensures.timeline c.in_ok-both.ensures.start c.answer_commands.ensures.done

pub returns-clause-large : goal.returns-clause-large
returns-clause-large g c e =
    written_held (g.R.CountedRead.remaining c.args.commands.now) _ _ _ false (g.W.CountedWrite.contents c.args.out.now)
    (g.W.CountedWrite.contents c.answer_commands.new.out) c.answer_commands.new.timeline.first.at c.in_ok-both.ensures.timeline c.in_ok-both.ensures.start (c.answer_commands.ensures.large e)

pub returns-clause-part : goal.returns-clause-part
returns-clause-part g c =
    part_held c.answer_commands.result (g.R.CountedRead.remaining c.args.commands.now) _ _ _ (g.W.CountedWrite.contents c.args.out.now)
    (g.W.CountedWrite.contents c.answer_commands.new.out) c.in_ok-both.ensures.timeline c.in_ok-both.ensures.start c.answer_commands.ensures.part

pub returns-clause-config : goal.returns-clause-config
returns-clause-config g c =
    let one : config_fault c.args.first.now.config ≡ Ok tt = sym c.check.ensures ∙ no_fault c.check.result (sym c.is_err.ensures.value ∙ c.if-is_err.false) in
    let other : config_fault c.args.second.now.config ≡ Ok tt = sym c.check-2.ensures ∙ no_fault c.check-2.result (sym c.is_err-2.ensures.value ∙ c.if-is_err-2.false) in
    accepted (config_fault c.args.first.now.config) (config_fault c.args.second.now.config) c.answer_commands.result one other c.answer_commands.ensures.config

pub returns-clause-untouched : goal.returns-clause-untouched
returns-clause-untouched g c =
    untouched (c.answer_commands.new.input ≡ c.args.commands.now) (c.answer_commands.new.out ≡ c.args.out.now) c.answer_commands.result
    c.answer_commands.ensures.config
