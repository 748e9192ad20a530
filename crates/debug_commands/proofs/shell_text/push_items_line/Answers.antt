use Rattle.std.proofs.Common.{◌≤◌, length, arith}
use Rattle.std.specs.Prelude.{codes}
use Rattle.std.proofs.lemmas.Grind.{common_steps}
use Rattle.debug_commands.specs.ShownState.{item_text}
use Rattle.debug_commands.proofs.Lines.{line_ends}
use Rattle.debug_commands.proofs.shell_text.push_items_line.Goals as goal

pub loop-item-preserved : goal.loop-item-preserved
loop-item-preserved c = grind (arith, common_steps)

pub returns : goal.returns
returns c =
    let all : length c.args.items.now ≤ c.loop-item.item-index = omega arith in
    line_ends c.extend_from_slice-2.result item_text c.args.items.now c.loop-item.item-index c.args.text.now.items c.args.name.now c.extend_from_slice.new.self.items
    c.loop-item.text.items c.extend_from_slice-2.new.self.items (codes "\n") all c.in_ok-extend_from_slice.ensures.items c.loop-item.invariant
    c.extend_from_slice-2.ensures.items
