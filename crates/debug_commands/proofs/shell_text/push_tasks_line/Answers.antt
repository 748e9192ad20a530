use Rattle.std.proofs.Common.{◌≤◌, length, arith}
use Rattle.std.specs.Prelude.{codes}
use Rattle.std.proofs.lemmas.Grind.{common_steps}
use Rattle.debug_commands.specs.ShownState.{task_text}
use Rattle.debug_commands.proofs.Lines.{line_ends}
use Rattle.debug_commands.proofs.shell_text.push_tasks_line.Goals as goal

pub loop-task-preserved : goal.loop-task-preserved
loop-task-preserved c = grind (arith, common_steps)

pub returns : goal.returns
returns c =
    let all : length c.args.tasks.now ≤ c.loop-task.task-index = omega arith in
    line_ends c.extend_from_slice-2.result task_text c.args.tasks.now c.loop-task.task-index c.args.text.now.items (codes "writes") c.extend_from_slice.new.self.items
    c.loop-task.text.items c.extend_from_slice-2.new.self.items (codes "\n") all c.in_ok-extend_from_slice.ensures.items c.loop-task.invariant
    c.extend_from_slice-2.ensures.items
