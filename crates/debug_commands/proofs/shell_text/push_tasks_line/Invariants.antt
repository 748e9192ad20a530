use Rattle.std.proofs.Common.{◌≡◌, ◌++◌, take}
use Rattle.std.specs.List.{flat_map}
use Rattle.debug_commands.specs.ShownState.{task_text}
use Rattle.debug_commands.proofs.shell_text.push_tasks_line.Given as goal

abbrev pub invariant-loop-task : goal.invariant-loop-task
invariant-loop-task l = l.text.items ≡ l.initial.text.items ++ flat_map task_text (take l.task-index l.tasks)
