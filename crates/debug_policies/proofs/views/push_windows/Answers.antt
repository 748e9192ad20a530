use Rattle.std.specs.Prelude.{codes}
use Rattle.debug_policies.specs.Window.{window_line}
use Rattle.debug_policies.proofs.Facts.{both_added}
use Rattle.debug_policies.proofs.views.push_windows.Goals as goal

pub returns : goal.returns
returns c =
    both_added c.show_window-2.result (window_line (codes "a")) (window_line (codes "b")) c.args.first.now c.args.second.now c.args.text.now.items
    c.show_window.new.text.items c.show_window-2.new.text.items c.requires c.in_ok-show_window.ensures c.show_window-2.ensures
