-- What one turn leaves.
use Rattle.std.specs.Prelude.{◌≡◌, ◌<◌, ◌≤◌, List, [], ◌++◌}
use Rattle.turn_book.specs.Turns.{Begins}
use Rattle.turn_book.specs.Passes.{BookState, PassState, drawn_once, having_made}
use Rattle.library_examples.specs.declared.log.LogLine.{LogLine}
use Rattle.library_examples.specs.declared.log.Log.{Log}
use Rattle.library_examples.specs.declared.log_turn.AppendFault.{AppendFault}
use Rattle.library_examples.specs.declared.log_turn.AppendFault.TheVariants.{OutOfMemory, Spent}

-- The pass p took one turn, in which it wrote these lines, and is now q. The lines that it found begin with those that
-- it left last.
pub record Appends (lines : List LogLine) (p q : PassState Log LogLine) : Type 0 where
  pub found : List LogLine
  pub begins : Begins p.last found
  pub after : q ≡ having_made lines (found ++ lines) (drawn_once p)

-- out of memory a turn was drawn that wrote nothing; a spent pass drew none
abbrev pub IsAppendRefused : AppendFault → BookState Log → PassState Log LogLine → Type 0
IsAppendRefused (OutOfMemory q) b p = (p.draws < b.turns) × Appends [] p q
IsAppendRefused (Spent q) b p = (b.turns ≤ p.draws) × (q ≡ p)
