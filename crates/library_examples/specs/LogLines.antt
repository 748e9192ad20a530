-- What workers write side by side.
use Rattle.std.specs.Prelude.{◌≡◌, ℕ, zero, suc, ◌<◌, ◌≤◌, List, [], ◌∷◌, ◌++◌, length, get_or}
use Rattle.std.specs.Global.{Vec}
use Rattle.turn_book.specs.Turns.{entries_by}
use Rattle.turn_book.specs.Passes.{BookId, PassState}
pub use Rattle.library_examples.specs.declared.log.LogLine.{LogLine}
pub use Rattle.library_examples.specs.declared.log.Log.{Log}

-- the lines of worker w that are numbered below n, in order
abbrev pub numbered : ℕ → ℕ → List LogLine
numbered w zero = []
numbered w (suc n) = numbered w n ++ record { worker = w; number = n } ∷ []

-- the lines of worker w, in order
abbrev pub lines_by : ℕ → List LogLine → List LogLine
lines_by w ls = entries_by (λ l. l.worker) w ls

-- The log keeps its name. Past the old lines, those of worker w are the list at place w, in order, and that is all of
-- its lines numbered below n; and nobody else wrote any.
pub record IsWritten (workers n : ℕ) (old new : Log) (lists : List (List LogLine)) : Type 0 where
  pub name : new.name ≡ old.name
  pub news : List LogLine
  pub written : new.lines.items ≡ old.lines.items ++ news
  pub as_many : length lists ≡ workers
  pub own : (w : ℕ) → w < workers → lines_by w news ≡ get_or lists w []
  pub whole : (w : ℕ) → w < workers → get_or lists w [] ≡ numbered w n
  pub no_other : (w : ℕ) → workers ≤ w → lines_by w news ≡ []

-- a pass of the book that has drawn nothing yet
pub record IsFresh (b : BookId Log) (p : PassState Log LogLine) : Type 0 where
  pub book : p.book ≡ b
  pub own : p.own ≡ []
  pub draws : p.draws ≡ 0

-- the pass of worker w wrote its lines numbered below n, which are its worker's list
pub record Wrote (b : BookId Log) (n w : ℕ) (p : PassState Log LogLine) (l : Vec LogLine) : Type 0 where
  pub book : p.book ≡ b
  pub worker : p.worker ≡ w
  pub own : p.own ≡ numbered w n
  pub list : l.items ≡ numbered w n
