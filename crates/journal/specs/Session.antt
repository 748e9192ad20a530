-- A session: an engine with the journal of its steps, and what a session promises of them.
-- (Defined by this project: the opening state is kept in no field; undo records lead back to it.)
use Rattle.std.specs.Prelude.{◌≡◌, ℕ, ◌+◌, ◌*◌, ◌/◌, ◌≤◌, Option, List, ◌++◌, length, take, drop}
pub use Rattle.engine_base.specs.declared.entry.Entry.{Entry}
use Rattle.engine_base.specs.declared.limits.TheConstants.{MAX_JOURNAL_LIMIT, MAX_STEPS}
use Rattle.engine_base.specs.History.{data_after, IsLegal}
use Rattle.engine_base.specs.Pace.{Pace}

-- What callers see of a session.
pub record SessionState (E D S R : Type 0) : Type 0 where
  -- what the engine showed when the session was opened
  pub opening : D
  pub limit : ℕ
  -- the entries of the applied steps, oldest first
  pub kept : List (Entry S R)
  -- the entries of the undone steps, the next to redo first
  pub tail : List (Entry S R)
  pub engine : E
  -- how many words the undo records of the applied steps hold in lists
  pub held : ℕ
  -- for how many entries more there is memory already
  pub room : ℕ

-- The undo records hold the words of the halvings since the opening state, and those are few: as a
-- step records at most one key, one halving, and one more in each period.
pub record HoldsFew (opening now : Pace) (steps words : ℕ) : Type 0 where
  pub halved : ℕ
  pub rose : now.halvings ≡ opening.halvings + halved
  pub held : words ≡ halved * opening.words
  pub few : halved ≤ 1 + steps / opening.period

-- What a session promises: the entries of the applied steps are legal from the opening state, the
-- engine's data are what they lead to, the undone ones are legal from there, and the undo records
-- hold little. The engine's count of applied steps never comes to its end in a session.
pub record IsSoundSession {E D S R : Type 0} (act : D → S → Option (R × D)) (count : D → ℕ) (pace : D → Pace)
    (seen : E → D)
    (s : SessionState E D S R) : Type 0 where
  pub legal : IsLegal act s.opening s.kept
  pub stands : seen s.engine ≡ data_after act s.opening s.kept
  pub redo : IsLegal act (seen s.engine) s.tail
  pub room : length s.kept + length s.tail ≤ s.limit
  pub small : s.limit ≤ MAX_JOURNAL_LIMIT
  pub counted : count (seen s.engine) ≡ count s.opening + length s.kept
  pub countable : count s.opening + s.limit ≤ MAX_STEPS
  pub holds : HoldsFew (pace s.opening) (pace (seen s.engine)) (length s.kept) s.held

-- nothing that a session promises differs
pub record IsSameSession {E D S R : Type 0} (seen : E → D) (a b : SessionState E D S R) : Type 0 where
  pub opening : b.opening ≡ a.opening
  pub limit : b.limit ≡ a.limit
  pub kept : b.kept ≡ a.kept
  pub tail : b.tail ≡ a.tail
  pub shown : seen b.engine ≡ seen a.engine

-- the same session with n of its steps applied: the first n of all its entries
pub record IsMovedTo {E D S R : Type 0} (n : ℕ) (a b : SessionState E D S R) : Type 0 where
  pub opening : b.opening ≡ a.opening
  pub limit : b.limit ≡ a.limit
  pub applied : length b.kept ≡ n
  pub kept : b.kept ≡ take n (a.kept ++ a.tail)
  pub tail : b.tail ≡ drop n (a.kept ++ a.tail)
