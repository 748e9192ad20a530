-- How many turns a worker draws.
use Rattle.std.specs.Prelude.{ℕ, ◌≤◌, length}
use Rattle.turn_book.specs.Passes.{PassState}

-- The pass drew no more turns than it made entries. These are no more than the entries that it saw last, and of those
-- there are no more than the limit.
pub record IsWithin {T E : Type 0} (limit : ℕ) (p : PassState T E) : Type 0 where
  pub draws : p.draws ≤ length p.own
  pub own : length p.own ≤ length p.last
  pub last : length p.last ≤ limit
