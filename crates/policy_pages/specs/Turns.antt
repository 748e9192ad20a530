-- Second chances: while the oldest key has a count, it goes to the recent end with its count less 1.
use Rattle.std.specs.Prelude.{ℕ, zero, suc, if◌then◌else◌, eqb, List, [], ◌∷◌, ◌++◌}
use Rattle.policy_pages.specs.CountedKeys.{CountedKey, counted_less, oldest_count, total_count}

-- the oldest key turns: it goes to the recent end, with its count less 1
abbrev pub after_turn : List CountedKey → List CountedKey
after_turn [] = []
after_turn (e ∷ l) = l ++ counted_less e ∷ []

-- how many turns there are until the oldest key has no count, where at most n are made
abbrev pub turn_count_within : ℕ → List CountedKey → ℕ
turn_count_within zero queue = 0
turn_count_within (suc n) queue = if eqb (oldest_count queue) 0 then 0 else suc (turn_count_within n (after_turn queue))

-- how many there are: no more than all counts together, since each takes 1 away
abbrev pub turn_count : List CountedKey → ℕ
turn_count queue = turn_count_within (total_count queue) queue

abbrev pub after_turns : ℕ → List CountedKey → List CountedKey
after_turns zero queue = queue
after_turns (suc n) queue = after_turns n (after_turn queue)
