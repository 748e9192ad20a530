-- Worked examples.
use Rattle.std.specs.Prelude.{◌≡◌, ℕ, nat_lt, Bool, true, false, Some, None, List, [], ◌∷◌, map, take}
use Rattle.std.specs.List.{range_with_len}
use Rattle.engine_base.specs.Stats.{stats_of}
use Rattle.queue_cache.specs.Climber.{Climber, caffeine_rules, period_of, restarts}
use Rattle.queue_cache.specs.AdaptiveWindow.{ClimbRules, Item, AdaptiveState, empty_adaptive, adaptive_act}
use Rattle.queue_cache.specs.AdaptiveTheorems.{Access, adaptive_outcomes, adaptive_state_after}

abbrev pub item : ℕ → Item
item k = record { key = k; node = 0 }

abbrev pub is_greater : ℕ → ℕ → Bool
is_greater candidate victim = nat_lt victim candidate

abbrev pub accesses_to : List ℕ → List Access
accesses_to [] = []
accesses_to (k ∷ keys) = record { admits = is_greater; item = item k } ∷ accesses_to keys

abbrev pub example_keys : List ℕ
example_keys =
    1 ∷ 2 ∷ 1 ∷ 2 ∷ 2 ∷ 2 ∷ 2 ∷ 6 ∷ 1 ∷ 2 ∷ 4 ∷ 3 ∷ 1 ∷ 1 ∷ 5 ∷ 4 ∷ 1 ∷ 0 ∷ 4 ∷ 3 ∷ 1 ∷ 2 ∷ 0 ∷ 1 ∷ 3 ∷
    3 ∷ 2 ∷ 4 ∷ 2 ∷ 2 ∷ 0 ∷ 2 ∷ 0 ∷ 2 ∷ 1 ∷ 4 ∷ 3 ∷ 2 ∷ 4 ∷ 4 ∷ []

-- short periods and steps of an item, so that the window moves in few accesses: a step of `caffeine_rules` is less than
-- an item below capacity 16
abbrev pub example_rules : ClimbRules
example_rules = record { capacity = 4; largest = 3; sample = 6; step = 65536 }

abbrev pub rules_of_sample : ℕ → ClimbRules
rules_of_sample n = record { capacity = 4; largest = 3; sample = n; step = 65536 }

abbrev pub climber_of_hits : ℕ → ℕ → Climber
climber_of_hits now last =
    record { target = 1; grows = false; step = 65536; accesses = 100; hits = now; last_hits = last }

-- At capacity 4, 40 accesses, from a window of 2: it shrinks to 1 after the first period, grows to 2 and 3, stays at 3
-- where the step was less than an item, and shrinks to 2 and 1, where protected is to have 2; a candidate is admitted if
-- its key is greater.
pub record WorkedExample : Type 0 where
  pub rules : caffeine_rules 100 99 None ≡ record { capacity = 100; largest = 80; sample = 1000; step = 409600 }
  pub periods : (period_of 100 (Some 50) ≡ 100) × (period_of 100 (Some 200) ≡ 200)
  -- by 5 points of 100 accesses, and by 4
  pub restarts_at : (restarts (rules_of_sample 100) (climber_of_hits 55 50) ≡ true)
      × (restarts (rules_of_sample 100) (climber_of_hits 54 50) ≡ false)
  pub counts : stats_of (adaptive_outcomes example_rules (empty_adaptive example_rules 2) (accesses_to example_keys))
      ≡ record { accesses = 40; hits = 20; misses = 20; evictions = 16; rejections = 13 }
  pub state : adaptive_state_after example_rules (empty_adaptive example_rules 2) (accesses_to example_keys) ≡ record {
    queues = record { window = item 4 ∷ []; probation = item 6 ∷ item 1 ∷ []; protected = item 3 ∷ [] };
    size = 1;
    climber = record { target = 1; grows = false; step = 64225; accesses = 4; hits = 2; last_hits = 3 };
  }

-- a step of three items
abbrev pub jumping_rules : ClimbRules
jumping_rules = record { capacity = 6; largest = 5; sample = 8; step = 196608 }

-- two periods
abbrev pub jumping_keys : List ℕ
jumping_keys = 1 ∷ 2 ∷ 3 ∷ 4 ∷ 5 ∷ 1 ∷ 5 ∷ 5 ∷ 2 ∷ 3 ∷ 6 ∷ 7 ∷ 8 ∷ 0 ∷ 9 ∷ 10 ∷ []

-- At capacity 6, from a window of 4. After the first period it shrinks to 1, and 2, 3 and 4 go to probation. In the second
-- one the hits fall from three to two, so it grows to 4: protected, which is to have one item, gives 1 and 2 to probation,
-- and then probation 8, 9 and 1 to the window.
pub record JumpingExample : Type 0 where
  pub shrunk : adaptive_state_after jumping_rules (empty_adaptive jumping_rules 4) (accesses_to (take 8 jumping_keys))
      ≡ record {
        queues = record {
          window = item 5 ∷ [];
          probation = item 2 ∷ item 3 ∷ item 4 ∷ [];
          protected = item 1 ∷ [];
        };
        size = 1;
        climber = record { target = 1; grows = false; step = 196608; accesses = 0; hits = 0; last_hits = 3 };
      }
  pub counts : stats_of (adaptive_outcomes jumping_rules (empty_adaptive jumping_rules 4) (accesses_to jumping_keys))
      ≡ record { accesses = 16; hits = 5; misses = 11; evictions = 5; rejections = 1 }
  pub grown : adaptive_state_after jumping_rules (empty_adaptive jumping_rules 4) (accesses_to jumping_keys) ≡ record {
    queues = record {
      window = item 10 ∷ item 8 ∷ item 9 ∷ item 1 ∷ [];
      probation = item 2 ∷ [];
      protected = item 3 ∷ [];
    };
    size = 4;
    climber = record { target = 4; grows = true; step = 196608; accesses = 0; hits = 0; last_hits = 2 };
  }

-- ---- the ends of periods at capacity 16, whose first window is 1

abbrev pub is_never : ℕ → ℕ → Bool
is_never candidate victim = false

-- so many items, the first of this key
abbrev pub items_from : ℕ → ℕ → List Item
items_from first count = map item (range_with_len first count)

-- Key 1 came 160 times, and keys 100 to 258 once each: 159 accesses of the second period.
abbrev pub before_320 : AdaptiveState
before_320 = record {
  queues = record { window = item 258 ∷ []; probation = item 1 ∷ items_from 100 14; protected = [] };
  size = 1;
  climber = record { target = 1; grows = false; step = 65536; accesses = 159; hits = 0; last_hits = 159 };
}

-- Then key 259, and key 1 159 times: as many of the third period.
abbrev pub before_480 : AdaptiveState
before_480 = record {
  queues = record { window = item 259 ∷ item 1 ∷ []; probation = items_from 100 14; protected = [] };
  size = 2;
  climber = record { target = 2; grows = true; step = 65536; accesses = 159; hits = 159; last_hits = 0 };
}

-- Where no candidate is admitted: with access 320, to key 259, the target is 2, since fewer hit; with 480, to key 1, it is 3.
-- The size is the target at once, and probation's oldest goes to the window.
pub record PeriodsExample : Type 0 where
  pub second : (adaptive_act (caffeine_rules 16 99 None) is_never (item 259) before_320).1 ≡ record {
    queues = record { window = item 259 ∷ item 1 ∷ []; probation = items_from 100 14; protected = [] };
    size = 2;
    climber = record { target = 2; grows = true; step = 65536; accesses = 0; hits = 0; last_hits = 0 };
  }
  pub third : (adaptive_act (caffeine_rules 16 99 None) is_never (item 1) before_480).1 ≡ record {
    queues = record { window = item 259 ∷ item 1 ∷ item 100 ∷ []; probation = items_from 101 13; protected = [] };
    size = 3;
    climber = record { target = 3; grows = true; step = 65536; accesses = 0; hits = 0; last_hits = 160 };
  }
