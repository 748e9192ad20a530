-- ARC, the adaptive replacement cache (Megiddo and Modha, FAST 2003, figure 4), in whole numbers. A new key joins t1; a
-- key that comes again goes to t2. What leaves them is remembered in b1 and b2. t1 is to have p keys: p grows where a
-- key of b1 comes again, and shrinks for one of b2.
use Rattle.std.specs.Prelude.{◌≡◌, ℕ, ◌+◌, ◌-◌, ◌*◌, ◌/◌, ◌≤◌, min, max, nat_lt, ◌==◌, ◌&&◌, ◌||◌, Bool, true, false}
use Rattle.std.specs.Prelude.{if◌then◌else◌, List, [], ◌∷◌, ◌++◌, length, drop}
use Rattle.engine_base.specs.Keys.{has_key, keys_without}
pub use Rattle.engine_base.specs.declared.outcome.Outcome.{Outcome}
use Rattle.engine_base.specs.declared.outcome.Outcome.TheVariants.{Hit, Kept, Evicted}
use Rattle.policy_pages.specs.Residents.{times}

-- the queues, oldest first
pub record ArcState : Type 0 where
  pub t1 : List ℕ
  pub t2 : List ℕ
  pub b1 : List ℕ
  pub b2 : List ℕ
  pub p : ℕ

abbrev pub empty_arc : ArcState
empty_arc = record { t1 = []; t2 = []; b1 = []; b2 = []; p = 0 }

abbrev pub arc_residents : ArcState → List ℕ
arc_residents s = s.t1 ++ s.t2

-- how many keys are resident or remembered
abbrev pub arc_total : ArcState → ℕ
arc_total s = length s.t1 + length s.t2 + length s.b1 + length s.b2

-- ---- what a miss moves

-- the ghost that remembered the missed key
pub data ArcGhost : Type 0 where
  NoGhost : ArcGhost
  InB1 : ArcGhost
  InB2 : ArcGhost

-- the key that is forgotten for a new one, the oldest of its ghost
pub data ArcForgets : Type 0 where
  NoneForgotten : ArcForgets
  OfB1 : ℕ → ArcForgets
  OfB2 : ℕ → ArcForgets

-- the key that leaves for a new one, the oldest of its queue, where there is no room
pub data ArcLeaver : Type 0 where
  NoLeaver : ArcLeaver
  -- of t1, which b1 remembers
  ToB1 : ℕ → ArcLeaver
  -- of t2, which b2 remembers
  ToB2 : ℕ → ArcLeaver
  -- of t1, which is not remembered
  Dropped : ℕ → ArcLeaver

pub record ArcPlan : Type 0 where
  pub recalls : ArcGhost
  pub forgets : ArcForgets
  pub leaver : ArcLeaver

-- the oldest of a ghost is forgotten
abbrev pub oldest_forgotten : (ℕ → ArcForgets) → List ℕ → ArcForgets
oldest_forgotten forgets [] = NoneForgotten
oldest_forgotten forgets (v ∷ queue) = forgets v

-- the oldest of a queue leaves
abbrev pub oldest_leaver : (ℕ → ArcLeaver) → List ℕ → ArcLeaver
oldest_leaver leaves [] = NoLeaver
oldest_leaver leaves (v ∷ queue) = leaves v

-- ---- which key leaves, and what is forgotten

-- p after a miss: up by b2 / b1, at least one, for a key of b1, and down by b1 / b2 for one of b2
abbrev pub arc_target : ℕ → ArcGhost → ArcState → ℕ
arc_target c NoGhost s = s.p
arc_target c InB1 s = min c (s.p + max 1 (length s.b2 / length s.b1))
arc_target c InB2 s = s.p - max 1 (length s.b1 / length s.b2)

-- The paper's REPLACE: the oldest of t1 leaves where t1 has over p keys, or p of them and the key is in b2; else the
-- oldest of t2.
abbrev pub arc_replace : Bool → ℕ → ArcState → ArcLeaver
arc_replace in_b2 p s =
    if nat_lt 0 (length s.t1) && (nat_lt p (length s.t1) || (in_b2 && length s.t1 == p))
    then oldest_leaver ToB1 s.t1
    else oldest_leaver ToB2 s.t2

-- Where t1 and b1 have c keys (the paper's case IV A), b1's oldest is forgotten; or t1's oldest leaves, and is not
-- remembered, where t1 has them all.
abbrev pub plan_of_full_l1 : ℕ → ArcState → ArcPlan
plan_of_full_l1 c s =
    if nat_lt (length s.t1) c
    then record { recalls = NoGhost; forgets = oldest_forgotten OfB1 s.b1; leaver = arc_replace false s.p s }
    else record { recalls = NoGhost; forgets = NoneForgotten; leaver = oldest_leaver Dropped s.t1 }

-- Where they have fewer (case IV B), a key leaves where the four queues have at least c, and b2's oldest is forgotten
-- where they have 2 c.
abbrev pub plan_of_open_l1 : ℕ → ArcState → ArcPlan
plan_of_open_l1 c s =
    if nat_lt (arc_total s) c
    then record { recalls = NoGhost; forgets = NoneForgotten; leaver = NoLeaver }
    else if arc_total s == 2 * c
    then record { recalls = NoGhost; forgets = oldest_forgotten OfB2 s.b2; leaver = arc_replace false s.p s }
    else record { recalls = NoGhost; forgets = NoneForgotten; leaver = arc_replace false s.p s }

abbrev pub plan_of_new_key : ℕ → ArcState → ArcPlan
plan_of_new_key c s = if length s.t1 + length s.b1 == c then plan_of_full_l1 c s else plan_of_open_l1 c s

-- A miss: its key is in b1 (case II), in b2 (III), or new (IV).
abbrev pub arc_plan : ℕ → ℕ → ArcState → ArcPlan
arc_plan c k s =
    if has_key k s.b1
    then record { recalls = InB1; forgets = NoneForgotten; leaver = arc_replace false (arc_target c InB1 s) s }
    else if has_key k s.b2
    then record { recalls = InB2; forgets = NoneForgotten; leaver = arc_replace true (arc_target c InB2 s) s }
    else plan_of_new_key c s

-- ---- an access

-- the key is no longer remembered, and p is the given one
abbrev pub arc_after_recall : ℕ → ℕ → ArcState → ArcState
arc_after_recall p k s = record { t1 = s.t1; t2 = s.t2; b1 = keys_without k s.b1; b2 = keys_without k s.b2; p = p }

abbrev pub arc_after_forgetting : ArcForgets → ArcState → ArcState
arc_after_forgetting NoneForgotten s = s
arc_after_forgetting (OfB1 v) s = record s { b1 = drop 1 s.b1 }
arc_after_forgetting (OfB2 v) s = record s { b2 = drop 1 s.b2 }

abbrev pub arc_after_eviction : ArcLeaver → ArcState → ArcState
arc_after_eviction NoLeaver s = s
arc_after_eviction (ToB1 v) s = record s { t1 = drop 1 s.t1; b1 = s.b1 ++ v ∷ [] }
arc_after_eviction (ToB2 v) s = record s { t2 = drop 1 s.t2; b2 = s.b2 ++ v ∷ [] }
arc_after_eviction (Dropped v) s = record s { t1 = drop 1 s.t1 }

-- the key joins t1 where no ghost remembered it, else t2
abbrev pub arc_after_join : ArcGhost → ℕ → ArcState → ArcState
arc_after_join NoGhost k s = record s { t1 = s.t1 ++ k ∷ [] }
arc_after_join InB1 k s = record s { t2 = s.t2 ++ k ∷ [] }
arc_after_join InB2 k s = record s { t2 = s.t2 ++ k ∷ [] }

abbrev pub arc_after_miss : ℕ → ℕ → ArcPlan → ArcState → ArcState
arc_after_miss c k m s =
    arc_after_join m.recalls k
    (arc_after_eviction m.leaver (arc_after_forgetting m.forgets (arc_after_recall (arc_target c m.recalls s) k s)))

abbrev pub arc_outcome : ArcLeaver → Outcome
arc_outcome NoLeaver = Kept
arc_outcome (ToB1 v) = Evicted v
arc_outcome (ToB2 v) = Evicted v
arc_outcome (Dropped v) = Evicted v

-- an access to k at capacity c: its outcome, and the state after it
abbrev pub arc_act : ℕ → ℕ → ArcState → Outcome × ArcState
arc_act c k s =
    if has_key k s.t1
    then (Hit, record s { t1 = keys_without k s.t1; t2 = s.t2 ++ k ∷ [] })
    else if has_key k s.t2
    then (Hit, record s { t2 = keys_without k s.t2 ++ k ∷ [] })
    else (arc_outcome (arc_plan c k s).leaver, arc_after_miss c k (arc_plan c k s) s)

-- ---- a state of a cache of capacity c

-- A ghost has a key only where the cache is full.
pub record IsArc (c : ℕ) (s : ArcState) : Type 0 where
  pub fits : length s.t1 + length s.t2 ≤ c
  -- the paper's L1
  pub l1_fits : length s.t1 + length s.b1 ≤ c
  pub all_fit : arc_total s ≤ 2 * c
  pub full : 1 ≤ length s.b1 + length s.b2 → length s.t1 + length s.t2 ≡ c
  pub p_fits : s.p ≤ c
  pub distinct : (x : ℕ) → times x s.t1 + times x s.t2 + times x s.b1 + times x s.b2 ≤ 1
