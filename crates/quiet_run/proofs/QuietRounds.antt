-- A round of maintenance, read from its end.
use Rattle.std.proofs.Common.{◌≡◌, ℕ, suc, zero, ◌+◌, ◌<◌, ◌≤◌, Bool, true, false, nat_lt, Option, Some, None, List, [], ◌∷◌, length, ◌∙◌, refl, arith, inl, inr}
use Rattle.std.specs.Prelude.{MatchBool, ◌==◌}
use Rattle.std.proofs.lemmas.Bool.{cases_Bool, eq-eqb}
use Rattle.std.proofs.lemmas.Bool.Decides.{nat_tests}
use Rattle.engine_base.specs.declared.outcome.Outcome.TheVariants as outcome
use Rattle.engine_base.specs.declared.step.Act.TheVariants as a
use Rattle.engine_base.specs.declared.step.Reply.TheVariants as reply
use Rattle.engine_base.specs.declared.drain.Drain.TheVariants as drain
use Rattle.engine_base.specs.declared.drain.Phase.TheVariants.{Reads, Writes, Evictions}
use Rattle.engine_base.specs.History.{Entries}
use Rattle.admission.specs.Frequency.{FrequencyData}
use Rattle.segments.specs.declared.records.Queue.TheVariants.{Probation}
use Rattle.segments.specs.Items.{Item, is_same_item, occurrences, items_without, oldest_of}
use Rattle.segments.specs.Queues.{Queues, queues_after_move, total_items}
use Rattle.segments.proofs.QueueLists.{length-without}
use Rattle.replacement.specs.Admission.{admits_in}
use Rattle.replacement.specs.Rules.{Config, three_queues}
use Rattle.replacement.specs.Table.{Outcome, Response, contest, trial, eviction}
use Rattle.shell_model.specs.Buffers.{stripe_at}
use Rattle.shell_model.specs.declared.stats.ShellStats.{ShellStats}
use Rattle.shell_model.specs.ShellStats.{Reply, shell_stats_after}
use Rattle.shell_model.specs.declared.task.Task.{Task}
use Rattle.shell_model.specs.Shell.{Phase, Shell, window_size, reply_by, unlisted_by, may_write}
use Rattle.shell_model.proofs.Making.{evict-is}
use Rattle.shell_model.proofs.Undoing.{first-queued}
use Rattle.shell_model.specs.Walks.{Opens, IsEnding, FollowsEnd, IsEvicting, FollowsEvict, IsWriting, FollowsDrainWrite, IsReading, FollowsDrainRead}
use Rattle.quiet_run.specs.Outcomes.{outcome_with_reply}
use Rattle.quiet_run.proofs.Agreeing.{evictions-law}
use Rattle.quiet_run.proofs.QuietSteps.{Leads, opens, over, state, held, Leaves}

-- ---- the end

not-over : (c : Config) (q : Queues) → length q.window ≤ window_size c → nat_lt (window_size c) (length q.window) ≡ false
not-over c q h = grind (arith, nat_tests)

ends : (c : Config) (t : List Item) (n : ℕ) (q : Queues) (l : List (List Item)) (f : FrequencyData) (p : Phase) (left : ℕ) (s : ShellStats) (m : ℕ) (o : Outcome) (Q : Shell → Type 0)
    → length q.window ≤ window_size c → Leaves Q c t n q l f
    → Leads (IsEnding 0 c.stripes) (state c t n q l [] f drain.ToIdle (held p left) s m) o o Q
ends c t n q l f p left s m o Q v k =
    opens c.stripes a.End (FollowsEnd 0 c.stripes) (state c t n q l [] f drain.ToIdle (held p left) s m) o o Q reply.Idle (state c t n q l [] f drain.Idle None s m)
    (rw (not-over c q v) refl)
    (over (state c t n q l [] f drain.Idle None (shell_stats_after reply.Idle s) (m + 1)) o Q (k (shell_stats_after reply.Idle s) (m + 1)))

-- ---- evictions

evicting-opens : (n : ℕ) (x : Shell) (o goal : Outcome) (Q : Shell → Type 0)
    → Leads (λ es. Opens 0 n a.Evict (λ r es. FollowsEvict 0 n (IsEvicting 0 n es) r es) es) x o goal Q → Leads (IsEvicting 0 n) x o goal Q
evicting-opens n x o goal Q k [] w l = absurd w
evicting-opens n x o goal Q k (e ∷ es) w l = k (e ∷ es) w l

pub fits : (c : Config) (t : List Item) (n : ℕ) (q : Queues) (l : List (List Item)) (f : FrequencyData) (p : Phase) (left : ℕ) (s : ShellStats) (m : ℕ) (o : Outcome) (Q : Shell → Type 0)
    → length q.window ≤ window_size c → Leaves Q c t n q l f
    → Leads (IsEvicting 0 c.stripes) (state c t n q l [] f drain.ToIdle (held p left) s m) o o Q
fits c t n q l f p left s m o Q v k =
    evicting-opens c.stripes (state c t n q l [] f drain.ToIdle (held p left) s m) o o Q
    (opens c.stripes a.Evict (λ r es. FollowsEvict 0 c.stripes (IsEvicting 0 c.stripes es) r es) (state c t n q l [] f drain.ToIdle (held p left) s m) o o Q reply.Fits (state c t n q l [] f drain.ToIdle (held Evictions left) s m)
    (rw (not-over c q v) refl)
    (ends c t n q l f Evictions left (shell_stats_after reply.Fits s) (m + 1) o Q v k))

-- one eviction that takes the candidate out of the window
record IsTried (n : ℕ) (c : Item) (q : Queues) (r : Response) : Type 1 where
  more : (More : Type 0) (es : Entries) → FollowsEvict 0 n More (reply_by r.outcome r.left c) es → More
  outcome_is : outcome_with_reply outcome.Kept (reply_by r.outcome r.left c) ≡ r.outcome
  shorter : length r.queues.window + 1 ≤ length q.window

contest-tried : (n : ℕ) (admits : ℕ → ℕ → Bool) (c : Item) (o : Option Item) (q : Queues) → 1 ≤ occurrences c q.window → IsTried n c q (contest admits c o (queues_after_move c Probation q))
contest-tried n admits c None q h = record { more = λ M es w. w; outcome_is = refl; shorter = omega (arith, h, length-without c q.window, length-without c (items_without c q.window)) }
contest-tried n admits c (Some v) q h =
    let rejects : length (items_without c (items_without c q.window)) + 1 ≤ length q.window = omega (arith, h, length-without c q.window, length-without c (items_without c q.window)) in
    let evicts : length (items_without v (items_without c q.window)) + 1 ≤ length q.window = omega (arith, h, length-without c q.window, length-without v (items_without c q.window)) in
    elim (cases_Bool (is_same_item c v)) as (λ _. IsTried n c q (contest admits c (Some v) (queues_after_move c Probation q))) [
      | inl e ↦ rw e record { more = λ M es w. w; outcome_is = refl; shorter = rejects }
      | inr e ↦ rw e (elim (cases_Bool (admits c.key v.key)) [
        | inl f ↦ rw f record { more = λ M es w. w; outcome_is = refl; shorter = evicts }
        | inr f ↦ rw f record { more = λ M es w. w; outcome_is = refl; shorter = rejects }
      ])
    ]

trial-tried : (n : ℕ) (c : Config) (admits : ℕ → ℕ → Bool) (i : Item) (q : Queues) → 1 ≤ occurrences i q.window → IsTried n i q (trial (three_queues c) admits i (queues_after_move i Probation q))
trial-tried n c admits i q h =
    elim (cases_Bool (nat_lt c.capacity (total_items (queues_after_move i Probation q)))) as (λ _. IsTried n i q (trial (three_queues c) admits i (queues_after_move i Probation q))) [
      | inl e ↦ rw e (contest-tried n admits i (oldest_of (queues_after_move i Probation q).probation) q h)
      | inr e ↦ rw e record { more = λ M es w. w; outcome_is = refl; shorter = omega (arith, h, length-without i q.window) }
    ]

abbrev pub evicted : Config → Queues → FrequencyData → Response
evicted c q f = eviction (three_queues c) (admits_in (Some f)) q

first-some : (l : List Item) (n : ℕ) → n < length l → (i : Item) × (oldest_of l ≡ Some i)
first-some [] n h = absurd (omega arith)
first-some (x ∷ l) n h = (x, refl)

-- evictions until the window fits, where it is over its size by one at most
pub evicts : (c : Config) (t : List Item) (n : ℕ) (q : Queues) (l : List (List Item)) (f : FrequencyData) (p : Phase) (left : ℕ) (s : ShellStats) (m : ℕ) (Q : Shell → Type 0)
    → length q.window ≤ window_size c + 1 → (length (evicted c q f).queues.window ≤ window_size c → Leaves Q c (unlisted_by (evicted c q f).left t) n (evicted c q f).queues l f)
    → Leads (IsEvicting 0 c.stripes) (state c t n q l [] f drain.ToIdle (held p left) s m) outcome.Kept (evicted c q f).outcome Q
evicts c t n q l f p left s m Q v k =
    elim (cases_Bool (nat_lt (window_size c) (length q.window))) [
      | inl e ↦
          let lt : window_size c < length q.window = grind (arith, nat_tests) in
          let o = first-some q.window (window_size c) lt in
          let r : Response = trial (three_queues c) (admits_in (Some f)) o.0 (queues_after_move o.0 Probation q) in
          let is : evicted c q f ≡ trial (three_queues c) (admits_in (Some f)) o.0 (queues_after_move o.0 Probation q) = rw (e, o.1) refl in
          let g : IsTried c.stripes o.0 q r = trial-tried c.stripes c (admits_in (Some f)) o.0 q (first-queued o.0 q.window o.1) in
          let small : length r.queues.window ≤ window_size c = (let d = g.shorter in omega (arith, d, v)) in
          let k2 : length r.queues.window ≤ window_size c → Leaves Q c (unlisted_by r.left t) n r.queues l f = rw is at k in
          let b : Reply = reply_by r.outcome r.left o.0 in
          let next : Leads (IsEvicting 0 c.stripes) (state c (unlisted_by r.left t) n r.queues l [] f drain.ToIdle (held Evictions left) (shell_stats_after b s) (m + 1)) r.outcome r.outcome Q =
          fits c (unlisted_by r.left t) n r.queues l f Evictions left (shell_stats_after b s) (m + 1) r.outcome Q small (k2 small) in
          rw is (evicting-opens c.stripes (state c t n q l [] f drain.ToIdle (held p left) s m) outcome.Kept r.outcome Q
          (opens c.stripes a.Evict (λ r es. FollowsEvict 0 c.stripes (IsEvicting 0 c.stripes es) r es) (state c t n q l [] f drain.ToIdle (held p left) s m) outcome.Kept r.outcome Q b (state c (unlisted_by r.left t) n r.queues l [] f drain.ToIdle (held Evictions left) s m)
          (evict-is 0 record { worker = 0; phase = p; left = left } (state c t n q l [] f drain.ToIdle (held p left) s m) refl
          ∙ (rw (evictions-law (state c t n q l [] f drain.ToIdle (held Evictions left) s m), e, o.1) refl))
          (rw g.outcome_is (λ es w. next es (g.more (IsEvicting 0 c.stripes es) es w)))))
      | inr e ↦
          let small : length q.window ≤ window_size c = grind (arith, nat_tests) in
          let k2 : length q.window ≤ window_size c → Leaves Q c t n q l f = rw e at k in
          rw e (fits c t n q l f p left s m outcome.Kept Q small (k2 small))
    ]

-- ---- the write queue

pub writing-opens : (n : ℕ) (x : Shell) (o goal : Outcome) (Q : Shell → Type 0)
    → Leads (λ es. Opens 0 n a.DrainWrite (λ r es. FollowsDrainWrite 0 n (IsWriting 0 n es) r es) es) x o goal Q → Leads (IsWriting 0 n) x o goal Q
writing-opens n x o goal Q k [] w l = absurd w
writing-opens n x o goal Q k (e ∷ es) w l = k (e ∷ es) w l

-- nothing waits there
pub write-empty : (c : Config) (t : List Item) (n : ℕ) (q : Queues) (l : List (List Item)) (f : FrequencyData) (p : Phase) (left : ℕ) (s : ShellStats) (m : ℕ) (o goal : Outcome) (Q : Shell → Type 0)
    → may_write p ≡ true
    → Leads (IsEvicting 0 c.stripes) (state c t n q l [] f drain.ToIdle (held Writes left) (shell_stats_after reply.Empty s) (m + 1)) o goal Q
    → Leads (IsWriting 0 c.stripes) (state c t n q l [] f drain.ToIdle (held p left) s m) o goal Q
write-empty c t n q l f p left s m o goal Q w g =
    writing-opens c.stripes (state c t n q l [] f drain.ToIdle (held p left) s m) o goal Q
    (opens c.stripes a.DrainWrite (λ r es. FollowsDrainWrite 0 c.stripes (IsWriting 0 c.stripes es) r es) (state c t n q l [] f drain.ToIdle (held p left) s m) o goal Q reply.Empty (state c t n q l [] f drain.ToIdle (held Writes left) s m)
    (rw w refl) g)

-- ---- the read buffers

-- what follows the last entry of the stripe
abbrev pub Next : ℕ → ℕ → Entries → Type 0
Next n s es = MatchBool (s + 1 == n) (IsWriting 0 n es) (IsReading 0 n (s + 1) 0 es)

-- what follows an entry of the stripe, of which j were drained before
abbrev pub Drains : ℕ → ℕ → ℕ → Reply → Entries → Type 0
Drains n s j r es = FollowsDrainRead 0 n (MatchBool (j + 1 == 16) (Next n s es) (IsReading 0 n s (j + 1) es)) (Next n s es) r

pub reading-opens : (n s j : ℕ) (x : Shell) (o goal : Outcome) (Q : Shell → Type 0)
    → Leads (λ es. Opens 0 n (a.DrainRead s) (Drains n s j) es) x o goal Q → Leads (IsReading 0 n s j) x o goal Q
reading-opens n s j x o goal Q k [] w l = absurd w
reading-opens n s j x o goal Q k (e ∷ es) w l = k (e ∷ es) w l

-- an empty stripe is left at once
pub read-empty : (r j : ℕ) (c : Config) (t : List Item) (n : ℕ) (q : Queues) (l : List (List Item)) (ws : List Task) (f : FrequencyData) (s : ShellStats) (m : ℕ) (o goal : Outcome) (Q : Shell → Type 0)
    → r < length l → stripe_at r l ≡ []
    → Leads (Next c.stripes r) (state c t n q l ws f drain.ToIdle (held Reads 128) (shell_stats_after reply.Empty s) (m + 1)) o goal Q
    → Leads (IsReading 0 c.stripes r j) (state c t n q l ws f drain.ToIdle (held Reads 128) s m) o goal Q
read-empty r j c t n q l ws f s m o goal Q b h g =
    let z : nat_lt r (length l) ≡ true = grind (arith, nat_tests) in
    reading-opens c.stripes r j (state c t n q l ws f drain.ToIdle (held Reads 128) s m) o goal Q
    (opens c.stripes (a.DrainRead r) (Drains c.stripes r j) (state c t n q l ws f drain.ToIdle (held Reads 128) s m) o goal Q reply.Empty (state c t n q l ws f drain.ToIdle (held Reads 128) s m)
    (rw (z, h) refl) g)

-- the stripes from r on, which are all empty
pub reads : (i r j : ℕ) (c : Config) (t : List Item) (n : ℕ) (q : Queues) (l : List (List Item)) (ws : List Task) (f : FrequencyData) (s : ShellStats) (m : ℕ) (o goal : Outcome) (Q : Shell → Type 0)
    → r + suc i ≡ c.stripes → length l ≡ c.stripes → ((k : ℕ) → stripe_at k l ≡ [])
    → ((s2 : ShellStats) (m2 : ℕ) → Leads (IsWriting 0 c.stripes) (state c t n q l ws f drain.ToIdle (held Reads 128) s2 m2) o goal Q)
    → Leads (IsReading 0 c.stripes r j) (state c t n q l ws f drain.ToIdle (held Reads 128) s m) o goal Q
reads zero r j c t n q l ws f s m o goal Q e u h g =
    let last : (r + 1 == c.stripes) ≡ true = eq-eqb (r + 1) c.stripes (omega (arith, e)) in
    read-empty r j c t n q l ws f s m o goal Q (omega (arith, e, u)) (h r) (rw last (g (shell_stats_after reply.Empty s) (m + 1)))
reads (suc i) r j c t n q l ws f s m o goal Q e u h g =
    let more : (r + 1 == c.stripes) ≡ false = grind (arith, nat_tests) in
    read-empty r j c t n q l ws f s m o goal Q (omega (arith, e, u)) (h r)
    (rw more (reads i (r + 1) 0 c t n q l ws f (shell_stats_after reply.Empty s) (m + 1) o goal Q (omega (arith, e)) u h g))
