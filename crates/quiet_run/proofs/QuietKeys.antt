-- The walk of one key at a quiet cache, read from its first entry: a hit, and a miss.
use Rattle.std.proofs.Common.{◌≡◌, ℕ, suc, ◌+◌, ◌<◌, ◌≤◌, true, nat_lt, Some, None, List, [], ◌∷◌, length, refl, sym, subst, arith}
use Rattle.std.proofs.Math.Nat.{zero-mod}
use Rattle.std.proofs.lemmas.Bool.Decides.{nat_tests}
use Rattle.engine_base.specs.declared.config.Config.{Config}
use Rattle.engine_base.specs.declared.outcome.Outcome.TheVariants as outcome
use Rattle.engine_base.specs.declared.step.Act.TheVariants as a
use Rattle.engine_base.specs.declared.step.Answer.TheVariants as answer
use Rattle.engine_base.specs.declared.step.Reply.TheVariants as reply
use Rattle.engine_base.specs.declared.drain.Drain.TheVariants as drain
use Rattle.engine_base.specs.declared.drain.Phase.TheVariants.{Reads, Writes}
use Rattle.admission.specs.Frequency.{FrequencyData}
use Rattle.segments.specs.declared.records.Queue.TheVariants.{Window}
use Rattle.segments.specs.Queues.{Queues, queues_after_push}
use Rattle.shell_model.specs.declared.task.Task.TheVariants.{Add}
use Rattle.shell_model.specs.Buffers.{Item, stripe_at}
use Rattle.shell_model.specs.declared.stats.ShellStats.{ShellStats}
use Rattle.shell_model.specs.Frequency.{frequency_recorded}
use Rattle.shell_model.specs.ShellStats.{shell_stats_after}
use Rattle.replacement.specs.Table.{Outcome, after_hit}
use Rattle.shell_model.specs.Shell.{Shell, window_size, shell_protected_size, node_of, table_with, unlisted_by}
use Rattle.shell_model.specs.Walks.{Opens, FollowsLook, FollowsOffer, FollowsPut, FollowsReport, IsRound, FollowsBegin, IsWriting, FollowsDrainWrite}
use Rattle.quiet_run.specs.QuietWalks.{with_rounds, IsQuietWalk}
use Rattle.quiet_run.proofs.QuietSteps.{Leads, opens, opens-with, state, held, Leaves}
use Rattle.quiet_run.proofs.Rounds.{round}
use Rattle.quiet_run.proofs.QuietRounds.{fits, evicted, evicts, writing-opens, write-empty, Drains, reading-opens, reads}

-- an item at the first stripe, and nothing else, is drained
hit-round : (c : Config) (t : List Item) (n : ℕ) (q : Queues) (rest : List (List Item)) (f : FrequencyData) (s : ShellStats) (m k nd : ℕ) (o : Outcome) (Q : Shell → Type 0)
    → length rest + 1 ≡ c.stripes → ((i : ℕ) → stripe_at i ([] ∷ rest) ≡ [])
    → length (after_hit (shell_protected_size c) record { key = k; node = nd } q).window ≤ window_size c
    → Leaves Q c t n (after_hit (shell_protected_size c) record { key = k; node = nd } q) ([] ∷ rest) (frequency_recorded f k)
    → Leads (IsRound 0 c.stripes) (state c t n q ((record { key = k; node = nd } ∷ []) ∷ rest) [] f drain.Idle None s m) o o Q
hit-round c t n q rest f s m k nd o Q r u v g =
    let i : Item = record { key = k; node = nd } in
    let there : nat_lt 0 (length ((i ∷ []) ∷ rest)) ≡ true = grind (arith, nat_tests) in
    let s1 : ShellStats = shell_stats_after reply.Began s in
    let s2 : ShellStats = shell_stats_after (reply.Drained i) s1 in
    let q2 : Queues = after_hit (shell_protected_size c) i q in
    let f2 : FrequencyData = frequency_recorded f k in
    opens c.stripes a.Begin (FollowsBegin 0 c.stripes) (state c t n q ((i ∷ []) ∷ rest) [] f drain.Idle None s m) o o Q reply.Began (state c t n q ((i ∷ []) ∷ rest) [] f drain.ToIdle (held Reads 128) s m)
    refl
    (reading-opens c.stripes 0 0 (state c t n q ((i ∷ []) ∷ rest) [] f drain.ToIdle (held Reads 128) s1 (m + 1)) o o Q
    (opens c.stripes (a.DrainRead 0) (Drains c.stripes 0 0) (state c t n q ((i ∷ []) ∷ rest) [] f drain.ToIdle (held Reads 128) s1 (m + 1)) o o Q (reply.Drained i) (state c t n q2 ([] ∷ rest) [] f2 drain.ToIdle (held Reads 128) s1 (m + 1))
    (rw there refl)
    (reads (length rest) 0 1 c t n q2 ([] ∷ rest) [] f2 s2 (m + 1 + 1) o o Q (omega (arith, r)) (omega (arith, r)) u
    (λ s3 m3. write-empty c t n q2 ([] ∷ rest) f2 Reads 128 s3 m3 o o Q refl
    (fits c t n q2 ([] ∷ rest) f2 Writes 128 (shell_stats_after reply.Empty s3) (m3 + 1) o Q v g)))))

pub hits : (c : Config) (t : List Item) (n : ℕ) (q : Queues) (rest : List (List Item)) (f : FrequencyData) (s : ShellStats) (m k nd : ℕ) (Q : Shell → Type 0)
    → node_of k t ≡ Some nd → nd < n → length rest + 1 ≡ c.stripes → ((i : ℕ) → stripe_at i ([] ∷ rest) ≡ [])
    → length (after_hit (shell_protected_size c) record { key = k; node = nd } q).window ≤ window_size c
    → Leaves Q c t n (after_hit (shell_protected_size c) record { key = k; node = nd } q) ([] ∷ rest) (frequency_recorded f k)
    → Leads (IsQuietWalk c.stripes k) (state c t n q ([] ∷ rest) [] f drain.Idle None s m) outcome.Kept outcome.Hit Q
hits c t n q rest f s m k nd Q e b r u v g =
    let i : Item = record { key = k; node = nd } in
    let below : nat_lt nd n ≡ true = grind (arith, nat_tests) in
    let there : nat_lt 0 (length ([] ∷ rest)) ≡ true = grind (arith, nat_tests) in
    let s1 : ShellStats = shell_stats_after (reply.Hit nd) s in
    let s2 : ShellStats = shell_stats_after reply.Kept s1 in
    let s3 : ShellStats = shell_stats_after reply.Go s2 in
    opens-with c.stripes (a.Look k) (FollowsLook 0 c.stripes k) (state c t n q ([] ∷ rest) [] f drain.Idle None s m) outcome.Kept outcome.Hit Q (reply.Hit nd) (state c t n q ([] ∷ rest) [] f drain.Idle None s m)
    (rw e refl)
    (subst (λ (j : ℕ). Leads (λ es. Opens 0 c.stripes (a.Offer j i) (FollowsOffer 0 c.stripes) (with_rounds es)) (state c t n q ([] ∷ rest) [] f drain.Idle None s1 (m + 1)) outcome.Hit outcome.Hit Q) (sym (zero-mod c.stripes))
    (opens-with c.stripes (a.Offer 0 i) (FollowsOffer 0 c.stripes) (state c t n q ([] ∷ rest) [] f drain.Idle None s1 (m + 1)) outcome.Hit outcome.Hit Q reply.Kept (state c t n q ((i ∷ []) ∷ rest) [] f drain.Idle None s1 (m + 1))
    (rw (there, below) refl)
    (opens-with c.stripes (a.AfterRead answer.Kept) (FollowsReport 0 c.stripes) (state c t n q ((i ∷ []) ∷ rest) [] f drain.Idle None s2 (m + 1 + 1)) outcome.Hit outcome.Hit Q reply.Go (state c t n q ((i ∷ []) ∷ rest) [] f drain.Idle None s2 (m + 1 + 1))
    refl
    (λ es w. hit-round c t n q rest f s3 (m + 1 + 1 + 1) k nd outcome.Hit Q r u v g es (round 0 c.stripes es w)))))

-- a new item is applied, and what leaves for it is evicted
miss-round : (j : ℕ) (c : Config) (t : List Item) (n : ℕ) (q : Queues) (l : List (List Item)) (i : Item) (f : FrequencyData) (s : ShellStats) (m : ℕ) (Q : Shell → Type 0)
    → suc j ≡ c.stripes → length l ≡ c.stripes → ((k : ℕ) → stripe_at k l ≡ [])
    → length (queues_after_push Window i q).window ≤ window_size c + 1
    → (length (evicted c (queues_after_push Window i q) (frequency_recorded f i.key)).queues.window ≤ window_size c
    → Leaves Q c (unlisted_by (evicted c (queues_after_push Window i q) (frequency_recorded f i.key)).left t) n (evicted c (queues_after_push Window i q) (frequency_recorded f i.key)).queues l (frequency_recorded f i.key))
    → Leads (IsRound 0 c.stripes) (state c t n q l (Add i ∷ []) f drain.Required None s m) outcome.Kept (evicted c (queues_after_push Window i q) (frequency_recorded f i.key)).outcome Q
miss-round j c t n q l i f s m Q z r u v g =
    let goal : Outcome = (evicted c (queues_after_push Window i q) (frequency_recorded f i.key)).outcome in
    let s1 : ShellStats = shell_stats_after reply.Began s in
    let q2 : Queues = queues_after_push Window i q in
    let f2 : FrequencyData = frequency_recorded f i.key in
    opens c.stripes a.Begin (FollowsBegin 0 c.stripes) (state c t n q l (Add i ∷ []) f drain.Required None s m) outcome.Kept goal Q reply.Began (state c t n q l (Add i ∷ []) f drain.ToIdle (held Reads 128) s m)
    refl
    (reads j 0 0 c t n q l (Add i ∷ []) f s1 (m + 1) outcome.Kept goal Q (omega (arith, z)) r u
    (λ s2 m2. writing-opens c.stripes (state c t n q l (Add i ∷ []) f drain.ToIdle (held Reads 128) s2 m2) outcome.Kept goal Q
    (opens c.stripes a.DrainWrite (λ r es. FollowsDrainWrite 0 c.stripes (IsWriting 0 c.stripes es) r es) (state c t n q l (Add i ∷ []) f drain.ToIdle (held Reads 128) s2 m2) outcome.Kept goal Q (reply.Applied i) (state c t n q2 l [] f2 drain.ToIdle (held Writes 127) s2 m2)
    refl
    (write-empty c t n q2 l f2 Writes 127 (shell_stats_after (reply.Applied i) s2) (m2 + 1) outcome.Kept goal Q refl
    (evicts c t n q2 l f2 Writes 127 (shell_stats_after reply.Empty (shell_stats_after (reply.Applied i) s2)) (m2 + 1 + 1) Q v g)))))

pub misses : (j : ℕ) (c : Config) (t : List Item) (n : ℕ) (q : Queues) (l : List (List Item)) (f : FrequencyData) (s : ShellStats) (m k : ℕ) (Q : Shell → Type 0)
    → node_of k t ≡ None → suc j ≡ c.stripes → length l ≡ c.stripes → ((i : ℕ) → stripe_at i l ≡ [])
    → length (queues_after_push Window record { key = k; node = n } q).window ≤ window_size c + 1
    → (length (evicted c (queues_after_push Window record { key = k; node = n } q) (frequency_recorded f k)).queues.window ≤ window_size c
    → Leaves Q c (unlisted_by (evicted c (queues_after_push Window record { key = k; node = n } q) (frequency_recorded f k)).left (table_with record { key = k; node = n } t)) (n + 1)
    (evicted c (queues_after_push Window record { key = k; node = n } q) (frequency_recorded f k)).queues l (frequency_recorded f k))
    → Leads (IsQuietWalk c.stripes k) (state c t n q l [] f drain.Idle None s m) outcome.Kept (evicted c (queues_after_push Window record { key = k; node = n } q) (frequency_recorded f k)).outcome Q
misses j c t n q l f s m k Q e z r u v g =
    let i : Item = record { key = k; node = n } in
    let goal : Outcome = (evicted c (queues_after_push Window i q) (frequency_recorded f k)).outcome in
    let t2 : List Item = table_with record { key = k; node = n } t in
    let s1 : ShellStats = shell_stats_after reply.Miss s in
    let s2 : ShellStats = shell_stats_after (reply.Added n) s1 in
    let s3 : ShellStats = shell_stats_after reply.Drain s2 in
    opens-with c.stripes (a.Look k) (FollowsLook 0 c.stripes k) (state c t n q l [] f drain.Idle None s m) outcome.Kept goal Q reply.Miss (state c t n q l [] f drain.Idle None s m)
    (rw e refl)
    (opens-with c.stripes (a.Put k) (FollowsPut 0 c.stripes) (state c t n q l [] f drain.Idle None s1 (m + 1)) outcome.Kept goal Q (reply.Added n) (state c t2 (n + 1) q l (Add i ∷ []) f drain.Idle None s1 (m + 1))
    (rw e refl)
    (opens-with c.stripes a.AfterWrite (FollowsReport 0 c.stripes) (state c t2 (n + 1) q l (Add i ∷ []) f drain.Idle None s2 (m + 1 + 1)) outcome.Kept goal Q reply.Drain (state c t2 (n + 1) q l (Add i ∷ []) f drain.Required None s2 (m + 1 + 1))
    refl
    (λ es w. miss-round j c t2 (n + 1) q l i f s3 (m + 1 + 1 + 1) Q z r u v g es (round 0 c.stripes es w))))
