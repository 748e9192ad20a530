-- Each key keeps the shell quiet beside the policy's cache.
use Rattle.std.proofs.Common.{◌≡◌, ℕ, suc, zero, ◌+◌, ◌-◌, ◌≤◌, Bool, Option, Some, None, List, [], ◌∷◌, length, replicate, ap, subst, ◌∙◌, sym, refl, arith, inl, inr, length-append}
use Rattle.std.specs.Prelude.{◌==◌}
use Rattle.std.proofs.lemmas.Bool.{cases_Bool}
use Rattle.std.proofs.lemmas.List.{length-replicate}
use Rattle.engine_base.specs.declared.outcome.Outcome.TheVariants as outcome
use Rattle.engine_base.specs.declared.drain.Drain.TheVariants as drain
use Rattle.engine_base.specs.History.{data_after, IsLegal, Entries}
use Rattle.admission.specs.Frequency.{FrequencyData}
use Rattle.segments.specs.declared.records.Queue.TheVariants.{Window}
use Rattle.segments.specs.Items.{Item, occurrences}
use Rattle.segments.specs.Queues.{Queues, queue_holding, queues_after_push, IsDistinct}
use Rattle.segments.proofs.QueueLists.{Stands, in_window, in_probation, in_protected, nowhere, stands, is_absent}
use Rattle.replacement.specs.Admission.{admits_in}
use Rattle.replacement.specs.Counts.{queue_occurrences}
use Rattle.replacement.specs.Rules.{Config, three_queues}
use Rattle.replacement.specs.Table.{Queue, Outcome, Response, hit_response, hit_in, after_hit, access_in, access}
use Rattle.replacement.proofs.Balance.{hit-renewed}
use Rattle.replacement.proofs.Planned.{access-at}
use Rattle.queue_cache.specs.QueueCache.{QueueState, access_response, queue_access}
use Rattle.queue_cache.specs.QueueStep.{queue_act}
use Rattle.shell_model.specs.Buffers.{stripe_at}
use Rattle.shell_model.specs.declared.stats.ShellStats.{ShellStats}
use Rattle.shell_model.specs.Frequency.{frequency_recorded}
use Rattle.shell_model.specs.Shell.{Shell, window_size, shell_protected_size, node_of, act}
use Rattle.shell_model.specs.Consistency.{IsConsistent, IsPlaced}
use Rattle.shell_model.proofs.Counting.{listed-times, node-listed}
use Rattle.shell_model.proofs.Histories.{after-sound}
use Rattle.shell_model.proofs.Reached.{reached-sound}
use Rattle.shell_model.proofs.Striped.{stripes_checked}
use Rattle.quiet_run.specs.Outcomes.{outcome_from}
use Rattle.quiet_run.specs.QuietWalks.{IsQuietWalk}
use Rattle.quiet_run.specs.Nodes.{nodeless_queues, nodeless_response, IsOnly}
use Rattle.quiet_run.specs.Quiet.{IsQuiet, quiet_setup}
use Rattle.quiet_run.specs.QuietRuns.{KeysAgree}
use Rattle.quiet_run.proofs.Accessing.{accesses-law}
use Rattle.quiet_run.proofs.Residents.{resident, distinct-in, keys-once, not-queued, only-one}
use Rattle.quiet_run.proofs.QuietSteps.{Leads, Leaves, state}
use Rattle.quiet_run.proofs.QuietRounds.{evicted}
use Rattle.quiet_run.proofs.QuietKeys.{hits, misses}

abbrev outcome_at : QueueState → ℕ → Outcome
outcome_at d k = (queue_access k d).0

abbrev accessed_at : QueueState → ℕ → QueueState
accessed_at d k = (queue_access k d).1

-- the walk of the key comes to the policy's outcome, and leaves the shell quiet beside what the policy leaves
abbrev Serves : Shell → QueueState → ℕ → Type 0
Serves x d k = Leads (IsQuietWalk x.config.stripes k) x outcome.Kept (outcome_at d k) (λ z. IsConsistent z → IsQuiet z (accessed_at d k))

abbrev nones : ℕ → List (List Item)
nones n = replicate n []

all-empty : (n k : ℕ) → stripe_at k (nones n) ≡ []
all-empty zero k = refl
all-empty (suc n) zero = refl
all-empty (suc n) (suc k) = all-empty n k

-- what an access to a queued item comes to, at the shell's sizes
hit-access : (c : Config) (admits : ℕ → ℕ → Bool) (i : Item) (q : Queues) → IsDistinct q → queue_occurrences i q ≡ 1
    → access (three_queues c) admits i q ≡ hit_response (after_hit (shell_protected_size c) i q)
unfolding access
hit-access c admits i q apart one = by (queue_holding i q) (stands i q apart)
  where
    by : (p : Option Queue) → Stands i q p → access_in (three_queues c) admits i p q ≡ hit_response (hit_in (shell_protected_size c) i p q)
    by p (nowhere e f g) = absurd (omega (arith, e, f, g, one))
    by p (in_window e f g) = refl
    by p (in_probation e f g) = refl
    by p (in_protected e f g) = refl

-- a shell, by its parts, that is quiet beside a cache of the policy
module _ (j : ℕ) (c : Config) (t : List Item) (n : ℕ) (q : Queues) (f : FrequencyData) (s : ShellStats) (m : ℕ) (d : QueueState) (k : ℕ)
    (p : IsPlaced t n q []) (striped : c.stripes ≡ suc j) (few : length q.window ≤ window_size c)
    (same_setup : d.setup ≡ quiet_setup c) (same_queues : d.queues ≡ nodeless_queues q) (same_frequency : d.frequency ≡ Some f) where
  abbrev before : Shell
  before = state c t n q (nones (suc j)) [] f drain.Idle None s m

  abbrev Quiet : Shell → Type 0
  Quiet z = IsConsistent z → IsQuiet z (accessed_at d k)

  abbrev item : ℕ → Item
  item node = record { key = k; node = node }

  -- what the access to the key's item comes to is, nodes aside, what the policy's access comes to
  served : (node : ℕ) (a : Response) → IsOnly (item node) q → access (three_queues c) (admits_in (Some (frequency_recorded f k))) (item node) q ≡ a
      → (((u : List Item) (l : ℕ) → length a.queues.window ≤ window_size c → Leaves Quiet c u l a.queues (nones (suc j)) (frequency_recorded f k)) → Leads (IsQuietWalk c.stripes k) before outcome.Kept a.outcome Quiet)
      → Serves before d k
  unfolding frequency_recorded
  served node a only e walk =
      let agree = accesses-law (three_queues c) (admits_in (Some (frequency_recorded f k))) (item node) q (distinct-in t n q p) (keys-once t n q p) only in
      let same : access_response k d ≡ nodeless_response a = rw (same_setup, same_queues, same_frequency) (agree ∙ ap nodeless_response e) in
      subst (λ (o : Outcome). Leads (IsQuietWalk c.stripes k) before outcome.Kept o Quiet) (sym (ap (λ (y : Response). y.outcome) same))
      (walk (λ u l fits s2 m2 v. record {
        setup = same_setup;
        queues = ap (λ (y : Response). y.queues) same;
        frequency = rw same_frequency refl;
        table = resident u l a.queues v.placed;
        once = keys-once u l a.queues v.placed;
        window = fits;
        stripes = ap nones (sym striped);
        writes = refl;
        drain = refl;
        holder = refl;
      }))

  hit : (node : ℕ) → node_of k t ≡ Some node → Serves before d k
  hit node e =
      let i : Item = item node in
      let apart : IsDistinct q = distinct-in t n q p in
      let there : 1 ≤ occurrences i t = listed-times i t (node-listed i t e) in
      let one : queue_occurrences i q ≡ 1 = omega (arith, there, apart i, resident t n q p i) in
      let same = (hit-renewed (shell_protected_size c) i (queue_holding i q) q apart (stands i q apart)).window in
      let fits : length (after_hit (shell_protected_size c) i q).window ≤ window_size c = omega (arith, same, few) in
      served node (hit_response (after_hit (shell_protected_size c) i q)) (keys-once t n q p i (omega (arith, one))) (hit-access c _ i q apart one)
      (λ leaves. hits c t n q (nones j) f s m k node Quiet e (p.below i (omega (arith, there))) (omega (arith, striped, length-replicate {A = List Item} j [])) (all-empty (suc j)) fits (leaves t n fits))

  miss : node_of k t ≡ None → Serves before d k
  miss e =
      let i : Item = item n in
      let none : queue_occurrences i q ≡ 0 = not-queued t n q p i e in
      let absent : queue_holding i q ≡ None = is_absent i q record { window = omega (arith, none); probation = omega (arith, none); protected = omega (arith, none) } in
      let longer : length (queues_after_push Window i q).window ≤ window_size c + 1 = omega (arith, few, length-append q.window (i ∷ [])) in
      served n (evicted c (queues_after_push Window i q) (frequency_recorded f k)) (only-one t n q p i e) (access-at (three_queues c) _ i q None absent)
      (λ leaves. misses j c t n q (nones (suc j)) f s m k Quiet e (sym striped) (omega (arith, striped, length-replicate {A = List Item} (suc j) [])) (all-empty (suc j)) longer (leaves _ (n + 1)))

  accessed : (o : Option ℕ) → node_of k t ≡ o → Serves before d k
  accessed None e = miss e
  accessed (Some node) e = hit node e

key-serves : (x : Shell) (d : QueueState) (k : ℕ) → IsConsistent x → IsQuiet x d → 1 ≤ x.config.stripes → Serves x d k
key-serves x d k v q b =
    let j : ℕ = x.config.stripes - 1 in
    let striped : x.config.stripes ≡ suc j = omega (arith, b) in
    let p : IsPlaced x.table x.next x.queues [] = rw q.writes at v.placed in
    let parts : x ≡ state x.config x.table x.next x.queues (nones (suc j)) [] x.frequency drain.Idle None x.stats x.applied =
    rw (← (q.stripes ∙ ap nones striped), ← q.writes, ← q.drain, ← q.holder) refl in
    subst (λ (y : Shell). Serves y d k) (sym parts)
    (accessed j x.config x.table x.next x.queues x.frequency x.stats x.applied d k p striped q.window q.setup q.queues q.frequency (node_of k x.table) refl)

pub key-served : (x : Shell) (d : QueueState) (k : ℕ) (es : Entries) → IsConsistent x → IsQuiet x d → 1 ≤ x.config.stripes
    → IsQuietWalk x.config.stripes k es → IsLegal act x es
    → (outcome_from outcome.Kept es ≡ outcome_at d k) × IsConsistent (data_after act x es) × IsQuiet (data_after act x es) (accessed_at d k)
key-served x d k es v q b w l =
    let m = key-serves x d k v q b es w l in
    let u : IsConsistent (data_after act x es) = after-sound x es v l in
    (m.0, u, m.1 u)

-- what the policy's step comes to
act-is : (d e : QueueState) (k : ℕ) (o : Outcome) → queue_act d k ≡ Some (o, e) → (outcome_at d k ≡ o) × (accessed_at d k ≡ e)
act-is d e k o h =
    elim (cases_Bool (d.stats.accesses == 4294967296)) [
      | inl t ↦ absurd (let no : None ≡ Some (o, e) = rw t at h in cc no)
      | inr t ↦
          let f : Some (outcome_at d k, accessed_at d k) ≡ Some (o, e) = rw t at h in
          let pair : ◌≡◌ {A = Outcome × QueueState} (outcome_at d k, accessed_at d k) (o, e) = cc f in
          (ap (λ (p : Outcome × QueueState). p.0) pair, ap (λ (p : Outcome × QueueState). p.1) pair)
    ]

pub keys-law : KeysAgree
keys-law x d e k o es r q w l h =
    let m = key-served x d k es (reached-sound x r) q (stripes_checked x.config r.checked).0 w l in
    let i = act-is d e k o h in
    (m.0 ∙ i.0, subst (IsQuiet (data_after act x es)) i.1 m.2)
