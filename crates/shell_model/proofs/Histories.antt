-- What the replies so far say of the state.
use Rattle.std.proofs.Common.{◌≡◌, ℕ, suc, zero, ◌+◌, ◌<◌, ◌≤◌, ◌↔◌, true, false, eqb, nat_lt, List, [], ◌∷◌, ◌++◌, length, set, drop, ap, ◌∙◌, sym, refl, arith, inl, inr, append-nil, append_assoc}
use Rattle.std.proofs.lemmas.Bool.{cases_Bool, eqb-true, eq-eqb}
use Rattle.std.proofs.lemmas.List.{drop-append-le, drop-drop, get_or-set_same, get_or-set_other}
use Rattle.engine_base.specs.declared.step.Act.TheVariants as a
use Rattle.engine_base.specs.declared.step.Reply.TheVariants as reply
use Rattle.engine_base.specs.History.{next_data, data_after, IsLegal}
use Rattle.segments.specs.Items.{Item, is_same_item, occurrences, items_without}
use Rattle.segments.proofs.QueueLists.{same-true, times-append}
use Rattle.admission.specs.Shape.{Shape, IsShape}
use Rattle.admission.specs.Frequency.{FrequencyData, frequency_of}
use Rattle.admission.proofs.Recording.{recorded_freq}
use Rattle.shell_model.specs.declared.stats.ShellStats.{ShellStats}
use Rattle.shell_model.specs.declared.stats.Counted.{Counted}
use Rattle.shell_model.specs.declared.stats.Counted.TheVariants as counted
use Rattle.shell_model.specs.Frequency.{frequency_recorded}
use Rattle.shell_model.specs.ShellStats.{NONE, Reply, counted_of, count_of, shell_stats_with, raises, shell_stats_after}
use Rattle.engine_base.specs.Stats.{one_if}
use Rattle.shell_model.specs.Buffers.{stripe_at}
use Rattle.shell_model.specs.Changes.{shell_after_touch}
use Rattle.shell_model.specs.Shell.{Act, Shell, act}
use Rattle.replacement.specs.Counts.{queue_occurrences}
use Rattle.shell_model.specs.Consistency.{IsConsistent}
use Rattle.shell_model.specs.Laws.{Config, MadeStep, empty_shell, collect, tally, offered, drained, asked, done, added, evicted_items, removed_items, keyed}
use Rattle.replacement.proofs.Counting.{once, unless-same}
use Rattle.shell_model.proofs.Counting.{times-placed, listed-times, node-listed, unlisted-is}
use Rattle.shell_model.proofs.Undoing.{first-queued, shifted-queued}
use Rattle.shell_model.proofs.Preserving.{sound-next, queued-below}
use Rattle.shell_model.specs.ShellSteps as k
use Rattle.shell_model.specs.ShellSteps.{Makes, Steps}
use Rattle.shell_model.proofs.Making.{stepped}

pub after-sound : (x : Shell) (es : List MadeStep) → IsConsistent x → IsLegal act x es → IsConsistent (data_after act x es)
after-sound x [] v l = v
after-sound x (e ∷ es) v l = after-sound (next_data (act x e.step) x) es (sound-next x e (next_data (act x e.step) x) v l.0) l.1

-- first in, first out

pub record IsFifo {A : Type 0} (view : Shell → List A) (ins : Act → Reply → List A) (outs : Act → Reply → ℕ) (x : Shell) (b : Act) (r : Reply) (y : Shell) : Type 0 where
  pub within : outs b r ≤ length (view x ++ ins b r)
  pub gives : view y ≡ drop (outs b r) (view x ++ ins b r)

drop-more : {A : Type 0} → (n p : ℕ) (l k : List A) → p ≤ length l → drop n (drop p l ++ k) ≡ drop (p + n) (l ++ k)
drop-more n p l k h = rw (← drop-append-le p l k h) (drop-drop n p (l ++ k))

fifo : {A : Type 0} (view : Shell → List A) (ins : Act → Reply → List A) (outs : Act → Reply → ℕ)
    → ((x : Shell) (e : MadeStep) (z : Shell) → Steps x e z → IsFifo view ins outs x e.step.act e.reply z)
    → (x : Shell) (es : List MadeStep) → IsLegal act x es → view (data_after act x es) ≡ drop (tally outs es) (view x ++ collect ins es)
fifo view ins outs step x [] l = rw append-nil refl
fifo view ins outs step x (e ∷ es) l =
    let z : Shell = next_data (act x e.step) x in
    let f : IsFifo view ins outs x e.step.act e.reply (next_data (act x e.step) x) = step x e (next_data (act x e.step) x) (stepped x e (next_data (act x e.step) x) l.0) in
    let i : view (data_after act (next_data (act x e.step) x) es) ≡ drop (tally outs es) (view (next_data (act x e.step) x) ++ collect ins es) = fifo view ins outs step (next_data (act x e.step) x) es l.1 in
    i ∙ ap (λ v. drop (tally outs es) (v ++ collect ins es)) f.gives ∙ drop-more (tally outs es) (outs e.step.act e.reply) (view x ++ ins e.step.act e.reply) (collect ins es) f.within ∙ ap (drop (outs e.step.act e.reply + tally outs es)) (append_assoc (view x) (ins e.step.act e.reply) (collect ins es))

same-fifo : {A : Type 0} (view : Shell → List A) (ins : Act → Reply → List A) (outs : Act → Reply → ℕ) (x : Shell) (b : Act) (r : Reply) (y : Shell) → ins b r ≡ [] → outs b r ≡ 0 → view y ≡ view x → IsFifo view ins outs x b r y
same-fifo view ins outs x b r y i o v = record { within = rw o (omega arith); gives = rw (i, o, v, append-nil) refl }

-- the write queue
writes-step : (x : Shell) (w : ℕ) (b : Act) (r : Reply) (y : Shell) → Makes w x b r y → IsFifo (λ z. z.writes) asked done x b r y
writes-step x w b r y (k.present j n e h) = record { within = omega arith; gives = refl }
writes-step x w b r y (k.added j e h) = record { within = omega arith; gives = refl }
writes-step x w b r y (k.removed j n e h) = record { within = omega arith; gives = refl }
writes-step x w b r y (k.applied_add h i rest f e l) = rw e record { within = omega arith; gives = sym (append-nil rest) }
writes-step x w b r y (k.applied_update h i rest f e l) = rw e record { within = omega arith; gives = sym (append-nil rest) }
writes-step x w b r y (k.applied_remove h i rest f e l) = rw e record { within = omega arith; gives = sym (append-nil rest) }
writes-step x w b r y made = same-fifo (λ z. z.writes) asked done x b r y refl refl refl

writes-next : (x : Shell) (e : MadeStep) (z : Shell) → Steps x e z → IsFifo (λ z. z.writes) asked done x e.step.act e.reply z
writes-next x e z s = let f = writes-step x e.step.worker e.step.act e.reply s.left s.made in record { within = f.within; gives = rw s.is f.gives }

pub writes-law : (x : Shell) (es : List MadeStep) → IsLegal act x es → (data_after act x es).writes ≡ drop (tally done es) (x.writes ++ collect asked es)
writes-law x es l = fifo (λ z. z.writes) asked done writes-next x es l

-- stripes

apart : (a b : ℕ) → eqb a b ≡ false → (a ≡ b → ⊥)
apart a b e g = let no : true ≡ false = rw (eq-eqb a b g) at e in cc (no)

stripes-step : (j : ℕ) (x : Shell) (w : ℕ) (b : Act) (r : Reply) (y : Shell) → Makes w x b r y → IsFifo (λ z. stripe_at j z.stripes) (offered j) (drained j) x b r y
stripes-step j x w b r y (k.kept s i h few) =
    elim (cases_Bool (eqb j s)) as (λ _. IsFifo (λ z. stripe_at j z.stripes) (offered j) (drained j) x (a.Offer s i) reply.Kept record x { stripes = set x.stripes s (stripe_at s x.stripes ++ i ∷ []) }) [
      | inl e ↦ let t : j ≡ s = eqb-true j s e in record { within = omega arith; gives = rw (e, t) (get_or-set_same x.stripes s (stripe_at s x.stripes ++ i ∷ []) [] h.stripe) }
      | inr e ↦ record { within = omega arith; gives = rw (e, append-nil) (get_or-set_other x.stripes s j (stripe_at s x.stripes ++ i ∷ []) [] (apart j s e)) }
    ]
stripes-step j x w b r y (k.drained s i rest h e) =
    let oldest : drop 1 (stripe_at s x.stripes) ≡ rest = rw e refl in
    rw oldest (elim (cases_Bool (eqb j s)) as (λ _. IsFifo (λ z. stripe_at j z.stripes) (offered j) (drained j) x (a.DrainRead s) (reply.Drained i) (shell_after_touch i record x { stripes = set x.stripes s rest })) [
      | inl f ↦
          let t : j ≡ s = eqb-true j s f in
          let l : stripe_at j x.stripes ≡ i ∷ rest = rw t e in
          record {
            within = rw (f, l) (omega arith);
            gives = rw (f, l) (rw t (get_or-set_same x.stripes s rest [] h.stripe) ∙ sym (append-nil rest));
          }
      | inr f ↦ record { within = rw f (omega arith); gives = rw (f, append-nil) (get_or-set_other x.stripes s j rest [] (apart j s f)) }
    ])
stripes-step j x w b r y made = same-fifo (λ z. stripe_at j z.stripes) (offered j) (drained j) x b r y refl refl refl

stripes-next : (j : ℕ) (x : Shell) (e : MadeStep) (z : Shell) → Steps x e z → IsFifo (λ z. stripe_at j z.stripes) (offered j) (drained j) x e.step.act e.reply z
stripes-next j x e z s = let f = stripes-step j x e.step.worker e.step.act e.reply s.left s.made in record { within = f.within; gives = rw s.is f.gives }

pub stripes-law : (j : ℕ) (x : Shell) (es : List MadeStep) → IsLegal act x es → stripe_at j (data_after act x es).stripes ≡ drop (tally (drained j) es) (stripe_at j x.stripes ++ collect (offered j) es)
stripes-law j x es l = fifo (λ z. stripe_at j z.stripes) (offered j) (drained j) (stripes-next j) x es l

-- statistics

raised : (k c : Counted) (s : ShellStats)
    → count_of k (shell_stats_with (λ n. n + 1) c s) ≡ count_of k s + one_if (nat_lt 0 (count_of k (shell_stats_with (λ n. n + 1) c NONE)))
raised counted.Nothing c s = refl
raised k counted.Nothing s = omega arith
raised _ _ s = omega arith

pub count-raised : (k : Counted) (r : Reply) (s : ShellStats) → count_of k (shell_stats_after r s) ≡ count_of k s + one_if (raises k r)
count-raised k r s = raised k (counted_of r) s

pub none-counted : (c : Config) (sh : Shape) (k : Counted) → count_of k (empty_shell c sh).stats ≡ 0
none-counted c sh counted.Nothing = refl
none-counted c sh _ = refl

pub stats-step : (x : Shell) (w : ℕ) (b : Act) (r : Reply) (y : Shell) → Makes w x b r y → y.stats ≡ x.stats
stats-step x w b r y (k.busy h e) = refl
stats-step x w b r y made = refl

pub stats-law : (c : Counted) (x : Shell) (es : List MadeStep) → IsLegal act x es → count_of c (data_after act x es).stats ≡ count_of c x.stats + tally (λ b r. one_if (raises c r)) es
stats-law c x [] l = omega arith
stats-law c x (e ∷ es) l =
    let z : Shell = next_data (act x e.step) x in
    let s : Steps x e (next_data (act x e.step) x) = stepped x e (next_data (act x e.step) x) l.0 in
    let i : count_of c (data_after act (next_data (act x e.step) x) es).stats ≡ count_of c (next_data (act x e.step) x).stats + tally (λ b r. one_if (raises c r)) es = stats-law c (next_data (act x e.step) x) es l.1 in
    let g : (next_data (act x e.step) x).stats ≡ shell_stats_after e.reply s.left.stats = ap (λ (y : Shell). y.stats) s.is in
    let h : s.left.stats ≡ x.stats = stats-step x e.step.worker e.step.act e.reply s.left s.made in
    let n : count_of c (next_data (act x e.step) x).stats ≡ count_of c x.stats + one_if (raises c e.reply) = ap (count_of c) (g ∙ ap (shell_stats_after e.reply) h) ∙ count-raised c e.reply x.stats in
    omega (arith, i, n)

-- the recorded keys

-- what an act's keys make of the frequency of a list of keys
recorded_all : FrequencyData → List ℕ → FrequencyData
recorded_all f [] = f
recorded_all f (k ∷ ks) = recorded_all (frequency_recorded f k) ks

frequency-step : (x : Shell) (w : ℕ) (b : Act) (r : Reply) (y : Shell) → Makes w x b r y → y.frequency ≡ recorded_all x.frequency (keyed b r)
unfolding recorded_all
frequency-step x w b r y (k.busy h e) = refl
frequency-step x w b r y made = refl

recorded-keys : (s : Shape) → IsShape s → (past keys : List ℕ) → recorded_all (frequency_of s past) keys ≡ frequency_of s (past ++ keys)
unfolding recorded_all frequency_recorded
recorded-keys s h past [] = rw append-nil refl
recorded-keys s h past (k ∷ ks) =
    ap (λ f. recorded_all f ks) (recorded_freq s h.some (omega (arith, h.width.1)) (omega (arith, h.size.1)) past k) ∙ recorded-keys s h (past ++ k ∷ []) ks ∙ ap (frequency_of s) (append_assoc past (k ∷ []) ks)

pub frequency-law : (s : Shape) → IsShape s → (past : List ℕ) (x : Shell) (es : List MadeStep) → x.frequency ≡ frequency_of s past → IsLegal act x es → (data_after act x es).frequency ≡ frequency_of s (past ++ collect keyed es)
frequency-law sh k past x [] f l = rw append-nil f
frequency-law sh k past x (e ∷ es) f l =
    let s : Steps x e (next_data (act x e.step) x) = stepped x e (next_data (act x e.step) x) l.0 in
    let g : (next_data (act x e.step) x).frequency ≡ s.left.frequency = ap (λ (y : Shell). y.frequency) s.is in
    let h : s.left.frequency ≡ recorded_all x.frequency (keyed e.step.act e.reply) = frequency-step x e.step.worker e.step.act e.reply s.left s.made in
    let n : (next_data (act x e.step) x).frequency ≡ frequency_of sh (past ++ keyed e.step.act e.reply) = g ∙ h ∙ ap (λ v. recorded_all v (keyed e.step.act e.reply)) f ∙ recorded-keys sh k past (keyed e.step.act e.reply) in
    frequency-law sh k (past ++ keyed e.step.act e.reply) (next_data (act x e.step) x) es n l.1 ∙ ap (frequency_of sh) (append_assoc past (keyed e.step.act e.reply) (collect keyed es))

-- nodes are given once

given-step : (i : Item) (x : Shell) (w : ℕ) (b : Act) (r : Reply) (y : Shell) → Makes w x b r y → (x.next ≤ y.next) × (1 ≤ occurrences i (added b r) → x.next ≤ i.node)
given-step i x w b r y (k.added j e h) = (omega arith, λ h. node j x.next (times-one-of i record { key = j; node = x.next } h))
  where
    times-one-of : (i u : Item) → 1 ≤ occurrences i (u ∷ []) → i ≡ u
    times-one-of i u h =
        elim (cases_Bool (is_same_item i u)) [
          | inl e ↦ same-true i u e
          | inr e ↦ absurd (let no : 1 ≤ 0 + 0 = rw e at h in omega arith)
        ]

    node : (j n : ℕ) → i ≡ record { key = j; node = n } → n ≤ i.node
    node j n e = let f : i.node ≡ n = ap (λ (z : Item). z.node) e in omega arith
given-step i x w b r y made = (omega arith, λ h. absurd (omega arith))

-- an addition to come has a node that is not below the next one
pub given-law : (i : Item) (x : Shell) (es : List MadeStep) → IsLegal act x es → 1 ≤ occurrences i (collect added es) → x.next ≤ i.node
given-law i x [] l h = absurd (omega arith)
given-law i x (e ∷ es) l h =
    let s : Steps x e (next_data (act x e.step) x) = stepped x e (next_data (act x e.step) x) l.0 in
    let g : (next_data (act x e.step) x).next ≡ s.left.next = ap (λ (y : Shell). y.next) s.is in
    let n : 1 ≤ occurrences i (collect added es) → (next_data (act x e.step) x).next ≤ i.node = given-law i (next_data (act x e.step) x) es l.1 in
    let o = given-step i x e.step.worker e.step.act e.reply s.left s.made in
    let t = times-append i (added e.step.act e.reply) (collect added es) in
    either (occurrences i (added e.step.act e.reply)) o.1 (λ m. (let p = n (omega (arith, h, t, m)) in let up : x.next ≤ s.left.next = o.0 in omega (arith, p, up, g)))
  where
    either : (p : ℕ) {A : Type 0} → (1 ≤ p → A) → (p ≡ 0 → A) → A
    either zero f g = g refl
    either (suc p) f g = f (omega arith)

-- the table

-- an item's count before and now, where lost says that it was named as leaving
pub record Comes (i : Item) (before now lost come next : ℕ) : Type 0 where
  pub kept : lost ≡ 0 → now ≡ before + come
  pub left : 1 ≤ lost → (now ≡ 0) × (i.node < next)

comes-out : (i u : Item) (t : List Item) (lost come next : ℕ) → u.node < next → lost ≡ once i u → come ≡ 0 → Comes i (occurrences i t) (occurrences i (items_without u t)) lost come next
comes-out i u t lost come next below l c =
    elim (cases_Bool (is_same_item i u)) [
      | inl e ↦
          let s : i ≡ u = same-true i u e in
          let one_if : lost ≡ 1 = rw e at l in
          record {
            kept = λ h. absurd (omega (arith, h, one_if));
            left = λ h. (unless-same i u t ∙ rw e refl, (let n : i.node ≡ u.node = ap (λ (z : Item). z.node) s in omega arith));
          }
      | inr e ↦
          let none : lost ≡ 0 = rw e at l in
          let k : occurrences i (items_without u t) ≡ occurrences i t = unless-same i u t ∙ rw e refl in
          record { kept = λ h. omega (arith, k, c); left = λ h. absurd (omega (arith, h, none)) }
    ]

table-step : (i : Item) (x : Shell) → IsConsistent x → (w : ℕ) (b : Act) (r : Reply) (y : Shell) → Makes w x b r y → Comes i (occurrences i x.table) (occurrences i y.table) (occurrences i (evicted_items b r) + occurrences i (removed_items b r)) (occurrences i (added b r)) y.next
table-step i x v w b r y (k.added j e f) = record {
  kept = λ h. rw (times-placed i record { key = j; node = x.next } x.table) (omega arith);
  left = λ h. absurd (omega arith);
}
table-step i x v w b r y (k.removed j n e f) =
    let u : Item = record { key = j; node = n } in
    let h : 1 ≤ occurrences record { key = j; node = n } x.table = listed-times record { key = j; node = n } x.table (node-listed record { key = j; node = n } x.table e) in
    comes-out i record { key = j; node = n } x.table _ _ x.next (v.placed.below record { key = j; node = n } (omega (arith, h))) (omega arith) refl
table-step i x v w b r y (k.evicted h c u f g n o p) =
    let q : 1 ≤ queue_occurrences c x.queues = (let o = first-queued c x.queues.window g.oldest in omega (arith, o)) in
    rw (unlisted-is u x.table v.placed.ascending) (comes-out i u x.table _ _ x.next (queued-below u x v (shifted-queued c u x q n.oldest)) (omega arith) refl)
table-step i x v w b r y (k.rejected h c u f g n o) =
    let q : 1 ≤ queue_occurrences c x.queues = (let o = first-queued c x.queues.window g.oldest in omega (arith, o)) in
    rw (unlisted-is c x.table v.placed.ascending) (comes-out i c x.table _ _ x.next (queued-below c x v q) (omega arith) refl)
table-step i x v w b r y made = record { kept = λ h. omega arith; left = λ h. absurd (omega arith) }

-- what stands at the end, from what stood at first (before) and after one step (now): g and r name it as leaving in that step, gs and rs later
joined : (node next before now last n ns g gs r rs : ℕ) → (g + r ≡ 0 → now ≡ before + n) → (1 ≤ g + r → (now ≡ 0) × (node < next)) → (1 ≤ ns → next ≤ node)
    → ((1 ≤ last) ↔ ((1 ≤ now + ns) × (gs ≡ 0) × (rs ≡ 0))) → (1 ≤ last) ↔ ((1 ≤ before + (n + ns)) × (g + gs ≡ 0) × (r + rs ≡ 0))
joined node next before now last n ns g gs r rs kept left given h = either (g + r) is_same_item evicted_items
  where
    either : (m : ℕ) {A : Type 0} → (m ≡ 0 → A) → (1 ≤ m → A) → A
    either zero f g = f refl
    either (suc m) f g = g (omega arith)

    is_same_item : g + r ≡ 0 → (1 ≤ last) ↔ ((1 ≤ before + (n + ns)) × (g + gs ≡ 0) × (r + rs ≡ 0))
    is_same_item e =
        let k : now ≡ before + n = kept e in (
          (λ u. (let p = h.0 u in let p1 : 1 ≤ now + ns = p.0 in let p2 : gs ≡ 0 = p.1 in let p3 : rs ≡ 0 = p.2 in (omega arith, omega arith, omega arith))),
          (λ p. (let p1 : 1 ≤ before + (n + ns) = p.0 in let p2 : g + gs ≡ 0 = p.1 in let p3 : r + rs ≡ 0 = p.2 in h.1 (omega arith, omega arith, omega arith))),
        )

    evicted_items : 1 ≤ g + r → (1 ≤ last) ↔ ((1 ≤ before + (n + ns)) × (g + gs ≡ 0) × (r + rs ≡ 0))
    evicted_items e =
        let k = left e in
        let none : now ≡ 0 = k.0 in
        let below : node < next = k.1 in (
          (λ u. absurd (let p = h.0 u in let p1 : 1 ≤ now + ns = p.0 in let p2 : next ≤ node = given (omega arith) in omega arith)),
          (λ p. absurd (let p2 : g + gs ≡ 0 = p.1 in let p3 : r + rs ≡ 0 = p.2 in omega arith)),
        )

pub table-law : (i : Item) (x : Shell) (es : List MadeStep) → IsConsistent x → IsLegal act x es
    → (1 ≤ occurrences i (data_after act x es).table) ↔ ((1 ≤ occurrences i x.table + occurrences i (collect added es)) × (occurrences i (collect evicted_items es) ≡ 0) × (occurrences i (collect removed_items es) ≡ 0))
table-law i x [] v l = ((λ u. (omega (arith, u), refl, refl)), (λ p. (let q : 1 ≤ occurrences i x.table + 0 = p.0 in omega arith)))
table-law i x (e ∷ es) v l =
    let s : Steps x e (next_data (act x e.step) x) = stepped x e (next_data (act x e.step) x) l.0 in
    let h = table-law i (next_data (act x e.step) x) es (sound-next x e (next_data (act x e.step) x) v l.0) l.1 in
    let c = table-step i x v e.step.worker e.step.act e.reply s.left s.made in
    let t : occurrences i (next_data (act x e.step) x).table ≡ occurrences i s.left.table = ap (λ (y : Shell). occurrences i y.table) s.is in
    let g : (next_data (act x e.step) x).next ≡ s.left.next = ap (λ (y : Shell). y.next) s.is in
    let j = joined i.node s.left.next (occurrences i x.table) (occurrences i s.left.table) (occurrences i (data_after act (next_data (act x e.step) x) es).table) (occurrences i (added e.step.act e.reply)) (occurrences i (collect added es)) (occurrences i (evicted_items e.step.act e.reply)) (occurrences i (collect evicted_items es)) (occurrences i (removed_items e.step.act e.reply)) (occurrences i (collect removed_items es))
    c.kept c.left (rw g at (given-law i (next_data (act x e.step) x) es l.1)) (rw t at h) in
    rw (times-append i (added e.step.act e.reply) (collect added es), times-append i (evicted_items e.step.act e.reply) (collect evicted_items es), times-append i (removed_items e.step.act e.reply) (collect removed_items es)) j
