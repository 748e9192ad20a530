-- Fields of a row, between commas.
use Rattle.std.proofs.Common.{◌≡◌, ◌∙◌, ℕ, suc, ◌+◌, ◌<◌, ◌≤◌, List, [], ◌∷◌, ◌++◌, length, drop, get_or, map, ap, sym, refl, arith, append_assoc, append-nil}
use Rattle.std.specs.Prelude.{codes}
use Rattle.std.specs.List.{flat_map, join_with_byte}
use Rattle.std.specs.Fmt.{decimal}
use Rattle.std.proofs.lemmas.Grind.{common_steps}
use Rattle.std.proofs.lemmas.List.{at_drop_more, at_drop_all}
use Rattle.step_record.specs.Job.{name_of}
use Rattle.policies.specs.Reports.{rate_of}
use Rattle.streams.specs.Texts.{count_text}
use Rattle.report.specs.IntervalText.{interval_fields}
use Rattle.report.specs.Text.{line_text, rate_text_of}
use Rattle.policy_comparison.specs.QueueRows.{Interval, cell, held_in, marked_in, queue_row, rows_from}
use Rattle.policy_comparison.specs.QueuesAt.{NamedQueueData}

-- a field, numbers behind it, and one field more
pub joined-numbers : (f : List ℕ) (ns : List ℕ) (g : List ℕ)
    → join_with_byte 44 (f ∷ (map decimal ns ++ g ∷ [])) ≡ f ++ (flat_map (count_text (codes ",")) ns ++ (44 ∷ g))
joined-numbers f [] g = refl
joined-numbers f (n ∷ ns) g =
    ap (λ (t : List ℕ). f ++ (44 ∷ t)) (joined-numbers (decimal n) ns g
    ∙ sym (append_assoc (decimal n) (flat_map (count_text (codes ",")) ns) (44 ∷ g)))

-- fields, and fields behind them
pub joined-behind : (f : List ℕ) (fs : List (List ℕ)) (g : List ℕ) (gs : List (List ℕ))
    → join_with_byte 44 ((f ∷ fs) ++ (g ∷ gs)) ≡ join_with_byte 44 (f ∷ fs) ++ (44 ∷ join_with_byte 44 (g ∷ gs))
joined-behind f [] g gs = refl
joined-behind f (h ∷ fs) g gs =
    ap (λ (t : List ℕ). f ++ (44 ∷ t)) (joined-behind h fs g gs)
    ∙ sym (append_assoc f (44 ∷ join_with_byte 44 (h ∷ fs)) (44 ∷ join_with_byte 44 (g ∷ gs)))

-- ---- rows, piece by piece

pub interval-added : (text name ns rate front mid last : List ℕ) → front ≡ text ++ name → mid ≡ front ++ flat_map (count_text (codes ",")) ns
    → last ≡ mid ++ (44 ∷ (rate ++ [])) → last ≡ text ++ join_with_byte 44 (name ∷ (map decimal ns ++ rate ∷ []))
interval-added text name ns rate front mid last first second third =
    let numbers : List ℕ = flat_map (count_text (codes ",")) ns in
    third ∙ ap (λ (t : List ℕ). t ++ (44 ∷ (rate ++ []))) (second ∙ ap (λ (t : List ℕ). t ++ numbers) first)
    ∙ append_assoc (text ++ name) numbers (44 ∷ (rate ++ [])) ∙ append_assoc text name (numbers ++ (44 ∷ (rate ++ [])))
    ∙ ap (λ (t : List ℕ). text ++ (name ++ (numbers ++ (44 ∷ t)))) (append-nil rate)
    ∙ ap (λ (t : List ℕ). text ++ t) (sym (joined-numbers name ns rate))

row-is : (i : Interval) (q : NamedQueueData) (left : ℕ) → queue_row i q left
    ≡ (join_with_byte 44 (interval_fields i) ++ (44 ∷ (q.name ++ (44 ∷ (decimal (held_in q) ++ (44 ∷ (cell (marked_in q.keys) ++ (44 ∷ decimal left)))))))) ++ codes "\n"
unfolding line_text queue_row
row-is i q left =
    let r = i.report in
    ap (λ (t : List ℕ). t ++ codes "\n")
    (joined-behind (name_of r.policy r.sizes)
    (map decimal (r.capacity ∷ i.first ∷ i.last ∷ r.hits ∷ r.misses ∷ r.evictions ∷ r.rejections ∷ []) ++ rate_text_of (rate_of r) ∷ []) q.name
    (decimal (held_in q) ∷ cell (marked_in q.keys) ∷ decimal left ∷ []))

behind : (text fields name held marked left : List ℕ)
    → ((((text ++ fields) ++ (44 ∷ (name ++ []))) ++ (44 ∷ held)) ++ (44 ∷ marked)) ++ ((44 ∷ (left ++ [])) ++ codes "\n")
    ≡ text ++ ((fields ++ (44 ∷ (name ++ (44 ∷ (held ++ (44 ∷ (marked ++ (44 ∷ left)))))))) ++ codes "\n")
behind text fields name held marked left = grind (arith, common_steps)

pub row-added : (text front named counted marked last : List ℕ) (i : Interval) (q : NamedQueueData) (left : ℕ)
    → front ≡ text ++ join_with_byte 44 (interval_fields i) → named ≡ front ++ (44 ∷ (q.name ++ []))
    → counted ≡ named ++ (44 ∷ decimal (held_in q)) → marked ≡ counted ++ (44 ∷ cell (marked_in q.keys))
    → last ≡ marked ++ ((44 ∷ (decimal left ++ [])) ++ codes "\n") → last ≡ text ++ queue_row i q left
row-added text front named counted marked last i q left first second third fourth fifth =
    let held : List ℕ = decimal (held_in q) in
    fifth
    ∙ ap (λ (t : List ℕ). t ++ ((44 ∷ (decimal left ++ [])) ++ codes "\n"))
    (fourth ∙ ap (λ (t : List ℕ). t ++ (44 ∷ cell (marked_in q.keys)))
    (third ∙ ap (λ (t : List ℕ). t ++ (44 ∷ held)) (second ∙ ap (λ (t : List ℕ). t ++ (44 ∷ (q.name ++ []))) first)))
    ∙ behind text (join_with_byte 44 (interval_fields i)) q.name held (cell (marked_in q.keys)) (decimal left)
    ∙ ap (λ (t : List ℕ). text ++ t) (sym (row-is i q left))

-- ---- the rows of queues, one after another

module _ (i : Interval) (left : ℕ → ℕ) (queues : List NamedQueueData) (n : ℕ) where
  pub rows-next : (text new : List ℕ) (d : NamedQueueData) → n < length queues → new ≡ text ++ queue_row i (get_or queues n d) (left n)
      → new ++ rows_from i left (n + 1) (drop (n + 1) queues) ≡ text ++ rows_from i left n (drop n queues)
  rows-next text new d lt is =
      let row : List ℕ = queue_row i (get_or queues n d) (left n) in
      let more : n + 1 ≡ suc n = omega arith in
      ap (λ (t : List ℕ). t ++ rows_from i left (n + 1) (drop (n + 1) queues)) is
      ∙ append_assoc text row (rows_from i left (n + 1) (drop (n + 1) queues))
      ∙ ap (λ (m : ℕ). text ++ (row ++ rows_from i left m (drop (n + 1) queues))) more
      ∙ ap (λ (t : List ℕ). text ++ t) (sym (at_drop_more (rows_from i left n) queues n d lt))

  pub rows-last : (text : List ℕ) → length queues ≤ n → text ≡ text ++ rows_from i left n (drop n queues)
  rows-last text le = sym (append-nil text) ∙ ap (λ (t : List ℕ). text ++ t) (sym (at_drop_all (rows_from i left n) queues n le))
