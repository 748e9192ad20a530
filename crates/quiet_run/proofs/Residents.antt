-- The table and the queues where no task waits.
use Rattle.std.proofs.Common.{◌≡◌, ℕ, ◌≤◌, true, eqb, Option, Some, None, List, [], ap, ◌∙◌, sym, refl, arith}
use Rattle.std.proofs.lemmas.Bool.{eq-eqb, eqb-true, and_from, true_from_ne_false}
use Rattle.segments.specs.Items.{Item, occurrences}
use Rattle.segments.specs.Queues.{Queues, IsDistinct}
use Rattle.segments.proofs.QueueLists.{same-true}
use Rattle.replacement.specs.Counts.{queue_occurrences}
use Rattle.shell_model.specs.ShellState.{node_of, is_node, is_listed}
use Rattle.shell_model.specs.Consistency.{IsPlaced}
use Rattle.shell_model.proofs.Counting.{unlisted-times}
use Rattle.quiet_run.specs.Nodes.{IsOnly, HasKeysOnce}

module _ (t : List Item) (n : ℕ) (q : Queues) (p : IsPlaced t n q []) where
  -- the table lists just what is queued
  pub resident : (i : Item) → occurrences i t ≡ queue_occurrences i q
  resident i = omega (arith, p.stands i, p.known i)

  pub distinct-in : IsDistinct q
  distinct-in j = omega (arith, p.known j, p.once j)

  node-of-queued : (i : Item) → 1 ≤ queue_occurrences i q → node_of i.key t ≡ Some i.node
  node-of-queued i h = by (node_of i.key t) (true_from_ne_false (is_listed i t) (λ e. omega (arith, h, resident i, unlisted-times i t p.ascending e)))
    where
      by : (o : Option ℕ) → is_node i.node o ≡ true → o ≡ Some i.node
      by None e = absurd (cc e)
      by (Some m) e = ap (λ (k : ℕ). Some k) (sym (eqb-true i.node m e))

  pub keys-once : HasKeysOnce q
  keys-once i h j g e =
      let same : Some i.node ≡ Some j.node = sym (node-of-queued i h) ∙ (ap (λ (k : ℕ). node_of k t) e ∙ node-of-queued j g) in
      same-true i j (and_from (eqb i.key j.key) (eqb i.node j.node) (eq-eqb i.key j.key e) (eq-eqb i.node j.node (cc same)))

  -- no item is queued of a key that the table lacks
  module _ (i : Item) (lacks : node_of i.key t ≡ None) where
    pub not-queued : queue_occurrences i q ≡ 0
    not-queued = sym (resident i) ∙ unlisted-times i t p.ascending (rw lacks refl)

    pub only-one : IsOnly i q
    only-one j h e = absurd (let no : None ≡ Some j.node = sym lacks ∙ (ap (λ (k : ℕ). node_of k t) e ∙ node-of-queued j h) in cc no)
