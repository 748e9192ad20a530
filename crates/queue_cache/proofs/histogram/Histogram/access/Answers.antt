use Rattle.std.proofs.lemmas.Bool.Decides.{nat_tests}
use Rattle.std.proofs.Common.{◌≡◌, ◌+◌, ◌-◌, ◌*◌, ◌<◌, ℕ, suc, cond, eqb, None, Some, List, length, count_by, get_or, take, ap, ◌∙◌, sym, arith}
use Rattle.std.proofs.lemmas.List.{length_push}
use Rattle.queue_cache.specs.Lru.{distinct_keys, keys_since}
use Rattle.trace_index.specs.KeyPlaces.{place_of}
use Rattle.queue_cache.specs.Sums.{mark_of, sum_below}
use Rattle.queue_cache.specs.Histogram.{count_at}
use Rattle.queue_cache.proofs.Histories.{noted-more, free, marks-few, last-next, first-marked, first-long, first-counted, low, there, below-few, depth, again-marked, again-long, again-counted, push-zero}
use Rattle.queue_cache.proofs.histogram.Histogram.access.Goals as goal
use Rattle.queue_cache.proofs.histogram.Histogram.access.Goals.{In-Some}

pub put-requires-clause-free : goal.put-requires-clause-free
put-requires-clause-free c = free c.args.keys.now c.args.place c.requires.next c.args.self.now c.requires.counted

pub put-requires-clause-few : goal.put-requires-clause-few
put-requires-clause-few c = omega (arith, marks-few c.args.keys.now c.args.place c.requires.next c.args.self.now c.requires.counted, c.requires.next, c.requires.few)

-- the key came before
is-last : (c : goal.In-Some) → place_of c.args.self.now.last (get_or c.args.keys.now c.args.place 0) ≡ Some c.in-Some.before
is-last c = sym c.in_ok-put-2.ensures.old ∙ c.in-Some.is

below-place : (c : goal.In-Some) → c.in-Some.before < c.args.place
below-place c = low c.args.keys.now c.args.place c.requires.next c.args.self.now c.requires.counted c.put.new.self.words.items c.in_ok-put.ensures.puts c.in-Some.before (is-last c)

inside : (c : goal.In-Some) → c.in-Some.before < 64 * length c.put.new.self.words.items
inside c = omega (arith, below-place c, c.requires.next, c.requires.counted.room, c.in_ok-put.ensures.size)

deep : (c : goal.In-Some) → sum_below (mark_of c.put.new.self.words.items) c.in-Some.before + suc (length (distinct_keys (keys_since (get_or c.args.keys.now c.args.place 0) (take c.args.place c.args.keys.now)))) ≡ length c.args.self.now.counts.items
deep c = depth c.args.keys.now c.args.place c.requires.next c.args.self.now c.requires.counted c.put.new.self.words.items c.in_ok-put.ensures.puts c.in-Some.before (is-last c)

pub below-requires-clause-within : goal.below-requires-clause-within
below-requires-clause-within c = inside (goal.at.below-requires-clause-within c).In-Some

pub below-requires-clause-tree : goal.below-requires-clause-tree
below-requires-clause-tree c = omega (arith, below-place (goal.at.below-requires-clause-tree c).In-Some, c.in_ok-put.ensures.tree)

pub below-requires-clause-few : goal.below-requires-clause-few
below-requires-clause-few c = grind (arith, nat_tests, below-few, is-last)

pub overflow_sub-distance : goal.overflow_sub-distance
overflow_sub-distance c = omega (arith, deep (goal.at.overflow_sub-distance c).In-Some, c.below.ensures, c.len.ensures)

pub overflow_sub-distance-in-Some : goal.overflow_sub-distance-in-Some
overflow_sub-distance-in-Some c = omega (arith, deep (goal.at.overflow_sub-distance-in-Some c).In-Some, c.below.ensures, c.len.ensures)

pub take-requires-clause-within : goal.take-requires-clause-within
take-requires-clause-within c = inside (goal.at.take-requires-clause-within c).In-Some

pub take-requires-clause-marked : goal.take-requires-clause-marked
take-requires-clause-marked c = grind (arith, nat_tests, there, is-last)

pub returns-in_ok-push-in-None : goal.returns-in_ok-push-in-None
returns-in_ok-push-in-None c =
    let keys = c.args.keys.now in let place = c.args.place in let h = c.args.self.now in
    let noted = h.noted.items in
    let vs = c.put.new.self.words.items in let puts = c.in_ok-put.ensures.puts in let items = c.in_ok-push-in-None.ensures.items in
    let none : place_of h.last (get_or keys place 0) ≡ None = sym c.in_ok-put-2.ensures.old ∙ c.in-None.is in
    record {
      last = last-next keys place c.requires.next h c.requires.counted (place_of c.put-2.new.self) c.in_ok-put-2.ensures.updates;
      marked = first-marked keys place c.requires.next h c.requires.counted vs puts none;
      room = omega (arith, c.requires.counted.room, c.in_ok-put.ensures.size);
      summed = c.in_ok-put.ensures.tree;
      long = ap length items ∙ (length_push h.counts.items 0 ∙ first-long keys place c.requires.next h c.requires.counted vs puts none);
      counted = λ d. ap (λ l. count_at l noted d) items ∙ (ap (λ n. n + count_by (eqb d) noted) (push-zero h.counts.items d) ∙ (c.requires.counted.counted d ∙ first-counted keys place c.requires.next h c.requires.counted vs puts none d));
    }

pub returns-in_ok-push-in-Some : goal.returns-in_ok-push-in-Some
returns-in_ok-push-in-Some c =
    let keys = c.args.keys.now in let place = c.args.place in let h = c.args.self.now in
    let vs = c.put.new.self.words.items in let puts = c.in_ok-put.ensures.puts in let p = c.in-Some.before in let e = c.len.result - c.below.result - 1 in
    let at = (goal.at.returns-in_ok-push-in-Some c).In-Some in let some = is-last at in let far = deep at in
    record {
      last = last-next keys place c.requires.next h c.requires.counted (place_of c.put-2.new.self) c.in_ok-put-2.ensures.updates;
      marked = λ q. c.take.ensures.takes q ∙ again-marked keys place c.requires.next h c.requires.counted vs puts p some q;
      room = omega (arith, c.requires.counted.room, c.in_ok-put.ensures.size, c.take.ensures.size);
      summed = c.take.ensures.tree ∙ c.in_ok-put.ensures.tree;
      long = again-long keys place c.requires.next h c.requires.counted vs puts p some;
      counted = λ d. ap (λ (l : List ℕ). count_at h.counts.items l d) c.in_ok-push-in-Some.ensures.items ∙ (noted-more h.counts.items h.noted.items e d
          ∙ (ap (λ n. n + cond (eqb d e) 1 0) (c.requires.counted.counted d) ∙ again-counted keys place c.requires.next h c.requires.counted vs puts p some e (omega (arith, far, c.below.ensures, c.len.ensures)) d));
    }
