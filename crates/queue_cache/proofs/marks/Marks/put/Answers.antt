use Rattle.std.proofs.Common.{◌≡◌, ◌<◌, ◌/◌, ◌%◌, ◌*◌, ◌^◌, ℕ, List, true, cond, eqb, nat_lt, ◌+◌, length, get_or, set, bit_or, sym, arith}
use Rattle.std.proofs.lemmas.List.{get_or_read, get_or-set_same}
use Rattle.std.proofs.lemmas.Nat.{or_lt}
use Rattle.engine_base.specs.Bits.{bit_of}
use Rattle.engine_base.proofs.OneBit.{bit_put}
use Rattle.engine_base.specs.declared.limits.TheConstants.{MAX_ACCESSES}
use Rattle.queue_cache.specs.Sums.{mark_of, marks_before, sum_below}
use Rattle.queue_cache.proofs.Bits.{put-marks, tree-beside, next-word, few-marks}
use Rattle.queue_cache.proofs.marks.Marks.put.Goals as goal
use Rattle.queue_cache.proofs.marks.Marks.put.Goals.{After-index-old}

abbrev marked : (c : goal.After-index-old) → ℕ
marked c = bit_or c.index-old.result.now (1 * 2 ^ (c.args.place % 64) % 2 ^ 64)

abbrev words : (c : goal.After-index-old) → List ℕ
words c = set c.args.self.now.words.items (c.args.place / 64) (marked c)

within : (c : goal.After-index-old) → c.args.place / 64 < length c.args.self.now.words.items
within c = omega (arith, c.requires.within)

puts : (c : goal.After-index-old) → (q : ℕ) → bit_of (words c) q ≡ cond (eqb q c.args.place) true (bit_of c.args.self.now.words.items q)
puts c = let ws = c.args.self.now.words.items in
    bit_put ws c.args.place c.index-old.result.now c.requires.within (get_or_read ws _ _ (within c) c.index-old.ensures 0)

adds : (c : goal.After-index-old) → (n : ℕ) → sum_below (mark_of (words c)) n ≡ sum_below (mark_of c.args.self.now.words.items) n + cond (nat_lt c.args.place n) 1 0
adds c = put-marks c.args.self.now.words.items (words c) c.args.place c.requires.free (puts c)

is-word : (c : goal.After-index-old) → marked c ≡ get_or (words c) (c.args.place / 64) 0
is-word c = sym (get_or-set_same c.args.self.now.words.items (c.args.place / 64) (marked c) 0 (within c))

fits : (c : goal.After-index-old) → c.index-old.result.now < 2 ^ 64 → marked c < 2 ^ 64
fits c old = or_lt 64 c.index-old.result.now (1 * 2 ^ (c.args.place % 64) % 2 ^ 64) old (omega arith)

pub push-requires : goal.push-requires
push-requires c =
    let at = (goal.at.push-requires c).After-index-old in
    let ws = c.args.self.now.words.items in let sums = c.args.self.now.tree.sums.items in let p = c.args.place in
    let tree = c.args.self.now.counted in let behind = c.requires.tree in (
      marks_before (words at),
      tree-beside ws (words at) sums p (adds at) tree behind,
      few-marks ws (words at) sums p (adds at) tree behind (omega (arith, c.if-place.false)) (marked at) (is-word at) (fits at c.type_inv.old.fits) MAX_ACCESSES c.requires.few,
    )

pub invariant_of-self : goal.invariant_of-self
invariant_of-self c =
    let at = (goal.at.invariant_of-self c).After-index-old in
    record { counted = tree-beside c.args.self.now.words.items (words at) c.args.self.now.tree.sums.items c.args.place (adds at) c.args.self.now.counted c.requires.tree }

pub invariant_of-self-2 : goal.invariant_of-self-2
invariant_of-self-2 c =
    let at = (goal.at.invariant_of-self-2 c).After-index-old in
    let ws = c.args.self.now.words.items in let sums = c.args.self.now.tree.sums.items in let p = c.args.place in
    let tree = c.args.self.now.counted in let behind = c.requires.tree in
    record {
      counted = c.push.ensures.tree (marks_before (words at)) (tree-beside ws (words at) sums p (adds at) tree behind)
          (next-word ws (words at) sums p (adds at) tree behind (omega (arith, c.if-place.false)) (marked at) (is-word at) (fits at c.type_inv.old.fits));
    }

pub returns-then-place-clause-puts : goal.returns-then-place-clause-puts
returns-then-place-clause-puts c = puts (goal.at.returns-then-place-clause-puts c).After-index-old

pub returns-clause-puts : goal.returns-clause-puts
returns-clause-puts c = puts (goal.at.returns-clause-puts c).After-index-old
