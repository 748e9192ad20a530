use Rattle.std.proofs.lemmas.Bool.Decides.{nat_tests}
use Rattle.std.proofs.Common.{◌≡◌, ◌∙◌, suc, subst, ◌+◌, ◌<◌, ◌%◌, ◌^◌, ◌++◌, ◌∷◌, [], ℕ, List, All, length, map, take, ap, sym, arith}
use Rattle.std.specs.Prelude.{slice_index_or, slice_set}
use Rattle.std.proofs.lemmas.List.{take_more, take_more_set, length-set, length-take, map-append, get_or-take}
use Rattle.std.proofs.lemmas.Nat.{le_or_l, le_or_r, or_lt}
use Rattle.queue_table.specs.declared.slot.NarrowKey.{NarrowKey}
use Rattle.demand_cache.specs.NarrowKeys.{IsNarrow}
use Rattle.demand_cache.proofs.narrow_cache.are_narrow.Goals as goal

-- one name more
written : (names : List NarrowKey) (keys : List ℕ) (i : ℕ) → i < length names → i < length keys → map (λ k. k.key) (take i names) ≡ take i keys
    → slice_index_or keys i 0 < 2 ^ 32
    → map (λ k. k.key) (take (i + 1) (slice_set names i record { key = slice_index_or keys i 0 % 2 ^ 32 })) ≡ take (i + 1) keys
written names keys i in_names in_keys before narrow =
    let k : ℕ = slice_index_or keys i 0 in
    let low : k % 2 ^ 32 ≡ k = omega (arith, narrow) in
    ap (map (λ (n : NarrowKey). n.key)) (take_more_set names i record { key = k % 2 ^ 32 } in_names)
    ∙ map-append (λ (n : NarrowKey). n.key) (take i names) (record { key = k % 2 ^ 32 } ∷ [])
    ∙ ap (λ (l : List ℕ). l ++ k % 2 ^ 32 ∷ []) before
    ∙ ap (λ n. take i keys ++ n ∷ []) low
    ∙ sym (take_more keys i 0 in_keys)

-- each of more keys is narrow where each of fewer is, and the next one
fewer : (keys : List ℕ) (i : ℕ) → i < length keys → All IsNarrow (take (i + 1) keys) → All IsNarrow (take i keys) × (slice_index_or keys i 0 < 2 ^ 32)
fewer keys i below all =
    let more : i + 1 ≡ suc i = omega arith in (
      λ k d lt. (
          let short = length-take i keys in
          let within : k < i = omega (arith, nat_tests, short, lt) in
          let here : k < length (take (i + 1) keys) = omega (arith, nat_tests, length-take (i + 1) keys, below, within) in
          subst (λ n. n < 2 ^ 32) (get_or-take (i + 1) keys k d (omega (arith, within)) ∙ sym (get_or-take i keys k d within)) (all k d here)
          ),
      subst (λ n. n < 2 ^ 32) (get_or-take (i + 1) keys i 0 (omega arith)) (all i 0 (omega (arith, length-take (i + 1) keys, below))),
    )

pub loop-i-preserved : goal.loop-i-preserved
loop-i-preserved c =
    let names = c.loop-i.names in
    let keys = c.args.keys.now in
    let k : ℕ = slice_index_or keys c.loop-i.i 0 in
    let bits = c.loop-i.bits in
    record {
      len = length-set _ _ _ ∙ c.loop-i.invariant.len;
      keys = λ few. (
          let before = c.loop-i.invariant.keys (omega (arith, le_or_l bits k, few)) in
          written names keys c.loop-i.i (omega (arith, c.loop-i-test.true, c.loop-i.invariant.len, c.requires)) c.loop-i-test.true before (omega (arith, le_or_r bits k, few))
          );
      all = λ narrow. (
          let both = fewer keys c.loop-i.i c.loop-i-test.true narrow in
          or_lt 32 bits k (c.loop-i.invariant.all both.0) both.1
          );
    }
