-- How large a trace is.
use Rattle.std.specs.Prelude.{◌==◌, ◌++◌, ℕ, List, codes, count_by, length}
use Rattle.std.specs.Fmt.{decimal}
use Rattle.std.specs.Set.{distinct_count}
pub use Rattle.trace_index.specs.declared.footprint.Footprint.{Footprint}

-- how many of the accesses are to a block
abbrev pub times : ℕ → List ℕ → ℕ
times block keys = count_by (λ key. key == block) keys

-- how many accesses there are, how many distinct blocks, and how many of these are accessed once
unfoldable pub footprint_of : List ℕ → Footprint
footprint_of keys = record {
  accesses = length keys;
  blocks = distinct_count (λ a b. a == b) keys;
  once = count_by (λ key. times key keys == 1) keys;
}

-- the header, and the row of a footprint
abbrev pub footprint_text : Footprint → List ℕ
footprint_text f = codes "accesses,blocks,once\n"
    ++ (decimal f.accesses ++ (codes "," ++ (decimal f.blocks ++ (codes "," ++ (decimal f.once ++ codes "\n")))))
