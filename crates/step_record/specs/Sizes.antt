-- The sizes that a policy's word carries: `wtinylfu:main=20`, `2q:in=50:out=100`.
use Rattle.std.specs.Prelude.{ℕ, None, Option, List, [], ◌++◌, codes}
use Rattle.std.specs.Option.{option_map_or}
use Rattle.std.specs.Fmt.{decimal}
pub use Rattle.step_record.specs.declared.sizes.Sizes.{Sizes}

-- those of a word that carries none
abbrev pub no_sizes : Sizes
no_sizes = record { main = None; period = None; kin = None; kout = None; small = None }

-- a size behind its name, where it is given
abbrev pub size_text : List ℕ → Option ℕ → List ℕ
size_text name size = option_map_or (λ n. name ++ decimal n) size []

-- the sizes that are given, always in the same order
abbrev pub sizes_text : Sizes → List ℕ
sizes_text s = size_text (codes ":main=") s.main ++ (size_text (codes ":period=") s.period
    ++ (size_text (codes ":in=") s.kin ++ (size_text (codes ":out=") s.kout ++ size_text (codes ":small=") s.small)))
