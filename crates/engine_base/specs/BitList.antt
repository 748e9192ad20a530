-- What a packed list of bits holds: its words, and nothing beside them.
use Rattle.std.specs.Prelude.{◌≡◌, ◌≤◌, Bool, List, length}
use Rattle.engine_base.specs.declared.bit_list.TheConstants.{MAX_LIST_WORDS}
use Rattle.engine_base.specs.declared.bit_list.BitList.TheInside.{Inside}
use Rattle.engine_base.specs.Bits.{bits_of}

-- the bits that it shows
abbrev pub bits_in : Inside → List Bool
bits_in l = bits_of l.words.items

-- It is made of its words alone, and they are few. A further field, which no contract would see, has no place here.
pub record IsWordsAlone (l : Inside) : Type 0 where
  pub alone : l ≡ record { words = l.words }
  pub few : length l.words.items ≤ MAX_LIST_WORDS
