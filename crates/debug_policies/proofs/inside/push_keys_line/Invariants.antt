use Rattle.std.proofs.Common.{◌≡◌, ◌++◌, take}
use Rattle.std.specs.List.{flat_map}
use Rattle.debug_policies.specs.Inside.{key_text}
use Rattle.debug_policies.proofs.inside.push_keys_line.Given as goal

abbrev pub invariant-loop-key : goal.invariant-loop-key
invariant-loop-key l = l.text.items ≡ l.initial.text.items ++ flat_map key_text (take l.key-index l.keys)
