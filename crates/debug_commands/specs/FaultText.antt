-- The text of a fault: its name.
use Rattle.std.specs.Prelude.{ℕ, List, codes}
use Rattle.debug_commands.specs.declared.fault.DebugFault.{DebugFault}
use Rattle.debug_commands.specs.declared.fault.DebugFault.TheVariants.{OutOfMemory, Read, Write, TooLarge, Config}

abbrev pub debug_fault_text : DebugFault → List ℕ
debug_fault_text OutOfMemory = codes "OutOfMemory"
debug_fault_text Read = codes "Read"
debug_fault_text Write = codes "Write"
debug_fault_text TooLarge = codes "TooLarge"
debug_fault_text (Config index) = codes "Config"
