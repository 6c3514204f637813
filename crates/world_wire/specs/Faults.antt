-- Why messages aren't sent: the longer wire would be full, with these numbers.
use Rattle.std.specs.Prelude.{◌≡◌, List, length, true}
use Rattle.group_rules.specs.Script.{Letter, is_full, total}
use Rattle.world_wire.specs.declared.fault.WireFault.{WireFault}
use Rattle.world_wire.specs.declared.fault.WireFault.TheVariants.{Full, Memory}

abbrev pub IsCause : List Letter → WireFault → Type 0
IsCause xs Memory = Unit {0}
IsCause xs (Full n b) = (is_full xs ≡ true) × (n ≡ length xs) × (b ≡ total xs)
