-- The place of a fault.
use Rattle.std.specs.Prelude.{ℕ}
use Rattle.byte_forms.specs.declared.faults.CutFault.{CutFault}
use Rattle.byte_forms.specs.declared.faults.CutFault.TheVariants.{Short, TooLong}

abbrev pub place_of : CutFault → ℕ
place_of (Short at) = at
place_of (TooLong at) = at
