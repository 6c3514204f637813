-- Why a form that takes memory wasn't read: memory was refused, or its spelling breaks off.
use Rattle.byte_forms.specs.Reads.{Reader}
use Rattle.byte_forms.specs.Cuts.{Cut, FaultsAt}
use Rattle.byte_forms.specs.declared.unread.Unread.{Unread}
use Rattle.byte_forms.specs.declared.unread.Unread.TheVariants.{Memory, Misfit}

abbrev pub Breaks : {A : Type 0} → Reader A → Cut → Unread → Type 0
Breaks read old Memory = Unit {0}
Breaks read old (Misfit at) = FaultsAt read old at
