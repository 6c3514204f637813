-- What a joiner that asks is given.
use Rattle.std.specs.Prelude.{◌≡◌, true, false, Option, Some, None, filter, nat_le}
use Rattle.gtid_sets.specs.Sets.{Gtids}
use Rattle.paxos_forms.specs.declared.recovery.Give.{Give}
use Rattle.group_rules.specs.Events.{Entry, Life, Setup}
use Rattle.group_rules.specs.Life.{upto}
use Rattle.group_rules.specs.Recovery.{give_of, is_add}
use Rattle.group_rules.specs.Rows.{known}
use Rattle.donor_recovery.specs.declared.donor.GiveFault.{GiveFault}
use Rattle.donor_recovery.specs.declared.donor.GiveFault.TheVariants.{Memory, NotKept}

-- by the entry at the asked place: one that has this set is given what stood there, if it is an Add with effect
abbrev pub given_to : Setup → Life → Gtids → Option Entry → Option Give
given_to s l set None = None
given_to s l set (Some e) = elim (is_add e.value.what e.effect) [ true ↦ Some (give_of s (upto l e.place) (filter (λ c. nat_le c.place e.place) (known l)) e.place set) | false ↦ None ]

-- nothing is given, or memory was refused
abbrev pub IsNotGiven : Option Give → GiveFault → Type 0
IsNotGiven o (NotKept p) = o ≡ None
IsNotGiven o Memory = Unit {0}
