-- What a member gives.
use Rattle.std.specs.Prelude.{filter, nat_le}
use Rattle.gtid_sets.specs.Sets.{Gtids}
use Rattle.paxos_forms.specs.declared.recovery.Give.{Give}
use Rattle.group_rules.specs.Events.{Entry}
use Rattle.group_rules.specs.Life.{upto}
use Rattle.group_rules.specs.Member.{Member}
use Rattle.group_rules.specs.Recovery.{give_of}
use Rattle.group_rules.specs.Rows.{known}

-- to a joiner that has this set, whose Add is this entry
abbrev pub give_at_entry : Member → Entry → Gtids → Give
give_at_entry a e set = give_of a.setup (upto a.life e.place) (filter (λ c. nat_le c.place e.place) (known a.life)) e.place set
