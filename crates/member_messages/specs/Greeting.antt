-- The members as a Welcome shows them.
use Rattle.std.specs.Prelude.{Bool, List}
use Rattle.std.specs.List.{list_any}
use Rattle.gr_ids.specs.declared.names.Inc.{Inc}
use Rattle.gr_ids.specs.Names.{inc_eq}
use Rattle.slot_values.specs.declared.member.Member.{Member}
use Rattle.paxos_forms.specs.declared.welcome.WelcomeMember.{WelcomeMember}
use Rattle.node_rules.specs.declared.seat.Seat.{Seat}
use Rattle.group_rules.specs.View.{seat_in}

-- one of these seats is its
abbrev pub is_in_seats : List Seat → Inc → Bool
is_in_seats ss i = list_any (λ s. inc_eq s.joiner.inc i) ss

-- a member with its seat
abbrev pub welcomed_as : List Seat → Member → WelcomeMember
welcomed_as ss m = record { joiner = record (seat_in ss m.inc).joiner { inc = m.inc }; state = (seat_in ss m.inc).state; last = m.last }
