-- A member as another one shows it, by its watch.
use Rattle.std.specs.Prelude.{true, false, Option}
use Rattle.gr_ids.specs.Names.{inc_eq, is_inc}
use Rattle.gr_ids.specs.declared.levels.MemberState.{MemberState}
use Rattle.gr_ids.specs.declared.names.Inc.{Inc}
use Rattle.node_rules.specs.declared.seat.Seat.{Seat}
use Rattle.group_rules.specs.declared.said.Shown.{Shown}
use Rattle.group_rules.specs.declared.said.Shown.TheVariants.{State as InState, Unreachable}
use Rattle.group_rules.specs.declared.said.ShownMember.{ShownMember}
use Rattle.group_rules.specs.Watch.{suspects}
use Rattle.failure_events.specs.Watching.{Watching}

-- itself in its own state, and one that it suspects as unreachable
abbrev pub state_shown : Watching → Inc → MemberState → Seat → Shown
state_shown w me own s = elim (inc_eq s.joiner.inc me) [
  | true ↦ InState own
  | false ↦ elim (suspects w.me w.watch s.joiner.inc) [ true ↦ Unreachable | false ↦ InState s.state ]
]

abbrev pub member_shown : Watching → Inc → MemberState → Option Inc → Seat → ShownMember
member_shown w me own primary s = record { inc = s.joiner.inc; shown = state_shown w me own s; primary = is_inc primary s.joiner.inc }
