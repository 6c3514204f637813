-- The action of a step, and what is told at its end of a begin that is held.
use Rattle.std.specs.Prelude.{ℕ, true, false, Option, Some, None}
use Rattle.group_rules.specs.declared.answers.Answer.TheVariants.{Held}
use Rattle.group_rules.specs.Events.{Answered, Calls, Came, Event}
use Rattle.group_rules.specs.Member.{Member, push}
use Rattle.group_rules.specs.Sessions.{is_holding, phase}
use Rattle.group_rules.specs.Points.{point}
use Rattle.group_rules.specs.Taking.{settle_slots}
use Rattle.group_rules.specs.Steps.{act, act_alive, held_mark}

-- the event comes to a member that isn't in ERROR
abbrev pub come : Event → Member → Member
come e a = act_alive e (push (Came e) a)

-- the session that calls, unless its begin is held already
abbrev pub caller_of : Event → Member → Option ℕ
caller_of (Calls s r) a = elim (is_holding (phase a.life s)) [ true ↦ None | false ↦ Some s ]
caller_of e a = None

-- its begin is held now
abbrev pub hold_by : Option ℕ → Member → Member
hold_by None a = a
hold_by (Some s) a = elim (is_holding (phase a.life s)) [ true ↦ push (Answered s Held) a | false ↦ a ]

-- a whole step, of a member that has sent nothing yet
abbrev pub step_of : Event → Member → Member
step_of e a = held_mark e (settle_slots (point (act e a)))
