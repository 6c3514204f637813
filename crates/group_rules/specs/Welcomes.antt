-- The Welcome: each member that is ONLINE when it takes an Add with effect sends one to the joiner, which begins with the first that is in order.
use Rattle.std.specs.Prelude.{true, false, ◌&&◌, not, Option, Some, None}
use Rattle.gr_ids.specs.Names.{inc_eq}
use Rattle.slot_values.specs.Log.{Turns}
use Rattle.node_rules.specs.Welcoming.{welcome_of, is_in_order, is_for}
use Rattle.group_rules.specs.Names.{Inc, Recovering, Greet, Welcome, Welcomed}
use Rattle.group_rules.specs.View.{shown}
use Rattle.group_rules.specs.Events.{Is, Enters}
use Rattle.group_rules.specs.Life.{state, is_up, is_offline, view}
use Rattle.group_rules.specs.Member.{Member, push, send}

abbrev pub greet_by : Inc → Option Turns → Member → Member
greet_by i None a = a
greet_by i (Some w) a = send i (Greet (welcome_of a.node w (shown (view a.setup a.life)))) a

abbrev pub greet : Inc → Member → Member
greet i a = elim (is_up (state a.life) && not (inc_eq i a.me.inc)) [ true ↦ greet_by i a.node.turns a | false ↦ a ]

-- the first Welcome of an OFFLINE joiner that is in order, with H configurations and with this incarnation RECOVERING among its members; H is the horizon
abbrev pub hear_welcome : Welcome → Member → Member
hear_welcome w a = elim (is_offline (state a.life) && (is_in_order w && is_for w a.me.inc a.node.horizon)) [ true ↦ push (Is Recovering Welcomed) (push (Enters w) a) | false ↦ a ]
