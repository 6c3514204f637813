-- What a member sends to those that join: a Give to one that asks, a Welcome to one whose Add was just taken.
use Rattle.std.specs.Prelude.{◌≡◌, ◌≤◌, Option, Some, None, length}
use Rattle.slot_values.specs.Log.{Turns}
use Rattle.slot_values.specs.Spelling.{last_u32}
use Rattle.paxos_forms.specs.Welcomes.{IsWelcome}
use Rattle.paxos_forms.specs.declared.recovery.Give.{Give}
use Rattle.paxos_forms.specs.declared.welcome.Welcome.{Welcome}
use Rattle.node_rules.specs.Welcoming.{welcome_of}
use Rattle.group_rules.specs.Life.{view}
use Rattle.group_rules.specs.Member.{Member}
use Rattle.group_rules.specs.View.{shown}

-- its lists aren't too long to be counted
abbrev pub IsShort : Give → Type 0
IsShort g = (length g.items ≤ last_u32) × (length g.txns ≤ last_u32)

-- its Welcome, where it knows the log
abbrev pub IsGreeting : Option Welcome → Member → Type 0
IsGreeting None a = a.node.turns ≡ None
IsGreeting (Some w) a = (t : Turns) × (a.node.turns ≡ Some t) × (w ≡ welcome_of a.node t (shown (view a.setup a.life))) × IsWelcome w
