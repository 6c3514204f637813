-- The one list as the laws have it, and what each joiner was given of it.
use Rattle.std.specs.Prelude.{◌≡◌, ◌≤◌, Option, Some, None, List, [], length}
use Rattle.gr_ids.specs.declared.names.Inc.{Inc}
use Rattle.slot_values.specs.declared.value.Value.{Value}
use Rattle.paxos_forms.specs.declared.welcome.Welcome.{Welcome}
use Rattle.group_rules.specs.Events.{Life, Setup}
use Rattle.group_rules.specs.Life.{entered, taken}
use Rattle.group_rules.specs.OneList.{listed}
use Rattle.group_rules.specs.World.{Past, life_in}
use Rattle.group_laws.specs.Entries as law
use Rattle.group_laws.specs.Life as lives
use Rattle.group_laws.specs.Lawful.{upto}
use Rattle.group_lives.specs.Lives.{life_of}
use Rattle.group_lives.specs.Sound.{IsTaking}

abbrev pub list_of : Setup → List Value → List law.Placed
list_of t log = lives.marked (life_of [] (listed t log))

-- up to the place of its Add, which its Welcome names; a founder is given nothing
abbrev pub given_to : List law.Placed → Option Welcome → List law.Placed
given_to k None = []
given_to k (Some w) = upto w.place k

-- what each incarnation was given, all that ever happened being this
abbrev pub base_in : Setup → List Value → Past → Inc → List law.Placed
base_in t log w i = given_to (list_of t log) (entered (life_in w i))

-- the history takes the list, and has its values up to its last place
pub record TakesOf (t : Setup) (log : List Value) (base : List law.Placed) (l : Life) : Type 0 where
  pub taking : IsTaking t base l
  pub values : lives.taken (life_of base l) ≡ law.values (upto (taken l) (list_of t log))
  pub within : taken l ≤ length (list_of t log)

-- and its verdicts
abbrev pub JudgesAs : Setup → List Value → List law.Placed → Life → Type 0
JudgesAs t log base l = lives.marked (life_of base l) ≡ upto (taken l) (list_of t log)
