-- What a world stands for, and what its calls say.
use Rattle.std.specs.Prelude.{◌≡◌, ◌≤◌, ℕ, Bool, true, false, Option, Some, None, List, [], map, option_map}
use Rattle.gtid_sets.specs.Canonical.{IsUuid}
use Rattle.paxos_forms.specs.declared.message.Message.{Message}
use Rattle.paxos_forms.specs.Messages.{IsMessage}
use Rattle.node_rules.specs.Lists.{In}
use Rattle.member_ranges.specs.Ranges.{IsFounding, setup_with}
use Rattle.group_rules.specs.declared.said.Said.{Said}
use Rattle.group_rules.specs.Events.{Setup}
use Rattle.group_rules.specs.Script.{Letter, Play, Refusal, Declared, NoServer, AlreadyRunning, NoMessage, MessageLost, NoMember, is_full}
use Rattle.group_rules.specs.World.{Server, World}
use Rattle.report_text.specs.declared.fault.WorldFault.{WorldFault}
use Rattle.report_text.specs.declared.fault.WorldFault.TheVariants.{Declared as NumberTaken, NoServer as ServerMissing, AlreadyRunning as ServerRuns}
use Rattle.report_text.specs.declared.fault.WorldFault.TheVariants.{NoMessage as MessageMissing, MessageLost as MessageGone}
use Rattle.report_text.specs.declared.fault.WorldFault.TheVariants.{NoMember as MemberMissing, WireFull, Spent, Memory}
use Rattle.world_servers.specs.Naming.{AreOf}
use Rattle.world_wire.specs.declared.fault.WireFault.{WireFault}
use Rattle.world_wire.specs.declared.fault.WireFault.TheVariants.{Full as IsFull, Memory as IsMemory}
use Rattle.play_runs.specs.Runs.{IsRun}
use Rattle.group_world.specs.Sites.{AreSites, Rises}
use Rattle.group_world.specs.declared.founding.Founding.{Founding}
use Rattle.group_world.specs.declared.stage.Stage.{Stage}
use Rattle.group_world.specs.declared.world.World.{World as Whole}

-- ---- the parts

-- their UUIDs are sixteen bytes
abbrev pub AreDeclared : List Server → Type 0
AreDeclared ss = (s : Server) → In s ss → IsUuid s.uuid

abbrev pub setup_in : Option Founding → Option Setup
setup_in None = None
setup_in (Some f) = Some (setup_with f.limits f.mode f.founders.items)

-- the servers, their members and the setup, in a run of the group
pub record Holds (w : World) (x : Stage) : Type 0 where
  pub servers : AreOf w x.servers
  pub sites : AreSites w.servers x.sites
  pub rising : Rises w.servers
  pub declared : AreDeclared w.servers
  pub setup : w.setup ≡ setup_in x.founding
  pub founded : (t : Setup) → w.setup ≡ Some t → IsFounding t
  pub run : IsRun w

-- the messages that were sent, each of which can be spelt
pub record Carries (w : World) (xs : List Letter) : Type 0 where
  pub letters : map {A = Letter} (λ l. l.message) xs ≡ w.sent
  pub spellable : (m : Message) → In m w.sent → IsMessage m
  pub few : is_full xs ≡ false

-- ---- a play in the midst of a step

pub record Along (y : Play) (x : Stage) : Type 0 where
  pub unclosed : y.closed ≡ None
  pub unrefused : y.refused ≡ None
  pub said : x.said.items ≡ y.said
  pub block : x.block ≡ y.block
  pub block_above : 1 ≤ y.block
  pub block_below : y.block ≤ 1000000
  pub wire : x.wire ≡ y.wire
  pub carries : Carries y.world y.wire
  pub holds : Holds y.world x

-- a part of a step that is done: whatever play the world stood for, it stands for what the rules make of it
abbrev pub Goes : (Play → Play) → Stage → Stage → Type 0
Goes f x z = (y : Play) → Along y x → Along (f y) z

abbrev pub Closes : WireFault → Play → Type 0
Closes IsMemory z = Unit {0}
Closes (IsFull n b) z = z.closed ≡ Some (record { messages = n; bytes = b })

-- a part of a step that isn't done: the rules close the play with these numbers
abbrev pub Ends : (Play → Play) → Stage → WireFault → Type 0
Ends f x e = (y : Play) → Along y x → Closes e (f y)

-- ---- a play between its steps

abbrev pub cleared : Play → Play
cleared y = record y { said = []; refused = None }

-- the world stands for the play of a script so far
pub record IsWorld (y : Play) (x : Whole) : Type 0 where
  pub unfailed : x.fault ≡ None
  pub unsaid : x.stage.said.items ≡ []
  pub along : Along (cleared y) x.stage

-- how many steps were applied
abbrev pub steps_of : Whole → ℕ
steps_of x = x.steps

abbrev pub fault_as : WireFault → WorldFault
fault_as (IsFull n b) = WireFull n b
fault_as IsMemory = Memory

-- the fault that every further step is answered
abbrev pub fault_of : Whole → Option WorldFault
fault_of x = option_map fault_as x.fault

-- what a step that is done says
abbrev pub IsSaid : List Said → Play → Type 0
IsSaid said z = (z.closed ≡ None) × (z.refused ≡ None) × (said ≡ z.said)

abbrev pub IsRefused : Refusal → Play → Type 0
IsRefused r z = (z.closed ≡ None) × (z.refused ≡ Some r)

-- why a step isn't done
abbrev pub IsFault : WorldFault → Play → Type 0
IsFault NumberTaken z = IsRefused Declared z
IsFault ServerMissing z = IsRefused NoServer z
IsFault ServerRuns z = IsRefused AlreadyRunning z
IsFault (MessageMissing k) z = IsRefused (NoMessage k) z
IsFault (MessageGone k) z = IsRefused (MessageLost k) z
IsFault MemberMissing z = IsRefused NoMember z
IsFault (WireFull messages bytes) z = z.closed ≡ Some (record { messages = messages; bytes = bytes })
IsFault (Spent steps) z = Unit {0}
IsFault Memory z = Unit {0}

-- the step is refused, and the world goes on
abbrev pub is_refusal : WorldFault → Bool
is_refusal (WireFull messages bytes) = false
is_refusal (Spent steps) = false
is_refusal Memory = false
is_refusal e = true

abbrev pub is_spent : WorldFault → Bool
is_spent (Spent steps) = true
is_spent e = false

-- the world is closed
abbrev pub is_last : WorldFault → Bool
is_last (WireFull messages bytes) = true
is_last Memory = true
is_last e = false
